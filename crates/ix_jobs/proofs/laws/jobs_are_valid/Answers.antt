use Rattle.ix_jobs.proofs.Planned.{named_by_all, record_spelled}
use Rattle.ix_jobs.proofs.Valid.{valid_record, valid_unit}
use Rattle.ix_jobs.proofs.Written.{whole_bodies, deps_written}
use Rattle.ix_jobs.proofs.laws.jobs_are_valid.Goals as goal

pub returns-clause-record : goal.returns-clause-record
returns-clause-record c plan rules room = valid_record plan rules room

pub returns-clause-spelled : goal.returns-clause-spelled
returns-clause-spelled c plan rules room = record_spelled plan rules room

pub returns-clause-unit : goal.returns-clause-unit
returns-clause-unit c name_of plan named rules room = valid_unit name_of plan rules room (named_by_all name_of named plan.records)

pub returns-clause-whole : goal.returns-clause-whole
returns-clause-whole c name_of plan rules room = whole_bodies name_of plan.records rules.records room.each_record

pub returns-clause-written : goal.returns-clause-written
returns-clause-written c name_of plan = deps_written name_of plan.records
