use Rattle.ix_jobs.proofs.Planned.{unit_room}
use Rattle.ix_jobs.proofs.laws.short_plans_have_room.Goals as goal

pub returns : goal.returns
returns c plan short = unit_room plan short
