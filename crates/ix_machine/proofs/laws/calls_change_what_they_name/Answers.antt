use Rattle.ix_machine.proofs.Changed.{leases_alone, put_alone, stage_alone, publish_alone, remove_alone, scan_alone, load_alone, install_alone, adopt_alone, release_alone, collect_alone, put_stands, put_others, led-grows}
use Rattle.ix_machine.proofs.laws.calls_change_what_they_name.Goals as goal

pub returns-clause-lease : goal.returns-clause-lease
returns-clause-lease c = leases_alone

pub returns-clause-put : goal.returns-clause-put
returns-clause-put c = put_alone

pub returns-clause-stage : goal.returns-clause-stage
returns-clause-stage c = stage_alone

pub returns-clause-publish : goal.returns-clause-publish
returns-clause-publish c = publish_alone

pub returns-clause-remove : goal.returns-clause-remove
returns-clause-remove c = remove_alone

pub returns-clause-scan : goal.returns-clause-scan
returns-clause-scan c = scan_alone

pub returns-clause-load : goal.returns-clause-load
returns-clause-load c = load_alone

pub returns-clause-install : goal.returns-clause-install
returns-clause-install c = install_alone

pub returns-clause-adopt : goal.returns-clause-adopt
returns-clause-adopt c = adopt_alone

pub returns-clause-release : goal.returns-clause-release
returns-clause-release c = release_alone

pub returns-clause-collect : goal.returns-clause-collect
returns-clause-collect c = collect_alone

pub returns-clause-put_stands : goal.returns-clause-put_stands
returns-clause-put_stands c = put_stands

pub returns-clause-put_others : goal.returns-clause-put_others
returns-clause-put_others c = λ name_of s lane body flag stepped other e apart. put_others name_of s lane body other apart flag stepped e

pub returns-clause-publications : goal.returns-clause-publications
returns-clause-publications c = λ name_of s turns later leads. led-grows name_of turns s later leads
