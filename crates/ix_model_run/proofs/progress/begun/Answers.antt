use Rattle.std.proofs.Common.{sym, ap, ◌∙◌, subst}
use Rattle.ix_lanes.specs.Progress.{Progress, settled}
use Rattle.ix_lanes.specs.Tasks.{tasks_of}
use Rattle.ix_model.specs.Units.{units_at}
use Rattle.ix_model_run.specs.Importing.{IsImport}
use Rattle.ix_model_run.proofs.Importing.{begun_is}
use Rattle.ix_model_run.proofs.progress.begun.Goals as goal

pub returns-clause-import : goal.returns-clause-import
returns-clause-import g c =
    subst (λ (p : Progress). IsImport p (record { mark = 0; records = 0 })) (sym (c.in_ok-settle.ensures ∙ ap (settled (units_at c.args.publications.now)) c.in_ok-lane.ensures))
    (begun_is (units_at c.args.publications.now) (tasks_of g.N.Naming.name_of c.args.steps.now) (record { mark = 0; records = 0 }))
