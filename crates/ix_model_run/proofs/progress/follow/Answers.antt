use Rattle.std.proofs.Common.{Result, Ok, Err, OnOk, sym, ap, ◌∙◌, subst}
use Rattle.ix_lanes.specs.Progress.{Progress, after_event, settled, told}
use Rattle.ix_model.specs.Units.{units_at}
use Rattle.ix_model_run.specs.declared.progress.Import.{Import}
use Rattle.ix_model_run.specs.Importing.{IsImport}
use Rattle.ix_model_run.proofs.Importing.{event_is}
use Rattle.ix_model_run.proofs.progress.follow.Goals as goal

on_ok : {A E : Type 0} (r : Result A E) (P Q : Type 0) → OnOk r P → (P → Q) → OnOk r Q
on_ok (Ok a) P Q p f = f p
on_ok (Err e) P Q p f = tt

pub returns-clause-import : goal.returns-clause-import
returns-clause-import c = λ is.
    let seen = units_at c.args.publications.now in
    let event = c.args.event.now in
    let old = c.args.place.now.lane.progress in
    on_ok c.settle.result _ _ c.settle.ensures (λ e.
    subst (λ (p : Progress). IsImport p c.in_ok-place.field-0) (sym (e ∙ ap (settled seen) (c.told.ensures.progress ∙ ap (told event.outcome) c.in_ok-note.ensures)))
    (subst (λ (i : Import). IsImport (after_event seen old event) i) (sym c.in_ok-place.ensures) (event_is seen event old c.args.place.now.import is)))
