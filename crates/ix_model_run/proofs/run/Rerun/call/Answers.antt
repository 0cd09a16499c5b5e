use Rattle.std.proofs.Common.{[], ◌∷◌, ◌++◌, sym, ap, ◌∙◌, subst}
use Rattle.ix_machine.specs.declared.event.Outcome.{Outcome}
use Rattle.ix_machine.specs.Given.{given_of}
use Rattle.ix_machine.specs.Step.{step}
use Rattle.ix_model_run.specs.Kept.{kept_after}
use Rattle.ix_model_run.specs.Standing.{IsAt, Standing}
use Rattle.ix_model_run.proofs.Calling.{answered_some, stepped_on}
use Rattle.ix_model_run.proofs.run.Rerun.call.Goals as goal

pub returns-in_ok-note-in-Some-2 : goal.returns-in_ok-note-in-Some-2
returns-in_ok-note-in-Some-2 g c = λ run at.
    let name_of = g.N.Naming.name_of in
    let given = given_of c.args.given.now in
    let now : Standing = record { events = c.self.inside.events.items; state = c.self.inside.machine; kept = c.self.inside.known } in
    let is : IsAt run now = subst (λ (s : Standing). IsAt run s) (sym c.self.view_is) at in
    let made = answered_some name_of now run is c.args.lane given c.args.flag c.in-Some-2.outcome c.made.new.machine (step name_of now.state c.args.lane given c.args.flag)
    ((λ i. (sym c.in-Some-2.is i, c.made.new.machine)) ∙ c.in_ok-outcome.ensures) in
    stepped_on name_of now run is c.args.lane given c.args.flag c.in-Some.call made.0 c.note.new.self
    (sym c.in_ok-call.ensures ∙ c.in-Some.is)
    made.1
    (c.in_ok-note-in-Some-2.ensures.events ∙ (λ i. now.events ++ (record { lane = c.args.lane; call = c.in-Some.call; outcome = sym made.2 i }) ∷ []))
    (c.note.ensures.state ∙ sym made.3)
    (c.in_ok-note-in-Some-2.ensures.kept ∙ ap (λ (o : Outcome). kept_after name_of c.args.lane given o now.kept) (sym made.2))
