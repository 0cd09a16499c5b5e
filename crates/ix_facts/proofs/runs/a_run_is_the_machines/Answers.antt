use Rattle.std.proofs.Common.{ℕ, ◌+◌, List, ◌++◌, length, Some, option_map, sym, ap, ◌∙◌}
use Rattle.ix_machine.specs.declared.event.Event.{Event}
use Rattle.ix_facts.specs.Runs.{Played}
use Rattle.std.proofs.lemmas.List.{length-append}
use Rattle.ix_facts.proofs.Playing.{played_all}
use Rattle.ix_facts.proofs.runs.a_run_is_the_machines.Goals as goal

pub returns-clause-event_log : goal.returns-clause-event_log
returns-clause-event_log c name_of s first last calls at run =
    let all = played_all c.given_of_steps.ensures name_of calls s first last at run in
    (all.run, all.played, all.events, all.state)

pub returns-clause-stands : goal.returns-clause-stands
returns-clause-stands c name_of s first last calls at run = (played_all c.given_of_steps.ensures name_of calls s first last at run).stands

pub returns-clause-one_each : goal.returns-clause-one_each
returns-clause-one_each c name_of s first last calls at run =
    let all = played_all c.given_of_steps.ensures name_of calls s first last at run in
    ap length all.events ∙ length-append first.events all.run.events ∙ ap (λ (n : ℕ). length first.events + n) all.each

pub returns-clause-since_opening : goal.returns-clause-since_opening
returns-clause-since_opening c name_of s first last calls at none run =
    let all = played_all c.given_of_steps.ensures name_of calls s first last at run in
    ap (option_map (λ (r : Played). r.events)) all.played ∙ ap Some (sym (all.events ∙ ap (λ (es : List Event). es ++ all.run.events) none))
