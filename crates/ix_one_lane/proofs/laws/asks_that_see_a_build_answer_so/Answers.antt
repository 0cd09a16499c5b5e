use Rattle.std.proofs.Common.{inl, inr, ap}
use Rattle.ix_machine.specs.declared.event.Event.{Event}
use Rattle.ix_one_lane.proofs.laws.asks_that_see_a_build_answer_so.Goals as goal

pub returns : goal.returns
returns c name_of tasks start run job query behind ask sees = (
  sees.before,
  sees.event,
  sees.after,
  sees.moment,
  sees.events,
  sees.building,
  sees.polling,
  elim sees.built [
    | inl clash ↦ inl clash
    | inr built ↦ inr (ap (λ (e : Event). e.outcome) built.0, ap (λ (e : Event). e.call) built.0, built.1)
  ],
  sees.answers,
)
