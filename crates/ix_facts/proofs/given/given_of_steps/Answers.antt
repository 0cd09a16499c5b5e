use Rattle.ix_facts.proofs.given.given_of_steps.Goals as goal

pub returns : goal.returns
returns c = record {
  unmoved = c.a_step_without_moves_holds.ensures;
  grows = c.steps_join.ensures.grows;
  joined = c.steps_join.ensures.leaves;
  marks = c.acknowledged_changes_are_synced.ensures.marks;
}
