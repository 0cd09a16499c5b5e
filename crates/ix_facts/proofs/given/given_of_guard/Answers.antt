use Rattle.ix_facts.proofs.given.given_of_guard.Goals as goal

pub returns : goal.returns
returns c = record {
  names = c.need_lists_are_exact.ensures.names;
  protected = c.the_guard_agrees_with_the_machine.ensures.protected;
  guarded = c.the_guard_agrees_with_the_machine.ensures.guarded;
}
