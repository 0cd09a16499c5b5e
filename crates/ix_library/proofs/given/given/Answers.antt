use Rattle.ix_library.proofs.given.given.Goals as goal

pub returns : goal.returns
returns c = record {
  stay = c.stamps_are_of_units.ensures.stay;
  prefix = c.the_latest_publication_stands.ensures.prefix;
  unmoved = c.a_step_without_moves_holds.ensures;
}
