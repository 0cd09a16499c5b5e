use Rattle.std.proofs.Common.{[], ◌∷◌}
use Rattle.ix_model.specs.declared.publication.Publication.TheVariants.{Put}
use Rattle.ix_outline.proofs.First.{first-follows}
use Rattle.ix_outline.proofs.laws.a_first_unit_follows.Goals as goal

pub returns : goal.returns
returns c = λ put stored value_of bodies same values at_hand.
    first-follows put.name stored value_of values put bodies (c.batches_lead.ensures.put [] put stored same)
    (c.the_latest_publication_stands.ensures.rises (Put put.name stored ∷ []) 1) at_hand
