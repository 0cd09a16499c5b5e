use Rattle.ix_hierarchy.proofs.laws.loading_keeps_walks_open.Goals as goal

pub returns : goal.returns
returns c query units before after trail stay was_open =
    c.walks_stay_open.ensures.loads query units before after trail
    (λ name k. (c.loaded_names_have_bodies.ensures after name).1 (stay name ((c.loaded_names_have_bodies.ensures before name).0 k))) was_open
