use Rattle.ix_query.proofs.laws.loading_keeps_questions_open.Goals as goal

pub returns : goal.returns
returns c asked before after stay was_open name passed =
    (c.loaded_names_have_bodies.ensures after name).1 (stay name ((c.loaded_names_have_bodies.ensures before name).0 (was_open name passed)))
