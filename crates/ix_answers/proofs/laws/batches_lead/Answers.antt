use Rattle.ix_answers.proofs.Batches.{nothing-leads, put-leads, gone-leads, leads-to-one, value-stays, value-before, value-after}
use Rattle.ix_answers.proofs.laws.batches_lead.Goals as goal

pub returns-clause-nothing : goal.returns-clause-nothing
returns-clause-nothing c = nothing-leads

pub returns-clause-put : goal.returns-clause-put
returns-clause-put c = put-leads c.the_latest_publication_stands.ensures.others c.the_latest_publication_stands.ensures.put

pub returns-clause-gone : goal.returns-clause-gone
returns-clause-gone c = gone-leads c.the_latest_publication_stands.ensures.others c.the_latest_publication_stands.ensures.gone

pub returns-clause-one : goal.returns-clause-one
returns-clause-one c = leads-to-one

pub returns-clause-stays : goal.returns-clause-stays
returns-clause-stays c = value-stays

pub returns-clause-before : goal.returns-clause-before
returns-clause-before c = value-before

pub returns-clause-after : goal.returns-clause-after
returns-clause-after c = value-after
