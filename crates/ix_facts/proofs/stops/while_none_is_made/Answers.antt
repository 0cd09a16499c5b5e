use Rattle.ix_facts.proofs.Moments.{none_made_between, none_made_synced}
use Rattle.ix_facts.proofs.stops.while_none_is_made.Goals as goal

pub returns-clause-synced : goal.returns-clause-synced
returns-clause-synced c name_of s lane given flag outcome dir after kept shelf known before now moment image takes same was is =
    none_made_synced c.given_of_steps.ensures name_of s lane given flag outcome dir after kept shelf known before now takes was is same moment image

pub returns-clause-pending : goal.returns-clause-pending
returns-clause-pending c name_of s lane given flag outcome dir after kept shelf known before now from base moment image takes same was is counts =
    none_made_between c.given_of_steps.ensures name_of s lane given flag outcome dir after kept shelf known before now takes was is same from base counts moment image

pub returns-clause-settled : goal.returns-clause-settled
returns-clause-settled c name_of s lane given flag outcome dir after kept shelf known before now moment image takes same was is waits none =
    none_made_synced c.given_of_steps.ensures name_of s lane given flag outcome dir after kept shelf known before now takes was is same moment image (waits.none none)
