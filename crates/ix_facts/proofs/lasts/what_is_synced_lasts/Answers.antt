use Rattle.std.proofs.Common.{sym, subst}
use Rattle.ix_machine.specs.State.{State}
use Rattle.ix_facts.specs.Runs.{AreLibraryCalls}
use Rattle.ix_facts.proofs.Lasting.{acknowledged_then, acknowledges_on, stops_on, synced_settles}
use Rattle.ix_facts.proofs.lasts.what_is_synced_lasts.Goals as goal

pub returns-clause-settled : goal.returns-clause-settled
returns-clause-settled c name_of s lane given stepped is synced = synced_settles name_of s lane stepped synced given is

pub returns-clause-acknowledged : goal.returns-clause-acknowledged
returns-clause-acknowledged c name_of s first between after calls called before now from base at run call ends was is waits counts =
    acknowledged_then c.given_of_steps.ensures name_of s first between after calls called before now at run call ends was is waits from base counts

pub returns-clause-stays : goal.returns-clause-stays
returns-clause-stays c name_of s synced first between after last calls more called before mid now from base moment at run call ends as_synced on was is ends_with waits counts since =
    acknowledges_on c.given_of_steps.ensures name_of s first between after calls called before mid at run call ends was is waits from base counts last more now moment since synced as_synced on ends_with

pub returns-clause-stop : goal.returns-clause-stop
returns-clause-stop c name_of s synced first between after last calls more called before mid now from base moment image at run call ends as_synced on was is ends_with waits counts since =
    stops_on c.given_of_steps.ensures name_of s first between after calls called before mid at run call ends was is waits from base counts last more now moment since synced as_synced on ends_with image
