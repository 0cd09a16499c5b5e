use Rattle.ix_import.proofs.Nexts.{leads_on}
use Rattle.ix_import.proofs.laws.an_import_leads_on.Goals as goal

pub returns : goal.returns
returns c = leads_on
