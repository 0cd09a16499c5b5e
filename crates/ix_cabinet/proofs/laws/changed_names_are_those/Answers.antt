use Rattle.ix_cabinet.proofs.WhichNamesChanged.{changed_is}
use Rattle.ix_cabinet.proofs.laws.changed_names_are_those.Goals as goal

pub returns : goal.returns
returns c known now name = changed_is known now name
