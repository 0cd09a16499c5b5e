use Rattle.ix_cabinet.proofs.WhichNamesChanged.{gone_is}
use Rattle.ix_cabinet.proofs.laws.gone_names_are_those.Goals as goal

pub returns : goal.returns
returns c known now name = gone_is known now name
