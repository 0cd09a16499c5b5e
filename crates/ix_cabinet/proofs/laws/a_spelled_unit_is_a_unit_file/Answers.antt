use Rattle.std.proofs.Common.{refl}
use Rattle.ix_cabinet.proofs.laws.a_spelled_unit_is_a_unit_file.Goals as goal

pub returns : goal.returns
returns c name_of unit bytes spelled = record { unit = unit; spelled = spelled; named = refl }
