use Rattle.ix_lookups.proofs.ByName.{loaded-those}
use Rattle.ix_lookups.proofs.laws.loaded_names_have_bodies.Goals as goal

pub returns : goal.returns
returns c bodies name = loaded-those bodies name
