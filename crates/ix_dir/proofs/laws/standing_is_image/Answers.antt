use Rattle.ix_dir.proofs.ValuesStood.{standing_image}
use Rattle.ix_dir.proofs.laws.standing_is_image.Goals as goal

pub returns : goal.returns
returns c moves = standing_image moves
