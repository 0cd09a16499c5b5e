use Rattle.ix_dir.proofs.InOtherWords.{names_apart}
use Rattle.ix_dir.proofs.laws.rising_names_are_apart.Goals as goal

pub returns : goal.returns
returns c listed name j k rising at_j at_k = names_apart listed rising name j k at_j at_k
