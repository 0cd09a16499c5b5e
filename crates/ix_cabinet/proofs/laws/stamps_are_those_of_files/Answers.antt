use Rattle.ix_cabinet.proofs.WhichNamesChanged.{stamp_of_file}
use Rattle.ix_cabinet.proofs.laws.stamps_are_those_of_files.Goals as goal

pub returns : goal.returns
returns c files name = stamp_of_file files name
