use Rattle.ix_dir.proofs.ListedStand.{listed_stands, stands_listed}
use Rattle.ix_dir.proofs.laws.listed_files_stand.Goals as goal

pub returns : goal.returns
returns c files one = (listed_stands files one, stands_listed files one)
