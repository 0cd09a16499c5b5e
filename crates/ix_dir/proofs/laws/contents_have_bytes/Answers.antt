use Rattle.ix_dir.proofs.PickIsAnImage.{get-contents_of}
use Rattle.ix_dir.proofs.laws.contents_have_bytes.Goals as goal

pub returns : goal.returns
returns c files name = get-contents_of files name
