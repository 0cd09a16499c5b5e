use Rattle.ix_replay.proofs.Digests.{digest_is_name}
use Rattle.ix_replay.proofs.laws.names_of_digests_are_file_names.Goals as goal

pub returns : goal.returns
returns c = digest_is_name
