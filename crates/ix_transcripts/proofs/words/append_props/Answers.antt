use Rattle.std.proofs.Common.{rules}
use Rattle.ix_replays.specs.Text.{prop_names}
use Rattle.ix_transcripts.proofs.words.append_props.Goals as goal

pub returns : goal.returns
unfolding prop_names
returns c = search rules
