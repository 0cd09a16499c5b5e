use Rattle.ix_replays.specs.Text.{role_names}
use Rattle.ix_transcripts.proofs.words.append_roles.Goals as goal

pub returns : goal.returns
unfolding role_names
returns c = c.push_names.ensures.names
