use Rattle.std.proofs.Common.{rules}
use Rattle.ix_replays.specs.Text.{word_of}
use Rattle.ix_transcripts.proofs.words.lang_word.Goals as goal

pub returns : goal.returns
unfolding word_of
returns c = search rules
