use Rattle.std.proofs.Common.{◌≡◌, rules}
use Rattle.ix_plain.specs.declared.ending.Ending.TheVariants as decided
use Rattle.ix_plain.specs.Ending.{ending_for}
use Rattle.ix_plain.specs.Output.{Leaves}
use Rattle.ix_main.proofs.Inputs.{held_beside, held_beside_in, of_input_both}
use Rattle.ix_main.proofs.TooMany.{are_too_many, too_many, whatever}
use Rattle.ix_main.proofs.top_call.replay.Goals as goal

pub returns-in-Ok-All-clause-left : goal.returns-in-Ok-All-clause-left
returns-in-Ok-All-clause-left g c =
    of_input_both (λ bytes before transcript. Leaves bytes before transcript (g.D.Dir.state c.replay_read.result.dir).moves) _ _ _ _ (rw c.in-Ok-All.field-0-is at c.in-Ok-All.ensures.intake) (search rules)

pub returns-in-Ok-All-clause-complete : goal.returns-in-Ok-All-clause-complete
returns-in-Ok-All-clause-complete g c =
    held_beside_in _ _ (λ bytes. ending_for bytes ≡ decided.Done) _ _ _ (rw c.in-Ok-All.field-0-is at c.in-Ok-All.ensures.intake) (search rules)

pub returns-in-Ok-All-clause-untold : goal.returns-in-Ok-All-clause-untold
returns-in-Ok-All-clause-untold g c =
    held_beside _ _ (λ bytes. ending_for bytes ≡ decided.Done) _ _ (rw c.in-Ok-All.field-0-is at c.in-Ok-All.ensures.intake) (search rules)

pub returns-in-Ok-TooLarge-clause-complete : goal.returns-in-Ok-TooLarge-clause-complete
returns-in-Ok-TooLarge-clause-complete g c =
    whatever _ (too_many _ _ (are_too_many _ (rw c.in-Ok-TooLarge.field-0-is at c.in-Ok-TooLarge.ensures.intake)))

pub returns-in-Ok-TooLarge-clause-untold : goal.returns-in-Ok-TooLarge-clause-untold
returns-in-Ok-TooLarge-clause-untold g c =
    too_many _ _ (are_too_many _ (rw c.in-Ok-TooLarge.field-0-is at c.in-Ok-TooLarge.ensures.intake))
