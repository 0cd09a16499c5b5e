use Rattle.std.proofs.Common.{ap, ◌∙◌, is_some, map}
use Rattle.std.specs.List.{list_any}
use Rattle.ix_dir.specs.ValuesByNumber.{value_at}
use Rattle.ix_dir.proofs.ValuesAfterAMove.{any_map}
use Rattle.ix_dir.proofs.values_by_name.ValuesByName.was_there.Goals as goal

pub returns-in-Some : goal.returns-in-Some
returns-in-Some c =
    c.any_there.ensures
    ∙ any_map is_some (value_at c.args.moves.now) c.in-Some.values.now
    ∙ ap (λ numbers. list_any is_some (map (value_at c.args.moves.now) numbers)) c.in-Some.ensures.some
