-- An opening lists once at most, and behind both syncs.
use Rattle.std.proofs.Common.{◌≡◌, ◌⊎◌, inl, inr, ℕ, ◌+◌, ◌≤◌, Bool, true, false, cond, List, [], ◌∷◌, ◌++◌, length, take, ap, ◌∙◌, Option, Some, None, option_map, is_some, arith}
use Rattle.std.specs.FinMap.{get}
use Rattle.std.proofs.lemmas.List.{length-append}
use Rattle.std.proofs.lemmas.Option.{same_Some}
use Rattle.ix_types.specs.Count.{counted}
use Rattle.ix_dir.specs.declared.area.Area.TheVariants.{Units, Records}
use Rattle.ix_dir.specs.declared.moves.Move.{Move}
use Rattle.ix_dir.specs.declared.moves.Move.TheVariants.{Removed, Synced}
use Rattle.ix_dir.specs.Calls.{with_move, moves_removed}
use Rattle.ix_dir.specs.Moves.{area_after}
use Rattle.ix_dir.specs.WhatAChangeLeaves.{IfTold}
use Rattle.ix_machine.specs.declared.opened.Refused.{Refused}
use Rattle.ix_opening.specs.AfterOpening.{names_of, synced_both, without, opening_moves, IsCleanedInPart}

-- what stands still before and behind a look
pub once_between : (a b c d : ℕ) → b ≡ a → (c ≡ b) ⊎ (c ≡ counted b) → d ≡ c → (d ≡ a) ⊎ (d ≡ counted a)
once_between a b c d first (inl e) last = inl (last ∙ (e ∙ first))
once_between a b c d first (inr e) last = inr (last ∙ (e ∙ ap counted first))

both_length : (b : List Move) → length (synced_both b) ≡ length b + 2
both_length b =
    let outer : length (synced_both b) ≡ length (b ++ Synced Records ∷ []) + 1 = length-append (b ++ Synced Records ∷ []) (Synced Units ∷ []) in
    let inner : length (b ++ Synced Records ∷ []) ≡ length b + 1 = length-append b (Synced Records ∷ []) in
    omega (arith, outer, inner)

one_longer : (name : List ℕ) (moves : List Move) → length moves ≤ length (moves_removed Units name moves)
one_longer name moves =
    let more : length (moves ++ Removed Units name ∷ []) ≡ length moves + 1 = length-append moves (Removed Units name ∷ []) in
    elim (is_some (get (area_after moves Units) name)) as (λ (b : Bool). length moves ≤ length (cond b (moves ++ Removed Units name ∷ []) moves)) [
      | true ↦ omega (arith, more)
      | false ↦ omega arith
    ]

longer : (names : List (List ℕ)) (moves : List Move) → length moves ≤ length (without names moves)
longer [] moves = omega arith
longer (name ∷ names) moves =
    let one = one_longer name moves in
    let rest = longer names (moves_removed Units name moves) in
    omega (arith, one, rest)

abbrev pub BothMade : List Move → List Move → Type 0
BothMade before now = length before + 2 ≤ length now

pub both_are_made : (before now : Option (List Move)) → now ≡ with_move (with_move before (Synced Records)) (Synced Units) → IfTold before now BothMade
both_are_made None now is = tt
both_are_made (Some b) None is = tt
both_are_made (Some b) (Some n) is =
    let long = ap length (same_Some n (synced_both b) is) in
    let both = both_length b in
    omega (arith, long, both)

pub part_is_made : (before mid now : Option (List Move)) (refused : List Refused) → mid ≡ with_move (with_move before (Synced Records)) (Synced Units) → IsCleanedInPart refused mid now → IfTold before now BothMade
part_is_made None mid now refused is part = tt
part_is_made (Some b) mid None refused is part = tt
part_is_made (Some b) mid (Some n) refused is part =
    let names = names_of (take part.count refused) in
    let long = ap length (same_Some n (without names (synced_both b)) (part.removed ∙ ap (option_map (without names)) is)) in
    let more = longer names (synced_both b) in
    let both = both_length b in
    omega (arith, long, more, both)

pub all_are_made : (name_of : List ℕ → List ℕ) (b n : List Move) → n ≡ b ++ opening_moves name_of b → BothMade b n
all_are_made name_of b n is =
    let long = ap length is ∙ length-append b (opening_moves name_of b) in
    omega (arith, long)
