-- Removals of refused files, one by one.
use Rattle.std.proofs.Common.{◌≡◌, ℕ, List, [], ◌∷◌, ◌++◌, refl, sym, ap, ◌∙◌, Option, Some, None, option_map, take, get_or, length, ◌<◌, ◌+◌, Result, Ok, Err, OnErr}
use Rattle.std.proofs.lemmas.List.{take_more}
use Rattle.ix_dir.specs.declared.area.Area.TheVariants.{Units}
use Rattle.ix_dir.specs.Calls.{moves_removed}
use Rattle.ix_dir.specs.declared.moves.Move.{Move}
use Rattle.ix_machine.specs.declared.opened.Refused.{Refused}
use Rattle.ix_opening.specs.AfterOpening.{names_of, without}

without_push : (xs : List Refused) (y : Refused) (moves : List Move) → without (names_of (xs ++ y ∷ [])) moves ≡ moves_removed Units y.name (without (names_of xs) moves)
without_push [] y moves = refl
without_push (x ∷ xs) y moves = without_push xs y (moves_removed Units x.name moves)

told_push : (xs : List Refused) (y : Refused) (moves : Option (List Move)) → option_map (moves_removed Units y.name) (option_map (without (names_of xs)) moves) ≡ option_map (without (names_of (xs ++ y ∷ []))) moves
told_push xs y None = refl
told_push xs y (Some m) = ap Some (sym (without_push xs y m))

-- one file more
pub removed_more : (refused : List Refused) (i : ℕ) (one : Refused) (start before now : Option (List Move)) → i < length refused → one ≡ get_or refused i one
    → before ≡ option_map (without (names_of (take i refused))) start → now ≡ option_map (moves_removed Units one.name) before → now ≡ option_map (without (names_of (take (i + 1) refused))) start
removed_more refused i one start before now small is so_far more =
    let taken : take (i + 1) refused ≡ take i refused ++ one ∷ [] = take_more refused i one small ∙ ap (λ x. take i refused ++ x ∷ []) (sym is) in
    more ∙ (ap (option_map (moves_removed Units one.name)) so_far ∙ (told_push (take i refused) one start ∙ ap (λ xs. option_map (without (names_of xs)) start) (sym taken)))

pub any_err : {T E : Type 0} (r : Result T E) (P : Type 0) → P → OnErr r P
any_err (Ok x) P p = tt
any_err (Err e) P p = p
