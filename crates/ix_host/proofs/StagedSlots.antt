-- A slot is found among the staged ones exactly where its number is among theirs.
use Rattle.std.proofs.Common.{◌≡◌, ℕ, true, false, cond, ◌||◌, List, [], ◌∷◌, map, refl, is_some, nat_eq, Some}
use Rattle.std.specs.List.{list_any}
use Rattle.std.specs.Map.{lookup}
use Rattle.std.specs.Option.{option_map}

abbrev pub none_told : Unit {0} → List ℕ
none_told _ = []

pub staged_where_found : (slot : ℕ) (es : List (ℕ × Unit {0})) → is_some (option_map none_told (lookup (nat_eq slot) es)) ≡ list_any (nat_eq slot) (map (λ e. e.0) es)
staged_where_found slot [] = refl
staged_where_found slot (e ∷ es) =
    elim (nat_eq slot e.0) as (λ b. is_some (option_map none_told (cond b (Some e.1) (lookup (nat_eq slot) es))) ≡ (b || list_any (nat_eq slot) (map (λ e. e.0) es))) [
      | true ↦ refl
      | false ↦ staged_where_found slot es
    ]
