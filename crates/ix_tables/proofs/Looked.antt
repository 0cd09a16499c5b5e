-- The look-ups of tables are those from scratch.
use Rattle.std.proofs.Common.{◌≡◌, ℕ, true, false, cond, List, [], ◌∷◌, map, Option, Some, refl, sym, ap, ◌∙◌}
use Rattle.std.specs.Map.{lookup}
use Rattle.std.specs.BTreeMap.{is_at}
use Rattle.ix_types.specs.Row.{text_cmp}
use Rattle.ix_unit.specs.declared.value.UnitValue.{UnitValue}
use Rattle.ix_pages.specs.Pairs.{look_up}

pub looked_up : {X : Type 0} (pairs : List (List ℕ × X)) (name : List ℕ) → look_up text_cmp pairs name ≡ lookup (is_at (text_cmp name)) pairs
looked_up [] name = refl
looked_up (pair ∷ pairs) name =
    elim (is_at (text_cmp name) pair.0) as (λ b. cond b (Some pair.1) (look_up text_cmp pairs name) ≡ cond b (Some pair.1) (lookup (is_at (text_cmp name)) pairs)) [
      | true ↦ refl
      | false ↦ looked_up pairs name
    ]
