-- The values around one, and single counts.
use Rattle.std.specs.Prelude.{◌≡◌, ℕ, List, ◌++◌, Option}
use Rattle.std.specs.List.{AllByRecursion}
use Rattle.std.specs.Option.{option_map, option_to_list}
use Rattle.std.specs.declared.cmp.Ordering.{Ordering}
use Rattle.std.specs.declared.cmp.Ordering.TheVariants.{Less, Greater}

-- the lesser values, the count of the value if it is there, and the greater values
pub record IsPartedAt {V : Type 0} (cmp : V → V → Ordering) (value : V) (postings lesser : List (V × ℕ)) (count : Option ℕ) (greater : List (V × ℕ)) : Type 0 where
  pub all : postings ≡ lesser ++ (option_to_list (option_map (λ n. (value, n)) count) ++ greater)
  pub are_lesser : AllByRecursion (λ posting. cmp value posting.0 ≡ Greater) lesser
  pub are_greater : AllByRecursion (λ posting. cmp value posting.0 ≡ Less) greater
