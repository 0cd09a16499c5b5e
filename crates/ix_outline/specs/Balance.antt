-- What comes and goes between two lists, whatever their order; and how often a look-up's facts give a value under a key.
use Rattle.std.specs.Prelude.{◌≡◌, ℕ, ◌+◌, Bool, ◌&&◌, List}
use Rattle.std.specs.List.{sum_by, count_by}
use Rattle.std.specs.declared.cmp.Ordering.{Ordering}
use Rattle.std.specs.Ordering.{is_eq}

-- the list after has what the list before had, with some items more and some less, each as often as it stands there: by any measure
-- of items, what was lost and what is there now measure as much as what was there before and what was gained
pub record Balances {X : Type 0} (before after gained lost : List X) : Type 0 where
  pub each : (measure : X → ℕ) → sum_by measure after + sum_by measure lost ≡ sum_by measure before + sum_by measure gained

module _ {K V : Type 0} (kcmp : K → K → Ordering) (vcmp : V → V → Ordering) where
  -- whether a fact gives the value under the key
  abbrev pub is_given : K → V → K × V → Bool
  is_given key value fact = is_eq (kcmp key fact.0) && is_eq (vcmp value fact.1)

  -- how many of the facts give the value under the key
  abbrev pub times : K → V → List (K × V) → ℕ
  times key value facts = count_by (is_given key value) facts
