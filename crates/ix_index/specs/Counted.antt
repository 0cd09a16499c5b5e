-- An index as the list of its keys, each with its values, and each of these with a count.
use Rattle.std.specs.Prelude.{ℕ, ◌<◌, List, [], length, unwrap_or}
use Rattle.std.specs.List.{AllByRecursion}
use Rattle.std.specs.Map.{keys_of}
use Rattle.std.specs.declared.cmp.Ordering.{Ordering}
use Rattle.ix_pages.specs.Pairs.{IsRising, look_up}

module _ {V : Type 0} (vcmp : V → V → Ordering) where
  -- the count of a value among some: 0 where it isn't there
  abbrev pub count_in : List (V × ℕ) → V → ℕ
  count_in postings value = unwrap_or (look_up vcmp postings value) 0

  -- the values of a key with their counts: there are some, they rise, and each counts at least once
  pub record ArePostings (postings : List (V × ℕ)) : Type 0 where
    pub some : 0 < length postings
    pub rise : IsRising vcmp postings
    pub counted : AllByRecursion (λ posting. 0 < posting.1) postings

module _ {K V : Type 0} (kcmp : K → K → Ordering) where
  -- the values of a key with their counts: none where the key isn't there
  abbrev pub postings_at : List (K × List (V × ℕ)) → K → List (V × ℕ)
  postings_at index key = unwrap_or (look_up kcmp index key) []

  -- the values of a key
  abbrev pub values_at : List (K × List (V × ℕ)) → K → List V
  values_at index key = keys_of (postings_at index key)

module _ {K V : Type 0} (kcmp : K → K → Ordering) (vcmp : V → V → Ordering) where
  -- how often an index counts a pair of a key and a value
  abbrev pub count_of : List (K × List (V × ℕ)) → K → V → ℕ
  count_of index key value = count_in vcmp (postings_at kcmp index key) value

  -- the keys rise, and each has values
  pub record IsIndex (index : List (K × List (V × ℕ))) : Type 0 where
    pub rises : IsRising kcmp index
    pub each : AllByRecursion (λ entry. ArePostings vcmp entry.1) index
