-- A map as the list of its pairs, which rise strictly by key.
use Rattle.std.specs.Prelude.{◌≡◌, Bool, List, [], ◌∷◌, ◌++◌, Option, None, Some, if◌then◌else◌, filter, IfSome}
use Rattle.std.specs.List.{AllByRecursion}
use Rattle.std.specs.Option.{option_to_list}
use Rattle.std.specs.declared.cmp.Ordering.{Ordering}
use Rattle.std.specs.declared.cmp.Ordering.TheVariants.{Less, Equal, Greater}
use Rattle.std.specs.Ordering.{is_lt, is_le, is_eq, match_ordering}

module _ {K V : Type 0} where
  -- no pair, or the first one's key is greater
  abbrev pub is_before : (K → K → Ordering) → K → List (K × V) → Bool
  is_before cmp key [] = Bool.true
  is_before cmp key (pair ∷ pairs) = is_lt (cmp key pair.0)

module _ {K V : Type 0} (cmp : K → K → Ordering) where
  -- each key is less than those behind it
  abbrev pub IsRising : List (K × V) → Type 0
  IsRising [] = Unit {0}
  IsRising (pair ∷ pairs) = AllByRecursion (λ later. cmp pair.0 later.0 ≡ Less) pairs × IsRising pairs

  -- the value under a key
  abbrev pub look_up : List (K × V) → K → Option V
  look_up [] key = None
  look_up (pair ∷ pairs) key = if is_eq (cmp key pair.0) then Some pair.1 else look_up pairs key

  -- a pair in the place of the one with its key, else in front of the first one whose key is greater
  abbrev pub with_pair : List (K × V) → K × V → List (K × V)
  with_pair [] new = new ∷ []
  with_pair (pair ∷ pairs) new = match_ordering (cmp new.0 pair.0) (new ∷ pair ∷ pairs) (new ∷ pairs) (pair ∷ with_pair pairs new)

  -- without the pair of a key
  abbrev pub without_key : List (K × V) → K → List (K × V)
  without_key [] key = []
  without_key (pair ∷ pairs) key = if is_eq (cmp key pair.0) then pairs else pair ∷ without_key pairs key

  -- the pairs whose key isn't less
  abbrev pub from_key : List (K × V) → K → List (K × V)
  from_key pairs key = filter (λ pair. is_le (cmp key pair.0)) pairs

  -- the pairs with lesser keys, the one with this key, and those with greater keys
  pub record IsParted (key : K) (pairs : List (K × V)) (lesser : List (K × V)) (same : Option (K × V)) (greater : List (K × V)) : Type 0 where
    pub all : pairs ≡ lesser ++ (option_to_list same ++ greater)
    pub are_lesser : AllByRecursion (λ pair. cmp key pair.0 ≡ Greater) lesser
    pub is_same : IfSome same (λ pair. cmp key pair.0 ≡ Equal)
    pub are_greater : AllByRecursion (λ pair. cmp key pair.0 ≡ Less) greater
