-- What stands at a lesser place of a list that rises comes before what stands at a greater one.
use Rattle.std.proofs.Common.{◌≡◌, ℕ, zero, suc, ◌<◌, List, [], ◌∷◌, Some, ap, subst, arith}
use Rattle.std.specs.declared.cmp.Ordering.TheVariants.{Less}
use Rattle.std.specs.List.{slice_get, AllByRecursion}
use Rattle.std.specs.List.Sorted.{IsStrictlySortedBy}
use Rattle.std.specs.Map.{keys_of}
use Rattle.ix_types.specs.Row.{text_cmp}
use Rattle.ix_model.specs.declared.publication.StoredUnit.{StoredUnit}
use Rattle.ix_model.specs.Units.{Units, NamesRise}
use Rattle.ix_answers.specs.Lookups.{names, name_at, unit_at}
use Rattle.ix_answers.specs.Rising.{IsLess}
use Rattle.ix_answers.proofs.Rising.{names-rise}

each_above : (low : List ℕ) (texts : List (List ℕ)) → AllByRecursion (λ text. text_cmp low text ≡ Less) texts → (place : ℕ) (high : List ℕ) → slice_get texts place ≡ Some high → IsLess low high
each_above low [] all place high e = absurd (cc)
each_above low (text ∷ texts) all zero high e = let p : text ≡ high = cc in subst (λ (t : List ℕ). text_cmp low t ≡ Less) p all.0
each_above low (text ∷ texts) all (suc k) high e = each_above low texts all.1 k high e

places_rise : (texts : List (List ℕ)) → IsStrictlySortedBy text_cmp texts → (first second : ℕ) → first < second → (low high : List ℕ) → slice_get texts first ≡ Some low → slice_get texts second ≡ Some high → IsLess low high
unfolding IsStrictlySortedBy
places_rise [] rises first second b low high e f = absurd (cc)
places_rise (text ∷ texts) rises first zero b low high e f = absurd (omega (arith, b))
places_rise (text ∷ texts) rises zero (suc k) b low high e f = let p : text ≡ low = cc in subst (λ (t : List ℕ). IsLess t high) p (each_above text texts rises.0 k high f)
places_rise (text ∷ texts) rises (suc j) (suc k) b low high e f = places_rise texts rises.1 j k (omega (arith, b)) low high e f

pub names-by-place : (units : Units) (first second : ℕ) (low high : List ℕ) → first < second → name_at first units ≡ Some low → name_at second units ≡ Some high → IsLess low high
names-by-place units first second low high b e f = places_rise (names units) (names-rise units) first second b low high e f

key_at : (units : Units) (place : ℕ) (entry : List ℕ × StoredUnit) → slice_get units place ≡ Some entry → slice_get (keys_of units) place ≡ Some entry.0
key_at [] place entry e = absurd (cc)
key_at (x ∷ xs) zero entry e = let p : x ≡ entry = cc in ap (λ (y : List ℕ × StoredUnit). Some y.0) p
key_at (x ∷ xs) (suc k) entry e = key_at xs k entry e

pub units-by-place : (units : Units) (first second : ℕ) (low high : List ℕ × StoredUnit) → NamesRise units → first < second → unit_at first units ≡ Some low → unit_at second units ≡ Some high → IsLess low.0 high.0
units-by-place units first second low high rises b e f =
    places_rise (keys_of units) rises first second b low.0 high.0 (key_at units first low e) (key_at units second high f)
