-- What callers may cite: what facts give under keys, and that what items give balances where the items do.
use Rattle.std.proofs.Common.{◌≡◌, ◌↔◌, ℕ, true, List, Contains}
use Rattle.std.specs.Ordering.{is_eq}
use Rattle.std.specs.List.{flat_map}
use Rattle.std.specs.List.Sorted.{IsStrictlySortedBy}
use Rattle.ix_types.specs.Row.{text_cmp}
use Rattle.ix_model.specs.SortedSet.{sorted_set, IsSortedSetOf}
use Rattle.ix_outline.specs.Balance.{Balances}
use Rattle.ix_outline.specs.Facts.{Fact}
use Rattle.ix_outline.specs.Finding.{values_under, keys_given}
use Rattle.ix_outline.proofs.Members.{has, contains}
use Rattle.ix_outline.proofs.Balancing as balancing
use Rattle.ix_outline.proofs.Finding as finding
use Rattle.ix_outline.proofs.Keyed as keyed

pub balance_of_facts : {X Y : Type 0} (f : X → List Y) (before after gained lost : List X) → Balances before after gained lost
    → Balances (flat_map f before) (flat_map f after) (flat_map f gained) (flat_map f lost)
balance_of_facts f before after gained lost is = balancing.balance_of_facts f before after gained lost is

pub ties_itself : (k : List ℕ) → is_eq (text_cmp k k) ≡ true
ties_itself k = keyed.ties_itself k

pub tied : (k q : List ℕ) → is_eq (text_cmp k q) ≡ true → k ≡ q
tied k q e = keyed.tied k q e

-- there is one sorted set of a list
abbrev pub Sets : Type 0
Sets = (texts : List (List ℕ)) → IsSortedSetOf text_cmp texts (sorted_set text_cmp texts)

abbrev pub One : Type 0
One = (texts first second : List (List ℕ)) → IsSortedSetOf text_cmp texts first → IsSortedSetOf text_cmp texts second → first ≡ second

-- a list that rises and has what facts give under a key, and nothing else, is what is found there
pub values-are : Sets → One → (key : List ℕ) (facts : List Fact) (answer : List (List ℕ)) → IsStrictlySortedBy text_cmp answer
    → ((value : List ℕ) → Contains answer value ↔ Contains facts (key, value)) → values_under key facts ≡ answer
values-are sets one key facts answer rises those =
    finding.values-are (record { sets = sets; one = one }) key facts answer rises
    (λ value. (λ c. has facts (key, value) ((those value).0 c), λ h. (those value).1 (contains facts (key, value) h)))

pub keys-are : Sets → One → (facts : List Fact) (answer : List (List ℕ)) → IsStrictlySortedBy text_cmp answer
    → ((key : List ℕ) → Contains answer key → (value : List ℕ) × Contains facts (key, value)) → ((key value : List ℕ) → Contains facts (key, value) → Contains answer key) → keys_given facts ≡ answer
keys-are sets one facts answer rises out back =
    finding.keys-are (record { sets = sets; one = one }) facts answer rises
    (λ key c. let r = out key c in (r.0, has facts (key, r.0) r.1))
    (λ key value h. back key value (contains facts (key, value) h))
