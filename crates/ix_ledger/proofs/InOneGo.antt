-- Units that are put into an empty map in one go.
use Rattle.std.proofs.Common.{◌≡◌, ℕ, List, [], ◌∷◌, ◌++◌, map, refl, sym, ap, subst, ◌∙◌}
use Rattle.std.specs.declared.alloc.Global.{Global}
use Rattle.std.specs.declared.cmp.Ordering.TheVariants.{Less, Equal, Greater}
use Rattle.std.specs.declared.sync.Arc.{Arc}
use Rattle.std.specs.Ordering.{match_ordering, ordering_reverse}
use Rattle.std.specs.List.{AllByRecursion}
use Rattle.std.specs.List.Sorted.{IsStrictlySortedBy}
use Rattle.std.specs.BTreeMap.{insert_entry, is_at}
use Rattle.std.specs.Map.{remove_entry}
use Rattle.std.proofs.lemmas.Cmp.{nat_list_cmp_total}
use Rattle.std.proofs.lemmas.List.{append_assoc, append-nil}
use Rattle.ix_types.specs.Row.{text_cmp}
use Rattle.ix_unit.specs.declared.batch.UnitPut.{UnitPut}
use Rattle.ix_unit.specs.declared.value.UnitValue.{UnitValue}
use Rattle.ix_pages.specs.declared.changes.Change.{Change}
use Rattle.ix_pages.specs.declared.changes.Change.TheVariants.{Put, Take}
use Rattle.ix_pages.specs.Pairs.{with_pair, without_key}
use Rattle.ix_pages.specs.Paging.{pairs_of}
use Rattle.ix_pages.specs.Changes.{key_of_change, changed, AreRising}
use Rattle.ix_ledger.specs.Handles.{handed, named_puts, led_change, led_changes, puts_led}
use Rattle.ix_ledger.specs.Kept.{Named}
use Rattle.ix_ledger.proofs.Maps.{led, over_insert, over_remove, takes, with_inserts}

abbrev Handle : Type 0
Handle = Arc UnitValue Global

-- ---- by way of the handles

all_led : (P : List ℕ → Type 0) (changes : List (Change (List ℕ) Handle)) → AllByRecursion (λ change. P (key_of_change change)) (led_changes changes) → AllByRecursion (λ change. P (key_of_change change)) changes
all_led P [] all = tt
all_led P (Put name handle ∷ changes) all = (all.0, all_led P changes all.1)
all_led P (Take name ∷ changes) all = (all.0, all_led P changes all.1)

led_rise : (changes : List (Change (List ℕ) Handle)) → AreRising text_cmp (led_changes changes) → AreRising text_cmp changes
led_rise [] rises = tt
led_rise (Put name handle ∷ changes) rises = (all_led (λ key. text_cmp name key ≡ Less) changes rises.0, led_rise changes rises.1)
led_rise (Take name ∷ changes) rises = (all_led (λ key. text_cmp name key ≡ Less) changes rises.0, led_rise changes rises.1)

led_changed : (pairs : List (List ℕ × Handle)) (changes : List (Change (List ℕ) Handle)) → handed (changed text_cmp pairs changes) ≡ changed text_cmp (handed pairs) (led_changes changes)
led_changed pairs [] = refl
led_changed pairs (Put name handle ∷ changes) =
    led_changed (with_pair text_cmp pairs (name, handle)) changes
    ∙ ap (λ (named : Named). changed text_cmp named (led_changes changes))
    (ap handed (with_inserts pairs name handle) ∙ (over_insert led pairs name handle ∙ sym (with_inserts (handed pairs) name handle.value)))
led_changed pairs (Take name ∷ changes) =
    led_changed (without_key text_cmp pairs name) changes
    ∙ ap (λ (named : Named). changed text_cmp named (led_changes changes))
    (ap handed (takes pairs name) ∙ (over_remove led (is_at (text_cmp name)) pairs ∙ sym (takes (handed pairs) name)))

-- ---- puts whose names rise

abbrev names_of_puts : List UnitPut → List (List ℕ)
names_of_puts puts = map (λ put. put.name) puts

all_puts : (k : List ℕ) (puts : List UnitPut) → AllByRecursion (λ name. text_cmp k name ≡ Less) (names_of_puts puts) → AllByRecursion (λ (later : Change (List ℕ) UnitValue). text_cmp k (key_of_change later) ≡ Less) (puts_led puts)
all_puts k [] all = tt
all_puts k (p ∷ ps) all = (all.0, all_puts k ps all.1)

puts_rise : (puts : List UnitPut) → IsStrictlySortedBy text_cmp (names_of_puts puts) → AreRising text_cmp (puts_led puts)
unfolding IsStrictlySortedBy
puts_rise [] rises = tt
puts_rise (p ∷ ps) rises = (all_puts p.name ps rises.0, puts_rise ps rises.1)

abbrev Is_behind : Named → List ℕ → Type 0
Is_behind front name = AllByRecursion (λ (pair : List ℕ × UnitValue). text_cmp name pair.0 ≡ Greater) front

at_end : (front : Named) (name : List ℕ) (unit : UnitValue) → Is_behind front name → with_pair text_cmp front (name, unit) ≡ front ++ (name, unit) ∷ []
at_end [] name unit behind = refl
at_end (e ∷ es) name unit behind =
    ap (λ r. match_ordering r ((name, unit) ∷ e ∷ es) ((name, unit) ∷ es) (e ∷ with_pair text_cmp es (name, unit))) behind.0
    ∙ ap (λ (rest : Named). e ∷ rest) (at_end es name unit behind.1)

one_more_behind : (front : Named) (name later : List ℕ) (unit : UnitValue) → Is_behind front later → text_cmp name later ≡ Less → Is_behind (front ++ (name, unit) ∷ []) later
one_more_behind [] name later unit behind less = (nat_list_cmp_total.antisymm later name ∙ ap ordering_reverse less, tt)
one_more_behind (e ∷ es) name later unit behind less = (behind.0, one_more_behind es name later unit behind.1 less)

all_behind : (front : Named) (name : List ℕ) (unit : UnitValue) (names : List (List ℕ)) → AllByRecursion (Is_behind front) names → AllByRecursion (λ later. text_cmp name later ≡ Less) names → AllByRecursion (Is_behind (front ++ (name, unit) ∷ [])) names
all_behind front name unit [] behind less = tt
all_behind front name unit (k ∷ ks) behind less = (one_more_behind front name k unit behind.0 less.0, all_behind front name unit ks behind.1 less.1)

put_behind : (front : Named) (puts : List UnitPut) → AllByRecursion (Is_behind front) (names_of_puts puts) → IsStrictlySortedBy text_cmp (names_of_puts puts) → changed text_cmp front (puts_led puts) ≡ front ++ named_puts puts
unfolding IsStrictlySortedBy
put_behind front [] behind rises = sym (append-nil front)
put_behind front (p ∷ ps) behind rises =
    ap (λ (named : Named). changed text_cmp named (puts_led ps)) (at_end front p.name p.unit.value behind.0)
    ∙ (put_behind (front ++ (p.name, p.unit.value) ∷ []) ps (all_behind front p.name p.unit.value (names_of_puts ps) behind.1 rises.0) rises.1
    ∙ append_assoc front ((p.name, p.unit.value) ∷ []) (named_puts ps))

behind_none : (names : List (List ℕ)) → AllByRecursion (Is_behind []) names
behind_none [] = tt
behind_none (k ∷ ks) = (tt, behind_none ks)

-- ---- the changes of handles that put some units

module _ (puts : List UnitPut) (changes : List (Change (List ℕ) Handle)) (lead : led_changes changes ≡ puts_led puts) (rises : IsStrictlySortedBy text_cmp (names_of_puts puts)) where
  pub changes_rise : AreRising text_cmp changes
  changes_rise = led_rise changes (subst (AreRising text_cmp) (sym lead) (puts_rise puts rises))

  pub all_put : (none pages : List (List (List ℕ × Handle))) → none ≡ [] → pairs_of pages ≡ changed text_cmp (pairs_of none) changes → handed (pairs_of pages) ≡ named_puts puts
  all_put none pages empty is =
      ap handed (is ∙ ap (λ (ps : List (List (List ℕ × Handle))). changed text_cmp (pairs_of ps) changes) empty)
      ∙ (led_changed [] changes
      ∙ (ap (changed text_cmp []) lead
      ∙ put_behind [] puts (behind_none (names_of_puts puts)) rises))
