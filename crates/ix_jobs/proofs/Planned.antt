-- What stands in the lists that a job makes.
use Rattle.std.proofs.Common.{◌≡◌, ◌↔◌, ℕ, zero, suc, ◌⊎◌, inl, inr, max, Bool, true, false, cond, List, [], ◌∷◌, length, map, filter, Contains, Some, bit_or, bit_and, refl, sym, ap, ◌∙◌, subst, arith}
use Rattle.std.specs.List.{AllByRecursion, slice_get}
use Rattle.std.specs.List.Sorted.{IsStrictlySortedBy}
use Rattle.std.specs.Cmp.{IsTotalOrder}
use Rattle.std.specs.FinMap.{IsAntisymmetric}
use Rattle.std.specs.Int.{bit_at}
use Rattle.std.specs.Ordering.{is_lt, ordering_reverse}
use Rattle.std.specs.declared.cmp.Ordering.{Ordering}
use Rattle.std.specs.declared.cmp.Ordering.TheVariants.{Less}
use Rattle.std.proofs.lemmas.Nat.Bits.{bit_at_or}
use Rattle.ix_types.specs.Row.{text_cmp}
use Rattle.ix_record.specs.declared.body.Body.{Body}
use Rattle.ix_record.specs.declared.value.Symbol.{Symbol}
use Rattle.ix_record.specs.Order.{symbol_cmp}
use Rattle.ix_unit.specs.Order.{record_dep_cmp}
use Rattle.ix_plan.specs.declared.plan.RelationPlan.{RelationPlan}
use Rattle.ix_plan.specs.declared.plan.OccurrencePlan.{OccurrencePlan}
use Rattle.ix_plan.specs.declared.plan.RecordPlan.{RecordPlan}
use Rattle.ix_plan.specs.declared.plan.UnitPlan.{UnitPlan}
use Rattle.ix_plan.specs.Keeps.{IsRecordPlan, IsShortUnit, IsShortRecord, HasFewRelations}
use Rattle.ix_plan.specs.Plans.{is_usr_of}
use Rattle.ix_model.specs.SortedSet.{sorted_set, IsSortedSetOf}
use Rattle.ix_model.proofs.Door.{is_sorted_set}
use Rattle.ix_model.proofs.SortedSet.{Has, Has-from_Contains, Contains-from_Has, same_set}
use Rattle.ix_jobs.specs.Rules.{HasRoom, RecordHasRoom, HasCountedRelations}
use Rattle.ix_jobs.specs.Laws.{ListSame}
use Rattle.ix_jobs.specs.Made.{symbol_of, symbols_of, index_of, joined_roles, record_of, bytes_of, dep_of, body_of, body_cmp, made_of}
use Rattle.ix_jobs.proofs.Orders.{text_total, text_exact, record_dep_total, record_dep_exact, body_total, body_exact}
use Rattle.ix_jobs.proofs.Sorting.{planned_symbols}
use Rattle.ix_jobs.proofs.Valid.{planned, symbol_in, not_less, valid_record}
use Rattle.ix_jobs.proofs.Roles.{joined_keep, joined_have, or_self}
use Rattle.std.proofs.lemmas.Nat.{and_or_self}
use Rattle.ix_record.specs.Spelling.{RecordSpelling}
use Rattle.ix_types.specs.Name.{IsFileName}

-- ---- sets of what elements are made into

map_in : {A B : Type 0} (f : A → B) (xs : List A) (x : A) (y : B) → Has xs x → f x ≡ y → Has (map f xs) y
map_in f [] x y h e = absurd h
map_in f (z ∷ zs) x y (inl p) e = inl (ap f p ∙ e)
map_in f (z ∷ zs) x y (inr h) e = inr (map_in f zs x y h e)

map_out : {A B : Type 0} (f : A → B) (xs : List A) (y : B) → Has (map f xs) y → (x : A) × Has xs x × (f x ≡ y)
map_out f [] y h = absurd h
map_out f (z ∷ zs) y (inl e) = (z, inl refl, e)
map_out f (z ∷ zs) y (inr h) = let r = map_out f zs y h in (r.0, inr r.1, r.2)

pub in_mapped_set : {A B : Type 0} (f : A → B) (cmp : B → B → Ordering) (xs : List A) → IsSortedSetOf cmp (map f xs) (sorted_set cmp (map f xs)) → (y : B) → Contains (sorted_set cmp (map f xs)) y ↔ ((x : A) × Contains xs x × (f x ≡ y))
in_mapped_set f cmp xs set y = (
  λ c. let r = map_out f xs y (Has-from_Contains (map f xs) y ((set.same y).0 c)) in (r.0, Contains-from_Has xs r.0 r.1, r.2),
  λ c. (set.same y).1 (Contains-from_Has (map f xs) y (map_in f xs c.0 y (Has-from_Contains xs c.0 c.1) c.2)),
)

pub in_exact_set : {A B : Type 0} (f : A → B) (cmp : B → B → Ordering) → IsTotalOrder cmp → IsAntisymmetric cmp → (xs : List A) (y : B) → Contains (sorted_set cmp (map f xs)) y ↔ ((x : A) × Contains xs x × (f x ≡ y))
in_exact_set f cmp o exact xs y = in_mapped_set f cmp xs (is_sorted_set cmp o exact (map f xs)) y

-- lists with the same elements make the same set
pub same_made : {A B : Type 0} (f : A → B) (cmp : B → B → Ordering) → IsTotalOrder cmp → IsAntisymmetric cmp → (xs ys : List A) → ListSame xs ys → sorted_set cmp (map f xs) ≡ sorted_set cmp (map f ys)
same_made f cmp o exact xs ys same =
    let first = is_sorted_set cmp o exact (map f xs) in
    let second = is_sorted_set cmp o exact (map f ys) in
    same_set cmp o (map f xs) (sorted_set cmp (map f xs)) (sorted_set cmp (map f ys)) first (record {
      rises = second.rises;
      same = λ y. (
        λ c. let r = (in_exact_set f cmp o exact ys y).0 c in Contains-from_Has (map f xs) y (map_in f xs r.0 y (Has-from_Contains xs r.0 ((same r.0).1 r.1)) r.2),
        λ c. let r = map_out f xs y (Has-from_Contains (map f xs) y c) in (in_exact_set f cmp o exact ys y).1 (r.0, (same r.0).0 (Contains-from_Has xs r.0 r.1), r.2),
      );
    })

-- ---- an index leads to its symbol

none_before : (usr : List ℕ) (x : Symbol) (ys : List Symbol) → AllByRecursion (λ y. symbol_cmp x y ≡ Less) ys → x.usr ≡ usr → index_of ys usr ≡ 0
none_before usr x [] a e = refl
none_before usr x (y ∷ ys) a e =
    let own : is_lt (text_cmp y.usr usr) ≡ false = ap (λ (u : List ℕ). is_lt (text_cmp y.usr u)) (sym e) ∙ (ap is_lt (text_total.antisymm y.usr x.usr) ∙ ap (λ (o : Ordering). is_lt (ordering_reverse o)) a.0) in
    ap (λ (b : Bool). length (cond b (y ∷ filter (λ symbol. is_lt (text_cmp symbol.usr usr)) ys) (filter (λ symbol. is_lt (text_cmp symbol.usr usr)) ys))) own
    ∙ none_before usr x ys a.1 e

less_at : (x : Symbol) (ys : List Symbol) (s : Symbol) → AllByRecursion (λ y. symbol_cmp x y ≡ Less) ys → Has ys s → symbol_cmp x s ≡ Less
less_at x [] s a h = absurd h
less_at x (y ∷ ys) s a (inl e) = ap (symbol_cmp x) (sym e) ∙ a.0
less_at x (y ∷ ys) s a (inr h) = less_at x ys s a.1 h

found_at : (usr : List ℕ) (xs : List Symbol) → IsStrictlySortedBy symbol_cmp xs → (s : Symbol) → Has xs s → s.usr ≡ usr → slice_get xs (index_of xs usr) ≡ Some s
unfolding IsStrictlySortedBy
found_at usr [] rises s h e = absurd h
found_at usr (x ∷ xs) rises s (inl p) e =
    let is : x.usr ≡ usr = ap (λ (t : Symbol). t.usr) p ∙ e in
    let own : is_lt (text_cmp x.usr usr) ≡ false = ap (λ (u : List ℕ). is_lt (text_cmp u usr)) is ∙ not_less (text_cmp usr usr) (text_total.antisymm usr usr) in
    let first : index_of (x ∷ xs) usr ≡ 0 =
    ap (λ (b : Bool). length (cond b (x ∷ filter (λ symbol. is_lt (text_cmp symbol.usr usr)) xs) (filter (λ symbol. is_lt (text_cmp symbol.usr usr)) xs))) own
    ∙ none_before usr x xs rises.0 is in
    ap (slice_get (x ∷ xs)) first ∙ ap Some p
found_at usr (x ∷ xs) rises s (inr h) e =
    let own : is_lt (text_cmp x.usr usr) ≡ true = ap (λ (u : List ℕ). is_lt (text_cmp x.usr u)) (sym e) ∙ ap is_lt (less_at x xs s rises.0 h) in
    let later : index_of (x ∷ xs) usr ≡ suc (index_of xs usr) =
    ap (λ (b : Bool). length (cond b (x ∷ filter (λ symbol. is_lt (text_cmp symbol.usr usr)) xs) (filter (λ symbol. is_lt (text_cmp symbol.usr usr)) xs))) own in
    ap (slice_get (x ∷ xs)) later ∙ found_at usr xs rises.1 s h e

pub index_leads : (plan : RecordPlan) (usr : List ℕ) → IsRecordPlan plan → is_usr_of plan.symbols usr ≡ true → (symbol : Symbol) × (slice_get (symbols_of plan.symbols) (index_of (symbols_of plan.symbols) usr) ≡ Some symbol) × (symbol.usr ≡ usr)
index_leads plan usr rules known =
    let p = planned usr plan.symbols known in
    let set = planned_symbols plan.symbols rules.own_usrs in
    let there = Has-from_Contains (symbols_of plan.symbols) (symbol_of p.0) ((set.same (symbol_of p.0)).1 (Contains-from_Has (map symbol_of plan.symbols) (symbol_of p.0) (symbol_in plan.symbols p.0 p.1))) in
    (symbol_of p.0, found_at usr (symbols_of plan.symbols) set.rises (symbol_of p.0) there p.2, p.2)

-- ---- roles

one_of : (x y : ℕ) → max x y ≡ 1 → (x ≡ 1) ⊎ (y ≡ 1)
one_of zero y e = inr (grind (arith, e))
one_of (suc zero) y e = inl refl
one_of (suc (suc x)) y e = absurd (grind (arith, e))

later_relation : (r : RelationPlan) (rs : List RelationPlan) (bit : ℕ) → (bit_at r.roles bit ≡ 1) ⊎ ((each : RelationPlan) × Has rs each × (bit_at each.roles bit ≡ 1)) → (each : RelationPlan) × Has (r ∷ rs) each × (bit_at each.roles bit ≡ 1)
later_relation r rs bit (inl e) = (r, inl refl, e)
later_relation r rs bit (inr f) = (f.0, inr f.1, f.2)

from_bit : (roles : ℕ) (r : RelationPlan) (rs : List RelationPlan) (bit : ℕ) → (bit_at (bit_or roles r.roles) bit ≡ 1) ⊎ ((each : RelationPlan) × Has rs each × (bit_at each.roles bit ≡ 1)) → (bit_at roles bit ≡ 1) ⊎ ((each : RelationPlan) × Has (r ∷ rs) each × (bit_at each.roles bit ≡ 1))
from_bit roles r rs bit (inl e) = apart (one_of (bit_at roles bit) (bit_at r.roles bit) (sym (bit_at_or roles r.roles bit) ∙ e))
  where
    apart : (bit_at roles bit ≡ 1) ⊎ (bit_at r.roles bit ≡ 1) → (bit_at roles bit ≡ 1) ⊎ ((each : RelationPlan) × Has (r ∷ rs) each × (bit_at each.roles bit ≡ 1))
    apart (inl p) = inl p
    apart (inr p) = inr (r, inl refl, p)
from_bit roles r rs bit (inr f) = inr (f.0, inr f.1, f.2)

bits_from : (roles : ℕ) (rs : List RelationPlan) (bit : ℕ) → bit_at (joined_roles roles rs) bit ≡ 1 → (bit_at roles bit ≡ 1) ⊎ ((each : RelationPlan) × Has rs each × (bit_at each.roles bit ≡ 1))
bits_from roles [] bit e = inl e
bits_from roles (r ∷ rs) bit e = from_bit roles r rs bit (bits_from (bit_or roles r.roles) rs bit e)

listed : (rs : List RelationPlan) (roles bit : ℕ) → (bit_at roles bit ≡ 1) ⊎ ((each : RelationPlan) × Has rs each × (bit_at each.roles bit ≡ 1)) → (bit_at roles bit ≡ 1) ⊎ ((each : RelationPlan) × Contains rs each × (bit_at each.roles bit ≡ 1))
listed rs roles bit (inl e) = inl e
listed rs roles bit (inr f) = inr (f.0, Contains-from_Has rs f.0 f.1, f.2)

pub no_other_roles : (roles : ℕ) (rs : List RelationPlan) (bit : ℕ) → bit_at (joined_roles roles rs) bit ≡ 1 → (bit_at roles bit ≡ 1) ⊎ ((each : RelationPlan) × Contains rs each × (bit_at each.roles bit ≡ 1))
no_other_roles roles rs bit e = listed rs roles bit (bits_from roles rs bit e)

-- ---- units

name_of_body : (name_of : List ℕ → List ℕ) (rs : List RecordPlan) → map (λ (b : Body). b.name) (map (body_of name_of) rs) ≡ map (λ (r : RecordPlan). name_of (bytes_of r)) rs
name_of_body name_of [] = refl
name_of_body name_of (r ∷ rs) = ap (λ (rest : List (List ℕ)). name_of (bytes_of r) ∷ rest) (name_of_body name_of rs)

pub names_made : (name_of : List ℕ → List ℕ) (plan : UnitPlan) → (made_of name_of plan).names ≡ sorted_set text_cmp (map (λ (r : RecordPlan). name_of (bytes_of r)) plan.records)
names_made name_of plan = ap (sorted_set text_cmp) (name_of_body name_of plan.records)

-- ---- room

few_relations : (os : List OccurrencePlan) → AllByRecursion HasFewRelations os → AllByRecursion HasCountedRelations os
few_relations [] a = tt
few_relations (o ∷ os) a = let few = a.0 in (omega (arith, few), few_relations os a.1)

record_room : (r : RecordPlan) → IsShortRecord r → RecordHasRoom r
record_room r short =
    let symbols = short.symbols in
    let occurrences = short.occurrences in
    record { symbols = omega (arith, symbols); occurrences = omega (arith, occurrences); relations = few_relations r.occurrences short.relations }

each_room : (rs : List RecordPlan) → AllByRecursion IsShortRecord rs → AllByRecursion RecordHasRoom rs
each_room [] a = tt
each_room (r ∷ rs) a = (record_room r a.0, each_room rs a.1)

pub unit_room : (plan : UnitPlan) → IsShortUnit plan → HasRoom plan
unit_room plan short =
    let units = short.units in
    let records = short.records in
    let files = short.files in
    let includes = short.includes in
    record { dependencies = omega (arith, units, records, files); includes = omega (arith, includes); each_record = each_room plan.records short.each_record }

-- ---- files and names

pub record_spelled : (plan : RecordPlan) → IsRecordPlan plan → RecordHasRoom plan → RecordSpelling (bytes_of plan) (record_of plan)
unfolding bytes_of
record_spelled plan rules room = record { valid = valid_record plan rules room; fields = refl }

pub named_by_all : (name_of : List ℕ → List ℕ) → ((bytes : List ℕ) → IsFileName (name_of bytes)) → (rs : List RecordPlan) → AllByRecursion (λ r. IsFileName (name_of (bytes_of r))) rs
named_by_all name_of named [] = tt
named_by_all name_of named (r ∷ rs) = (named (bytes_of r), named_by_all name_of named rs)

pub joined_own : (roles : ℕ) (relations : List RelationPlan) → bit_and (joined_roles roles relations) roles ≡ roles
joined_own roles relations = joined_keep roles relations roles (subst (λ (n : ℕ). bit_and n roles ≡ roles) (or_self roles) (and_or_self roles roles))

pub joined_theirs : (roles : ℕ) (relations : List RelationPlan) (each : RelationPlan) → Contains relations each → bit_and (joined_roles roles relations) each.roles ≡ each.roles
joined_theirs roles relations each c = joined_have roles relations each (Has-from_Contains relations each c)

pub names_hold : (name_of : List ℕ → List ℕ) (plan : UnitPlan) (name : List ℕ) → Contains (made_of name_of plan).names name ↔ ((each : RecordPlan) × Contains plan.records each × (name_of (bytes_of each) ≡ name))
names_hold name_of plan name =
    subst (λ (names : List (List ℕ)). Contains names name ↔ ((each : RecordPlan) × Contains plan.records each × (name_of (bytes_of each) ≡ name))) (sym (names_made name_of plan))
    (in_exact_set (λ (r : RecordPlan). name_of (bytes_of r)) text_cmp text_total text_exact plan.records name)

pub names_rise : (name_of : List ℕ → List ℕ) (plan : UnitPlan) → IsStrictlySortedBy text_cmp (made_of name_of plan).names
names_rise name_of plan = (is_sorted_set text_cmp text_total text_exact (map (λ (b : Body). b.name) (map (body_of name_of) plan.records))).rises

-- ---- the same records, in another order

pub same_names : (name_of : List ℕ → List ℕ) (xs ys : List RecordPlan) → ListSame xs ys
    → sorted_set text_cmp (map (λ (b : Body). b.name) (map (body_of name_of) xs)) ≡ sorted_set text_cmp (map (λ (b : Body). b.name) (map (body_of name_of) ys))
same_names name_of xs ys same =
    ap (sorted_set text_cmp) (name_of_body name_of xs)
    ∙ (same_made (λ (r : RecordPlan). name_of (bytes_of r)) text_cmp text_total text_exact xs ys same
    ∙ ap (sorted_set text_cmp) (sym (name_of_body name_of ys)))

pub same_job : (name_of : List ℕ → List ℕ) (plan : UnitPlan) (records : List RecordPlan) → ListSame plan.records records → made_of name_of plan ≡ made_of name_of (record plan { records = records })
same_job name_of plan records same =
    let deps = same_made (dep_of name_of) record_dep_cmp record_dep_total record_dep_exact plan.records records same in
    let names = same_names name_of plan.records records same in
    let bodies = same_made (body_of name_of) body_cmp body_total body_exact plan.records records same in
    λ i. record { unit = record (made_of name_of plan).unit { records = deps i }; names = names i; bodies = bodies i }
