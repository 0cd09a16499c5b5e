-- What the plain machine's code comes to, in the definitions' words.
use Rattle.std.proofs.Common.{◌≡◌, ◌≢◌, ℕ, ◌+◌, Bool, true, false, cond, not, ◌||◌, ◌⊎◌, inl, inr, List, [], ◌∷◌, ◌++◌, map, take, drop, option_map, Option, Some, None, Result, Ok, Err, IfOk, Bor, zero, suc, replicate, arith, refl, sym, ap, ◌∙◌, slice_get, length, nat_lt}
use Rattle.std.specs.List.{list_any, find, position, prefix_len}
use Rattle.std.specs.Map.{lookup}
use Rattle.std.specs.BTreeMap.{is_at}
use Rattle.std.specs.Option.{option_and_then}
use Rattle.std.specs.declared.sync.Arc.{Arc}
use Rattle.std.specs.declared.alloc.Global.{Global}
use Rattle.std.proofs.lemmas.Bool.{ltb_from_iff, ltb-true, lt-ltb}
use Rattle.std.proofs.lemmas.List.{take-map, drop-map}
use Rattle.std.proofs.lemmas.List.Folds.{list_any-append}
use Rattle.ix_types.specs.declared.failures.Memory.{Memory}
use Rattle.ix_types.specs.Row.{text_cmp}
use Rattle.ix_wire.specs.Input.{start}
use Rattle.ix_record.specs.declared.fault.RecordError.{RecordError}
use Rattle.ix_record.specs.declared.value.RecordValue.{RecordValue}
use Rattle.ix_record.specs.Reading.{fault_of, record_at, record_fault}
use Rattle.ix_unit.specs.declared.value.UnitValue.{UnitValue}
use Rattle.ix_model.specs.declared.publication.Publication.{Publication}
use Rattle.ix_model.specs.declared.publication.Publication.TheVariants as model
use Rattle.ix_model.specs.declared.publication.StoredUnit.{StoredUnit}
use Rattle.ix_model.specs.Units.{Units, unit_named}
use Rattle.ix_machine.specs.declared.opened.StoredUnit as code
use Rattle.ix_machine.specs.declared.parts.Lease as code_lease
use Rattle.ix_machine.specs.Needs.{option_any, has_name, is_leased}
use Rattle.ix_machine.specs.Plain.{unit_map}
use Rattle.ix_machine.specs.PlainMap.{shown}
use Rattle.ix_machine.specs.PlainOpened.{found_unit}
use Rattle.ix_machine.specs.PlainState.{lease_seen, leases_seen}
use Rattle.ix_machine.specs.State.{Lease}
use Rattle.ix_machine.specs.Step.{value_of, read_value}
use Rattle.ix_machine.proofs.Seen.{any-map, lookup-seen_by, seen_by}

-- bytes with a fault spell no value
no-value : (bytes : List ℕ) (e : RecordError) → record_fault bytes ≡ Some e → value_of bytes ≡ None
unfolding record_fault
no-value bytes e f =
    (elim (record_at (start bytes)) as (λ r. fault_of r ≡ Some e → read_value r ≡ None) [
      | Ok v ↦ λ f. absurd (cc)
      | Err x ↦ λ f. refl
    ]) f

pub fault-none : (bytes : List ℕ) (e : RecordError) (r : Result (Option RecordValue) Memory) → ((e ≡ RecordError.Memory) ⊎ (record_fault bytes ≡ Some e))
    → IfOk r (λ v. (v ≡ None) × (e ≢ RecordError.Memory)) → IfOk r (λ v. v ≡ value_of bytes)
fault-none bytes e (Ok v) (inl memory) h = absurd (h.1 memory)
fault-none bytes e (Ok v) (inr fault) h = h.0 ∙ sym (no-value bytes e fault)
fault-none bytes e (Err m) f h = tt

-- the leases of other lanes
pub others-leased : (name : List ℕ) (leases : List (Option code_lease.Lease)) (lane : ℕ)
    → (list_any (λ lease. option_any (λ l. has_name name l.names) (option_map lease_seen lease)) (take lane leases) || list_any (λ lease. option_any (λ l. has_name name l.names) (option_map lease_seen lease)) (drop (lane + 1) leases))
    ≡ is_leased name (take lane (leases_seen leases) ++ drop (lane + 1) (leases_seen leases))
others-leased name leases lane =
    let test : Option Lease → Bool = option_any (λ (l : Lease). has_name name l.names) in
    let f : Option code_lease.Lease → Option Lease = option_map lease_seen in
    sym (list_any-append test (take lane (map f leases)) (drop (lane + 1) (map f leases))
    ∙ (ap (λ (ls : List (Option Lease)). list_any test ls || list_any test (drop (lane + 1) (map f leases))) (take-map f lane leases)
    ∙ (ap (λ (ls : List (Option Lease)). list_any test (map f (take lane leases)) || list_any test ls) (drop-map f (lane + 1) leases)
    ∙ (ap (λ (b : Bool). b || list_any test (map f (drop (lane + 1) leases))) (any-map test f (take lane leases))
    ∙ ap (λ (b : Bool). list_any (λ x. test (f x)) (take lane leases) || b) (any-map test f (drop (lane + 1) leases))))))

-- the unit of a name
any-option-map : {X Y : Type 0} (test : Y → Bool) (f : X → Y) (o : Option X) → option_any test (option_map f o) ≡ option_any (λ x. test (f x)) o
any-option-map test f None = refl
any-option-map test f (Some x) = refl

pub named-shown : (test : UnitValue → Bool) (name : List ℕ) (entries : List (List ℕ × Bor (Arc UnitValue Global))) (units : Units) → shown entries ≡ unit_map units
    → option_any (λ (b : Bor (Arc UnitValue Global)). test b.now.value) (lookup (is_at (text_cmp name)) entries) ≡ option_any (λ (other : StoredUnit). test other.unit) (unit_named name units)
named-shown test name entries units same =
    let at = is_at (text_cmp name) in
    sym (any-option-map test (λ (b : Bor (Arc UnitValue Global)). b.now.value) (lookup at entries))
    ∙ (ap (option_any test) (sym (lookup-seen_by (λ (b : Bor (Arc UnitValue Global)). b.now.value) at entries))
    ∙ (ap (λ (m : List (List ℕ × UnitValue)). option_any test (lookup at m)) same
    ∙ (ap (option_any test) (lookup-seen_by (λ (s : StoredUnit). s.unit) at units)
    ∙ any-option-map test (λ (s : StoredUnit). s.unit) (lookup at units))))

-- what opening found, as publications
pub found_publications : (units : List code.StoredUnit)
    → map (λ (u : code.StoredUnit). model.Put u.name (found_unit u)) units ≡ map (λ (entry : List ℕ × StoredUnit). model.Put entry.0 entry.1) (map (λ (u : code.StoredUnit). (u.name, found_unit u)) units)
found_publications [] = refl
found_publications (u ∷ units) = ap (λ (ps : List Publication). model.Put u.name (found_unit u) ∷ ps) (found_publications units)

-- no lease, for each lane
pub no-leases : (n : ℕ) → leases_seen (replicate n None) ≡ replicate n None
no-leases zero = refl
no-leases (suc n) = ap (λ (rest : List (Option Lease)). None ∷ rest) (no-leases n)

-- ---- the first unit of an output path

found-behind : (x : List ℕ) (names : List (List ℕ)) (k : ℕ) (b : Bool)
    → option_and_then (slice_get (x ∷ names)) (cond b (Some (suc k)) None) ≡ option_and_then (slice_get names) (cond b (Some k) None)
found-behind x names k true = refl
found-behind x names k false = refl

one-more : (k : ℕ) → 1 + k ≡ suc k
one-more k = omega arith

lt-more : (k n : ℕ) → nat_lt (suc k) (suc n) ≡ nat_lt k n
lt-more k n = ltb_from_iff (λ e. omega (arith, ltb-true (suc k) (suc n) e), λ below. lt-ltb (suc k) (suc n) (omega (arith, below)))

found-at : {X : Type 0} (q : X → Bool) (entries : List (List ℕ × X))
    → option_and_then (slice_get (map (λ e. e.0) entries)) (position q (map (λ e. e.1) entries)) ≡ option_map (λ e. e.0) (find (λ e. q e.1) entries)
found-at q [] = refl
found-at q (e ∷ es) =
    let names = map (λ e. e.0) es in
    let xs = map (λ e. e.1) es in
    let k = prefix_len (λ x. not (q x)) xs in
    elim (q e.1) as (λ b. option_and_then (slice_get (e.0 ∷ names)) (cond (nat_lt (cond (not b) (1 + k) 0) (suc (length xs))) (Some (cond (not b) (1 + k) 0)) None) ≡ option_map (λ e. e.0) (cond b (Some e) (find (λ e. q e.1) es))) [
      | true ↦ ap (λ (b : Bool). option_and_then (slice_get (e.0 ∷ names)) (cond b (Some 0) None)) (lt-ltb 0 (suc (length xs)) (omega arith))
      | false ↦ ap (λ (n : ℕ). option_and_then (slice_get (e.0 ∷ names)) (cond (nat_lt n (suc (length xs))) (Some n) None)) (one-more k)
          ∙ (found-behind e.0 names k (nat_lt (suc k) (suc (length xs)))
          ∙ (ap (λ (b : Bool). option_and_then (slice_get names) (cond b (Some k) None)) (lt-more k (length xs)) ∙ found-at q es))
    ]

first-seen : {X Y : Type 0} (q : Y → Bool) (f : X → Y) (entries : List (List ℕ × X))
    → option_map (λ e. e.0) (find (λ e. q e.1) (seen_by f entries)) ≡ option_map (λ e. e.0) (find (λ e. q (f e.1)) entries)
first-seen q f [] = refl
first-seen q f (e ∷ es) =
    elim (q (f e.1)) as (λ b. option_map (λ e. e.0) (cond b (Some (e.0, f e.1)) (find (λ e. q e.1) (seen_by f es))) ≡ option_map (λ e. e.0) (cond b (Some e) (find (λ e. q (f e.1)) es))) [
      | true ↦ refl
      | false ↦ first-seen q f es
    ]

pub name-shown : (q : UnitValue → Bool) (entries : List (List ℕ × Bor (Arc UnitValue Global))) (units : Units) → shown entries ≡ unit_map units
    → option_and_then (slice_get (map (λ e. e.0) entries)) (position (λ (b : Bor (Arc UnitValue Global)). q b.now.value) (map (λ e. e.1) entries)) ≡ option_map (λ e. e.0) (find (λ e. q e.1.unit) units)
name-shown q entries units same =
    found-at (λ (b : Bor (Arc UnitValue Global)). q b.now.value) entries
    ∙ (sym (first-seen q (λ (b : Bor (Arc UnitValue Global)). b.now.value) entries)
    ∙ (ap (λ (m : List (List ℕ × UnitValue)). option_map (λ e. e.0) (find (λ e. q e.1) m)) same
    ∙ first-seen q (λ (s : StoredUnit). s.unit) units))
