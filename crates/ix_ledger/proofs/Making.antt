-- Each step of the ledger is the machine's: what the machine's own row does in the cases of a put, a publish and a removal.
use Rattle.std.proofs.Common.{◌≡◌, ℕ, zero, suc, Bool, true, false, cond, List, [], ◌∷◌, map, Option, Some, None, IsSome, option_map, slice_index_or, slice_get, refl, sym, ap, subst, ◌∙◌, eq-eqb}
use Rattle.std.specs.declared.cmp.Ordering.{Ordering}
use Rattle.std.specs.declared.cmp.Ordering.TheVariants.{Less, Equal, Greater}
use Rattle.std.specs.Ordering.{match_ordering, is_eq}
use Rattle.std.specs.List.{AllByRecursion, find}
use Rattle.std.specs.List.Sorted.{IsStrictlySortedBy}
use Rattle.std.specs.Map.{keys_of, lookup, remove_entry}
use Rattle.std.specs.BTreeMap.{insert_entry, is_at}
use Rattle.std.specs.Option.{option_and_then}
use Rattle.std.specs.Str.{bytes_eq}
use Rattle.std.proofs.lemmas.Cmp.{eq_by_cmp_equiv, nat_list_cmp_total}
use Rattle.std.proofs.lemmas.Slice.Eq.{bytes_eq-Decides}
use Rattle.ix_types.specs.Row.{text_cmp}
use Rattle.ix_record.specs.declared.body.Body.{Body}
use Rattle.ix_unit.specs.declared.value.UnitValue.{UnitValue}
use Rattle.ix_model.specs.declared.publication.Publication.{Publication}
use Rattle.ix_model.specs.declared.publication.Publication.TheVariants as model
use Rattle.ix_model.specs.declared.publication.StoredUnit.{StoredUnit}
use Rattle.ix_model.specs.Units.{Units, NamesRise, changed, unit_named}
use Rattle.ix_machine.specs.declared.event.Outcome.{Outcome}
use Rattle.ix_machine.specs.declared.event.Outcome.TheVariants.{Done, Written, Shared, Clash, Synced, Unsynced, NoUnit, At, Removed, Nothing, Fault, Lost, Damaged}
use Rattle.ix_machine.specs.declared.event.Purpose.{Purpose}
use Rattle.ix_machine.specs.declared.event.Purpose.TheVariants as purposes
use Rattle.ix_machine.specs.Given.{Given, Put, Publish, Remove, Scan, Load, Install, Collect}
use Rattle.ix_machine.specs.Laws.{AreNamed}
use Rattle.ix_machine.specs.Needs.{option_any, has_name, is_guarded, visible, settled, loose}
use Rattle.ix_machine.specs.Run.{MayCall, Turn, Leads}
use Rattle.ix_machine.specs.Sound.{IsSound, MarksInOrder}
use Rattle.ix_machine.specs.State.{State, Import, lease_of}
use Rattle.ix_machine.specs.State as state
use Rattle.ix_machine.specs.Step.{Stepped, Row, ended, sure, may_fault, flagged, write, put, put_over, dropped, noted, publishing, stored_unit, staged_by, name_with_output, step}
use Rattle.ix_machine.specs.Step as calls
use Rattle.ix_ledger.specs.Effects as effect
use Rattle.ix_ledger.specs.Effects.{Changed}
use Rattle.ix_ledger.specs.Kept.{Kept, unit_at, staged_in}
use Rattle.ix_ledger.specs.OfState.{named_of, staged_under, kept_of, Keeps, Makes}
use Rattle.ix_ledger.proofs.Maps.{text_same, over_lookup}
use Rattle.ix_ledger.proofs.States.{last_changes}

abbrev pub GoesOn : Type 0
GoesOn = (name_of : List ℕ → List ℕ) (turns : List Turn) (s end : State) → IsSound name_of s → Leads name_of s turns end → IsSound name_of end

-- a call that may be made, and what is kept of the state that it leaves
pub make : GoesOn → (name_of : List ℕ → List ℕ) (s next : State) (lane : ℕ) (given : Given) (flag outcome : Outcome) (kept : Kept)
    → IsSound name_of s → MayCall name_of s lane given → step name_of s lane given flag ≡ Some (ended outcome next) → kept ≡ kept_of next → AreNamed name_of (visible next)
    → Makes name_of s lane given flag outcome kept next
make goes_on name_of s next lane given flag outcome kept sound may taken is named = record {
  taken = taken;
  keeps = record {
    is = is;
    sound = goes_on name_of (record { lane = lane; given = given; flag = flag } ∷ []) s next sound (ended outcome next, record { may = may; taken = taken }, refl);
    named = named;
  };
}

-- ---- what a lane has staged

pub staged_as : (leases : List (Option state.Lease)) (lane : ℕ) → slice_index_or (map staged_under leases) lane None ≡ staged_under (slice_index_or leases lane None)
staged_as [] zero = refl
staged_as [] (suc lane) = refl
staged_as (o ∷ leases) zero = refl
staged_as (o ∷ leases) (suc lane) = staged_as leases lane

-- ---- puts

-- a put that doesn't fail ends in one of three ways
pub put_ends : (s : State) (lane : ℕ) (body : Body) (P : Stepped → Type 0)
    → P (ended Written (noted (record s { records = insert_entry text_cmp s.records body.name body.bytes }) lane body.name))
    → P (ended Shared (noted s lane body.name)) → P (ended Clash (dropped s lane)) → P (put s lane body).plain
put_ends s lane body P written shared clash =
    elim (lookup (is_at (text_cmp body.name)) s.records) as (λ o. P (put_over s lane body o).plain) [
      | None ↦ written
      | Some bytes ↦ elim (bytes_eq bytes body.bytes) as (λ b. P (cond b (may_fault Shared (noted s lane body.name) (dropped s lane)) (cond (is_guarded s lane body.name) (may_fault Clash (dropped s lane) (dropped s lane)) (write s lane body))).plain) [
        | true ↦ shared
        | false ↦ elim (is_guarded s lane body.name) as (λ b. P (cond b (may_fault Clash (dropped s lane) (dropped s lane)) (write s lane body)).plain) [
          | true ↦ clash
          | false ↦ written
        ]
      ]
    ]

pub some_same : {X : Type 0} {x y : X} → Some x ≡ Some y → x ≡ y
some_same e = cc

outcomes : (o p : Outcome) (x y : State) → ended o x ≡ ended p y → o ≡ p
outcomes o p x y e = ap (λ (t : Stepped). t.outcome) e

states : (o p : Outcome) (x y : State) → ended o x ≡ ended p y → x ≡ y
states o p x y e = ap (λ (t : Stepped). t.state) e

not_written : Shared ≡ Written → ⊥
not_written e = absurd (cc)

clash_no_write : Clash ≡ Written → ⊥
clash_no_write e = absurd (cc)

written_not : Written ≡ Shared → ⊥
written_not e = absurd (cc)

clash_no_share : Clash ≡ Shared → ⊥
clash_no_share e = absurd (cc)

written_no_clash : Written ≡ Clash → ⊥
written_no_clash e = absurd (cc)

shared_no_clash : Shared ≡ Clash → ⊥
shared_no_clash e = absurd (cc)

module _ (s next : State) (lane : ℕ) (body : Body) where
  pub put_written : (put s lane body).plain ≡ ended Written next → noted (record s { records = insert_entry text_cmp s.records body.name body.bytes }) lane body.name ≡ next
  put_written = put_ends s lane body (λ (t : Stepped). t ≡ ended Written next → noted (record s { records = insert_entry text_cmp s.records body.name body.bytes }) lane body.name ≡ next)
      (λ e. states _ _ _ _ e) (λ e. absurd (not_written (outcomes _ _ _ _ e))) (λ e. absurd (clash_no_write (outcomes _ _ _ _ e)))

  pub put_shared : (put s lane body).plain ≡ ended Shared next → noted s lane body.name ≡ next
  put_shared = put_ends s lane body (λ (t : Stepped). t ≡ ended Shared next → noted s lane body.name ≡ next)
      (λ e. absurd (written_not (outcomes _ _ _ _ e))) (λ e. states _ _ _ _ e) (λ e. absurd (clash_no_share (outcomes _ _ _ _ e)))

  pub put_clashed : (put s lane body).plain ≡ ended Clash next → dropped s lane ≡ next
  put_clashed = put_ends s lane body (λ (t : Stepped). t ≡ ended Clash next → dropped s lane ≡ next)
      (λ e. absurd (written_no_clash (outcomes _ _ _ _ e))) (λ e. absurd (shared_no_clash (outcomes _ _ _ _ e))) (λ e. states _ _ _ _ e)

-- the name of a put that may be made is leased
pub may_put : (name_of : List ℕ → List ℕ) (s : State) (lane : ℕ) (body : Body) → MayCall name_of s lane (Put body) → option_any (λ (l : state.Lease). has_name body.name l.names) (lease_of s lane) ≡ true
may_put name_of s lane body may = ap (option_any (λ (l : state.Lease). has_name body.name l.names)) may.1 ∙ may.3.0

-- ---- publishes

module _ (s : State) (lane : ℕ) (name : List ℕ) (unit : UnitValue) where
  abbrev changes_over : Option StoredUnit → Option Changed
  changes_over o = effect.publish_over (kept_of s) name unit (option_map (λ (u : StoredUnit). u.unit) o)

  abbrev made_row : Row
  made_row = calls.change (dropped s lane) (dropped s lane) (model.Put name (stored_unit s unit))

  pub publish_row : (o : Option StoredUnit) (change : Changed) → changes_over o ≡ Some change
      → (calls.publish_over s lane name unit o ≡ made_row) × (effect.with_unit (kept_of s) name unit ≡ change)
  publish_row None change e = (refl, some_same e)
  publish_row (Some other) change e =
      (elim (bytes_eq other.unit.output unit.output) as (λ b. cond b (Some (effect.with_unit (kept_of s) name unit)) None ≡ Some change → (cond b made_row (sure Clash (dropped s lane)) ≡ made_row) × (effect.with_unit (kept_of s) name unit ≡ change)) [
        | true ↦ λ e. (refl, some_same e)
        | false ↦ λ e. absurd (cc)
      ]) e

  pub clash_row : (o : Option StoredUnit) → changes_over o ≡ None → calls.publish_over s lane name unit o ≡ sure Clash (dropped s lane)
  clash_row None e = absurd (cc)
  clash_row (Some other) e =
      (elim (bytes_eq other.unit.output unit.output) as (λ b. cond b (Some (effect.with_unit (kept_of s) name unit)) None ≡ None → cond b made_row (sure Clash (dropped s lane)) ≡ sure Clash (dropped s lane)) [
        | true ↦ λ e. absurd (cc)
        | false ↦ λ e. refl
      ]) e

  pub publish_as : staged_in (kept_of s) lane ≡ Some unit → effect.publish_change (kept_of s) lane name ≡ changes_over (unit_named name (visible s))
  publish_as staged =
      ap (λ (o : Option UnitValue). option_and_then (λ (u : UnitValue). effect.publish_over (kept_of s) name u (unit_at name (named_of (visible s)))) o) staged
      ∙ ap (effect.publish_over (kept_of s) name unit) (over_lookup (λ (u : StoredUnit). u.unit) (is_at (text_cmp name)) (visible s))

-- ---- names of output paths

module _ (name_of : List ℕ → List ℕ) where
  pub inserted_named : (k : List ℕ) (v : StoredUnit) (es : Units) → k ≡ name_of v.unit.output → AreNamed name_of es → AreNamed name_of (insert_entry text_cmp es k v)
  inserted_named k v [] p all = (p, tt)
  inserted_named k v (e ∷ es) p all =
      (elim (text_cmp k e.0) as (λ r. text_cmp k e.0 ≡ r → AreNamed name_of (match_ordering r ((k, v) ∷ e ∷ es) ((e.0, v) ∷ es) (e ∷ insert_entry text_cmp es k v))) [
        | Less ↦ λ c. (p, all)
        | Equal ↦ λ c. (sym (text_same k e.0 c) ∙ p, all.1)
        | Greater ↦ λ c. (all.0, inserted_named k v es p all.1)
      ]) refl

  pub removed_named : (test : List ℕ → Bool) (es : Units) → AreNamed name_of es → AreNamed name_of (remove_entry test es)
  removed_named test [] all = tt
  removed_named test (e ∷ es) all =
      elim (test e.0) as (λ b. AreNamed name_of (cond b es (e ∷ remove_entry test es))) [
        | true ↦ all.1
        | false ↦ (all.0, removed_named test es all.1)
      ]

  -- ---- removals

  module _ (output : List ℕ) where
    -- the name of the path, where the unit of that name has it
    abbrev pub name_if : Option StoredUnit → Option (List ℕ)
    name_if None = None
    name_if (Some other) = cond (bytes_eq other.unit.output output) (Some (name_of output)) None

    no_other : (k : List ℕ) (es : Units) → k ≡ name_of output → AllByRecursion (λ y. text_cmp k y ≡ Less) (keys_of es) → AreNamed name_of es → name_with_output output es ≡ None
    no_other k [] is less all = refl
    no_other k (e ∷ es) is less all =
        (elim (bytes_eq e.1.unit.output output) as (λ b. bytes_eq e.1.unit.output output ≡ b → option_map (λ (entry : List ℕ × StoredUnit). entry.0) (cond b (Some e) (find (λ entry. bytes_eq entry.1.unit.output output) es)) ≡ None) [
          | true ↦ λ same. absurd (not_less (less.0) (is ∙ (ap name_of (sym ((bytes_eq-Decides e.1.unit.output output).0 same)) ∙ sym all.0)))
          | false ↦ λ same. no_other k es is less.1 all.1
        ]) refl
      where
        differ : Equal ≡ Less → ⊥
        differ e = absurd (cc)

        tie : (r : Ordering) → is_eq r ≡ true → r ≡ Less → ⊥
        tie Less e f = absurd (cc)
        tie Equal e f = differ f
        tie Greater e f = absurd (cc)

        not_less : text_cmp k e.0 ≡ Less → k ≡ e.0 → ⊥
        not_less less same = tie (text_cmp k k) ((eq_by_cmp_equiv nat_list_cmp_total).refl k) (subst (λ (n : List ℕ). text_cmp k n ≡ Less) (sym same) less)

    pub found_by_name : (es : Units) → NamesRise es → AreNamed name_of es → name_with_output output es ≡ name_if (unit_named (name_of output) es)
    unfolding IsStrictlySortedBy
    found_by_name [] rises all = refl
    found_by_name (e ∷ es) rises all =
        (elim (bytes_eq e.1.unit.output output) as (λ b. bytes_eq e.1.unit.output output ≡ b → option_map (λ (entry : List ℕ × StoredUnit). entry.0) (cond b (Some e) (find (λ entry. bytes_eq entry.1.unit.output output) es)) ≡ name_if (cond (is_at (text_cmp (name_of output)) e.0) (Some e.1) (unit_named (name_of output) es))) [
          | true ↦ λ same. here same
          | false ↦ λ same. there (found_by_name es rises.1 all.1) same (is_at (text_cmp (name_of output)) e.0) refl
        ]) refl
      where
        here : bytes_eq e.1.unit.output output ≡ true → Some e.0 ≡ name_if (cond (is_at (text_cmp (name_of output)) e.0) (Some e.1) (unit_named (name_of output) es))
        here same =
            let n : name_of output ≡ e.0 = ap name_of (sym ((bytes_eq-Decides e.1.unit.output output).0 same)) ∙ sym all.0 in
            let at : is_at (text_cmp (name_of output)) e.0 ≡ true = subst (λ (k : List ℕ). is_at (text_cmp (name_of output)) k ≡ true) n ((eq_by_cmp_equiv nat_list_cmp_total).refl (name_of output)) in
            ap Some (sym n) ∙ (ap (λ b. cond b (Some (name_of output)) None) (sym same) ∙ ap (λ b. name_if (cond b (Some e.1) (unit_named (name_of output) es))) (sym at))

        tied : (r : Ordering) → is_eq r ≡ true → r ≡ Equal
        tied Less e = absurd (cc)
        tied Equal e = refl
        tied Greater e = absurd (cc)

        there : name_with_output output es ≡ name_if (unit_named (name_of output) es) → bytes_eq e.1.unit.output output ≡ false → (b : Bool) → is_at (text_cmp (name_of output)) e.0 ≡ b → name_with_output output es ≡ name_if (cond b (Some e.1) (unit_named (name_of output) es))
        there rest same true at = no_other e.0 es (sym (text_same (name_of output) e.0 (tied (text_cmp (name_of output) e.0) at))) rises.0 all.1 ∙ ap (λ b. cond b (Some (name_of output)) None) (sym same)
        there rest same false at = rest

-- ---- one publication more

pub marks_stay : (s : State) (lane : ℕ) → MarksInOrder s → MarksInOrder (dropped s lane)
marks_stay s lane m = record { pending = m.pending; imported = m.imported; current = m.current; held = m.held }

module _ (name_of : List ℕ → List ℕ) (s : State) (named : AreNamed name_of (visible s)) where
  pub named_after : (p : Publication) (pending : Option ℕ) → AreNamed name_of (changed (visible s) p) → AreNamed name_of (visible (publishing s p pending))
  named_after p pending all = subst (AreNamed name_of) (sym (last_changes s.publications p)) all

  pub named_with : (stored : StoredUnit) (pending : Option ℕ) → AreNamed name_of (visible (publishing s (model.Put (name_of stored.unit.output) stored) pending))
  named_with stored pending = named_after (model.Put (name_of stored.unit.output) stored) pending (inserted_named name_of (name_of stored.unit.output) stored (visible s) refl named)

  pub named_without : (name : List ℕ) (pending : Option ℕ) → AreNamed name_of (visible (publishing s (model.Gone name) pending))
  named_without name pending = named_after (model.Gone name) pending (removed_named name_of (is_at (text_cmp name)) (visible s) named)

-- ---- a publish of what a lane has staged

module _ (name_of : List ℕ → List ℕ) (s : State) (lane : ℕ) (kept : Kept) (unit : UnitValue) (keeps : Keeps name_of kept s) (staged : staged_in kept lane ≡ Some unit) where
  in_state : staged_in (kept_of s) lane ≡ Some unit
  in_state = subst (λ (k : Kept). staged_in k lane ≡ Some unit) keeps.is staged

  by_lane : staged_by s lane ≡ Some unit
  by_lane = sym (staged_as s.leases lane) ∙ in_state

  pub may_publish : IsSome (staged_by s lane)
  may_publish = subst IsSome (sym by_lane) refl

  over_visible : effect.publish_change kept lane (name_of unit.output) ≡ effect.publish_over (kept_of s) (name_of unit.output) unit (option_map (λ (u : StoredUnit). u.unit) (unit_named (name_of unit.output) (visible s)))
  over_visible = ap (λ (k : Kept). effect.publish_change k lane (name_of unit.output)) keeps.is ∙ publish_as s lane (name_of unit.output) unit in_state

  by_row : (flag : Outcome) (r : Row) → calls.publish_over s lane (name_of unit.output) unit (unit_named (name_of unit.output) (visible s)) ≡ r → step name_of s lane Publish flag ≡ flagged r flag
  by_row flag r is =
      ap (λ (o : Option UnitValue). option_and_then (λ (q : Row). flagged q flag) (option_map (λ (u : UnitValue). calls.publish_unit s lane (name_of u.output) u) o)) by_lane
      ∙ ap (λ (q : Row). flagged q flag) is

  pub publish_step : (flag : Outcome) (change : Changed) → effect.publish_change kept lane (name_of unit.output) ≡ Some change
      → step name_of s lane Publish flag ≡ flagged (calls.change (dropped s lane) (dropped s lane) (model.Put (name_of unit.output) (stored_unit s unit))) flag
  publish_step flag change is = by_row flag _ (publish_row s lane (name_of unit.output) unit (unit_named (name_of unit.output) (visible s)) change (sym over_visible ∙ is)).0

  pub clash_step : effect.publish_change kept lane (name_of unit.output) ≡ None → step name_of s lane Publish Done ≡ Some (ended Clash (dropped s lane))
  clash_step is = by_row Done _ (clash_row s lane (name_of unit.output) unit (unit_named (name_of unit.output) (visible s)) (sym over_visible ∙ is))

  pub publish_keeps : (unsynced : Bool) (pending : Option ℕ) (change : Changed) → effect.publish_change kept lane (name_of unit.output) ≡ Some change
      → kept_of (dropped s lane) ≡ effect.dropped (kept_of s) lane
      → kept_of (publishing (dropped s lane) (model.Put (name_of unit.output) (stored_unit s unit)) pending)
      ≡ effect.changed (kept_of (dropped s lane)) (effect.change_for (kept_of (dropped s lane)) (model.Put (name_of unit.output) (stored_unit s unit))) unsynced
      → effect.changed (effect.dropped kept lane) change unsynced ≡ kept_of (publishing (dropped s lane) (model.Put (name_of unit.output) (stored_unit s unit)) pending)
  publish_keeps unsynced pending change is drops follows =
      (λ i. effect.changed (effect.dropped (keeps.is i) lane) (sym (publish_row s lane (name_of unit.output) unit (unit_named (name_of unit.output) (visible s)) change (sym over_visible ∙ is)).1 i) unsynced)
      ∙ (ap (λ (k : Kept). effect.changed k (effect.change_for k (model.Put (name_of unit.output) (stored_unit s unit))) unsynced) (sym drops) ∙ sym follows)

-- ---- a removal of what has an output path

module _ (name_of : List ℕ → List ℕ) (s : State) (lane : ℕ) (kept : Kept) (output : List ℕ) (keeps : Keeps name_of kept s) (rises : NamesRise (visible s)) where
  found : name_with_output output (visible s) ≡ name_if name_of output (unit_named (name_of output) (visible s))
  found = found_by_name name_of output (visible s) rises keeps.named

  removed_over : effect.remove_change kept (name_of output) output ≡ effect.remove_over (kept_of s) (name_of output) output (option_map (λ (u : StoredUnit). u.unit) (unit_named (name_of output) (visible s)))
  removed_over =
      ap (λ (k : Kept). effect.remove_change k (name_of output) output) keeps.is
      ∙ ap (effect.remove_over (kept_of s) (name_of output) output) (over_lookup (λ (u : StoredUnit). u.unit) (is_at (text_cmp (name_of output))) (visible s))

  named_if : (o : Option StoredUnit) (change : Changed) → effect.remove_over (kept_of s) (name_of output) output (option_map (λ (u : StoredUnit). u.unit) o) ≡ Some change
      → (name_if name_of output o ≡ Some (name_of output)) × (effect.without_unit (kept_of s) (name_of output) ≡ change)
  named_if None change e = absurd (cc)
  named_if (Some other) change e =
      (elim (bytes_eq other.unit.output output) as (λ b. cond b (Some (effect.without_unit (kept_of s) (name_of output))) None ≡ Some change → (cond b (Some (name_of output)) None ≡ Some (name_of output)) × (effect.without_unit (kept_of s) (name_of output) ≡ change)) [
        | true ↦ λ e. (refl, some_same e)
        | false ↦ λ e. absurd (cc)
      ]) e

  none_if : (o : Option StoredUnit) → effect.remove_over (kept_of s) (name_of output) output (option_map (λ (u : StoredUnit). u.unit) o) ≡ None → name_if name_of output o ≡ None
  none_if None e = refl
  none_if (Some other) e =
      (elim (bytes_eq other.unit.output output) as (λ b. cond b (Some (effect.without_unit (kept_of s) (name_of output))) None ≡ None → cond b (Some (name_of output)) None ≡ None) [
        | true ↦ λ e. absurd (cc)
        | false ↦ λ e. refl
      ]) e

  pub remove_step : (flag : Outcome) (change : Changed) → effect.remove_change kept (name_of output) output ≡ Some change
      → step name_of s lane (Remove output) flag ≡ flagged (calls.change s s (model.Gone (name_of output))) flag
  remove_step flag change is = ap (λ (o : Option (List ℕ)). flagged (calls.remove_named s o) flag) (found ∙ (named_if (unit_named (name_of output) (visible s)) change (sym removed_over ∙ is)).0)

  pub refuse_step : effect.remove_change kept (name_of output) output ≡ None → step name_of s lane (Remove output) Done ≡ Some (ended NoUnit s)
  refuse_step is = ap (λ (o : Option (List ℕ)). flagged (calls.remove_named s o) Done) (found ∙ none_if (unit_named (name_of output) (visible s)) (sym removed_over ∙ is))

  pub remove_keeps : (unsynced : Bool) (pending : Option ℕ) (change : Changed) → effect.remove_change kept (name_of output) output ≡ Some change
      → kept_of (publishing s (model.Gone (name_of output)) pending) ≡ effect.changed (kept_of s) (effect.change_for (kept_of s) (model.Gone (name_of output))) unsynced
      → effect.changed kept change unsynced ≡ kept_of (publishing s (model.Gone (name_of output)) pending)
  remove_keeps unsynced pending change is follows =
      (λ i. effect.changed (keeps.is i) (sym (named_if (unit_named (name_of output) (visible s)) change (sym removed_over ∙ is)).1 i) unsynced) ∙ sym follows

-- ---- failures of scans and loads

pub scan_fails : (name_of : List ℕ → List ℕ) (s : State) (lane : ℕ) (flag : Outcome) → effect.IsFailure flag → step name_of s lane Scan flag ≡ Some (ended flag (calls.unopened s))
scan_fails name_of s lane Fault h = refl
scan_fails name_of s lane (Lost name) h = refl
scan_fails name_of s lane (Damaged name) h = refl
scan_fails name_of s lane Done h = absurd h
scan_fails name_of s lane Written h = absurd h
scan_fails name_of s lane Shared h = absurd h
scan_fails name_of s lane Clash h = absurd h
scan_fails name_of s lane Synced h = absurd h
scan_fails name_of s lane Unsynced h = absurd h
scan_fails name_of s lane NoUnit h = absurd h
scan_fails name_of s lane (At mark) h = absurd h
scan_fails name_of s lane (Removed name) h = absurd h
scan_fails name_of s lane Nothing h = absurd h

module _ (name_of : List ℕ → List ℕ) (s : State) (lane : ℕ) (name : List ℕ) (purpose : Purpose) where
  misses_it : (other : List ℕ) → other ≡ name → bytes_eq name other ≡ true
  misses_it other same = (bytes_eq-Decides name other).1 (sym same)

  pub load_fails : (flag : Outcome) → effect.IsFailureOf name flag → step name_of s lane (Load name purpose) flag ≡ Some (ended flag (calls.load_failed s purpose))
  load_fails Fault h = refl
  load_fails (Lost other) h = ap (λ b. cond b (Some (ended (Lost other) (calls.load_failed s purpose))) None) (misses_it other h)
  load_fails (Damaged other) h = ap (λ b. cond b (Some (ended (Damaged other) (calls.load_failed s purpose))) None) (misses_it other h)
  load_fails Done h = absurd h
  load_fails Written h = absurd h
  load_fails Shared h = absurd h
  load_fails Clash h = absurd h
  load_fails Synced h = absurd h
  load_fails Unsynced h = absurd h
  load_fails NoUnit h = absurd h
  load_fails (At mark) h = absurd h
  load_fails (Removed other) h = absurd h
  load_fails Nothing h = absurd h

  pub load_keeps : (kept : Kept) → kept ≡ kept_of s → kept_of (calls.unopened s) ≡ effect.closed (kept_of s) → (p : Purpose) → effect.load_failed kept p ≡ kept_of (calls.load_failed s p)
  load_keeps kept is closes purposes.Import = ap effect.closed is ∙ sym closes
  load_keeps kept is closes purposes.Ask = is

  pub load_named : AreNamed name_of (visible s) → (p : Purpose) → AreNamed name_of (visible (calls.load_failed s p))
  load_named named purposes.Import = named
  load_named named purposes.Ask = named

-- ---- installs

pub install_step : (name_of : List ℕ → List ℕ) (s : State) (lane : ℕ) (open_import : Import) → s.import ≡ Some open_import → open_import.lane ≡ lane
    → step name_of s lane Install Done ≡ Some (ended (At open_import.mark) (calls.install_mark s lane open_import.mark).plain.state)
install_step name_of s lane open_import is own =
    ap (λ (o : Option Import). option_and_then (λ (r : Row). flagged r Done) (calls.install_import s lane o)) is
    ∙ ap (λ b. option_and_then (λ (r : Row). flagged r Done) (cond b (Some (calls.install_mark s lane open_import.mark)) None)) (eq-eqb open_import.lane lane own)

-- ---- collects

module _ (s : State) where
  none_loose : (names : List (List ℕ)) → slice_get names 0 ≡ None → calls.collect_first s names ≡ ended Nothing (settled s)
  none_loose [] e = refl
  none_loose (name ∷ names) e = absurd (cc)

  first_goes : (names : List (List ℕ)) (name : List ℕ) → slice_get names 0 ≡ Some name → calls.collect_first s names ≡ ended (Removed name) (record (settled s) { records = remove_entry (is_at (text_cmp name)) s.records })
  first_goes [] name e = absurd (cc)
  first_goes (other ∷ names) name e = ap (λ (n : List ℕ). ended (Removed n) (record (settled s) { records = remove_entry (is_at (text_cmp n)) s.records })) (some_same e)

  pub nothing_step : (name_of : List ℕ → List ℕ) (lane : ℕ) → slice_get (loose s) 0 ≡ None → step name_of s lane Collect Done ≡ Some (ended Nothing (settled s))
  nothing_step name_of lane e = ap Some (none_loose (loose s) e)

  pub removed_step : (name_of : List ℕ → List ℕ) (lane : ℕ) (name : List ℕ) → slice_get (loose s) 0 ≡ Some name
      → step name_of s lane Collect Done ≡ Some (ended (Removed name) (record (settled s) { records = remove_entry (is_at (text_cmp name)) s.records }))
  removed_step name_of lane name e = ap Some (first_goes (loose s) name e)
