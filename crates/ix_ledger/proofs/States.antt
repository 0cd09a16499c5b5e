-- What each step of the machine changes of what is kept of a state.
use Rattle.std.proofs.Common.{◌≡◌, ℕ, zero, suc, ◌+◌, ◌≤◌, Bool, true, false, List, [], ◌∷◌, ◌++◌, length, map, set, fold, replicate, Option, Some, None, option_map, slice_index_or, refl, sym, ap, subst, ◌∙◌}
use Rattle.std.specs.Map.{remove_entry}
use Rattle.std.specs.BTreeMap.{insert_entry, is_at}
use Rattle.std.proofs.lemmas.List.{map-set, length-map}
use Rattle.std.proofs.Common.{length-append}
use Rattle.std.proofs.lemmas.List.Sums.{fold-append}
use Rattle.std.proofs.Math.Seq.{take-length, map-set_same}
use Rattle.ix_types.specs.Row.{text_cmp}
use Rattle.ix_unit.specs.declared.value.UnitValue.{UnitValue}
use Rattle.ix_model.specs.declared.publication.Publication.{Publication}
use Rattle.ix_model.specs.declared.publication.Publication.TheVariants.{Put, Gone}
use Rattle.ix_model.specs.declared.publication.StoredUnit.{StoredUnit}
use Rattle.ix_model.specs.Units.{Units, changed, units_at}
use Rattle.ix_machine.specs.Needs.{visible, seen_at}
use Rattle.ix_machine.specs.Run.{Opening, begun}
use Rattle.ix_machine.specs.State.{State, Import, with_put, with_staged, lease_of}
use Rattle.ix_machine.specs.State as state
use Rattle.ix_machine.specs.Step.{with_lease, holding, publishing, install_mark}
use Rattle.ix_machine.specs.Step as step
use Rattle.ix_guard.specs.Counts.{Counts}
use Rattle.ix_guard.specs.Guarding.{Guarding, guarding_nothing}
use Rattle.ix_guard.specs.Listing.{need_list_of}
use Rattle.ix_guard.specs.OfMachine.{guarding_of}
use Rattle.ix_ledger.specs.Effects as effect
use Rattle.ix_ledger.specs.Effects.{Changed, change_for}
use Rattle.ix_ledger.specs.Kept.{Kept, Named, as_units}
use Rattle.ix_ledger.specs.OfState.{named_of, staged_under, kept_of}
use Rattle.ix_ledger.proofs.Maps.{over_insert, over_remove}
use Rattle.ix_ledger.proofs.NeedLists.{list_same}

-- ---- leases

pub lease_kept : (s : State) (lane : ℕ) (o : Option state.Lease) (g : Guarding) → guarding_of (with_lease s lane o) ≡ g
    → kept_of (with_lease s lane o) ≡ record (kept_of s) { guard = g; staged = set (kept_of s).staged lane (staged_under o) }
lease_kept s lane o g is = λ i. record (kept_of s) { guard = is i; staged = map-set staged_under s.leases lane o i }

staged_stays : (name : List ℕ) (o : Option state.Lease) → staged_under (option_map (with_put name) o) ≡ staged_under o
staged_stays name None = refl
staged_stays name (Some l) = refl

pub note_kept : (s : State) (lane : ℕ) (name : List ℕ) (g : Guarding) → guarding_of (step.noted s lane name) ≡ g
    → kept_of (step.noted s lane name) ≡ record (kept_of s) { guard = g }
note_kept s lane name g is = λ i. record (kept_of s) {
  guard = is i;
  staged = map-set_same staged_under s.leases lane (option_map (with_put name) (lease_of s lane)) None (staged_stays name (lease_of s lane)) i;
}

staged_now : (unit : UnitValue) (o : Option state.Lease) (l : state.Lease) → o ≡ Some l → staged_under (option_map (with_staged unit) o) ≡ Some unit
staged_now unit o l is = ap (λ (p : Option state.Lease). staged_under (option_map (with_staged unit) p)) is

pub stage_kept : (s : State) (lane : ℕ) (unit : UnitValue) (l : state.Lease) → lease_of s lane ≡ Some l → guarding_of (step.stage s lane unit).plain.state ≡ guarding_of s
    → kept_of (step.stage s lane unit).plain.state ≡ effect.staging (kept_of s) lane unit
stage_kept s lane unit l is same =
    lease_kept s lane (option_map (with_staged unit) (lease_of s lane)) (guarding_of s) same
    ∙ ap (λ (o : Option UnitValue). record (kept_of s) { staged = set (kept_of s).staged lane o }) (staged_now unit (lease_of s lane) l is)

-- ---- one publication more

whole : (ps : List Publication) → units_at ps (length ps) ≡ fold changed [] ps
whole ps = ap (fold changed []) (take-length ps)

pub last_changes : (ps : List Publication) (p : Publication) → units_at (ps ++ p ∷ []) (length (ps ++ p ∷ [])) ≡ changed (units_at ps (length ps)) p
last_changes ps p = whole (ps ++ p ∷ []) ∙ (fold-append changed [] ps (p ∷ []) ∙ ap (λ (units : Units). changed units p) (sym (whole ps)))

-- the units after a change, without values
units_after : (s : State) (p : Publication) → named_of (changed (visible s) p) ≡ (change_for (kept_of s) p).units
units_after s (Put name stored) = over_insert (λ (u : StoredUnit). u.unit) (visible s) name stored
units_after s (Gone name) = over_remove (λ (u : StoredUnit). u.unit) (is_at (text_cmp name)) (visible s)

one_more : (s : State) (p : Publication) → length (s.publications ++ p ∷ []) ≡ (change_for (kept_of s) p).published
one_more s (Put name stored) = length-append s.publications (Put name stored ∷ [])
one_more s (Gone name) = length-append s.publications (Gone name ∷ [])

pub publish_kept : (s : State) (p : Publication) (pending : Option ℕ) (unsynced : Option Counts)
    → guarding_of (publishing s p pending) ≡ record (guarding_of s) { visible = need_list_of (changed (visible s) p); unsynced = unsynced }
    → kept_of (publishing s p pending) ≡ record (kept_of s) {
      guard = record (guarding_of s) { visible = need_list_of (as_units (change_for (kept_of s) p).units); unsynced = unsynced };
      units = (change_for (kept_of s) p).units;
      published = (change_for (kept_of s) p).published;
      pending = pending;
    }
publish_kept s p pending unsynced guard = λ i. record (kept_of s) {
  guard = (guard ∙ ap (λ (list : Counts). record (guarding_of s) { visible = list; unsynced = unsynced }) (sym (list_same (changed (visible s) p)) ∙ ap (λ (us : Named). need_list_of (as_units us)) (units_after s p))) i;
  units = (ap named_of (last_changes s.publications p) ∙ units_after s p) i;
  published = one_more s p i;
  pending = pending;
}

-- ---- versions

pub install_kept : (s : State) (lane : ℕ) (open_import : Import) → s.import ≡ Some open_import
    → guarding_of (install_mark s lane open_import.mark).plain.state ≡ record (guarding_of s) { import = None; current = need_list_of (seen_at s open_import.mark); held = set (guarding_of s).held lane (Some (need_list_of (seen_at s open_import.mark))) }
    → kept_of (install_mark s lane open_import.mark).plain.state ≡ effect.installed (kept_of s) lane
install_kept s lane open_import is guard =
    (λ i. record (kept_of s) { guard = guard i; import = None; current = open_import.mark; held = set s.held lane (Some open_import.mark) })
    ∙ ap (λ (o : Option Import). effect.installed_over (kept_of s) lane o (option_map (λ (j : Import). need_list_of (seen_at s j.mark)) o)) (sym is)

pub hold_kept : (s : State) (lane : ℕ) (o : Option ℕ) (g : Guarding) → guarding_of (holding s lane o) ≡ g
    → kept_of (holding s lane o) ≡ record (kept_of s) { guard = g; held = set (kept_of s).held lane o }
hold_kept s lane o g is = ap (λ (h : Guarding). record (kept_of s) { guard = h; held = set s.held lane o }) is

-- ---- opening

none_staged : (n : ℕ) → map staged_under (replicate n None) ≡ replicate n None
none_staged zero = refl
none_staged (suc n) = ap (λ (os : List (Option UnitValue)). None ∷ os) (none_staged n)

pub begin_kept : (opening : Opening) (lanes : ℕ) → visible (begun opening lanes) ≡ opening.units
    → guarding_of (begun opening lanes) ≡ record (guarding_nothing lanes) { visible = need_list_of (visible (begun opening lanes)) }
    → kept_of (begun opening lanes) ≡ effect.kept_at_first (named_of opening.units) (length opening.units) lanes
begin_kept opening lanes seen guard = λ i. record {
  guard = (guard ∙ ap (λ (list : Counts). record (guarding_nothing lanes) { visible = list }) (ap need_list_of seen ∙ sym (list_same opening.units))) i;
  units = named_of (seen i);
  published = length-map opening.units (λ (e : List ℕ × StoredUnit). Put e.0 e.1) i;
  pending = None;
  import = None;
  current = 0;
  held = replicate lanes None;
  staged = none_staged lanes i;
}
