-- A call may be made, by what is kept.
use Rattle.std.proofs.Common.{◌≡◌, ℕ, zero, suc, Bool, true, false, cond, ◌||◌, List, [], ◌∷◌, map, Option, Some, None, IsSome, option_map, slice_index_or, ◌==◌, refl, sym, ap, subst, ◌∙◌}
use Rattle.std.specs.declared.cmp.Ordering.{Ordering}
use Rattle.std.specs.declared.cmp.Ordering.TheVariants.{Less, Equal, Greater}
use Rattle.std.specs.Ordering.{is_eq}
use Rattle.std.specs.List.{AllByRecursion}
use Rattle.std.specs.Map.{lookup}
use Rattle.std.specs.BTreeMap.{is_at}
use Rattle.std.proofs.Common.{eqb-true}
use Rattle.ix_types.specs.Row.{text_cmp}
use Rattle.ix_record.specs.declared.body.Body.{Body}
use Rattle.ix_record.specs.Whole.{IsWhole}
use Rattle.ix_unit.specs.declared.value.RecordDep.{RecordDep}
use Rattle.ix_unit.specs.declared.value.UnitValue.{UnitValue}
use Rattle.ix_unit.specs.Value.{IsValidUnit}
use Rattle.ix_model.specs.SortedSet.{sorted_set}
use Rattle.ix_machine.specs.Given.{Put, Stage, Publish, Install}
use Rattle.ix_machine.specs.Needs.{option_any, has_name}
use Rattle.ix_machine.specs.Needs as machine
use Rattle.ix_machine.specs.Run.{MayCall, Leases, OpenedImport}
use Rattle.ix_machine.specs.State.{State, Import, lease_of}
use Rattle.ix_machine.specs.State as state
use Rattle.ix_machine.specs.Step.{staged_by}
use Rattle.ix_guard.specs.Guarding.{Lease}
use Rattle.ix_guard.specs.Guarding as guard
use Rattle.ix_guard.specs.Listing.{need_list_of}
use Rattle.ix_guard.specs.OfMachine.{lease_for, guarding_of}
use Rattle.ix_guard.specs.Protection.{leases_name, has_put, is_protected}
use Rattle.ix_ledger.specs.Kept.{Kept, staged_in}
use Rattle.ix_ledger.specs.OfState.{staged_under, kept_of, Keeps}
use Rattle.ix_ledger.specs.Registered.{has_opened}
use Rattle.ix_ledger.proofs.Maps.{text_same}
use Rattle.ix_ledger.proofs.Making.{staged_as}

-- ---- leases

pub lease_at : (leases : List (Option state.Lease)) (lane : ℕ) → slice_index_or (map (option_map lease_for) leases) lane None ≡ option_map lease_for (slice_index_or leases lane None)
lease_at [] zero = refl
lease_at [] (suc lane) = refl
lease_at (o ∷ leases) zero = refl
lease_at (o ∷ leases) (suc lane) = lease_at leases lane

-- a state with one lease and nothing else
alone : state.Lease → State
alone lease = record { publications = []; pending = None; records = []; leases = Some lease ∷ []; import = None; current = 0; held = [] }

abbrev Agrees : Type 0
Agrees = (s : State) (name : List ℕ) → is_protected (guarding_of s) name ≡ machine.is_protected s name

leased_same : Agrees → (lease : state.Lease) (name : List ℕ) → (leases_name name (lease_for lease) || false) ≡ (has_name name lease.names || false)
unfolding need_list_of machine.is_needed alone
leased_same agrees lease name = agrees (alone lease) name

or_false : (a : Bool) → (a || false) ≡ a
or_false true = refl
or_false false = refl

pub leased_as : Agrees → (lease : state.Lease) (name : List ℕ) → leases_name name (lease_for lease) ≡ has_name name lease.names
leased_as agrees lease name = sym (or_false (leases_name name (lease_for lease))) ∙ (leased_same agrees lease name ∙ or_false (has_name name lease.names))

tied : (r : Ordering) → is_eq r ≡ true → r ≡ Equal
tied Less e = absurd (cc)
tied Equal e = refl
tied Greater e = absurd (cc)

-- what is noted for a name is what holds of it
noted_put : (p : List ℕ → Bool) (name : List ℕ) (names : List (List ℕ)) → has_put name (map {B = List ℕ × Bool} (λ n. (n, p n)) names) ≡ true → p name ≡ true
noted_put p name [] e = absurd (cc)
noted_put p name (n ∷ names) e =
    (elim (is_eq (text_cmp name n)) as (λ b. is_eq (text_cmp name n) ≡ b → option_any (λ put. put) (cond b (Some (p n)) (lookup (is_at (text_cmp name)) (map {B = List ℕ × Bool} (λ m. (m, p m)) names))) ≡ true → p name ≡ true) [
      | true ↦ λ at e. ap p (text_same name n (tied (text_cmp name n) at)) ∙ e
      | false ↦ λ at e. noted_put p name names e
    ]) refl e

all_put : (put : List (List ℕ)) (names : List (List ℕ)) (deps : List RecordDep) → AllByRecursion (λ (dep : RecordDep). has_put dep.name (map {B = List ℕ × Bool} (λ n. (n, has_name n put)) names) ≡ true) deps
    → AllByRecursion (λ (dep : RecordDep). has_name dep.name put ≡ true) deps
all_put put names [] all = tt
all_put put names (dep ∷ deps) all = (noted_put (λ n. has_name n put) dep.name names all.0, all_put put names deps all.1)

-- ---- calls

module _ (name_of : List ℕ → List ℕ) (s : State) (lane : ℕ) (kept : Kept) (keeps : Keeps name_of kept s) where
  leased_lane : guard.lease_of kept.guard lane ≡ option_map lease_for (lease_of s lane)
  leased_lane = ap (λ (k : Kept). guard.lease_of k.guard lane) keeps.is ∙ lease_at s.leases lane

  staged_lane : staged_in kept lane ≡ staged_under (lease_of s lane)
  staged_lane = ap (λ (k : Kept). staged_in k lane) keeps.is ∙ staged_as s.leases lane

  pub none_leased : guard.lease_of kept.guard lane ≡ None → lease_of s lane ≡ None
  none_leased none = go (lease_of s lane) (sym leased_lane ∙ none)
    where
      go : (o : Option state.Lease) → option_map lease_for o ≡ None → o ≡ None
      go None e = refl
      go (Some l) e = absurd (cc)

  pub may_put_by : Agrees → (body : Body) → staged_in kept lane ≡ None → option_any (leases_name body.name) (guard.lease_of kept.guard lane) ≡ true → IsWhole name_of body → MayCall name_of s lane (Put body)
  may_put_by agrees body unstaged leased whole = go (lease_of s lane) refl (sym staged_lane ∙ unstaged) (ap (option_any (leases_name body.name)) (sym leased_lane) ∙ leased)
    where
      go : (o : Option state.Lease) → lease_of s lane ≡ o → staged_under o ≡ None → option_any (leases_name body.name) (option_map lease_for o) ≡ true → MayCall name_of s lane (Put body)
      go None is none e = absurd (cc)
      go (Some l) is none e = (l, is, none, (sym (leased_as agrees l body.name) ∙ e, whole))

  pub may_stage_by : (unit : UnitValue) (lease : Lease) → guard.lease_of kept.guard lane ≡ Some lease → staged_in kept lane ≡ None → IsValidUnit unit
      → AllByRecursion (λ (dep : RecordDep). has_put dep.name lease ≡ true) unit.records → MayCall name_of s lane (Stage unit)
  may_stage_by unit lease leased unstaged valid put = go (lease_of s lane) refl (sym staged_lane ∙ unstaged) (sym leased_lane ∙ leased)
    where
      some_same : {x y : Lease} → Some x ≡ Some y → x ≡ y
      some_same e = cc

      go : (o : Option state.Lease) → lease_of s lane ≡ o → staged_under o ≡ None → option_map lease_for o ≡ Some lease → MayCall name_of s lane (Stage unit)
      go None is none e = absurd (cc)
      go (Some l) is none e = (l, is, none, (valid, all_put l.put (sorted_set text_cmp l.names) unit.records (subst (λ (le : Lease). AllByRecursion (λ (dep : RecordDep). has_put dep.name le ≡ true) unit.records) (sym (some_same e)) put)))

  pub may_publish_by : IsSome (staged_in kept lane) → MayCall name_of s lane Publish
  may_publish_by staged = subst IsSome staged_lane staged

  pub may_install_by : has_opened kept lane ≡ true → MayCall name_of s lane Install
  may_install_by opened = go s.import refl (ap (λ (k : Kept). has_opened k lane) (sym keeps.is) ∙ opened)
    where
      go : (o : Option Import) → s.import ≡ o → option_any (λ (i : Import). i.lane == lane) o ≡ true → MayCall name_of s lane Install
      go None is e = absurd (cc)
      go (Some i) is e = record { open_import = i; is_open = is; own = eqb-true i.lane lane e }
