-- What is kept of leases is the state's.
use Rattle.std.proofs.Common.{◌≡◌, ℕ, zero, suc, Bool, true, false, ◌||◌, List, [], ◌∷◌, map, slice_index_or, Option, Some, None, IfSome, is_some, option_map, refl, sym, ap, subst, ◌∙◌, arith}
use Rattle.ix_machine.specs.Needs.{option_any, has_name}
use Rattle.ix_machine.specs.Needs as machine
use Rattle.ix_machine.specs.Sound.{IsLeaseSound, IsSound}
use Rattle.ix_machine.specs.State as state
use Rattle.ix_machine.specs.State.{Files, State, lease_of}
use Rattle.ix_machine.specs.Step.{staged_by}
use Rattle.ix_guard.specs.Guarding as guard
use Rattle.ix_guard.specs.Listing.{need_list_of}
use Rattle.ix_guard.specs.OfMachine.{lease_for}
use Rattle.ix_guard.specs.Protection.{has_put, leases_name, was_put}
use Rattle.ix_ledger.specs.Kept.{Kept, staged_in}
use Rattle.ix_ledger.specs.OfState.{Keeps, staged_under}
use Rattle.ix_facts.specs.Given.{GuardLaws}
use Rattle.ix_facts.proofs.Entries.{lane_of_map}

pub staged_at : (leases : List (Option state.Lease)) (lane : ℕ) → slice_index_or (map staged_under leases) lane None ≡ staged_under (slice_index_or leases lane None)
staged_at [] zero = refl
staged_at [] (suc lane) = refl
staged_at (o ∷ leases) zero = refl
staged_at (o ∷ leases) (suc lane) = staged_at leases lane

-- a state with one lease and nothing else but files
alone : Files → state.Lease → State
alone records lease = record { publications = []; pending = None; records = records; leases = Some lease ∷ []; import = None; current = 0; held = [] }

or_false : (a : Bool) → (a || false) ≡ a
or_false true = refl
or_false false = refl

protected_alone : GuardLaws → (records : Files) (lease : state.Lease) (name : List ℕ) → (leases_name name (lease_for lease) || false) ≡ (has_name name lease.names || false)
unfolding need_list_of machine.is_needed alone
protected_alone laws records lease name = laws.protected (alone records lease) name

pub leased_same : GuardLaws → (lease : state.Lease) (name : List ℕ) → leases_name name (lease_for lease) ≡ has_name name lease.names
leased_same laws lease name = sym (or_false (leases_name name (lease_for lease))) ∙ protected_alone laws [] lease name ∙ or_false (has_name name lease.names)

by_lane : (P : state.Lease → Type 0) (lease : state.Lease) → P lease → (lane : ℕ) → IfSome (slice_index_or (Some lease ∷ []) lane None) P
by_lane P lease good zero = good
by_lane P lease good (suc lane) = tt

sound_alone : (name_of : List ℕ → List ℕ) (s : State) → IsSound name_of s → (lease : state.Lease) → IsLeaseSound name_of s.records lease → IsSound name_of (alone s.records lease)
unfolding alone
sound_alone name_of s sound lease good = record {
  marks = record { pending = tt; imported = tt; current = omega arith; held = λ lane. tt };
  needed = record { visible_ones = tt; pending = tt; imported = tt; current = tt; held = λ lane. tt };
  leases = by_lane (IsLeaseSound name_of s.records) lease good;
  rising = sound.rising;
}

guarded_alone : GuardLaws → (name_of : List ℕ → List ℕ) (s : State) → IsSound name_of s → (lease : state.Lease) → IsLeaseSound name_of s.records lease → (name : List ℕ) → has_put name (lease_for lease) ≡ has_name name lease.put
unfolding need_list_of machine.is_needed alone
guarded_alone laws name_of s sound lease good name = laws.guarded name_of (alone s.records lease) 0 name (sound_alone name_of s sound lease good)

pub lease_is_sound : (name_of : List ℕ → List ℕ) (s : State) (lane : ℕ) (lease : state.Lease) → IfSome (lease_of s lane) (IsLeaseSound name_of s.records) → lease_of s lane ≡ Some lease → IsLeaseSound name_of s.records lease
lease_is_sound name_of s lane lease sound is = subst (λ (o : Option state.Lease). IfSome o (IsLeaseSound name_of s.records)) is sound

-- ---- of each lane

pub staged_same : (name_of : List ℕ → List ℕ) (kept : Kept) (s : State) → Keeps name_of kept s → (lane : ℕ) → staged_in kept lane ≡ staged_by s lane
staged_same name_of kept s keeps lane = ap (λ (k : Kept). staged_in k lane) keeps.is ∙ staged_at s.leases lane

module _ (laws : GuardLaws) (name_of : List ℕ → List ℕ) (kept : Kept) (s : State) (keeps : Keeps name_of kept s) (lane : ℕ) where
  leased_lane : guard.lease_of kept.guard lane ≡ option_map lease_for (lease_of s lane)
  leased_lane = ap (λ (k : Kept). guard.lease_of k.guard lane) keeps.is ∙ lane_of_map lease_for s.leases lane

  has_lease : (o : Option state.Lease) → is_some (option_map lease_for o) ≡ is_some o
  has_lease None = refl
  has_lease (Some l) = refl

  pub leased_as : is_some (guard.lease_of kept.guard lane) ≡ is_some (lease_of s lane)
  leased_as = ap (λ (o : Option guard.Lease). is_some o) leased_lane ∙ has_lease (lease_of s lane)

  leased_by : (name : List ℕ) (o : Option state.Lease) → option_any (leases_name name) (option_map lease_for o) ≡ option_any (λ (l : state.Lease). has_name name l.names) o
  leased_by name None = refl
  leased_by name (Some l) = leased_same laws l name

  pub leased_names : (name : List ℕ) → option_any (leases_name name) (guard.lease_of kept.guard lane) ≡ option_any (λ (l : state.Lease). has_name name l.names) (lease_of s lane)
  leased_names name = ap (option_any (leases_name name)) leased_lane ∙ leased_by name (lease_of s lane)

  put_by : (name : List ℕ) (o : Option state.Lease) → IfSome o (IsLeaseSound name_of s.records) → option_any (has_put name) (option_map lease_for o) ≡ option_any (λ (l : state.Lease). has_name name l.put) o
  put_by name None sound = refl
  put_by name (Some l) sound = guarded_alone laws name_of s keeps.sound l sound name

  pub put_names : (name : List ℕ) → was_put kept.guard lane name ≡ machine.was_put s lane name
  put_names name = ap (option_any (has_put name)) leased_lane ∙ put_by name (lease_of s lane) (keeps.sound.leases lane)
