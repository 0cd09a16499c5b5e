-- Names that are noted as put.
use Rattle.std.proofs.Common.{◌≡◌, ℕ, zero, suc, Bool, true, false, cond, ◌&&◌, List, [], ◌∷◌, refl, sym, ap, subst, ◌∙◌, Option, Some, None, option_map, is_some, IsSome, slice_set, slice_index_or}
use Rattle.std.specs.declared.cmp.Ordering.TheVariants.{Less, Equal, Greater}
use Rattle.std.specs.Ordering.{match_ordering, is_eq}
use Rattle.std.specs.Cmp.{tied_itself}
use Rattle.std.specs.Cmp.Lexicographic.{nat_list_cmp_total, same_text, texts_ties}
use Rattle.std.specs.List.{AllByRecursion, list_all}
use Rattle.std.specs.Map.{lookup}
use Rattle.std.specs.BTreeMap.{insert_entry, is_at}
use Rattle.ix_types.specs.Row.{text_cmp}
use Rattle.ix_unit.specs.declared.value.RecordDep.{RecordDep}
use Rattle.ix_machine.specs.Needs.{option_any}
use Rattle.ix_guard.specs.Guarding.{Guarding, Lease, lease_of, with_put}
use Rattle.ix_guard.specs.Protection.{leases_name, has_put, was_put}
use Rattle.ix_ledger.specs.Effects.{noted}
use Rattle.ix_ledger.specs.Kept.{Kept}
use Rattle.ix_library.specs.Conditions.{has_put_each}

abbrev At : List ℕ → Lease → Option Bool
At name lease = lookup (is_at (text_cmp name)) lease

-- ---- a name that is put

put_now : (name : List ℕ) (lease : Lease) → has_put name (with_put name lease) ≡ true
put_now name [] = ap (λ (b : Bool). option_any (λ (put : Bool). put) (cond b (Some true) None)) (ap is_eq (tied_itself nat_list_cmp_total name))
put_now name (e ∷ lease) =
    (elim (text_cmp name e.0) as (λ r. text_cmp name e.0 ≡ r → option_any (λ (put : Bool). put) (At name (match_ordering r ((name, true) ∷ e ∷ lease) ((e.0, true) ∷ lease) (e ∷ insert_entry text_cmp lease name true))) ≡ true) [
      | Less ↦ λ c. ap (λ (b : Bool). option_any (λ (put : Bool). put) (cond b (Some true) (At name (e ∷ lease)))) (ap is_eq (tied_itself nat_list_cmp_total name))
      | Equal ↦ λ c. ap (λ r. option_any (λ (put : Bool). put) (cond (is_eq r) (Some true) (At name lease))) c
      | Greater ↦ λ c. ap (λ r. option_any (λ (put : Bool). put) (cond (is_eq r) (Some e.1) (At name (insert_entry text_cmp lease name true)))) c ∙ put_now name lease
    ]) refl

abbrev put_of : Option Bool → Bool
put_of o = option_any (λ (put : Bool). put) o

first : (b : Bool) (o : Option Bool) → put_of o ≡ true → put_of (cond b (Some true) o) ≡ true
first true o h = refl
first false o h = h

swapped : (b : Bool) (put : Bool) (o : Option Bool) → put_of (cond b (Some put) o) ≡ true → put_of (cond b (Some true) o) ≡ true
swapped true put o h = refl
swapped false put o h = h

later : (b : Bool) (put : Bool) (o p : Option Bool) → (put_of o ≡ true → put_of p ≡ true) → put_of (cond b (Some put) o) ≡ true → put_of (cond b (Some put) p) ≡ true
later true put o p k h = h
later false put o p k h = k h

-- one name more that is put leaves what another name has, or puts it too
put_still : (name other : List ℕ) (lease : Lease) → has_put other lease ≡ true → has_put other (with_put name lease) ≡ true
put_still name other [] h = absurd (cc)
put_still name other (e ∷ lease) h =
    (elim (text_cmp name e.0) as (λ r. text_cmp name e.0 ≡ r → option_any (λ (put : Bool). put) (At other (match_ordering r ((name, true) ∷ e ∷ lease) ((e.0, true) ∷ lease) (e ∷ insert_entry text_cmp lease name true))) ≡ true) [
      | Less ↦ λ c. first (is_eq (text_cmp other name)) (At other (e ∷ lease)) h
      | Equal ↦ λ c. swapped (is_eq (text_cmp other e.0)) e.1 (At other lease) h
      | Greater ↦ λ c. later (is_eq (text_cmp other e.0)) e.1 (At other lease) (At other (insert_entry text_cmp lease name true)) (put_still name other lease) h
    ]) refl

-- ---- the lane's lease

set_there : (leases : List (Option Lease)) (lane : ℕ) (x : Option Lease) → IsSome (slice_index_or leases lane None) → slice_index_or (slice_set leases lane x) lane None ≡ x
set_there [] lane x some = absurd (cc)
set_there (o ∷ leases) zero x some = refl
set_there (o ∷ leases) (suc lane) x some = set_there leases lane x some

any_some : {X : Type 0} (test : X → Bool) (o : Option X) → option_any test o ≡ true → IsSome o
any_some test None h = absurd (cc)
any_some test (Some x) h = refl

noted_lease : (kept : Kept) (lane : ℕ) (name : List ℕ) → IsSome (lease_of kept.guard lane) → lease_of (noted kept lane name).guard lane ≡ option_map (with_put name) (lease_of kept.guard lane)
noted_lease kept lane name some = set_there kept.guard.leases lane (option_map (with_put name) (lease_of kept.guard lane)) some

pub noted_now : (kept : Kept) (lane : ℕ) (name : List ℕ) → option_any (leases_name name) (lease_of kept.guard lane) ≡ true → was_put (noted kept lane name).guard lane name ≡ true
noted_now kept lane name h =
    ap (option_any (has_put name)) (noted_lease kept lane name (any_some (leases_name name) (lease_of kept.guard lane) h)) ∙ go (lease_of kept.guard lane) h
  where
    go : (o : Option Lease) → option_any (leases_name name) o ≡ true → option_any (has_put name) (option_map (with_put name) o) ≡ true
    go None e = absurd (cc)
    go (Some l) e = put_now name l

pub noted_still : (kept : Kept) (lane : ℕ) (name other : List ℕ) → was_put kept.guard lane other ≡ true → was_put (noted kept lane name).guard lane other ≡ true
noted_still kept lane name other h =
    ap (option_any (has_put other)) (noted_lease kept lane name (any_some (has_put other) (lease_of kept.guard lane) h)) ∙ go (lease_of kept.guard lane) h
  where
    go : (o : Option Lease) → option_any (has_put other) o ≡ true → option_any (has_put other) (option_map (with_put name) o) ≡ true
    go None e = absurd (cc)
    go (Some l) e = put_still name other l e

-- ---- the records of a unit

each_of : (lease : Lease) (deps : List RecordDep) → AllByRecursion (λ (dep : RecordDep). has_put dep.name lease ≡ true) deps → list_all (λ (dep : RecordDep). has_put dep.name lease) deps ≡ true
each_of lease [] all = refl
each_of lease (dep ∷ deps) all = ap (λ (b : Bool). b && list_all (λ (d : RecordDep). has_put d.name lease) deps) all.0 ∙ each_of lease deps all.1

pub each_noted : (guard : Guarding) (lane : ℕ) (deps : List RecordDep) → IsSome (lease_of guard lane) → AllByRecursion (λ (dep : RecordDep). was_put guard lane dep.name ≡ true) deps → has_put_each deps (lease_of guard lane) ≡ true
each_noted guard lane deps some all = go (lease_of guard lane) some all
  where
    go : (o : Option Lease) → IsSome o → AllByRecursion (λ (dep : RecordDep). option_any (has_put dep.name) o ≡ true) deps → has_put_each deps o ≡ true
    go None e a = absurd (cc)
    go (Some l) e a = each_of l deps a

pub leased_where_put : (guard : Guarding) (lane : ℕ) (name : List ℕ) → was_put guard lane name ≡ true → IsSome (lease_of guard lane)
leased_where_put guard lane name h = any_some (has_put name) (lease_of guard lane) h
