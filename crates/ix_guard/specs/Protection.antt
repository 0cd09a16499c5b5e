-- Which records are guarded from a lane, which are protected from the collector, and which of the listed ones goes first.
use Rattle.std.specs.Prelude.{◌≡◌, ◌≢◌, ℕ, ◌+◌, ◌&&◌, ◌||◌, Bool, true, false, not, List, ◌++◌, take, drop, Option, Some, None, Contains}
use Rattle.std.specs.List.{AllByRecursion, list_any}
use Rattle.std.specs.Option.{is_some}
use Rattle.std.specs.Map.{lookup}
use Rattle.std.specs.BTreeMap.{is_at}
use Rattle.std.specs.declared.cmp.Ordering.TheVariants.{Greater}
use Rattle.std.specs.Ordering.{is_lt}
use Rattle.ix_types.specs.Row.{text_cmp}
use Rattle.ix_machine.specs.Needs.{option_any, has_name}
use Rattle.ix_guard.specs.Counts.{Counts, names_of}
use Rattle.ix_guard.specs.Guarding.{Guarding, Lease, lease_of}

-- whether a need list has the name
abbrev pub list_needs : List ℕ → Counts → Bool
list_needs name counts = has_name name (names_of counts)

-- whether a need list of the guard has the name: that of the visible units, of those before an unsynced change, of the
-- open import, of the current version, or of a version that a lane holds
abbrev pub is_needed : Guarding → List ℕ → Bool
is_needed g name =
    list_needs name g.visible
    || option_any (list_needs name) g.unsynced
    || option_any (list_needs name) g.import
    || list_needs name g.current
    || list_any (option_any (list_needs name)) g.held

-- whether the lease has the name
abbrev pub leases_name : List ℕ → Lease → Bool
leases_name name lease = is_some (lookup (is_at (text_cmp name)) lease)

-- whether one of the leases has the name
abbrev pub is_leased : List ℕ → List (Option Lease) → Bool
is_leased name leases = list_any (option_any (leases_name name)) leases

-- the leases of the lanes before a lane and behind it
abbrev pub other_leases : Guarding → ℕ → List (Option Lease)
other_leases g lane = take lane g.leases ++ drop (lane + 1) g.leases

-- whether the lease has the name, noted as put
abbrev pub has_put : List ℕ → Lease → Bool
has_put name lease = option_any (λ put. put) (lookup (is_at (text_cmp name)) lease)

-- whether the record was put under the lane's lease
abbrev pub was_put : Guarding → ℕ → List ℕ → Bool
was_put g lane name = option_any (has_put name) (lease_of g lane)

-- what a lane must not write over: what is needed, what another lane leases, and what the lane itself has put
abbrev pub is_guarded : Guarding → ℕ → List ℕ → Bool
is_guarded g lane name = is_needed g name || is_leased name (other_leases g lane) || was_put g lane name

-- what the collector must spare: what is needed, and what is leased
abbrev pub is_protected : Guarding → List ℕ → Bool
is_protected g name = is_needed g name || is_leased name g.leases

-- the name is among them, isn't protected, and no lesser one of them is without protection
pub record IsLeastLoose (g : Guarding) (names : List (List ℕ)) (name : List ℕ) : Type 0 where
  pub listed : Contains names name
  pub loose : is_protected g name ≡ false
  pub least : AllByRecursion (λ other. is_protected g other ≡ false → text_cmp name other ≢ Greater) names

-- the least of the names that aren't protected; none exactly where all are
abbrev pub IsFirstLoose : Guarding → List (List ℕ) → Option (List ℕ) → Type 0
IsFirstLoose g names None = AllByRecursion (λ other. is_protected g other ≡ true) names
IsFirstLoose g names (Some name) = IsLeastLoose g names name

-- whether a name isn't protected, and is less than the first of those that aren't
abbrev pub comes_first : Guarding → List ℕ → Option (List ℕ) → Bool
comes_first g name None = not (is_protected g name)
comes_first g name (Some first) = is_lt (text_cmp name first) && not (is_protected g name)
