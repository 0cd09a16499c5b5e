-- Which records must stay: those that units need, and those that are leased.
use Rattle.std.specs.Prelude.{ℕ, ◌+◌, ◌||◌, Bool, false, not, List, ◌++◌, length, take, drop, filter, Option, Some, None}
use Rattle.std.specs.List.{list_any}
use Rattle.std.specs.Map.{keys_of}
use Rattle.std.specs.Str.{bytes_eq}
use Rattle.ix_model.specs.Units.{Units, units_at}
use Rattle.ix_machine.specs.State.{Lease, State, lease_of}

-- whether there is one, and it passes the test
abbrev pub option_any : {X : Type 0} → (X → Bool) → Option X → Bool
option_any test None = false
option_any test (Some x) = test x

-- whether the name is among the names
abbrev pub has_name : List ℕ → List (List ℕ) → Bool
has_name name names = list_any (λ other. bytes_eq other name) names

-- whether one of the units needs the record
abbrev pub units_need : List ℕ → Units → Bool
units_need name units = list_any (λ entry. list_any (λ dep. bytes_eq dep.name name) entry.1.unit.records) units

-- the units that are visible
abbrev pub visible : State → Units
visible s = units_at s.publications (length s.publications)

-- the units that are seen at a mark: all of them
abbrev pub seen_at : State → ℕ → Units
seen_at s mark = units_at s.publications mark

-- whether the record is needed by a visible unit, by one from before a pending change, or by one that is seen by the open
-- import, at the current version or at a version that a lane holds
unfoldable pub is_needed : State → List ℕ → Bool
is_needed s name =
    units_need name (visible s)
    || option_any (λ mark. units_need name (units_at s.publications mark)) s.pending
    || option_any (λ open_import. units_need name (seen_at s open_import.mark)) s.import
    || units_need name (seen_at s s.current)
    || list_any (option_any (λ mark. units_need name (seen_at s mark))) s.held

-- whether one of the leases has the name
abbrev pub is_leased : List ℕ → List (Option Lease) → Bool
is_leased name leases = list_any (option_any (λ lease. has_name name lease.names)) leases

-- what the collector must spare
abbrev pub is_protected : State → List ℕ → Bool
is_protected s name = is_needed s name || is_leased name s.leases

-- the leases of the lanes before a lane and behind it
abbrev pub other_leases : State → ℕ → List (Option Lease)
other_leases s lane = take lane s.leases ++ drop (lane + 1) s.leases

-- whether the record was put under the lane's lease
abbrev pub was_put : State → ℕ → List ℕ → Bool
was_put s lane name = option_any (λ lease. has_name name lease.put) (lease_of s lane)

-- what a put of a lane must not write over: what is needed, what another lane leases, and what the lane itself has put
abbrev pub is_guarded : State → ℕ → List ℕ → Bool
is_guarded s lane name = is_needed s name || is_leased name (other_leases s lane) || was_put s lane name

-- with no change of the units pending
abbrev pub settled : State → State
settled s = record s { pending = None }

-- the records that may go, rising: those that aren't protected once no change is pending
abbrev pub loose : State → List (List ℕ)
loose s = filter (λ name. not (is_protected (settled s) name)) (keys_of s.records)
