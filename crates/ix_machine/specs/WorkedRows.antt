-- Runs worked by hand: calls, flags and outcomes. Names are cut to their first eight digits.
use Rattle.std.specs.Prelude.{ℕ, if◌then◌else◌, List, [], ◌∷◌, ◌++◌, codes, false, Option, Some, option_map, option_and_then}
use Rattle.std.specs.Str.{bytes_eq}
use Rattle.ix_record.specs.declared.body.Body.{Body}
use Rattle.ix_unit.specs.declared.value.RecordDep.{RecordDep}
use Rattle.ix_unit.specs.declared.value.UnitValue.{UnitValue}
use Rattle.ix_machine.specs.declared.event.Outcome.{Outcome}
use Rattle.ix_machine.specs.declared.event.Outcome.TheVariants.{Done, Unsynced, Fault, Lost, Damaged}
use Rattle.ix_machine.specs.declared.event.Purpose.TheVariants as purpose
use Rattle.ix_machine.specs.Given.{Given, Lease, Put, Stage, Publish, Remove, Scan, Load, Install, Adopt, Release, Collect}
use Rattle.ix_machine.specs.Run.{Opening, Turn, begun}
use Rattle.ix_machine.specs.State.{State}
use Rattle.ix_machine.specs.Step.{Stepped, step}

-- the outcomes of the calls, one after the other. None where a call doesn't allow its flag
abbrev pub outcomes : (List ℕ → List ℕ) → State → List Turn → Option (List Outcome)
outcomes name_of s [] = Some []
outcomes name_of s (turn ∷ turns) =
    option_and_then (λ (stepped : Stepped). option_map (λ others. stepped.outcome ∷ others) (outcomes name_of stepped.state turns)) (step name_of s turn.lane turn.given turn.flag)

abbrev pub empty : Opening
empty = record { units = []; refused = []; records = [] }

-- the names of the output paths abc and abd
abbrev pub u : List ℕ
u = codes "ba7816bf"

abbrev pub v : List ℕ
v = codes "a52d159f"

-- the names of two records
abbrev pub n : List ℕ
n = codes "9c498cad"

abbrev pub m : List ℕ
m = codes "6293b642"

abbrev pub name_of_output : List ℕ → List ℕ
name_of_output output = if bytes_eq output (codes "abc") then u else v

-- the outcomes of two lanes over an empty store
abbrev pub over_empty : List Turn → Option (List Outcome)
over_empty turns = outcomes name_of_output (begun empty 2) turns

abbrev pub body_of : List ℕ → Body
body_of name = record { name = name; bytes = name }

abbrev pub dep_on : List ℕ → List ℕ → RecordDep
dep_on path name = record { path = path; system = false; name = name }

abbrev pub unit_with : List ℕ → List RecordDep → UnitValue
unit_with output records = record {
  output = output;
  main_file = codes "a.swift";
  module_name = codes "M";
  system = false;
  units = [];
  records = records;
  files = [];
  includes = [];
}

abbrev pub one_record : List ℕ → List ℕ → UnitValue
one_record output name = unit_with output (dep_on (codes "a.swift") name ∷ [])

-- a call that doesn't fail
abbrev pub by : ℕ → Given → Turn
by lane given = record { lane = lane; given = given; flag = Done }

abbrev pub with_flag : ℕ → Given → Outcome → Turn
with_flag lane given flag = record { lane = lane; given = given; flag = flag }

-- a build of one record
abbrev pub build : ℕ → List ℕ → List ℕ → Outcome → List Turn
build lane output name flag = by lane (Lease (name ∷ [])) ∷ by lane (Put (body_of name)) ∷ by lane (Stage (one_record output name)) ∷ with_flag lane Publish flag ∷ []

-- a poll that loads one record
abbrev pub poll : ℕ → List ℕ → List Turn
poll lane name = by lane Scan ∷ by lane (Load name purpose.Import) ∷ by lane Install ∷ []

abbrev pub abc : List ℕ
abc = codes "abc"

-- a leased record is spared
abbrev pub spares_a_lease : List Turn
spares_a_lease = by 0 (Lease (n ∷ [])) ∷ by 0 (Put (body_of n)) ∷ by 1 Collect ∷ by 0 (Stage (one_record abc n)) ∷ by 0 Publish ∷ []

-- a held version's record is spared until it is released
abbrev pub spares_a_hold : List Turn
spares_a_hold =
    build 0 abc n Done ++ poll 0 n ++ by 1 Adopt ∷ [] ++ build 0 abc m Done ++ poll 0 m
    ++ by 0 Collect ∷ by 0 Collect ∷ by 1 (Load n purpose.Ask) ∷ by 1 Release ∷ by 0 Collect ∷ []

-- the open import's record is spared
abbrev pub spares_an_import : List Turn
spares_an_import = build 0 abc n Done ++ by 0 Scan ∷ [] ++ build 1 abc m Done ++ by 1 Collect ∷ by 0 (Load n purpose.Import) ∷ by 0 Install ∷ []

-- a publish that isn't synced, and one behind it
abbrev pub publishes_twice : List Turn
publishes_twice = build 0 abc n Unsynced ++ build 0 (codes "abd") n Done

-- a pending change's record is spared until the change is settled, and a collect that fails settles nothing
abbrev pub spares_what_pends : List Turn
spares_what_pends = build 0 abc n Done ++ build 0 abc m Unsynced ++ with_flag 0 Collect Fault ∷ by 0 Collect ∷ []

abbrev pub collects_around_a_build : List Turn
collects_around_a_build = by 0 Collect ∷ [] ++ build 0 abc n Done ++ by 0 Collect ∷ []

abbrev pub removes_around_a_build : List Turn
removes_around_a_build = by 0 (Remove abc) ∷ [] ++ build 0 abc n Done ++ by 0 (Remove abc) ∷ by 0 (Remove abc) ∷ []

-- a unit that lists a record under two paths: it is needed until the unit is gone
abbrev pub lists_a_record_twice : List Turn
lists_a_record_twice =
    by 0 (Lease (n ∷ [])) ∷ by 0 (Put (body_of n)) ∷ by 0 (Stage (unit_with abc (dep_on (codes "a.swift") n ∷ dep_on (codes "b.swift") n ∷ []))) ∷ by 0 Publish
    ∷ by 1 Collect ∷ by 0 (Remove abc) ∷ by 1 Collect ∷ []

-- failures: a put and a stage drop the lease, a publish over another output path clashes, loads and scans close the import
abbrev pub fails : List Turn
fails =
    by 0 (Lease (n ∷ m ∷ [])) ∷ with_flag 0 (Put (body_of n)) Fault ∷ by 0 (Lease (n ∷ [])) ∷ by 0 (Put (body_of n)) ∷ with_flag 0 (Stage (one_record abc n)) Fault ∷ by 1 Collect
    ∷ with_flag 1 Scan Fault ∷ with_flag 1 Scan (Lost u) ∷ by 1 Scan ∷ with_flag 1 (Load n purpose.Import) (Damaged n) ∷ with_flag 0 (Remove abc) Done ∷ by 0 Release ∷ by 0 Adopt ∷ []

-- a record of that name with other bytes
abbrev pub other_body : List ℕ → Body
other_body name = record { name = name; bytes = 0 ∷ name }

-- a put over other bytes clashes where another lane has put the record, or leases it alone; where the lane itself has put it; and where a
-- visible unit needs it. Else it is written over
abbrev pub puts_over_others : List Turn
puts_over_others =
    by 0 (Lease (n ∷ [])) ∷ by 0 (Put (body_of n)) ∷ by 1 (Lease (n ∷ [])) ∷ by 1 (Put (other_body n))
    ∷ with_flag 0 (Stage (one_record abc n)) Fault ∷ by 0 (Lease (n ∷ [])) ∷ by 1 (Lease (n ∷ [])) ∷ by 1 (Put (other_body n))
    ∷ by 0 (Put (other_body n)) ∷ by 0 (Put (body_of n))
    ∷ by 0 (Lease (n ∷ [])) ∷ by 0 (Put (body_of n)) ∷ by 0 (Stage (one_record abc n)) ∷ by 0 Publish
    ∷ by 1 (Lease (n ∷ [])) ∷ by 1 (Put (other_body n)) ∷ by 0 (Remove abc) ∷ by 1 (Lease (n ∷ [])) ∷ by 1 (Put (other_body n)) ∷ []

-- a record that is shared counts as put, too
abbrev pub shares : List Turn
shares =
    by 0 (Lease (n ∷ [])) ∷ by 0 (Put (body_of n)) ∷ with_flag 0 (Stage (one_record abc n)) Fault ∷ by 0 (Lease (n ∷ [])) ∷ by 0 (Put (body_of n))
    ∷ by 0 (Put (other_body n)) ∷ []

-- a lane that installs holds what it installed, until it releases it
abbrev pub installs_hold : List Turn
installs_hold = build 0 abc n Done ++ poll 0 n ++ build 1 abc m Done ++ poll 1 m ++ by 0 Collect ∷ by 0 Release ∷ by 0 Collect ∷ []

-- a store in which one unit was found
abbrev pub one_unit : Opening
one_unit = record { units = (u, record { unit = one_record abc n; values = [] }) ∷ []; refused = []; records = (n, n) ∷ [] }

abbrev pub over_one_unit : List Turn → Option (List Outcome)
over_one_unit turns = outcomes name_of_output (begun one_unit 2) turns

-- what was found is published, and not current; the open import spares what was removed
abbrev pub removes_what_was_found : List Turn
removes_what_was_found = by 0 Adopt ∷ by 0 Collect ∷ by 0 Scan ∷ by 0 (Remove abc) ∷ by 1 Collect ∷ by 1 Scan ∷ by 1 Collect ∷ []

-- a unit of another output path whose name is the same
abbrev pub publishes_over_another : List Turn
publishes_over_another = build 0 (codes "abd") n Done ++ build 0 (codes "abe") n Done ++ by 0 (Remove (codes "abe")) ∷ by 0 (Remove (codes "abd")) ∷ []

-- an import that is installed is open no more
abbrev pub installs_twice : List Turn
installs_twice = poll 0 n ++ by 0 Install ∷ []

-- a lease alone spares a record that stands, also one of another lane, until it is dropped
abbrev pub spares_what_is_leased : List Turn
spares_what_is_leased =
    by 0 (Lease (n ∷ [])) ∷ by 0 (Put (body_of n)) ∷ with_flag 0 (Stage (one_record abc n)) Fault ∷ by 1 (Lease (n ∷ [])) ∷ by 0 Collect
    ∷ with_flag 1 (Put (body_of n)) Fault ∷ by 0 Collect ∷ []

-- a unit of two records: both are needed until the unit is gone
abbrev pub lists_two_records : List Turn
lists_two_records =
    by 0 (Lease (n ∷ m ∷ [])) ∷ by 0 (Put (body_of n)) ∷ by 0 (Put (body_of m))
    ∷ by 0 (Stage (unit_with abc (dep_on (codes "a.swift") n ∷ dep_on (codes "b.swift") m ∷ []))) ∷ by 0 Publish
    ∷ by 1 Collect ∷ by 0 (Remove abc) ∷ by 1 Collect ∷ by 1 Collect ∷ by 1 Collect ∷ []
