-- Runs worked by hand, of scripts with small plans.
use Rattle.std.specs.Prelude.{ℕ, if◌then◌else◌, List, [], ◌∷◌, codes, false, map, Option, option_map}
use Rattle.std.specs.Str.{bytes_eq}
use Rattle.ix_types.specs.declared.format.Format.TheVariants.{One}
use Rattle.ix_types.specs.declared.row.Query.TheVariants as query
use Rattle.ix_plan.specs.declared.plan.Script.{Script}
use Rattle.ix_plan.specs.declared.plan.Step.{Step}
use Rattle.ix_plan.specs.declared.plan.Step.TheVariants.{Build, Ask}
use Rattle.ix_plan.specs.declared.plan.UnitPlan.{UnitPlan}
use Rattle.ix_plan.specs.declared.plan.RecordPlan.{RecordPlan}
use Rattle.ix_machine.specs.declared.event.Outcome.{Outcome}
use Rattle.ix_machine.specs.Run.{Opening}
use Rattle.ix_lanes.specs.declared.answered.Answered.{Answered}
use Rattle.ix_replays.specs.Run.{Run, run_of, turns_of, transcript_of}

-- names of the units of the output paths abc and abd, and of a record
abbrev pub u : List ℕ
u = codes "ba7816bf"

abbrev pub v : List ℕ
v = codes "a52d159f"

abbrev pub n : List ℕ
n = codes "9c498cad"

abbrev pub named : List ℕ → List ℕ
named bytes = if bytes_eq bytes (codes "abc") then u else (if bytes_eq bytes (codes "abd") then v else n)

-- a Struct, defined in line 1
abbrev pub small_record : RecordPlan
small_record = record {
  format = One;
  path = codes "a.swift";
  system = false;
  symbols = (record { usr = codes "s:A"; name = codes "A"; kind = 6; lang = 100; props = 0; codegen = [] }) ∷ [];
  occurrences = (record { usr = codes "s:A"; line = 1; col = 8; roles = 2; relations = [] }) ∷ [];
}

abbrev pub plan_of : List ℕ → UnitPlan
plan_of output = record { output = output; main = codes "a.swift"; «module» = codes "M"; system = false; units = []; records = small_record ∷ []; files = []; includes = [] }

-- the build of an output path, and the ask for the units that list the file
abbrev pub builds : List ℕ → Step
builds output = Build (plan_of output)

abbrev pub lists_the_file : Step
lists_the_file = Ask (query.Units (codes "a.swift"))

abbrev pub empty : Opening
empty = record { units = []; refused = []; records = [] }

abbrev pub script_of : List (List Step) → List ℕ → Script
script_of lanes order = record { lanes = lanes; order = order }

-- how the calls ended, and the results of the asks
pub record Shown : Type 0 where
  pub outcomes : List Outcome
  pub answers : List (List Answered)

abbrev pub shown_by : Script → Run → Shown
shown_by script run = record { outcomes = map (λ event. event.outcome) run.events; answers = (transcript_of named script empty run).answers }

-- what a run over an empty store shows
abbrev pub run_shows : List (List Step) → List ℕ → List Outcome → Option Shown
run_shows lanes order flags = option_map (shown_by (script_of lanes [])) (run_of named (script_of lanes []) empty order flags)

-- the order that a replay takes over an empty store
abbrev pub turns : List (List Step) → List ℕ → List Outcome → List ℕ
turns lanes order flags = turns_of named (script_of lanes order) empty flags
