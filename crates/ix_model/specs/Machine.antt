-- The machine: its state, and what each step answers and leaves.
use Rattle.std.specs.Prelude.{ℕ, ◌==◌, if◌then◌else◌, List, [], ◌∷◌, ◌++◌, length, map, replicate, slice_set, Option, Some, None, option_and_then}
use Rattle.std.specs.Str.{bytes_eq}
use Rattle.ix_model.specs.declared.event.Call.{Call}
use Rattle.ix_model.specs.declared.event.Call.TheVariants as calls
use Rattle.ix_model.specs.declared.event.Outcome.{Outcome}
use Rattle.ix_model.specs.declared.event.Outcome.TheVariants.{Synced, Clash, At}
use Rattle.ix_model.specs.declared.publication.StoredUnit.{StoredUnit}
use Rattle.ix_model.specs.declared.publication.Publication.{Publication}
use Rattle.ix_model.specs.declared.publication.Publication.TheVariants.{Put}
use Rattle.ix_model.specs.Units.{Units, units_at, unit_named}

-- an import that a lane has opened, of the units at a mark
pub record Import : Type 0 where
  pub lane : ℕ
  pub mark : ℕ

pub record State : Type 0 where
  -- all publications, the first of them first
  pub publications : List Publication
  -- the open import
  pub import : Option Import
  -- the mark of the current version
  pub current : ℕ
  -- for each lane the mark of the version that it holds
  pub held : List (Option ℕ)

-- what opening a store finds: its sound units, rising by name
pub record Opened : Type 0 where
  pub units : Units

-- a store with nothing in it
abbrev pub empty_opening : Opened
empty_opening = record { units = [] }

-- the state after opening: one publication for each unit found, the mark 0, and nothing held
abbrev pub start : Opened → ℕ → State
start opened lanes = record {
  publications = map (λ entry. Put entry.0 entry.1) opened.units;
  import = None;
  current = 0;
  held = replicate lanes None;
}

-- what a call is given
pub data Given : Type 0 where
  Publish : List ℕ → StoredUnit → Given
  Scan : Given
  Install : Given
  Adopt : Given

-- the call that an event shows
abbrev pub call_of : Given → Call
call_of (Publish name unit) = calls.Publish name
call_of Scan = calls.Scan
call_of Install = calls.Install
call_of Adopt = calls.Adopt

-- how a step ends, and the state that it leaves
pub record Stepped : Type 0 where
  pub outcome : Outcome
  pub state : State

-- the units that are visible
abbrev pub visible : State → Units
visible s = units_at s.publications (length s.publications)

-- the state in which a lane holds the version of a mark
abbrev pub holding : State → ℕ → ℕ → State
holding s lane mark = record s { held = slice_set s.held lane (Some mark) }

abbrev pub put : State → List ℕ → StoredUnit → Stepped
put s name unit = record { outcome = Synced; state = record s { publications = s.publications ++ Put name unit ∷ [] } }

-- a unit of that name that has another output path stands in the way
abbrev pub publish : State → List ℕ → StoredUnit → Option StoredUnit → Stepped
publish s name unit None = put s name unit
publish s name unit (Some other) =
    if bytes_eq other.unit.output unit.unit.output then put s name unit else record { outcome = Clash; state = s }

abbrev pub install : State → ℕ → Import → Option Stepped
install s lane open_import =
    if open_import.lane == lane
    then Some (record { outcome = At open_import.mark; state = holding (record s { import = None; current = open_import.mark }) lane open_import.mark })
    else None

-- one step. There is none where a lane installs without an import of its own
abbrev pub step : State → ℕ → Given → Option Stepped
step s lane (Publish name unit) = Some (publish s name unit (unit_named name (visible s)))
step s lane Scan = Some (record {
  outcome = At (length s.publications);
  state = record s { import = Some (record { lane = lane; mark = length s.publications }) };
})
step s lane Install = option_and_then (install s lane) s.import
step s lane Adopt = Some (record { outcome = At s.current; state = holding s lane s.current })
