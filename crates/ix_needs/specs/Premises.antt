-- What an answer rests on.
use Rattle.std.specs.Prelude.{ℕ, ◌≡◌, ◌≤◌, Bool, true, false, List, length, Some, Contains}
use Rattle.ix_types.specs.declared.row.Query.{Query}
use Rattle.ix_types.specs.declared.row.Query.TheVariants as ask
use Rattle.ix_record.specs.declared.value.RecordValue.{RecordValue}
use Rattle.ix_unit.specs.declared.value.RecordDep.{RecordDep}
use Rattle.ix_model.specs.declared.publication.StoredUnit.{StoredUnit}
use Rattle.ix_model.specs.Units.{Units, NamesRise}
use Rattle.ix_answers.specs.Meanings.{IsRecord}
use Rattle.ix_answers.specs.Needs.{need_of}
use Rattle.ix_answers.specs.Rising.{AreLoaded}
use Rattle.ix_lookups.specs.Loaded.{Loaded, body_named, loaded_names}

-- whether a query is no walk
abbrev pub is_plain : Query → Bool
is_plain (ask.Incoming usr depth) = false
is_plain (ask.Outgoing usr depth) = false
is_plain (ask.Supertypes usr depth) = false
is_plain (ask.Subtypes usr depth) = false
is_plain (ask.Def usr) = true
is_plain (ask.Refs usr) = true
is_plain (ask.Occ usr roles) = true
is_plain (ask.Rel usr roles) = true
is_plain (ask.Callers usr) = true
is_plain (ask.Overrides usr) = true
is_plain (ask.Name name) = true
is_plain (ask.Pattern text start end fold) = true
is_plain (ask.Symbols path) = true
is_plain (ask.Mains path) = true
is_plain (ask.Units path) = true
is_plain (ask.Includes path) = true
is_plain (ask.Includers path) = true
is_plain (ask.Codegen codegen) = true

-- each record dependency of the units has a value
abbrev pub AreValued : Units → Type 0
AreValued units = (entry : List ℕ × StoredUnit) → Contains units entry → length entry.1.unit.records ≤ length entry.1.values

-- each loaded body is the value that the units have under its name
abbrev pub AreBodiesOf : Units → Loaded → Type 0
AreBodiesOf units bodies =
    (dep : RecordDep) (value body : RecordValue) → IsRecord units dep value → body_named dep.name bodies ≡ Some body → value ≡ body

-- the units stand in the order of their names, with all their values, and the loaded bodies are some of these
pub record Holds (units : Units) (bodies : Loaded) : Type 0 where
  pub rises : NamesRise units
  pub valued : AreValued units
  pub bodies_are : AreBodiesOf units bodies

-- all records that a query needs are loaded
abbrev pub AreNeedsLoaded : Query → Units → Loaded → Type 0
AreNeedsLoaded query units bodies = AreLoaded (loaded_names bodies) (need_of query units)
