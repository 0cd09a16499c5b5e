-- What is known of record files that were read.
use Rattle.std.specs.Prelude.{◌≡◌, ℕ, List, Option, Some, None, IfSome}
use Rattle.std.specs.List.{AllByRecursion}
use Rattle.std.specs.Map.{lookup}
use Rattle.std.specs.BTreeMap.{is_at}
use Rattle.ix_types.specs.Row.{text_cmp}
use Rattle.ix_dir.specs.declared.area.Area.TheVariants.{Records}
use Rattle.ix_dir.specs.declared.moves.Move.{Move}
use Rattle.ix_dir.specs.Files.{bytes_at}
use Rattle.ix_dir.specs.Moves.{area_after, same_name}
use Rattle.ix_record.specs.declared.value.RecordValue.{RecordValue}
use Rattle.ix_record.specs.Spelling.{RecordSpelling}
use Rattle.ix_machine.specs.Opening.{whole_value}
use Rattle.ix_machine.specs.State.{Files}
use Rattle.ix_opening.specs.declared.records.RecordState.{RecordState}
use Rattle.ix_opening.specs.declared.records.RecordState.TheVariants.{Whole, Missing, Damaged}

-- bytes that have the name and spell a record
pub record FoundWhole (name_of : List ℕ → List ℕ) (name : List ℕ) (found : Option (List ℕ)) : Type 0 where
  pub bytes : List ℕ
  pub value : RecordValue
  pub there : found ≡ Some bytes
  pub named : name ≡ name_of bytes
  pub spelled : RecordSpelling bytes value

-- bytes that aren't so
pub record FoundDamaged (name_of : List ℕ → List ℕ) (name : List ℕ) (found : Option (List ℕ)) : Type 0 where
  pub bytes : List ℕ
  pub there : found ≡ Some bytes
  pub none : whole_value name_of name bytes ≡ None

-- what was found under a name is in this state
abbrev pub IsState : (List ℕ → List ℕ) → List ℕ → Option (List ℕ) → RecordState → Type 0
IsState name_of name found Whole = FoundWhole name_of name found
IsState name_of name found Missing = found ≡ None
IsState name_of name found Damaged = FoundDamaged name_of name found

-- what was read under the name is in this state, and where the moves are told, it is what stands there
pub record IsRead (name_of : List ℕ → List ℕ) (moves : Option (List Move)) (name : List ℕ) (state : RecordState) : Type 0 where
  pub found : Option (List ℕ)
  pub is : IsState name_of name found state
  pub stands : IfSome moves (λ m. found ≡ bytes_at (area_after m Records) name)

-- what is known of each name was read
abbrev pub AreRead : (List ℕ → List ℕ) → Option (List Move) → List (List ℕ × RecordState) → Type 0
AreRead name_of moves known = AllByRecursion (λ one. IsRead name_of moves one.0 one.1) known

-- what is known of a name
abbrev pub state_of : List (List ℕ × RecordState) → List ℕ → Option RecordState
state_of known name = lookup (same_name name) known

-- all that is known holds of these record files
abbrev pub Agrees : (List ℕ → List ℕ) → List (List ℕ × RecordState) → Files → Type 0
Agrees name_of known records =
    (name : List ℕ) (state : RecordState) → state_of known name ≡ Some state → IsState name_of name (lookup (is_at (text_cmp name)) records) state

-- all that was known is known, too
abbrev pub Keeps : List (List ℕ × RecordState) → List (List ℕ × RecordState) → Type 0
Keeps before now = (name : List ℕ) (state : RecordState) → state_of before name ≡ Some state → state_of now name ≡ Some state
