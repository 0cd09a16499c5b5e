-- What the calls of a shelf answer.
use Rattle.std.specs.Prelude.{◌≡◌, ℕ, List, Bool, true, false, if◌then◌else◌, Option, Some, None, IfSome, Result, Ok, Err, nat_eq}
use Rattle.std.specs.Cmp.Lexicographic.{pointwise}
use Rattle.ix_dir.specs.declared.area.Area.TheVariants.{Records}
use Rattle.ix_dir.specs.Files.{bytes_at}
use Rattle.ix_dir.specs.Images.{Value}
use Rattle.ix_dir.specs.declared.moves.Move.{Move}
use Rattle.ix_dir.specs.Moves.{area_after}
use Rattle.ix_record.specs.declared.body.Body.{Body}
use Rattle.ix_record.specs.declared.value.RecordValue.{RecordValue}
use Rattle.ix_record.specs.Spelling.{RecordSpelling}
use Rattle.ix_record.specs.Whole.{IsWhole}
use Rattle.ix_shelf.specs.declared.fault.PutError.{PutError}
use Rattle.ix_shelf.specs.declared.fault.PutError.TheVariants.{Fault, Clash, Memory}
use Rattle.ix_shelf.specs.declared.fault.LoadError.{LoadError}
use Rattle.ix_shelf.specs.declared.fault.LoadError.TheVariants as load
use Rattle.ix_shelf.specs.declared.shelf.Put.{Put}
use Rattle.ix_shelf.specs.declared.shelf.Put.TheVariants.{Written, Shared}

-- what stands under a name in the records area
abbrev pub record_at : List Move → List ℕ → Value
record_at moves name = bytes_at (area_after moves Records) name

-- what a put answers where nothing fails, by what stands under its name
abbrev pub put_answer : Bool → Body → Value → Result Put PutError
put_answer protected body None = Ok Written
put_answer protected body (Some there) =
    if pointwise nat_eq there body.bytes then Ok Shared else (if protected then Err (Clash body.name) else Ok Written)

-- the answer is this one, unless the directory failed or memory was wanting
abbrev pub Answers : Result Put PutError → Result Put PutError → Type 0
Answers (Ok put) want = Ok put ≡ want
Answers (Err Fault) want = Unit {0}
Answers (Err (Clash name)) want = Err (Clash name) ≡ want
Answers (Err Memory) want = Unit {0}

-- a put that failed
abbrev pub put_failed : Result Put PutError → Bool
put_failed (Ok put) = false
put_failed (Err Fault) = true
put_failed (Err (Clash name)) = false
put_failed (Err Memory) = false

-- a load that failed
abbrev pub load_failed : {X : Type 0} → Result X LoadError → Bool
load_failed (Ok value) = false
load_failed (Err load.Fault) = true
load_failed (Err (load.Lost name)) = false
load_failed (Err (load.Damaged name)) = false
load_failed (Err load.Memory) = false

-- the record of this name stands there whole
pub record StandsWhole (name_of : List ℕ → List ℕ) (name : List ℕ) (moves : List Move) : Type 0 where
  pub bytes : List ℕ
  pub stands : record_at moves name ≡ Some bytes
  pub whole : IsWhole name_of (record { name = name; bytes = bytes })

-- the value is spelled by bytes that have the name, and that stand under it where the moves are told
pub record IsRecordOf (name_of : List ℕ → List ℕ) (name : List ℕ) (moves : Option (List Move)) (value : RecordValue) : Type 0 where
  pub bytes : List ℕ
  pub named : name ≡ name_of bytes
  pub spelled : RecordSpelling bytes value
  pub stands : IfSome moves (λ m. record_at m name ≡ Some bytes)
