-- A record file that is what its name says.
use Rattle.std.specs.Prelude.{◌≡◌, List, ℕ}
use Rattle.ix_record.specs.declared.body.Body.{Body}
use Rattle.ix_record.specs.declared.value.RecordValue.{RecordValue}
use Rattle.ix_record.specs.Spelling.{RecordSpelling}

-- under a naming, the name is that of the bytes, and the bytes are those of a record
pub record IsWhole (name_of : List ℕ → List ℕ) (body : Body) : Type 0 where
  pub named : body.name ≡ name_of body.bytes
  pub spelled : (v : RecordValue) × RecordSpelling body.bytes v
