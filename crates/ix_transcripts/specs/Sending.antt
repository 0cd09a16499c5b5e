-- Bytes on their way to a sink: some wait, and go out together.
use Rattle.std.specs.Prelude.{◌≡◌, ℕ, Bool, true, false, List, ◌++◌, Option, Result, Ok, Err}
use Rattle.std.specs.Io.KnownBytes.{Appends}
use Rattle.ix_transcripts.specs.declared.write.WriteError.{WriteError}
use Rattle.ix_transcripts.specs.declared.write.WriteError.TheVariants.{Fault, Memory}

-- of what waited and of a text behind it, the sink took a front, and the rest waits
pub record Sends (before : Option (List ℕ)) (waited : List ℕ) (after : Option (List ℕ)) (waits : List ℕ) (text : List ℕ) : Type 0 where
  pub sent : List ℕ
  pub grown : Appends before after sent
  pub all : waited ++ text ≡ sent ++ waits

-- the sink took a front of what waited and of a text behind it, and no more will go out
pub record Stops (before : Option (List ℕ)) (waited : List ℕ) (after : Option (List ℕ)) (text : List ℕ) : Type 0 where
  pub waits : List ℕ
  pub sends : Sends before waited after waits text

-- whether the sink failed
abbrev pub write_failed : {X : Type 0} → Result X WriteError → Bool
write_failed (Ok x) = false
write_failed (Err Fault) = true
write_failed (Err Memory) = false

-- a front of the text was written
pub record WritesFront (before after : Option (List ℕ)) (text : List ℕ) : Type 0 where
  pub front : List ℕ
  pub rest : List ℕ
  pub all : text ≡ front ++ rest
  pub grown : Appends before after front
