-- What a replay of bytes over a directory is, and what it leaves there.
use Rattle.std.specs.Prelude.{◌≡◌, ℕ, ◌⊎◌, List, Option, Some, Ok}
use Rattle.ix_dir.specs.declared.moves.Move.{Move}
use Rattle.ix_dir.specs.Crash.{standing}
use Rattle.ix_types.specs.Name.{sha_name}
use Rattle.ix_opening.specs.Found.{opening_of}
use Rattle.ix_plan.specs.declared.plan.Script.{Script}
use Rattle.ix_plan.specs.Reading.{script_of}
use Rattle.ix_replays.specs.declared.transcript.Transcript.{Transcript}
use Rattle.ix_replays.specs.Run.{IsReplay}
use Rattle.ix_replay.specs.Left.{IsLeft, StopsInOpening, StopsInRun}

-- the bytes spell a script, and the transcript is that of its replay over what opening finds of the files that stand, named by SHA-256
pub record IsReplayOf (bytes : List ℕ) (before : List Move) (transcript : Transcript) : Type 0 where
  pub script : Script
  pub spelled : script_of bytes ≡ Ok script
  pub replay : IsReplay sha_name script (opening_of sha_name (standing before)) transcript

-- the transcript is that of the script's replay over what opening finds of the files that stand, named by SHA-256, and the directory's moves now are those of opening and of the
-- run of that replay
pub record LeavesOf (script : Script) (before : List Move) (transcript : Transcript) (moves : Option (List Move)) : Type 0 where
  pub replay : IsReplay sha_name script (opening_of sha_name (standing before)) transcript
  pub now : List Move
  pub told : moves ≡ Some now
  pub left : IsLeft sha_name before replay.run now

-- the replay of the script stopped in opening or in its run
pub record StopsOf (script : Script) (before : List Move) (moves : Option (List Move)) : Type 0 where
  pub now : List Move
  pub told : moves ≡ Some now
  pub stops : StopsInOpening sha_name before now ⊎ StopsInRun sha_name before script now

-- the bytes spell a script, and its replay left these moves
pub record Leaves (bytes : List ℕ) (before : List Move) (transcript : Transcript) (moves : Option (List Move)) : Type 0 where
  pub script : Script
  pub spelled : script_of bytes ≡ Ok script
  pub leaves : LeavesOf script before transcript moves

-- the bytes spell a script, and its replay stopped in opening or in its run
pub record StopsFor (bytes : List ℕ) (before : List Move) (moves : Option (List Move)) : Type 0 where
  pub script : Script
  pub spelled : script_of bytes ≡ Ok script
  pub stops : StopsOf script before moves
