-- What a replay of a script is to bytes that spell it.
use Rattle.std.proofs.Common.{◌≡◌, ℕ, List, Bool, true, false, Option, Some, None, IfSome, is_some, Ok, refl, subst}
use Rattle.ix_types.specs.Name.{sha_name}
use Rattle.ix_dir.specs.declared.moves.Move.{Move}
use Rattle.ix_dir.specs.Crash.{standing}
use Rattle.ix_opening.specs.Found.{opening_of}
use Rattle.ix_plan.specs.declared.plan.Script.{Script}
use Rattle.ix_plan.specs.Reading.{script_of}
use Rattle.ix_replays.specs.declared.transcript.Transcript.{Transcript}
use Rattle.ix_replays.specs.Run.{IsReplay}
use Rattle.ix_plain.specs.declared.ending.Ending.{Ending}
use Rattle.ix_plain.specs.declared.ending.Ending.TheVariants.{OpenFault}
use Rattle.ix_plain.specs.Ending.{MayRun}
use Rattle.ix_plain.specs.Output.{IsReplayOf, Leaves, LeavesOf, StopsFor, StopsOf}

abbrev OnlyTrue : Bool → Type 0
OnlyTrue true = Unit {0}
OnlyTrue false = ⊥

-- a store that couldn't be opened has no transcript
pub no_run : (ending : Ending) (shown : Option Transcript) → MayRun ending (is_some shown) → ending ≡ OpenFault → shown ≡ None
no_run ending None ran is = refl
no_run ending (Some transcript) ran is = absurd (subst OnlyTrue (subst (λ (e : Ending). MayRun e true) is ran) tt)

module _ (bytes : List ℕ) (script : Script) where
  pub replay_for : (moves : Option (List Move)) (shown : Option Transcript) → script_of bytes ≡ Ok script
      → IfSome moves (λ before. IfSome shown (IsReplay sha_name script (opening_of sha_name (standing before)))) → IfSome moves (λ before. IfSome shown (IsReplayOf bytes before))
  replay_for None shown spelled is = tt
  replay_for (Some before) None spelled is = tt
  replay_for (Some before) (Some transcript) spelled is = record { script = script; spelled = spelled; replay = is }

  pub leaves_for : (moves : Option (List Move)) (shown : Option Transcript) (later : Option (List Move)) → script_of bytes ≡ Ok script
      → IfSome moves (λ before. IfSome shown (λ t. LeavesOf script before t later)) → IfSome moves (λ before. IfSome shown (λ t. Leaves bytes before t later))
  leaves_for None shown later spelled is = tt
  leaves_for (Some before) None later spelled is = tt
  leaves_for (Some before) (Some transcript) later spelled is = record { script = script; spelled = spelled; leaves = is }

  pub stops_for : (moves : Option (List Move)) (later : Option (List Move)) → script_of bytes ≡ Ok script
      → IfSome moves (λ before. StopsOf script before later) → IfSome moves (λ before. StopsFor bytes before later)
  stops_for None later spelled is = tt
  stops_for (Some before) later spelled is = record { script = script; spelled = spelled; stops = is }
