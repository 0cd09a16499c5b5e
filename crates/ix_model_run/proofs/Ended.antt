-- What the run of a script is, by where its turns end and whether a lane has a call left there.
use Rattle.std.proofs.Common.{◌≡◌, ℕ, Bool, true, false, if◌then◌else◌, List, [], ◌∷◌, length, Option, Some, None, option_map, sym, ap, ◌∙◌, subst}
use Rattle.std.specs.List.{AllByRecursion, list_any, range_with_len}
use Rattle.ix_lanes.specs.Rules.{IsReady}
use Rattle.ix_lanes.specs.Tasks.{tasks_of}
use Rattle.ix_machine.specs.declared.event.Outcome.{Outcome}
use Rattle.ix_machine.specs.Run.{Opening}
use Rattle.ix_plan.specs.Keeps.{IsAccepted, IsLane, IsStep}
use Rattle.ix_plan.specs.declared.plan.Script.{Script}
use Rattle.ix_plan.specs.declared.plan.Step.{Step}
use Rattle.ix_replays.specs.Run.{Run, fresh, has_call, run_from, run_of, transcript_of}
use Rattle.ix_replays.specs.declared.transcript.Transcript.{Transcript}
use Rattle.ix_model_run.specs.Standing.{IsAt, Ran, Standing, tasks_of_each}
use Rattle.ix_model_run.proofs.Running.{as_long}

-- the steps of each lane may be a lane's
each_ready : ((steps : List Step) → AllByRecursion IsStep steps → AllByRecursion IsReady steps) → (lanes : List (List Step)) → AllByRecursion IsLane lanes → AllByRecursion (AllByRecursion IsReady) lanes
each_ready ready [] are = tt
each_ready ready (steps ∷ lanes) are = (ready steps are.0.1, each_ready ready lanes are.1)

pub lanes_ready : ((steps : List Step) → AllByRecursion IsStep steps → AllByRecursion IsReady steps) → (script : Script) → IsAccepted script → (lanes : List (List Step)) → lanes ≡ script.lanes
    → AllByRecursion (AllByRecursion IsReady) lanes
lanes_ready ready script accepted lanes same =
    subst (λ (lanes : List (List Step)). AllByRecursion (AllByRecursion IsReady) lanes) (sym same) (each_ready ready script.lanes accepted.lanes.1)

module _ (name_of : List ℕ → List ℕ) (script : Script) (opening : Opening) (order : List ℕ) (flags : List Outcome) where
  -- what the run shows, where it has a value
  abbrev pub shown : Option Transcript
  shown = option_map (transcript_of name_of script opening) (run_of name_of script opening order flags)

  -- the turns from the start on
  abbrev pub turned : List (List Step) → Option Run
  turned lanes = run_from name_of (tasks_of_each name_of lanes) (fresh name_of script opening) order flags

  pub same_turns : (lanes : List (List Step)) (now : Standing) (ran : Bool) (turns : List ℕ) (given : List Outcome) → turns ≡ order → given ≡ flags
      → Ran name_of (tasks_of_each name_of lanes) now ran (run_from name_of (tasks_of_each name_of lanes) (fresh name_of script opening) turns given)
      → Ran name_of (tasks_of_each name_of lanes) now ran (turned lanes)
  same_turns lanes now ran turns given same_order same_flags r =
      subst (λ (o : Option Run). Ran name_of (tasks_of_each name_of lanes) now ran o) (λ i. run_from name_of (tasks_of_each name_of lanes) (fresh name_of script opening) (same_order i) (same_flags i)) r

  -- there is a run at the turns' end
  pub record IsEnd (lanes : List (List Step)) (now : Standing) : Type 0 where
    pub run : Run
    pub at : IsAt run now
    pub is : turned lanes ≡ run_from name_of (tasks_of_each name_of lanes) run [] []

  pub turned_end : (lanes : List (List Step)) (now : Standing) (ran : Bool) → ran ≡ true → Ran name_of (tasks_of_each name_of lanes) now ran (turned lanes) → IsEnd lanes now
  turned_end lanes now true e r = record { run = r.0; at = r.1; is = r.2 }
  turned_end lanes now false e r = absurd (cc)

  pub not_turned : (lanes : List (List Step)) (now : Standing) (ran : Bool) → lanes ≡ script.lanes → ran ≡ false → Ran name_of (tasks_of_each name_of lanes) now ran (turned lanes) → None ≡ shown
  not_turned lanes now true same e r = absurd (cc)
  not_turned lanes now false same e r =
      sym (ap (option_map (transcript_of name_of script opening)) (sym (ap turned same) ∙ r))

  -- whether a lane has a call left there
  left_by : (lanes : List (List Step)) (run : Run) (has : Bool) → has ≡ list_any (has_call name_of (tasks_of_each name_of lanes) run) (range_with_len 0 (length lanes))
      → run_from name_of (tasks_of_each name_of lanes) run [] [] ≡ (if has then None else Some run)
  left_by lanes run has e =
      ap (λ (n : ℕ). if list_any (has_call name_of (tasks_of_each name_of lanes) run) (range_with_len 0 n) then None else Some run) (as_long (tasks_of name_of) lanes)
      ∙ ap (λ (b : Bool). if b then None else Some run) (sym e)

  ends_by : (lanes : List (List Step)) (now : Standing) (end : IsEnd lanes now) (has : Bool) → lanes ≡ script.lanes
      → has ≡ list_any (has_call name_of (tasks_of_each name_of lanes) end.run) (range_with_len 0 (length lanes))
      → shown ≡ option_map (transcript_of name_of script opening) (if has then None else Some end.run)
  ends_by lanes now end has same e = ap (option_map (transcript_of name_of script opening)) (sym (ap turned same) ∙ end.is ∙ left_by lanes end.run has e)

  pub has_more : (lanes : List (List Step)) (now : Standing) (end : IsEnd lanes now) (has : Bool) → lanes ≡ script.lanes → has ≡ true
      → has ≡ list_any (has_call name_of (tasks_of_each name_of lanes) end.run) (range_with_len 0 (length lanes)) → None ≡ shown
  has_more lanes now end has same more e = sym (ends_by lanes now end has same e ∙ ap (λ (b : Bool). option_map (transcript_of name_of script opening) (if b then None else Some end.run)) more)

  pub has_ended : (lanes : List (List Step)) (now : Standing) (end : IsEnd lanes now) (has : Bool) (transcript : Transcript) → lanes ≡ script.lanes → has ≡ false
      → has ≡ list_any (has_call name_of (tasks_of_each name_of lanes) end.run) (range_with_len 0 (length lanes))
      → transcript ≡ transcript_of name_of script opening end.run → Some transcript ≡ shown
  has_ended lanes now end has transcript same ended e is =
      ap (λ (t : Transcript). Some t) is
      ∙ sym (ends_by lanes now end has same e ∙ ap (λ (b : Bool). option_map (transcript_of name_of script opening) (if b then None else Some end.run)) ended)
