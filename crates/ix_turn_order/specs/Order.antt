-- Steps of lanes, and the replay that they come to.
use Rattle.std.specs.Prelude.{◌≡◌, ℕ, ◌<◌, Bool, true, false, List, ◌++◌, Some}
use Rattle.ix_machine.specs.declared.event.Outcome.{Outcome}
use Rattle.ix_lanes.specs.Tasks.{Task}
use Rattle.ix_replays.specs.Laws.{RunFits}
use Rattle.ix_replays.specs.Run.{Run, extended, has_call, run_from, turns_from}

module _ (name_of : List ℕ → List ℕ) (lanes : List (List Task)) where
  -- a step of a lane: the run goes on by an event of it; or it stays, and the lane has no call left
  abbrev pub GoesOn : Run → ℕ → Bool → Run → Type 0
  GoesOn run lane true next = (flag : Outcome) × (extended name_of lanes run lane flag ≡ Some next)
  GoesOn run lane false next = (next ≡ run) × (has_call name_of lanes run lane ≡ false)

  -- the first so many lanes have no call left
  abbrev pub HaveEnded : Run → ℕ → Type 0
  HaveEnded run count = (lane : ℕ) → lane < count → has_call name_of lanes run lane ≡ false

  -- a replay that stands at the first run, with that order to go, comes to the second one with the rest to go: it takes these turns with these flags. Whatever is
  -- behind them, the turns from the start are these and then those from there, and the run from the start is the one from there
  pub record ComesTo (start : Run) (order : List ℕ) (run : Run) (rest : List ℕ) : Type 0 where
    pub flags : List Outcome
    pub turns : List ℕ
    pub takes : (later : List Outcome) → turns_from name_of lanes (flags ++ later) start order ≡ turns ++ turns_from name_of lanes later run rest
    pub runs : (next : List ℕ) (later : List Outcome) → run_from name_of lanes start (turns ++ next) (flags ++ later) ≡ run_from name_of lanes run next later
    pub fits : RunFits run

  -- what is kept is a run to which a replay comes from the start with this order, the rest of which is to go; and the first so many lanes have ended
  pub record IsReplaying (Keeps : Run → Type 0) (start : Run) (order : List ℕ) (rest : List ℕ) (count : ℕ) : Type 0 where
    pub run : Run
    pub keeps : Keeps run
    pub comes : ComesTo start order run rest
    pub ended : HaveEnded run count

  -- memory was wanting: what is wanted is so of a run to which a replay comes from the start with this order, some of which may be to go
  pub record IsWanting (Wants : Run → Type 0) (start : Run) (order : List ℕ) : Type 0 where
    pub run : Run
    pub rest : List ℕ
    pub wants : Wants run
    pub comes : ComesTo start order run rest
