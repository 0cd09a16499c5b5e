use Rattle.std.proofs.Common.{◌≡◌, ℕ, List, Result, Ok, Err, IfOk, ◌∙◌}
use Rattle.ix_lanes.specs.Progress.{progress_after}
use Rattle.ix_lanes.specs.Tasks.{Task, tasks_of}
use Rattle.ix_model.specs.Units.{units_at}
use Rattle.ix_replays.specs.Run.{Run, own_events, progress_of}
use Rattle.ix_model_run.specs.Standing.{IsAt, Standing}
use Rattle.ix_model_run.proofs.run.Rerun.place.Goals as goal

if_ok : {A E : Type 0} (r : Result A E) (P Q : A → Type 0) → IfOk r P → ((a : A) → P a → Q a) → IfOk r Q
if_ok (Ok a) P Q p f = f a p
if_ok (Err e) P Q p f = tt

from_run : (run : Run) (now : Standing) (lane : ℕ) (tasks : List Task) → IsAt run now
    → progress_after (units_at now.kept.publications) tasks (own_events lane now.events) ≡ progress_of run lane tasks
from_run run now lane tasks at = λ i. progress_after (units_at (at.follows.publications i)) tasks (own_events lane (at.events i))

pub returns-clause-progress : goal.returns-clause-progress
returns-clause-progress g c = λ run at.
    if_ok c.place_now.result _ _ c.place_now.ensures.progress (λ place e. e ∙ from_run run c.args.self.now c.args.lane (tasks_of g.N.Naming.name_of c.args.steps.now) at)
