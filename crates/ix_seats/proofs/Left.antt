-- Tasks of which some in front are over.
use Rattle.std.proofs.Common.{◌+◌, List, drop, drop-drop, Option, Some, None, refl, ap, ◌∙◌}
use Rattle.ix_held.specs.declared.asks.Next.{Next}
use Rattle.ix_held.specs.declared.asks.Next.TheVariants.{Lacks, Rows}
use Rattle.ix_lanes.specs.Progress.{Progress}
use Rattle.ix_lanes.specs.Tasks.{Task}
use Rattle.ix_seats.specs.Coming.{progress_in}
use Rattle.ix_seats.specs.Seats.{AreLeft}

pub all-left : (tasks : List Task) → AreLeft tasks tasks
all-left tasks = record { gone = 0; is = refl }

pub follow-left : (next : Option Next) (p : Progress) → AreLeft p.tasks (progress_in next p).tasks
follow-left None p = record { gone = 1; is = refl }
follow-left (Some (Lacks name opened)) p = record { gone = 0; is = refl }
follow-left (Some (Rows rows)) p = record { gone = 1; is = refl }

pub then-left : (before between after : List Task) → AreLeft before between → AreLeft between after → AreLeft before after
then-left before between after first second =
    record { gone = first.gone + second.gone; is = second.is ∙ (ap (λ (tasks : List Task). drop second.gone tasks) first.is ∙ drop-drop second.gone first.gone before) }
