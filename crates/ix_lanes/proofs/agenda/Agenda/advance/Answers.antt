use Rattle.std.proofs.Common.{List, drop, ap, ◌∙◌}
use Rattle.ix_lanes.specs.Tasks.{Task}
use Rattle.ix_lanes.specs.Views.{shown_task}
use Rattle.ix_lanes.proofs.Lists.{one_less}
use Rattle.ix_lanes.proofs.agenda.Agenda.advance.Goals as goal

pub returns-then-self-len : goal.returns-then-self-len
returns-then-self-len c = one_less shown_task c.self.inside.over c.self.inside.tasks.items ∙ ap (λ (tasks : List Task). drop 1 tasks) c.self.view_is
