use Rattle.ix_stops.proofs.Shapes.{put_disk, put_leaves, collect_disk, collect_leaves}
use Rattle.ix_stops.proofs.laws.a_record_change_leaves_a_prefix.Goals as goal

pub returns-clause-put : goal.returns-clause-put
returns-clause-put c name_of pending publications moves name bytes stamp disk free free_before = (
  put_disk c.given.ensures moves name_of publications pending disk name bytes stamp free free_before,
  put_leaves c.given.ensures moves name_of publications pending disk name bytes stamp free free_before,
)

pub returns-clause-collected : goal.returns-clause-collected
returns-clause-collected c name_of pending publications moves units name disk settled free = (
  collect_disk c.given.ensures moves name_of publications pending disk units settled name free,
  collect_leaves c.given.ensures moves name_of publications pending disk units settled name free,
)
