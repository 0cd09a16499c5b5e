use Rattle.std.proofs.Common.{◌≡◌, take}
use Rattle.ix_lanes.specs.Progress.{progress_after}
use Rattle.ix_lanes.specs.Tasks.{tasks_of}
use Rattle.ix_model.specs.Units.{units_at}
use Rattle.ix_replays.specs.Run.{own_events}
use Rattle.ix_model_run.specs.Importing.{IsImport}
use Rattle.ix_model_run.proofs.progress.place_of.Given as goal

-- the lane is behind its own of the events so far
abbrev pub invariant-loop-event : goal.invariant-loop-event
invariant-loop-event g l = record {
  progress : l.place.lane.progress ≡ progress_after (units_at l.publications) (tasks_of g.N.Naming.name_of l.steps) (own_events l.lane (take l.event-index l.events));
  import : IsImport l.place.lane.progress l.place.import;
}
