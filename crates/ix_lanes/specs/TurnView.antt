-- What a turn in code stands for.
use Rattle.ix_lanes.specs.declared.turn.Turn as code
use Rattle.ix_lanes.specs.declared.turn.Turn.TheVariants as codes
use Rattle.ix_lanes.specs.Calls.{Turn, Lease, Put, Stage, Publish, Remove, Scan, Import, Adopt, Release, Collect, Ask}

abbrev pub turn_of : code.Turn → Turn
turn_of (codes.Lease names) = Lease names.now
turn_of (codes.Put body) = Put body.now
turn_of (codes.Stage unit) = Stage unit.now.value
turn_of codes.Publish = Publish
turn_of (codes.Remove output) = Remove output.now
turn_of codes.Scan = Scan
turn_of codes.Import = Import
turn_of codes.Adopt = Adopt
turn_of codes.Release = Release
turn_of codes.Collect = Collect
turn_of (codes.Ask query) = Ask query.now
