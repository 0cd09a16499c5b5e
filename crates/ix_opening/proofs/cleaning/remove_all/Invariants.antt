use Rattle.std.proofs.Common.{◌≡◌, ◌<◌, ◌+◌, length, take}
use Rattle.std.specs.Option.{option_map}
use Rattle.ix_opening.specs.AfterOpening.{names_of, without}
use Rattle.ix_opening.proofs.cleaning.remove_all.Given as goal

abbrev pub invariant-loop-one : goal.invariant-loop-one
invariant-loop-one g l = record {
  removed : (g.D.Dir.state l.dir).moves ≡ option_map (without (names_of (take l.one-index l.refused))) (g.D.Dir.state l.initial.dir).moves;
  room : length l.refused < (g.D.Dir.state l.dir).spare + l.one-index;
  state : g.D.Dir.state l.dir ≡ record (g.D.Dir.state l.initial.dir) { moves = (g.D.Dir.state l.dir).moves; spare = (g.D.Dir.state l.dir).spare };
}
