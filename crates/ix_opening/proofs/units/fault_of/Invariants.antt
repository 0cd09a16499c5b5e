use Rattle.std.proofs.Common.{◌≡◌, take}
use Rattle.std.specs.List.{AllByRecursion}
use Rattle.ix_opening.specs.Fault.{HasNotFallen}
use Rattle.ix_opening.specs.Known.{AreRead, Keeps}
use Rattle.ix_opening.proofs.RecordsOfAUnit.{IsKnownWhole}
use Rattle.ix_opening.proofs.units.fault_of.Given as goal

abbrev pub invariant-loop-dep : goal.invariant-loop-dep
invariant-loop-dep g l = record {
  whole : AllByRecursion (IsKnownWhole l.known.entries) (take l.dep-index l.deps);
  kept : Keeps l.initial.known.entries l.known.entries;
  read : AreRead g.N.Naming.name_of (g.D.Dir.state l.initial.dir).moves l.initial.known.entries → AreRead g.N.Naming.name_of (g.D.Dir.state l.initial.dir).moves l.known.entries;
  state : g.D.Dir.state l.dir ≡ record (g.D.Dir.state l.initial.dir) { finds = (g.D.Dir.state l.dir).finds };
  finds : HasNotFallen (g.D.Dir.state l.initial.dir).finds (g.D.Dir.state l.dir).finds;
}
