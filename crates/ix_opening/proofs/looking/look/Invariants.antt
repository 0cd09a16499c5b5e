use Rattle.std.proofs.Common.{◌≡◌, take, IfSome, All}
use Rattle.ix_dir.specs.declared.area.Area.TheVariants.{Units}
use Rattle.ix_dir.specs.Moves.{area_after}
use Rattle.ix_cabinet.specs.Scan.{IsNamedUnit, IsUnitAt}
use Rattle.ix_machine.specs.State.{Files}
use Rattle.ix_opening.specs.Fault.{HasNotFallen}
use Rattle.ix_opening.specs.Known.{AreRead, Agrees}
use Rattle.ix_opening.specs.Steps.{AreGiven, IsSoFar}
use Rattle.ix_opening.proofs.looking.look.Given as goal

abbrev pub invariant-loop-one : goal.invariant-loop-one
invariant-loop-one g l = record {
  files : Files;
  given : AreGiven (g.D.Dir.state l.initial.dir).moves (take l.one-index l.one-items) files;
  so_far : (records : Files) → Agrees g.N.Naming.name_of l.look.known.entries records → IsSoFar g.N.Naming.name_of files records l.look;
  read : AreRead g.N.Naming.name_of (g.D.Dir.state l.initial.dir).moves l.look.known.entries;
  at : IfSome (g.D.Dir.state l.initial.dir).moves (λ m. All (IsUnitAt (area_after m Units)) l.look.units.items);
  units : All (IsNamedUnit g.N.Naming.name_of) l.look.units.items;
  state : g.D.Dir.state l.dir ≡ record (g.D.Dir.state l.initial.dir) { finds = (g.D.Dir.state l.dir).finds };
  finds : HasNotFallen (g.D.Dir.state l.initial.dir).finds (g.D.Dir.state l.dir).finds;
}
