use Rattle.std.proofs.Common.{◌≡◌, map, take, All, IfSome}
use Rattle.ix_dir.specs.declared.area.Area.TheVariants.{Units}
use Rattle.ix_dir.specs.Moves.{area_after}
use Rattle.ix_cabinet.specs.Scan.{unknown, IsUnitAt, IsNamedUnit}
use Rattle.ix_cabinet.proofs.scanning.changed_units.Given as goal

abbrev pub invariant-loop-one : goal.invariant-loop-one
invariant-loop-one g l = record {
  names : map (λ p. p.name) l.puts.items ≡ map (λ x. x.name) (unknown l.known (take l.one-index l.listed));
  at : IfSome (g.D.Dir.state l.initial.dir).moves (λ m. All (IsUnitAt (area_after m Units)) l.puts.items);
  units : All (IsNamedUnit g.N.Naming.name_of) l.puts.items;
  state : g.D.Dir.state l.dir ≡ g.D.Dir.state l.initial.dir;
}
