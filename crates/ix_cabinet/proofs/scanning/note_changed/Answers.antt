use Rattle.ix_dir.specs.declared.area.Area.TheVariants.{Units}
use Rattle.ix_dir.specs.Moves.{area_after}
use Rattle.ix_cabinet.specs.Scan.{IsUnitAt, IsNamedUnit}
use Rattle.ix_cabinet.proofs.OneUnitMore.{pushed, pushed_where_told}
use Rattle.ix_cabinet.proofs.scanning.note_changed.Goals as goal

pub returns-clause-at : goal.returns-clause-at
returns-clause-at g c =
    pushed_where_told (g.D.Dir.state c.args.dir.now).moves (λ m. IsUnitAt (area_after m Units)) _ _ _ c.in_ok-push.ensures.items c.in_ok-unit.ensures.at

pub returns-clause-units : goal.returns-clause-units
returns-clause-units g c = pushed (IsNamedUnit g.N.Naming.name_of) _ _ _ c.in_ok-push.ensures.items c.in_ok-unit.ensures.unit
