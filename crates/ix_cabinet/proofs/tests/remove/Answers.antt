use Rattle.std.proofs.Common.{IfSome, sym, ap, subst, None}
use Rattle.ix_dir.specs.declared.area.Area.TheVariants.{Units}
use Rattle.ix_dir.specs.WhatAChangeLeaves.{LeavesAt}
use Rattle.ix_types.specs.Name.{sha_name}
use Rattle.ix_cabinet.specs.Scan.{HoldsUnits}
use Rattle.ix_cabinet.proofs.HeldAfterAChange.{held_after}
use Rattle.ix_cabinet.proofs.tests.remove.Goals as goal

pub returns : goal.returns
returns g c =
    let name = c.name_of.result in
    let ready = g.D.Dir.state c.reserve.new.self in
    let now = g.D.Dir.state c.remove_unit.new.dir in
    let held = subst (λ m. IfSome m (HoldsUnits sha_name)) (sym (ap (λ d. d.moves) c.reserve.ensures.others)) c.requires in
    let law = c.changes_keep_units.ensures.removed in
    held_after (HoldsUnits sha_name) (LeavesAt Units name None) ready now c.remove_unit.result (λ b n is h l. law sha_name name b n h l) held c.remove_unit.ensures.added c.remove_unit.ensures.failed c.remove_unit.ensures.left
