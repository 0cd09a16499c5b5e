use Rattle.std.proofs.Common.{sym, ap, subst}
use Rattle.ix_dir.specs.declared.area.Area.TheVariants.{Units}
use Rattle.ix_dir.specs.WhatAChangeLeaves.{AddsTo}
use Rattle.ix_cabinet.proofs.Publications.{settled_adds}
use Rattle.ix_cabinet.proofs.change.remove_unit.Goals as goal

pub returns-clause-added : goal.returns-clause-added
returns-clause-added g c =
    let before = (g.D.Dir.state c.args.dir.now).moves in
    let between = (g.D.Dir.state c.remove.new.self).moves in
    let now = (g.D.Dir.state c.sync_units.new.dir).moves in
    let law = c.calls_add_moves.ensures in
    let removal : AddsTo before between = subst (AddsTo before) (sym (ap (λ d. d.moves) c.in_ok-remove.ensures.removed)) (law.removed before Units c.args.name) in
    let sync : AddsTo between now = subst (AddsTo between) (sym (ap (λ d. d.moves) c.sync_units.ensures)) (settled_adds law.added law.same c.sync_units.result between) in
    law.both before between now removal sync
