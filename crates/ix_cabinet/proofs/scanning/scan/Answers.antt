use Rattle.std.proofs.Common.{ap, sym, subst}
use Rattle.ix_dir.specs.Files.{IsRising}
use Rattle.ix_cabinet.proofs.WhatAListSays.{all_stand_where_told, stamps_where_told}
use Rattle.ix_cabinet.proofs.scanning.scan.Goals as goal

pub scan_listed-requires-clause-rising : goal.scan_listed-requires-clause-rising
scan_listed-requires-clause-rising g c = subst IsRising (sym c.as_slice.ensures) c.in_ok-listed.ensures.rising

pub scan_listed-requires-clause-stands : goal.scan_listed-requires-clause-stands
scan_listed-requires-clause-stands g c = all_stand_where_told _ _ _ _ (ap (λ d. d.moves) c.list.ensures.state) c.as_slice.ensures c.in_ok-listed.ensures.listed

pub returns-clause-stamps : goal.returns-clause-stamps
returns-clause-stamps g c = stamps_where_told _ c.scan_listed.result _ _ c.as_slice.ensures c.scan_listed.ensures.stamps c.in_ok-listed.ensures.listed
