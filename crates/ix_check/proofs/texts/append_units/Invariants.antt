use Rattle.std.proofs.Common.{◌≡◌, ◌++◌, take}
use Rattle.std.specs.List.{flat_map}
use Rattle.ix_opening.specs.Found.{put_row}
use Rattle.ix_check.specs.Texts.{unit_line}
use Rattle.ix_check.proofs.texts.append_units.Given as goal

abbrev pub invariant-loop-put : goal.invariant-loop-put
invariant-loop-put l = l.out.items ≡ l.initial.out.items ++ flat_map (λ put. unit_line (put_row put)) (take l.put-index l.units)
