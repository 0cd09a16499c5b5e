use Rattle.std.proofs.Common.{◌≡◌, take}
use Rattle.ix_ledger.specs.Handles.{led_changes, puts_led}
use Rattle.ix_ledger.proofs.unit_map.changes_of.Given as goal

-- those of the units so far
abbrev pub invariant-loop-put : goal.invariant-loop-put
invariant-loop-put l = led_changes l.changes.items ≡ puts_led (take l.put-index l.puts)
