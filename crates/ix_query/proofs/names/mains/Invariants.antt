use Rattle.std.proofs.Common.{◌≡◌, take}
use Rattle.std.specs.List.{flat_map}
use Rattle.ix_lookups.specs.Found.{unit}
use Rattle.ix_needs.specs.Chosen.{main_of}
use Rattle.ix_query.proofs.names.mains.Given as goal

abbrev pub invariant-loop-name : goal.invariant-loop-name
invariant-loop-name g l = l.files.items ≡ flat_map (λ name. main_of (unit name (g.L.Lookups.found l.lookups))) (take l.name-index ((g.L.Lookups.found l.lookups).listing l.path))
