-- The changes that put some counts into an empty map.
use Rattle.std.specs.Prelude.{ℕ, List, map}
use Rattle.ix_pages.specs.declared.changes.Change.{Change}
use Rattle.ix_pages.specs.declared.changes.Change.TheVariants.{Put}
use Rattle.ix_guard.specs.Counts.{Counts}

abbrev pub puts_of : Counts → List (Change (List ℕ) ℕ)
puts_of counts = map (λ pair. Put pair.0 pair.1) counts
