-- What an ask of a held version comes to, over the units of the version.
use Rattle.std.specs.Prelude.{◌≡◌, Some, None}
use Rattle.ix_types.specs.declared.row.Query.{Query}
use Rattle.ix_model.specs.Units.{Units}
use Rattle.ix_answers.specs.Answers.{answer}
use Rattle.ix_answers.specs.Needs.{next_need}
use Rattle.ix_lookups.specs.Loaded.{Loaded, loaded_names}
use Rattle.ix_asking.specs.Open.{IsOpen, IsSafe}
use Rattle.ix_held.specs.declared.asks.Next.{Next}
use Rattle.ix_held.specs.declared.asks.Next.TheVariants.{Lacks, Rows}

-- the record is the next that is needed, and the ask stays open; or none is, and the rows are the answer over all rows of the units
abbrev pub IsNext : Query → Units → Loaded → Next → Type 0
IsNext query units bodies (Lacks name ask) = (next_need query units (loaded_names bodies) ≡ Some name) × IsOpen query units bodies ask
IsNext query units bodies (Rows rows) = (next_need query units (loaded_names bodies) ≡ None) × (rows ≡ answer query units)

-- an ask that stays open may be gone on with
abbrev pub IsSafeNext : Query → Loaded → Next → Type 0
IsSafeNext query bodies (Lacks name ask) = IsSafe query bodies ask
IsSafeNext query bodies (Rows rows) = Unit {0}
