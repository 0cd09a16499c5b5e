-- States that only add publications.
use Rattle.std.specs.Prelude.{◌≡◌, List, ◌++◌}
use Rattle.ix_model.specs.declared.publication.Publication.{Publication}
use Rattle.ix_machine.specs.State.{State}

-- the next state has the publications of the first, and more behind them
pub record Grows (s next : State) : Type 0 where
  pub more : List Publication
  pub grown : next.publications ≡ s.publications ++ more
