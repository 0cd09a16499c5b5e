-- What was noted of a name in a walk over moves.
use Rattle.std.specs.Prelude.{ℕ, List, Option}

pub record NotedOfName : Type 0 where
  -- its values, each as the number of the move that put it
  pub numbers : List (Option ℕ)
  -- the number of the last move on it
  pub last : ℕ
