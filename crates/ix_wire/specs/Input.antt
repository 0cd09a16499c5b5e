-- Where reading stands.
use Rattle.std.specs.Prelude.{◌≡◌, ℕ, ◌+◌, List, ◌++◌, length, drop}

-- the bytes that are still to be read, and how many were read before them
pub record Input : Type 0 where
  pub at : ℕ
  pub rest : List ℕ

-- before the first byte
abbrev pub start : List ℕ → Input
start bytes = record { at = 0; rest = bytes }

-- the place n bytes on
abbrev pub skip : ℕ → Input → Input
skip n from = record { at = from.at + n; rest = drop n from.rest }

-- the bytes stand between the two places
pub record Passes (from : Input) (bytes : List ℕ) (to : Input) : Type 0 where
  pub parts : from.rest ≡ bytes ++ to.rest
  pub moved : to.at ≡ from.at + length bytes
