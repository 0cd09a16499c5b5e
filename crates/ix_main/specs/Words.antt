-- The words that a call knows.
use Rattle.std.specs.Prelude.{◌≡◌, ◌⊎◌, ℕ, List, [], ◌∷◌, codes}

-- the words of a replay
abbrev pub replay_words : List (List ℕ)
replay_words = codes "replay" ∷ []

-- the words of a check
abbrev pub check_words : List (List ℕ)
check_words = codes "check" ∷ []

-- words that a call knows
abbrev pub HaveForm : List (List ℕ) → Type 0
HaveForm words = (words ≡ replay_words) ⊎ (words ≡ check_words)
