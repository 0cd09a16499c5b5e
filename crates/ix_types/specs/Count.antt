-- Counts of what happened outside. Such a count never falls, and stands still at the greatest u64.
use Rattle.std.specs.Prelude.{◌≡◌, ℕ, ◌+◌, ◌-◌, ◌^◌, ◌<◌, ◌≤◌, ◌⊎◌, min, Bool, MatchBool}

-- it rose, or stands at its greatest value
abbrev pub Rose : ℕ → ℕ → Type 0
Rose before now = (before < now) ⊎ (now ≡ 2 ^ 64 - 1)

-- the count rises where the call is one of those that it counts, and else stays
abbrev pub CountsWhere : Bool → ℕ → ℕ → Type 0
CountsWhere is_counted before now = MatchBool is_counted ((before ≤ now) × Rose before now) (now ≡ before)

-- a count with one more, which stands still at the greatest u64
abbrev pub counted : ℕ → ℕ
counted count = min (count + 1) (2 ^ 64 - 1)
