-- Publications made and acknowledged at a moment, by what happened to the units area since opening.
use Rattle.std.specs.Prelude.{ℕ, zero, suc, if◌then◌else◌, Bool, true, false, List, [], ◌∷◌}
use Rattle.std.specs.List.{fold}
use Rattle.ix_model.specs.declared.publication.Publication.{Publication}
use Rattle.ix_model.specs.declared.publication.Publication.TheVariants.{Put, Gone}

-- a unit file came or went, or the area was synced
pub data UnitsMove : Type 0 where
  Changed : UnitsMove
  Synced : UnitsMove

abbrev pub is_change : UnitsMove → Bool
is_change Changed = true
is_change Synced = false

-- units changes that were made, and those of them that a sync has made last
pub record Changes : Type 0 where
  pub made : ℕ
  pub acknowledged : ℕ

abbrev pub counted : Changes → UnitsMove → Changes
counted changes Changed = record changes { made = suc changes.made }
counted changes Synced = record changes { acknowledged = changes.made }

-- from the number of units that opening found
abbrev pub changes_after : ℕ → List UnitsMove → Changes
changes_after opened moves = fold counted (record { made = opened; acknowledged = opened }) moves

-- whether a publication changes the units: each does
abbrev pub changes_units : Publication → Bool
changes_units (Put name unit) = true
changes_units (Gone name) = true

-- the least number of publications among which are so many units changes
abbrev pub mark_with : ℕ → List Publication → ℕ
mark_with zero publications = 0
mark_with (suc changes) [] = 0
mark_with (suc changes) (p ∷ publications) = suc (mark_with (if changes_units p then changes else suc changes) publications)

-- the number of publications that are made, and of those that a crash can't undo any more
abbrev pub made : List Publication → ℕ → List UnitsMove → ℕ
made publications opened moves = mark_with (changes_after opened moves).made publications

abbrev pub acknowledged : List Publication → ℕ → List UnitsMove → ℕ
acknowledged publications opened moves = mark_with (changes_after opened moves).acknowledged publications
