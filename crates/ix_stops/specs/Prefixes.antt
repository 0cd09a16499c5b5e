-- What a stop leaves: the units after some of the publications.
use Rattle.std.specs.Prelude.{◌≡◌, ℕ, ◌≤◌, List, [], length, take, drop}
use Rattle.ix_dir.specs.declared.moves.Move.{Move}
use Rattle.ix_dir.specs.Images.{Image, IsImage}
use Rattle.ix_model.specs.declared.publication.Publication.{Publication}
use Rattle.ix_model.specs.Units.{units_at}
use Rattle.ix_machine.specs.Counts.{made, acknowledged, changes_after}
use Rattle.ix_opening.specs.Found.{opening_of}
use Rattle.ix_stops.specs.Changes.{units_moves, waiting}

-- an opening of the image refuses no unit file, and finds the units after n publications, n from the one number to the other
pub record IsPrefix (name_of : List ℕ → List ℕ) (publications : List Publication) (least most : ℕ) (image : Image) : Type 0 where
  pub count : ℕ
  pub enough : least ≤ count
  pub within : count ≤ most
  pub units : (opening_of name_of image).units ≡ units_at publications count
  pub refused : (opening_of name_of image).refused ≡ []

-- the moment and the number of publications from which is counted: no units change waited for a sync then, and each one since is a publication
pub record CountsFrom (moment base : ℕ) (publications : List Publication) (moves : List Move) : Type 0 where
  pub within : moment ≤ length moves
  pub none_waits : waiting (take moment moves) ≡ 0
  pub each : (changes_after base (units_moves (drop moment moves))).made ≡ length publications

-- each image of a moment has the units after n publications, from those that are acknowledged at the moment to those that are made
abbrev pub IsPrefixAt : (List ℕ → List ℕ) → List Publication → ℕ → ℕ → List Move → Image → Type 0
IsPrefixAt name_of publications from base moves image =
    IsPrefix name_of publications (acknowledged publications base (units_moves (drop from moves))) (made publications base (units_moves (drop from moves))) image

-- The moves that come behind a start, where there were the earlier publications, and that make them these: what counts at the start counts at
-- their end, one units change for each publication that came and no other. At each moment since the start each image has the units after n
-- publications, from those that are acknowledged to those that are made.
pub record LeavesPrefixes (name_of : List ℕ → List ℕ) (earlier publications : List Publication) (before now : List Move) : Type 0 where
  pub counted : (from base : ℕ) → CountsFrom from base earlier before → CountsFrom from base publications now
  pub left : (from base : ℕ) → CountsFrom from base earlier before
      → (moment : ℕ) (image : Image) → length before ≤ moment → moment ≤ length now → IsImage (take moment now) image
      → IsPrefixAt name_of publications from base (take moment now) image
