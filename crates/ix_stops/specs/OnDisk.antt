-- What the two areas hold of the publications, and what a crash may leave of them.
use Rattle.std.specs.Prelude.{◌≡◌, ◌⊎◌, ℕ, suc, ◌≤◌, true, List, [], ◌∷◌, length, Option, Some, None}
use Rattle.std.specs.FinMap.{entries}
use Rattle.ix_dir.specs.declared.area.Area.TheVariants.{Units, Records}
use Rattle.ix_dir.specs.declared.moves.Move.{Move}
use Rattle.ix_dir.specs.Crash.{IsSettledIn, standing}
use Rattle.ix_dir.specs.Files.{Contents, bytes_at}
use Rattle.ix_dir.specs.Images.{IsImageIn, values_of}
use Rattle.ix_dir.specs.Moves.{area_after}
use Rattle.ix_model.specs.declared.publication.Publication.{Publication}
use Rattle.ix_model.specs.Units as model
use Rattle.ix_model.specs.Units.{units_at, units_after}
use Rattle.ix_machine.specs.Needs.{units_need}
use Rattle.ix_machine.specs.Sound.{RecordsStand}
use Rattle.ix_stops.specs.Changes.{waiting}
use Rattle.ix_stops.specs.UnitFiles.{Spell}

-- each record that the units need has one value, what stands there: a crash leaves it
abbrev pub HaveOneValue : List Move → model.Units → Type 0
HaveOneValue moves units = (name : List ℕ) → units_need name units ≡ true → values_of moves Records name ≡ bytes_at (area_after moves Records) name ∷ []

-- the records of the units stand whole, and a crash leaves them
pub record AreKept (name_of : List ℕ → List ℕ) (moves : List Move) (units : model.Units) : Type 0 where
  pub stand : RecordsStand name_of (entries (standing moves Records)) units
  pub alone : HaveOneValue moves units

-- the last change waits for a sync: a crash leaves the units with it or those before it
pub record IsOneBehind (name_of : List ℕ → List ℕ) (mark : ℕ) (publications : List Publication) (moves : List Move) : Type 0 where
  pub last : suc mark ≡ length publications
  pub waits : 1 ≤ waiting moves
  pub kept : AreKept name_of moves (units_at publications mark)
  pub left : (contents : Contents) → IsImageIn Units moves contents → Spell name_of contents (units_after publications) ⊎ Spell name_of contents (units_at publications mark)

-- by the mark before a change that pends: at most that change waits for a sync
abbrev pub OnePends : (List ℕ → List ℕ) → Option ℕ → List Publication → List Move → Type 0
OnePends name_of None publications moves = IsSettledIn Units moves
OnePends name_of (Some mark) publications moves = IsSettledIn Units moves ⊎ IsOneBehind name_of mark publications moves

-- the unit files are those of the units after all publications, whose records stand whole and stay; at most the last change waits for a sync
pub record IsOnDisk (name_of : List ℕ → List ℕ) (pending : Option ℕ) (publications : List Publication) (moves : List Move) : Type 0 where
  pub unit_files : Spell name_of (standing moves Units) (units_after publications)
  pub image_records : AreKept name_of moves (units_after publications)
  pub one_pending : OnePends name_of pending publications moves
