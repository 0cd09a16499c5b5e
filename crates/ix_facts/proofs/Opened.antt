-- A second opening begins with what the first one began with.
use Rattle.std.proofs.Common.{◌≡◌, ℕ, List, [], ◌∷◌, map, ap}
use Rattle.std.specs.Cmp.Lexicographic.{nat_list_cmp_total}
use Rattle.std.specs.FinMap.{entries, get, nat_cmp-IsAntisymmetric, same_map, slice_cmp-IsAntisymmetric}
use Rattle.ix_dir.specs.declared.area.Area.TheVariants.{Units, Records}
use Rattle.ix_dir.specs.declared.moves.Move.{Move}
use Rattle.ix_dir.specs.declared.moves.Move.TheVariants.{Synced}
use Rattle.ix_dir.specs.Crash.{standing}
use Rattle.ix_dir.specs.Files.{Contents}
use Rattle.ix_dir.specs.Images.{Image}
use Rattle.ix_machine.specs.declared.opened.Refused.{Refused}
use Rattle.ix_machine.specs.Run.{begun}
use Rattle.ix_model.specs.declared.publication.Publication.TheVariants as model
use Rattle.ix_model.specs.declared.publication.StoredUnit.{StoredUnit}
use Rattle.ix_opening.specs.AfterOpening.{names_of, opening_moves, removals}
use Rattle.ix_opening.specs.Found.{opening_of}

-- contents that have the same bytes under each name are the same
pub same_contents : (a b : Contents) → ((name : List ℕ) → get a name ≡ get b name) → a ≡ b
same_contents a b alike = same_map nat_list_cmp_total (slice_cmp-IsAntisymmetric nat_cmp-IsAntisymmetric) a b alike

module _ (name_of : List ℕ → List ℕ) (first second : Image) (lanes : ℕ) where
  -- what opening finds of images with the same units and records begins with the same state
  pub begun_alike : (opening_of name_of first).units ≡ (opening_of name_of second).units → first Records ≡ second Records → begun (opening_of name_of first) lanes ≡ begun (opening_of name_of second) lanes
  begun_alike found stand = λ i. record (begun (opening_of name_of first) lanes) {
    publications = map (λ (entry : List ℕ × StoredUnit). model.Put entry.0 entry.1) (found i);
    records = entries (stand i);
  }

-- where nothing is refused, an opening makes two syncs
pub two_syncs : (name_of : List ℕ → List ℕ) (moves : List Move) → (opening_of name_of (standing moves)).refused ≡ [] → opening_moves name_of moves ≡ Synced Records ∷ Synced Units ∷ []
two_syncs name_of moves none = ap (λ (refused : List Refused). Synced Records ∷ Synced Units ∷ removals (names_of refused)) none
