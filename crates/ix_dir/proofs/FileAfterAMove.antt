-- What one move more does to the file of one name.
use Rattle.std.proofs.Common.{◌≡◌, ℕ, Bool, true, false, cond, ◌&&◌, List, [], ◌∷◌, ◌++◌, refl, sym, ap, ◌∙◌, Option, Some, None}
use Rattle.std.specs.Ordering.{eq_by_cmp}
use Rattle.std.specs.Cmp.Lexicographic.{nat_list_cmp_total, nat_list_eq_equiv, texts_ties}
use Rattle.std.specs.FinMap.{get, insert, remove, empty, get-insert, get-remove}
use Rattle.std.proofs.lemmas.List.Sums.{fold-append}
use Rattle.ix_dir.specs.declared.area.Area.{Area}
use Rattle.ix_dir.specs.Files.{File, Files, file}
use Rattle.ix_types.specs.Row.{text_cmp}
use Rattle.ix_dir.specs.Moves.{Move, Renamed, Removed, Synced, Placed, area_after, area_step, same_area, same_name}

-- the file of a name after one move more
abbrev pub file_step : Area → List ℕ → Option File → Move → Option File
file_step a q old (Renamed area name bytes stamp) = cond (same_area a area && same_name name q) (Some (file bytes stamp)) old
file_step a q old (Removed area name) = cond (same_area a area && same_name name q) None old
file_step a q old (Synced area) = old
file_step a q old (Placed area name bytes stamp) = cond (same_area a area && same_name name q) (Some (file bytes stamp)) old

tied : (name q : List ℕ) → eq_by_cmp text_cmp q name ≡ same_name name q
tied name q = sym (texts_ties q name) ∙ nat_list_eq_equiv.symm q name

inserted : (here : Bool) (files : Files) (name q : List ℕ) (f : File) → get (cond here (insert files name f) files) q ≡ cond (here && same_name name q) (Some f) (get files q)
inserted true files name q f = rw (← tied name q) (get-insert nat_list_cmp_total files name f q)
inserted false files name q f = refl

removed : (here : Bool) (files : Files) (name q : List ℕ) → get (cond here (remove files name) files) q ≡ cond (here && same_name name q) None (get files q)
removed true files name q = rw (← tied name q) (get-remove nat_list_cmp_total files name q)
removed false files name q = refl

pub get-step : (a : Area) (q : List ℕ) (files : Files) (move : Move) → get (area_step a files move) q ≡ file_step a q (get files q) move
get-step a q files (Renamed area name bytes stamp) = inserted (same_area a area) files name q (file bytes stamp)
get-step a q files (Removed area name) = removed (same_area a area) files name q
get-step a q files (Synced area) = refl
get-step a q files (Placed area name bytes stamp) = inserted (same_area a area) files name q (file bytes stamp)

pub area_after-append : (moves : List Move) (move : Move) (a : Area) → area_after (moves ++ move ∷ []) a ≡ area_step a (area_after moves a) move
area_after-append moves move a = fold-append (area_step a) empty moves (move ∷ [])

pub get-area_after : (moves : List Move) (move : Move) (a : Area) (q : List ℕ) → get (area_after (moves ++ move ∷ []) a) q ≡ file_step a q (get (area_after moves a) q) move
get-area_after moves move a q = ap (λ files. get files q) (area_after-append moves move a) ∙ get-step a q (area_after moves a) move
