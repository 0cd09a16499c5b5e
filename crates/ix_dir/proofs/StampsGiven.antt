-- A file that stands has one of the stamps that were given to its name.
use Rattle.std.proofs.Common.{◌≡◌, ℕ, Bool, true, false, cond, ◌&&◌, List, [], ◌∷◌, ◌++◌, sym, ap, ◌∙◌, subst, Option, Some, None, Contains, append_assoc}
use Rattle.std.specs.List.{fold}
use Rattle.std.specs.FinMap.{get, empty, get-empty}
use Rattle.std.proofs.lemmas.List.Elements.{Contains-push, Contains-append_left}
use Rattle.std.proofs.lemmas.Option.{same_Some}
use Rattle.ix_dir.specs.declared.area.Area.{Area}
use Rattle.ix_dir.specs.Files.{File, Files, file}
use Rattle.ix_types.specs.Row.{text_cmp}
use Rattle.ix_dir.specs.Moves.{Move, Renamed, Removed, Synced, Placed, area_after, area_step, same_area, same_name}
use Rattle.ix_dir.specs.Stamps.{stamp_given, stamps_of}
use Rattle.ix_dir.proofs.FileAfterAMove.{file_step, get-step}

-- the stamp of the file, if there is one, is among these
abbrev IsGiven : List ℕ → Option File → Type 0
IsGiven stamps found = (f : File) → found ≡ Some f → Contains stamps f.stamp

put : (here same : Bool) (stamps : List ℕ) (old : Option File) (bytes : List ℕ) (stamp : ℕ) → IsGiven stamps old
    → IsGiven (stamps ++ cond same (stamp ∷ []) []) (cond (here && same) (Some (file bytes stamp)) old)
put true true stamps old bytes stamp had f is = subst (Contains (stamps ++ stamp ∷ [])) (ap (λ g. g.stamp) (same_Some (file bytes stamp) f is)) (Contains-push stamps stamp)
put true false stamps old bytes stamp had f is = Contains-append_left stamps [] f.stamp (had f is)
put false same stamps old bytes stamp had f is = Contains-append_left stamps (cond same (stamp ∷ []) []) f.stamp (had f is)

gone : (here : Bool) (stamps : List ℕ) (old : Option File) → IsGiven stamps old → IsGiven (stamps ++ []) (cond here None old)
gone true stamps old had f is = cc
gone false stamps old had f is = Contains-append_left stamps [] f.stamp (had f is)

module _ (area : Area) (q : List ℕ) where
  given_step : (stamps : List ℕ) (old : Option File) (m : Move) → IsGiven stamps old → IsGiven (stamps ++ stamp_given q m) (file_step area q old m)
  given_step stamps old (Renamed a n bytes stamp) had f is = put (same_area area a) (same_name n q) stamps old bytes stamp had f is
  given_step stamps old (Removed a n) had f is = gone (same_area area a && same_name n q) stamps old had f is
  given_step stamps old (Synced a) had f is = gone false stamps old had f is
  given_step stamps old (Placed a n bytes stamp) had f is = put (same_area area a) (same_name n q) stamps old bytes stamp had f is

  given_all : (stamps : List ℕ) (files : Files) (moves : List Move) → IsGiven stamps (get files q) → IsGiven (stamps ++ stamps_of moves q) (get (fold (area_step area) files moves) q)
  given_all stamps files [] had f is = Contains-append_left stamps [] f.stamp (had f is)
  given_all stamps files (m ∷ moves) had f is =
      subst (λ ss. Contains ss f.stamp) (append_assoc stamps (stamp_given q m) (stamps_of moves q))
      (given_all (stamps ++ stamp_given q m) (area_step area files m) moves
      (λ g e. given_step stamps (get files q) m had g (sym (get-step area q files m) ∙ e)) f is)

pub standing_given : (moves : List Move) (area : Area) (name : List ℕ) (f : File) → get (area_after moves area) name ≡ Some f → Contains (stamps_of moves name) f.stamp
standing_given moves area name f is =
    given_all area name [] empty moves (λ g e. let none : None ≡ Some g = sym (get-empty {X = File} text_cmp name) ∙ e in cc) f is
