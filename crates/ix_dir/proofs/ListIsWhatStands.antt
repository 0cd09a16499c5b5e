-- The names with their numbers are those with their stamps, as they stand after the moves.
use Rattle.std.proofs.Common.{◌≡◌, ℕ, zero, suc, ◌+◌, List, [], ◌∷◌, map, refl, sym, ap, ◌∙◌, Option, Some, None, IsTrue, Result, Ok, Err, IfOk, Vec, arith}
use Rattle.std.specs.declared.alloc.Global.{Global}
use Rattle.std.specs.Option.{option_map}
use Rattle.std.specs.FinMap.{find, is_sorted, entries, get-entries, entries_sorted}
use Rattle.ix_dir.proofs.Door.{map_row, find_rows, sorted_rows, same_rows, holds, rows_listed}
use Rattle.ix_dir.specs.declared.area.Area.{Area}
use Rattle.ix_dir.specs.declared.dir.Listed.{Listed}
use Rattle.ix_dir.specs.declared.file_index.FileIndex.{FileIndex}
use Rattle.ix_dir.specs.Files.{File, listed_at, rows_of, listed_entry, listed_of}
use Rattle.ix_types.specs.Row.{text_cmp}
use Rattle.ix_dir.specs.Moves.{Move, Renamed, Removed, Synced, Placed, area_after}
use Rattle.ix_dir.specs.IndexInvariant.{file_put, file_at, IsNumbered, Indexes}
use Rattle.ix_dir.specs.NumberByName.{Lists}

numbered_rest : (n : ℕ) (m : Move) (moves : List Move) → IsNumbered n (m ∷ moves) → IsNumbered (n + 1) moves
numbered_rest n (Renamed area name bytes stamp) moves h = h.1
numbered_rest n (Removed area name) moves h = h
numbered_rest n (Synced area) moves h = h
numbered_rest n (Placed area name bytes stamp) moves h = h.1

numbered_first : (n : ℕ) (m : Move) (moves : List Move) (f : File) → IsNumbered n (m ∷ moves) → file_put m ≡ Some f → f.stamp ≡ n
numbered_first n (Renamed area name bytes stamp) moves f h e = let same : f.stamp ≡ stamp = ap (λ o. elim o [ Some g ↦ g.stamp | None ↦ stamp ]) (sym e) in same ∙ h.0
numbered_first n (Removed area name) moves f h e = cc
numbered_first n (Synced area) moves f h e = cc
numbered_first n (Placed area name bytes stamp) moves f h e = let same : f.stamp ≡ stamp = ap (λ o. elim o [ Some g ↦ g.stamp | None ↦ stamp ]) (sym e) in same ∙ h.0

-- a file's stamp is its number
stamp_is : (n : ℕ) (moves : List Move) (k : ℕ) (f : File) → IsNumbered n moves → file_at moves k ≡ Some f → f.stamp ≡ n + k
stamp_is n [] k f h e = cc
stamp_is n (m ∷ moves) zero f h e = numbered_first n m moves f h e ∙ omega arith
stamp_is n (m ∷ moves) (suc k) f h e = stamp_is (n + 1) moves k f (numbered_rest n m moves h) e ∙ omega arith

number_is : (moves : List Move) → IsNumbered 0 moves → (number : Option ℕ) (found : Option File) → option_map (file_at moves) number ≡ option_map Some found → number ≡ option_map (λ f. f.stamp) found
number_is moves h None None e = refl
number_is moves h None (Some f) e = cc
number_is moves h (Some k) None e = cc
number_is moves h (Some k) (Some f) e =
    let at : file_at moves k ≡ Some f = cc in
    let same : k ≡ f.stamp = omega (arith, stamp_is 0 moves k f h at) in
    ap Some same

abbrev stamp_of : File → ℕ
stamp_of f = f.stamp

abbrev stamp_row : List ℕ × File → List ℕ × ℕ
stamp_row = map_row stamp_of

entry_rows : (es : List (List ℕ × File)) → map listed_at (map stamp_row es) ≡ map listed_entry es
entry_rows [] = refl
entry_rows (e ∷ es) = ap (λ rest. listed_entry e ∷ rest) (entry_rows es)

listed_is : (moves : List Move) (index : FileIndex) (area : Area) → Indexes moves index → IsNumbered 0 moves → (listed : List Listed) → Lists index area listed → listed ≡ listed_of (area_after moves area)
listed_is moves index area kept numbered listed lists =
    let files = area_after moves area in
    let sorted : IsTrue (is_sorted text_cmp (map stamp_row (entries files))) = rw (sorted_rows stamp_of (entries files)) (holds _ (entries_sorted files)) in
    let alike : (q : List ℕ) → find text_cmp q (rows_of listed) ≡ find text_cmp q (map stamp_row (entries files)) =
    λ q. lists.each q ∙ number_is moves numbered _ _ (kept area q) ∙ ap (option_map (λ f. f.stamp)) (get-entries files q) ∙ sym (find_rows stamp_of q (entries files)) in
    sym (rows_listed listed) ∙ ap (map listed_at) (same_rows (rows_of listed) _ lists.rising sorted alike) ∙ entry_rows (entries files)

pub listed_ok : {E : Type 0} (r : Result (Vec Listed Global) E) (moves : List Move) (index : FileIndex) (area : Area) → Indexes moves index → IsNumbered 0 moves
    → IfOk r (λ l. Lists index area l.items) → IfOk r (λ l. l.items ≡ listed_of (area_after moves area))
listed_ok (Ok l) moves index area kept numbered lists = listed_is moves index area kept numbered l.items lists
listed_ok (Err e) moves index area kept numbered lists = tt
