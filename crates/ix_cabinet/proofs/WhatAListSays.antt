-- What a list of the area says of its files.
use Rattle.std.proofs.Common.{◌≡◌, ℕ, zero, suc, true, false, cond, List, [], ◌∷◌, map, refl, sym, ap, subst, ◌∙◌, Option, Some, None, Result, Ok, Err, is_some, IfOk, IfSome, IsSome, All, get_or}
use Rattle.std.specs.List.{slice_get}
use Rattle.std.specs.Option.{option_map}
use Rattle.std.specs.Ordering.{is_eq, eq_by_cmp}
use Rattle.std.specs.Cmp.{tied_itself}
use Rattle.std.specs.Cmp.Lexicographic.{nat_list_cmp_total}
use Rattle.std.specs.FinMap.{find, entries, from_sorted, get, get-entries, entries-from_sorted}
use Rattle.std.proofs.lemmas.Option.{slice_get-get_or, same_Some}
use Rattle.ix_dir.specs.declared.area.Area.TheVariants.{Units}
use Rattle.ix_dir.specs.declared.dir.Listed.{Listed}
use Rattle.ix_dir.specs.declared.moves.Move.{Move}
use Rattle.ix_dir.specs.Files.{File, Files, listed_of, listed_entry, IsRising}
use Rattle.ix_types.specs.Row.{text_cmp}
use Rattle.ix_dir.specs.Moves.{area_after}
use Rattle.ix_dir.specs.Files.{rows_of, listed_at}
use Rattle.ix_cabinet.specs.Scan.{StampMap, StandsAt, changed, unknown, stamps_in}
use Rattle.ix_dir.proofs.Door.{told, rows_listed}
use Rattle.ix_cabinet.specs.declared.fault.ScanError.{ScanError}
use Rattle.ix_cabinet.specs.declared.scanning.Scanned.{Scanned}

all_at : {A : Type 0} (P : A → Type 0) (xs : List A) → ((k : ℕ) (x : A) → slice_get xs k ≡ Some x → P x) → All P xs
all_at P xs each k d small = each k (get_or xs k d) (slice_get-get_or xs k d small)

-- an entry's name is found
own : (es : List (List ℕ × File)) (k : ℕ) (one : Listed) → slice_get (map listed_entry es) k ≡ Some one → is_some (find text_cmp one.name es) ≡ true
own [] k one at = cc
own (e ∷ es) zero one at =
    let same : e.0 ≡ one.name = ap (λ l. l.name) (same_Some (listed_entry e) one at) in
    let ties : eq_by_cmp text_cmp one.name e.0 ≡ true = subst (λ n. eq_by_cmp text_cmp n e.0 ≡ true) same (ap is_eq (tied_itself nat_list_cmp_total e.0)) in
    rw ties refl
own (e ∷ es) (suc k) one at =
    elim (eq_by_cmp text_cmp one.name e.0) as (λ b. is_some (cond b (Some e.1) (find text_cmp one.name es)) ≡ true) [
      | true ↦ refl
      | false ↦ own es k one at
    ]

has_bytes : (o : Option File) → is_some o ≡ true → IsSome (option_map (λ f. f.bytes) o)
has_bytes None e = cc
has_bytes (Some f) e = refl

stands : (files : Files) → All (StandsAt files) (listed_of files)
stands files = all_at (StandsAt files) (listed_of files) (λ k one at. has_bytes (get files one.name) (ap is_some (get-entries files one.name) ∙ own (entries files) k one at))

pub all_stand_where_told : (before now : Option (List Move)) (listed slice : List Listed) → now ≡ before → slice ≡ listed → IfSome before (λ m. listed ≡ listed_of (area_after m Units))
    → IfSome now (λ m. All (StandsAt (area_after m Units)) slice)
all_stand_where_told before None listed slice is same lists = tt
all_stand_where_told None (Some n) listed slice is same lists = cc
all_stand_where_told (Some m) (Some n) listed slice is same lists =
    let moves : n ≡ m = same_Some n m is in
    subst (λ xs. All (StandsAt (area_after n Units)) xs) (sym (same ∙ lists ∙ ap (λ x. listed_of (area_after x Units)) (sym moves))) (stands (area_after n Units))

-- the names whose stamp isn't known, by the stamps that the list has
pub changed_names : (known stamps : StampMap) (listed : List Listed) → IsRising listed → stamps ≡ from_sorted (rows_of listed) → map (λ l. l.name) (unknown known listed) ≡ changed known stamps
changed_names known stamps listed rise is =
    let names : List Listed → List (List ℕ) = λ xs. map (λ l. l.name) (unknown known xs) in
    ap names (sym (rows_listed listed)) ∙ ap (λ es. names (map listed_at es)) (sym (entries-from_sorted text_cmp (rows_of listed) (told _ rise)))
    ∙ ap (changed known) (sym is)

rows_of_files : (es : List (List ℕ × File)) → rows_of (map listed_entry es) ≡ map (λ e. (e.0, e.1.stamp)) es
rows_of_files [] = refl
rows_of_files (e ∷ es) = ap (λ rest. (e.0, e.1.stamp) ∷ rest) (rows_of_files es)

-- the stamps of a list that was made are those of the files
pub stamps_where_told : (moves : Option (List Move)) (r : Result Scanned ScanError) (listed slice : List Listed) → slice ≡ listed → IfOk r (λ s. s.stamps ≡ from_sorted (rows_of slice)) → IfSome moves (λ m. listed ≡ listed_of (area_after m Units))
    → IfOk r (λ s. IfSome moves (λ m. s.stamps ≡ stamps_in (area_after m Units)))
stamps_where_told moves (Err e) listed slice same is lists = tt
stamps_where_told None (Ok s) listed slice same is lists = tt
stamps_where_told (Some m) (Ok s) listed slice same is lists =
    is ∙ ap (λ xs. from_sorted {R = text_cmp} (rows_of xs)) (same ∙ lists) ∙ ap (from_sorted {R = text_cmp}) (rows_of_files (entries (area_after m Units)))
