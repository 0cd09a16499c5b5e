-- The files that were read, and those that stand.
use Rattle.std.proofs.Common.{◌≡◌, ℕ, Bool, true, false, cond, ◌&&◌, List, [], ◌∷◌, ◌++◌, map, refl, sym, ap, subst, ◌∙◌, Option, Some, None, option_map, IsTrue}
use Rattle.std.specs.List.{AllByRecursion}
use Rattle.std.specs.Map.{lookup}
use Rattle.std.specs.BTreeMap.{is_at}
use Rattle.std.specs.Ordering.{is_lt}
use Rattle.std.specs.Cmp.Lexicographic.{nat_list_cmp_total, texts_ties, same_text}
use Rattle.std.specs.FinMap.{is_sorted, entries, entries_sorted, get, get-entries, entries-from_sorted, get-from_sorted, empty, insert, remove, get-insert, get-remove}
use Rattle.std.specs.FinMap.Entries.{below_all}
use Rattle.std.proofs.lemmas.Bool.{and_parts}
use Rattle.ix_types.specs.Row.{text_cmp}
use Rattle.ix_dir.specs.declared.area.Area.{Area}
use Rattle.ix_dir.specs.declared.area.Area.TheVariants.{Units, Records}
use Rattle.ix_dir.specs.declared.dir.Listed.{Listed}
use Rattle.ix_dir.specs.declared.moves.Move.{Move}
use Rattle.ix_dir.specs.Crash.{standing}
use Rattle.ix_dir.specs.Files as dir
use Rattle.ix_dir.specs.Files.{File, Contents, bytes_at, contents_of, listed_of, listed_entry, rows_of, IsRising}
use Rattle.ix_dir.specs.Moves.{area_after, same_name}
use Rattle.ix_dir.proofs.Door.{find_rows, sorted_rows, holds, told}
use Rattle.ix_machine.specs.State.{Files}
use Rattle.ix_opening.specs.declared.records.RecordState.{RecordState}
use Rattle.ix_opening.specs.Known.{IsState, IsRead, AreRead, Agrees, state_of}
use Rattle.ix_opening.specs.Steps.{given_file, AreGiven}
use Rattle.ix_opening.proofs.FilesByName.{lookup_is_find, IsIn, all_in}

bytes_of : File → List ℕ
bytes_of = λ f. f.bytes

abbrev rows : List (List ℕ × File) → Files
rows es = map (λ e. (e.0, e.1.bytes)) es

-- ---- files without their stamps

rows_sorted : (files : dir.Files) → IsTrue (is_sorted text_cmp (rows (entries files)))
rows_sorted files = sorted_rows (λ (f : File). f.bytes) (entries files) ∙ holds _ (entries_sorted files)

pub entries_of : (files : dir.Files) → entries (contents_of files) ≡ rows (entries files)
entries_of files = entries-from_sorted text_cmp (rows (entries files)) (told _ (rows_sorted files))

pub in_contents : (files : dir.Files) (name : List ℕ) → get (contents_of files) name ≡ bytes_at files name
in_contents files name =
    get-from_sorted text_cmp (rows (entries files)) name (told _ (rows_sorted files))
    ∙ find_rows (λ (f : File). f.bytes) name (entries files) ∙ ap (option_map (λ (f : File). f.bytes)) (sym (get-entries files name))

-- what stands under a name, by a look-up in the list of files
pub stands_by_lookup : (moves : List Move) (area : Area) (name : List ℕ) → lookup (is_at (text_cmp name)) (entries (standing moves area)) ≡ bytes_at (area_after moves area) name
stands_by_lookup moves area name =
    lookup_is_find name (entries (standing moves area)) ∙ sym (get-entries (standing moves area) name) ∙ in_contents (area_after moves area) name

-- ---- the units

module _ (moves : List Move) where
  abbrev Stands : List ℕ × File → Type 0
  Stands e = bytes_at (area_after moves Units) e.0 ≡ Some e.1.bytes

  each_stands : (es : List (List ℕ × File)) → AllByRecursion (IsIn (entries (area_after moves Units))) es → AllByRecursion Stands es
  each_stands [] all = tt
  each_stands (e ∷ es) all = (ap (option_map (λ (f : File). f.bytes)) (get-entries (area_after moves Units) e.0 ∙ all.0), each_stands es all.1)

  given_are : (es : List (List ℕ × File)) (files : Files) → AreGiven (Some moves) (map listed_entry es) files → AllByRecursion Stands es → files ≡ rows es
  given_are [] files are all = are
  given_are (e ∷ es) files are all =
      are.parts ∙ ap (λ (given : Option (List ℕ)). given_file e.0 given ++ are.others) (are.stands ∙ all.0)
      ∙ ap (λ (others : Files). (e.0, e.1.bytes) ∷ others) (given_are es are.others are.behind all.1)

  pub given_stand : (listed : List Listed) (files : Files) → listed ≡ listed_of (area_after moves Units) → AreGiven (Some moves) listed files → files ≡ entries (standing moves Units)
  given_stand listed files lists are =
      let all = each_stands (entries (area_after moves Units)) (all_in (entries (area_after moves Units)) (holds _ (entries_sorted (area_after moves Units)))) in
      given_are (entries (area_after moves Units)) files (subst (λ xs. AreGiven (Some moves) xs files) lists are) all ∙ sym (entries_of (area_after moves Units))

-- the files that were read rise as the list does
module _ (moves : Option (List Move)) where
  below_given : (x : List ℕ) (listed : List Listed) (files : Files) → AreGiven moves listed files → below_all text_cmp x (rows_of listed) ≡ true → below_all text_cmp x files ≡ true
  below_given x [] files are h = ap (below_all text_cmp x) are
  below_given x (one ∷ listed) files are h =
      let parts = and_parts (is_lt (text_cmp x one.name)) (below_all text_cmp x (rows_of listed)) h in
      ap (below_all text_cmp x) are.parts ∙ below_first are.given are.others parts.0 (below_given x listed are.others are.behind parts.1)
    where
      below_first : (given : Option (List ℕ)) (others : Files) → is_lt (text_cmp x one.name) ≡ true → below_all text_cmp x others ≡ true → below_all text_cmp x (given_file one.name given ++ others) ≡ true
      below_first None others first rest = rest
      below_first (Some bytes) others first rest = ap (λ (b : Bool). b && below_all text_cmp x others) first ∙ rest

  pub given_rise : (listed : List Listed) (files : Files) → AreGiven moves listed files → is_sorted text_cmp (rows_of listed) ≡ true → is_sorted text_cmp files ≡ true
  given_rise [] files are h = ap (is_sorted text_cmp) are
  given_rise (one ∷ listed) files are h =
      let parts = and_parts (below_all text_cmp one.name (rows_of listed)) (is_sorted text_cmp (rows_of listed)) h in
      ap (is_sorted text_cmp) are.parts ∙ rise_first are.given are.others (below_given one.name listed are.others are.behind parts.0) (given_rise listed are.others are.behind parts.1)
    where
      rise_first : (given : Option (List ℕ)) (others : Files) → below_all text_cmp one.name others ≡ true → is_sorted text_cmp others ≡ true → is_sorted text_cmp (given_file one.name given ++ others) ≡ true
      rise_first None others first rest = rest
      rise_first (Some bytes) others first rest = ap (λ (b : Bool). b && is_sorted text_cmp others) first ∙ rest

-- ---- the records

module _ (name_of : List ℕ → List ℕ) where
  read_of : (moves : Option (List Move)) (known : List (List ℕ × RecordState)) (name : List ℕ) (state : RecordState) → AreRead name_of moves known → state_of known name ≡ Some state → IsRead name_of moves name state
  read_of moves [] name state all is = absurd (cc)
  read_of moves (e ∷ known) name state all is =
      elim (same_name name e.0) as (λ b. b ≡ same_name name e.0 → cond b (Some e.1) (state_of known name) ≡ Some state → IsRead name_of moves name state) [
        | true ↦ λ same is.
            let state_is : e.1 ≡ state = cc in
            subst (IsRead name_of moves name) state_is (subst (λ n. IsRead name_of moves n e.1) (sym (same_text name e.0 same)) all.0)
        | false ↦ λ same is. read_of moves known name state all.1 is
      ] refl is

  -- where the moves are told, what is known holds of what stands
  pub agrees_told : (moves : List Move) (known : List (List ℕ × RecordState)) → AreRead name_of (Some moves) known → Agrees name_of known (entries (standing moves Records))
  agrees_told moves known all name state is =
      let read = read_of (Some moves) known name state all is in
      subst (λ found. IsState name_of name found state) (read.stands ∙ sym (stands_by_lookup moves Records name)) read.is

  -- the contents with this under the name
  with_found : (contents : Contents) (name : List ℕ) (found : Option (List ℕ)) → (c : Contents) × ((q : List ℕ) → get c q ≡ cond (same_name q name) found (get contents q))
  with_found contents name (Some bytes) = (insert contents name bytes, λ q. get-insert nat_list_cmp_total contents name bytes q ∙ ap (λ (b : Bool). cond b (Some bytes) (get contents q)) (sym (texts_ties q name)))
  with_found contents name None = (remove contents name, λ q. get-remove nat_list_cmp_total contents name q ∙ ap (λ (b : Bool). cond b None (get contents q)) (sym (texts_ties q name)))

  -- else it holds of some files
  pub some_agree : (moves : Option (List Move)) (known : List (List ℕ × RecordState)) → AreRead name_of moves known → (c : Contents) × Agrees name_of known (entries c)
  some_agree moves [] all = (empty, λ name state is. absurd (cc))
  some_agree moves (e ∷ known) all =
      let rest = some_agree moves known all.1 in
      let more = with_found rest.0 e.0 all.0.found in (
        more.0,
        λ name state is.
            let at : lookup (is_at (text_cmp name)) (entries more.0) ≡ cond (same_name name e.0) all.0.found (get rest.0 name) =
            lookup_is_find name (entries more.0) ∙ sym (get-entries more.0 name) ∙ more.1 name in
            (elim (same_name name e.0) as (λ b. b ≡ same_name name e.0 → lookup (is_at (text_cmp name)) (entries more.0) ≡ cond b all.0.found (get rest.0 name)
            → cond b (Some e.1) (state_of known name) ≡ Some state → IsState name_of name (lookup (is_at (text_cmp name)) (entries more.0)) state) [
              | true ↦ λ same at is.
                  let state_is : e.1 ≡ state = cc in
                  subst (λ f. IsState name_of name f state) (sym at)
                  (subst (IsState name_of name all.0.found) state_is (subst (λ n. IsState name_of n all.0.found e.1) (sym (same_text name e.0 same)) all.0.is))
              | false ↦ λ same at is.
                  subst (λ f. IsState name_of name f state) (lookup_is_find name (entries rest.0) ∙ sym (get-entries rest.0 name) ∙ sym at) (rest.1 name state is)
            ]) refl at is,
      )
