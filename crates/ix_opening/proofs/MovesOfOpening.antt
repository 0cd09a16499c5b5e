-- What the moves of an opening leave of each name.
use Rattle.std.proofs.Common.{◌≡◌, ◌⊎◌, inl, inr, ℕ, zero, suc, Bool, true, false, cond, ◌||◌, List, [], ◌∷◌, ◌++◌, map, refl, sym, ap, subst, ◌∙◌, Option, Some, None, option_map, Result, Ok, Err, Contains, arith, append_assoc}
use Rattle.std.specs.List.{AllByRecursion, filter_map, cons_option, list_any}
use Rattle.std.specs.Ordering.{eq_by_cmp}
use Rattle.std.specs.Cmp.Lexicographic.{nat_list_cmp_total, texts_ties, same_text}
use Rattle.std.specs.FinMap.{find, entries, entries_sorted, get, get-entries, get-remove}
use Rattle.std.proofs.lemmas.List.Elements.{Contains-append_cases}
use Rattle.ix_types.specs.Row.{text_cmp}
use Rattle.ix_dir.specs.declared.area.Area.{Area}
use Rattle.ix_dir.specs.declared.area.Area.TheVariants.{Units, Records}
use Rattle.ix_dir.specs.Crash.{standing}
use Rattle.ix_dir.specs.Files as dir
use Rattle.ix_dir.specs.Files.{File, bytes_at}
use Rattle.ix_dir.specs.Images.{Value, values_of, values_step, last_alone, IsImage}
use Rattle.ix_dir.specs.declared.moves.Move.{Move}
use Rattle.ix_dir.specs.declared.moves.Move.TheVariants.{Removed, Synced}
use Rattle.ix_dir.specs.Moves.{area_after, area_step, same_area, same_name}
use Rattle.ix_dir.proofs.Door.{holds}
use Rattle.ix_model.specs.declared.publication.StoredUnit.{StoredUnit}
use Rattle.ix_machine.specs.declared.opened.Refused.{Refused}
use Rattle.ix_machine.specs.declared.opened.UnitFault.{UnitFault}
use Rattle.ix_machine.specs.Opening.{judged, refusal}
use Rattle.ix_machine.specs.State.{Files}
use Rattle.ix_opening.specs.AfterOpening.{names_of, removals, opening_moves, synced_both}
use Rattle.ix_opening.specs.Found.{opening_of}
use Rattle.ix_opening.proofs.FilesByName.{IsIn, all_in}
use Rattle.ix_opening.proofs.FilesThatStand.{in_contents}

-- the laws of directories
pub record DirLaws : Type 0 where
  pub area_one : (moves : List Move) (move : Move) (area : Area) → area_after (moves ++ move ∷ []) area ≡ area_step area (area_after moves area) move
  pub values_one : (moves : List Move) (move : Move) (area : Area) (name : List ℕ) → values_of (moves ++ move ∷ []) area name ≡ values_step area name (values_of moves area name) move
  pub last : (moves : List Move) (area : Area) (name : List ℕ) → last_alone (values_of moves area name) ≡ bytes_at (area_after moves area) name ∷ []
  pub image : (moves : List Move) → IsImage moves (standing moves)

pub append_nothing : {A : Type 0} (xs : List A) → xs ++ [] ≡ xs
append_nothing [] = refl
append_nothing (x ∷ xs) = ap (λ rest. x ∷ rest) (append_nothing xs)

pub all_both : {A : Type 0} (P : A → Type 0) (xs ys : List A) → AllByRecursion P xs → AllByRecursion P ys → AllByRecursion P (xs ++ ys)
all_both P [] ys all more = more
all_both P (x ∷ xs) ys all more = (all.0, all_both P xs ys all.1 more)

or_is : (b c : Bool) → c ≡ true → (b || c) ≡ true
or_is true c h = refl
or_is false c h = h

only_one : (w v : Value) → Contains (w ∷ []) v → v ≡ w
only_one w v (zero, h, is) = sym is
only_one w v (suc k, h, is) = absurd (omega arith)

module _ (laws : DirLaws) (name_of : List ℕ → List ℕ) (before : List Move) where
  abbrev pub records_before : Files
  records_before = entries (standing before Records)

  -- the unit file of this name is one that opening refuses
  pub record IsRefused (name : List ℕ) : Type 0 where
    pub bytes : List ℕ
    pub fault : UnitFault
    pub stands : bytes_at (area_after before Units) name ≡ Some bytes
    pub is : judged name_of records_before name bytes ≡ Err fault

  -- the value is what stood, or that a refused unit file is gone
  abbrev pub IsKept : Area → List ℕ → Value → Type 0
  IsKept area name value = (value ≡ bytes_at (area_after before area) name) ⊎ ((area ≡ Units) × (value ≡ None) × IsRefused name)

  -- a sync, or a removal of a refused file
  abbrev pub IsOpeningMove : Move → Type 0
  IsOpeningMove move = ((area : Area) × (move ≡ Synced area)) ⊎ ((name : List ℕ) × (move ≡ Removed Units name) × IsRefused name)

  -- ---- what stands

  removed_at : (moves : List Move) (name q : List ℕ) → bytes_at (area_after (moves ++ Removed Units name ∷ []) Units) q ≡ cond (same_name q name) None (bytes_at (area_after moves Units) q)
  removed_at moves name q =
      let bytes : Option File → Value = option_map (λ (f : File). f.bytes) in
      ap (λ (files : dir.Files). bytes_at files q) (laws.area_one moves (Removed Units name) Units)
      ∙ ap bytes (get-remove nat_list_cmp_total (area_after moves Units) name q)
      ∙ (elim (same_name q name) as (λ b. b ≡ same_name q name → option_map (λ (f : File). f.bytes) (cond (eq_by_cmp text_cmp q name) None (get (area_after moves Units) q)) ≡ cond b None (bytes_at (area_after moves Units) q)) [
        | true ↦ λ is. ap (λ (b : Bool). option_map (λ (f : File). f.bytes) (cond b None (get (area_after moves Units) q))) (sym (texts_ties q name) ∙ sym is)
        | false ↦ λ is. ap (λ (b : Bool). option_map (λ (f : File). f.bytes) (cond b None (get (area_after moves Units) q))) (sym (texts_ties q name) ∙ sym is)
      ]) refl

  pub synced_at : (moves : List Move) (synced area : Area) → area_after (moves ++ Synced synced ∷ []) area ≡ area_after moves area
  synced_at moves synced area = laws.area_one moves (Synced synced) area

  removed_beside : (moves : List Move) (name : List ℕ) → area_after (moves ++ Removed Units name ∷ []) Records ≡ area_after moves Records
  removed_beside moves name = laws.area_one moves (Removed Units name) Records

  one_kept : (moves : List Move) (move : Move) (area : Area) (q : List ℕ) → IsOpeningMove move → IsKept area q (bytes_at (area_after moves area) q) → IsKept area q (bytes_at (area_after (moves ++ move ∷ []) area) q)
  one_kept moves move area q (inl (synced, is)) kept =
      subst (λ (m : Move). IsKept area q (bytes_at (area_after (moves ++ m ∷ []) area) q)) (sym is)
      (subst (λ (files : dir.Files). IsKept area q (bytes_at files q)) (sym (synced_at moves synced area)) kept)
  one_kept moves move Records q (inr (name, is, refused)) kept =
      subst (λ (m : Move). IsKept Records q (bytes_at (area_after (moves ++ m ∷ []) Records) q)) (sym is)
      (subst (λ (files : dir.Files). IsKept Records q (bytes_at files q)) (sym (removed_beside moves name)) kept)
  one_kept moves move Units q (inr (name, is, refused)) kept =
      subst (λ (m : Move). IsKept Units q (bytes_at (area_after (moves ++ m ∷ []) Units) q)) (sym is)
      (subst (IsKept Units q) (sym (removed_at moves name q))
      ((elim (same_name q name) as (λ b. b ≡ same_name q name → IsKept Units q (cond b None (bytes_at (area_after moves Units) q))) [
        | true ↦ λ same. inr (refl, refl, subst IsRefused (sym (same_text q name same)) refused)
        | false ↦ λ same. kept
      ]) refl))

  all_kept : (more moves : List Move) (area : Area) (q : List ℕ) → AllByRecursion IsOpeningMove more → IsKept area q (bytes_at (area_after moves area) q) → IsKept area q (bytes_at (area_after (moves ++ more) area) q)
  all_kept [] moves area q all kept = subst (λ (ms : List Move). IsKept area q (bytes_at (area_after ms area) q)) (sym (append_nothing moves)) kept
  all_kept (move ∷ more) moves area q all kept =
      subst (λ (ms : List Move). IsKept area q (bytes_at (area_after ms area) q)) (append_assoc moves (move ∷ []) more)
      (all_kept more (moves ++ move ∷ []) area q all.1 (one_kept moves move area q all.0 kept))

  -- ---- what is gone stays gone

  one_gone : (moves : List Move) (move : Move) (q : List ℕ) → IsOpeningMove move → bytes_at (area_after moves Units) q ≡ None → bytes_at (area_after (moves ++ move ∷ []) Units) q ≡ None
  one_gone moves move q (inl (synced, is)) gone =
      ap (λ (m : Move). bytes_at (area_after (moves ++ m ∷ []) Units) q) is ∙ ap (λ (files : dir.Files). bytes_at files q) (synced_at moves synced Units) ∙ gone
  one_gone moves move q (inr (name, is, refused)) gone =
      ap (λ (m : Move). bytes_at (area_after (moves ++ m ∷ []) Units) q) is ∙ removed_at moves name q
      ∙ (elim (same_name q name) as (λ b. cond b None (bytes_at (area_after moves Units) q) ≡ None) [
        | true ↦ refl
        | false ↦ gone
      ])

  all_gone : (more moves : List Move) (q : List ℕ) → AllByRecursion IsOpeningMove more → bytes_at (area_after moves Units) q ≡ None → bytes_at (area_after (moves ++ more) Units) q ≡ None
  all_gone [] moves q all gone = ap (λ (ms : List Move). bytes_at (area_after ms Units) q) (append_nothing moves) ∙ gone
  all_gone (move ∷ more) moves q all gone =
      ap (λ (ms : List Move). bytes_at (area_after ms Units) q) (sym (append_assoc moves (move ∷ []) more)) ∙ all_gone more (moves ++ move ∷ []) q all.1 (one_gone moves move q all.0 gone)

  -- ---- the moves

  are_removals : (names : List (List ℕ)) → AllByRecursion IsRefused names → AllByRecursion IsOpeningMove (map (Removed Units) names)
  are_removals [] all = tt
  are_removals (name ∷ names) all = (inr (name, refl, all.0), are_removals names all.1)

  pub are_opening_moves : (names : List (List ℕ)) → AllByRecursion IsRefused names → AllByRecursion IsOpeningMove (removals names)
  are_opening_moves [] all = tt
  are_opening_moves (name ∷ names) all = all_both IsOpeningMove (map (Removed Units) (name ∷ names)) (Synced Units ∷ []) (are_removals (name ∷ names) all) (inl (Units, refl), tt)

  removed_gone : (names : List (List ℕ)) (moves : List Move) (q : List ℕ) → AllByRecursion IsRefused names → list_any (same_name q) names ≡ true
      → bytes_at (area_after (moves ++ map (Removed Units) names) Units) q ≡ None
  removed_gone [] moves q all listed = cc
  removed_gone (name ∷ names) moves q all listed =
      ap (λ (ms : List Move). bytes_at (area_after ms Units) q) (sym (append_assoc moves (Removed Units name ∷ []) (map (Removed Units) names)))
      ∙ (elim (same_name q name) as (λ b. b ≡ same_name q name → (b || list_any (same_name q) names) ≡ true → bytes_at (area_after ((moves ++ Removed Units name ∷ []) ++ map (Removed Units) names) Units) q ≡ None) [
        | true ↦ λ same listed.
            all_gone (map (Removed Units) names) (moves ++ Removed Units name ∷ []) q (are_removals names all.1)
            (removed_at moves name q ∙ ap (λ (b : Bool). cond b None (bytes_at (area_after moves Units) q)) (sym same))
        | false ↦ λ same listed. removed_gone names (moves ++ Removed Units name ∷ []) q all.1 listed
      ]) refl listed

  pub removals_gone : (names : List (List ℕ)) (moves : List Move) (q : List ℕ) → AllByRecursion IsRefused names → list_any (same_name q) names ≡ true
      → bytes_at (area_after (moves ++ removals names) Units) q ≡ None
  removals_gone [] moves q all listed = cc
  removals_gone (name ∷ names) moves q all listed =
      ap (λ (ms : List Move). bytes_at (area_after ms Units) q) (sym (append_assoc moves (map (Removed Units) (name ∷ names)) (Synced Units ∷ [])))
      ∙ one_gone (moves ++ map (Removed Units) (name ∷ names)) (Synced Units) q (inl (Units, refl)) (removed_gone (name ∷ names) moves q all listed)

  -- ---- the refused names

  abbrev refused_in : Files → List Refused
  refused_in es = filter_map (λ (file : List ℕ × List ℕ). refusal file.0 (judged name_of records_before file.0 file.1)) es

  abbrev pub refused_names : List (List ℕ)
  refused_names = names_of (opening_of name_of (standing before)).refused

  refused_of : (es : Files) → AllByRecursion (IsIn (entries (standing before Units))) es → AllByRecursion IsRefused (names_of (refused_in es))
  refused_of [] all = tt
  refused_of (e ∷ es) all =
      (elim (judged name_of records_before e.0 e.1) as (λ r. judged name_of records_before e.0 e.1 ≡ r → AllByRecursion IsRefused (names_of (cons_option (refusal e.0 r) (refused_in es)))) [
        | Ok found ↦ λ is. refused_of es all.1
        | Err fault ↦ λ is. (
          record {
            bytes = e.1;
            fault = fault;
            stands = sym (in_contents (area_after before Units) e.0) ∙ get-entries (standing before Units) e.0 ∙ all.0;
            is = is;
          },
          refused_of es all.1,
        )
      ]) refl

  pub all_refused : AllByRecursion IsRefused refused_names
  all_refused = refused_of (entries (standing before Units)) (all_in (entries (standing before Units)) (holds _ (entries_sorted (standing before Units))))

  listed_in : (es : Files) (q bytes : List ℕ) (fault : UnitFault) → find text_cmp q es ≡ Some bytes → judged name_of records_before q bytes ≡ Err fault → list_any (same_name q) (names_of (refused_in es)) ≡ true
  listed_in [] q bytes fault found is = cc
  listed_in (e ∷ es) q bytes fault found is =
      (elim (same_name q e.0) as (λ b. b ≡ same_name q e.0 → cond b (Some e.1) (find text_cmp q es) ≡ Some bytes → list_any (same_name q) (names_of (refused_in (e ∷ es))) ≡ true) [
        | true ↦ λ same found.
            let there : e.1 ≡ bytes = cc in
            let here : judged name_of records_before e.0 e.1 ≡ Err fault = subst (λ n. judged name_of records_before n e.1 ≡ Err fault) (same_text q e.0 same) (ap (judged name_of records_before q) there ∙ is) in
            ap (λ (r : Result StoredUnit UnitFault). list_any (same_name q) (names_of (cons_option (refusal e.0 r) (refused_in es)))) here
            ∙ ap (λ (b : Bool). b || list_any (same_name q) (names_of (refused_in es))) (sym same)
        | false ↦ λ same found.
            let rest = listed_in es q bytes fault found is in
            elim (judged name_of records_before e.0 e.1) as (λ r. list_any (same_name q) (names_of (cons_option (refusal e.0 r) (refused_in es))) ≡ true) [
              | Ok unit ↦ rest
              | Err other ↦ or_is (same_name q e.0) _ rest
            ]
      ]) refl (ap (λ (b : Bool). cond b (Some e.1) (find text_cmp q es)) (texts_ties q e.0) ∙ found)

  pub is_listed : (q : List ℕ) → IsRefused q → list_any (same_name q) refused_names ≡ true
  is_listed q refused =
      listed_in (entries (standing before Units)) q refused.bytes refused.fault
      (sym (get-entries (standing before Units) q) ∙ in_contents (area_after before Units) q ∙ refused.stands) refused.is

  -- ---- all of it

  pub all_opening : AllByRecursion IsOpeningMove (opening_moves name_of before)
  all_opening = (inl (Records, refl), (inl (Units, refl), are_opening_moves refused_names all_refused))

  -- after some of the moves each name has what stood there, or nothing in the place of a refused file
  pub kept_after : (more : List Move) (area : Area) (q : List ℕ) → AllByRecursion IsOpeningMove more → IsKept area q (bytes_at (area_after (before ++ more) area) q)
  kept_after more area q all = all_kept more before area q all (inl refl)

  pub gone_after : (q : List ℕ) → IsRefused q → bytes_at (area_after (before ++ opening_moves name_of before) Units) q ≡ None
  gone_after q refused =
      ap (λ (ms : List Move). bytes_at (area_after ms Units) q) (sym (append_assoc before (Synced Records ∷ Synced Units ∷ []) (removals refused_names)))
      ∙ removals_gone refused_names (before ++ Synced Records ∷ Synced Units ∷ []) q all_refused (is_listed q refused)

  -- ---- what a crash may leave

  abbrev AllKept : List Move → Type 0
  AllKept moves = (area : Area) (q : List ℕ) (v : Value) → Contains (values_of moves area q) v → IsKept area q v

  stands_among : (moves : List Move) (area : Area) (q : List ℕ) → Contains (values_of moves area q) (bytes_at (area_after moves area) q)
  stands_among moves area q = subst (Contains (values_of moves area q)) (in_contents (area_after moves area) q) (laws.image moves area q)

  one_value : (moves : List Move) (move : Move) → IsOpeningMove move → AllKept moves → AllKept (moves ++ move ∷ [])
  one_value moves move (inl (synced, is)) kept area q v there =
      let step : values_of (moves ++ move ∷ []) area q ≡ cond (same_area area synced) (last_alone (values_of moves area q)) (values_of moves area q) =
      ap (λ (m : Move). values_of (moves ++ m ∷ []) area q) is ∙ laws.values_one moves (Synced synced) area q in
      (elim (same_area area synced) as (λ b. Contains (cond b (last_alone (values_of moves area q)) (values_of moves area q)) v → IsKept area q v) [
        | true ↦ λ there.
            let v_is = only_one (bytes_at (area_after moves area) q) v (subst (λ (vs : List Value). Contains vs v) (laws.last moves area q) there) in
            kept area q v (subst (Contains (values_of moves area q)) (sym v_is) (stands_among moves area q))
        | false ↦ λ there. kept area q v there
      ]) (subst (λ (vs : List Value). Contains vs v) step there)
  one_value moves move (inr (name, is, refused)) kept Records q v there =
      kept Records q v (subst (λ (vs : List Value). Contains vs v) (ap (λ (m : Move). values_of (moves ++ m ∷ []) Records q) is ∙ laws.values_one moves (Removed Units name) Records q) there)
  one_value moves move (inr (name, is, refused)) kept Units q v there =
      let step : values_of (moves ++ move ∷ []) Units q ≡ cond (same_name name q) (values_of moves Units q ++ None ∷ []) (values_of moves Units q) =
      ap (λ (m : Move). values_of (moves ++ m ∷ []) Units q) is ∙ laws.values_one moves (Removed Units name) Units q in
      (elim (same_name name q) as (λ b. b ≡ same_name name q → Contains (cond b (values_of moves Units q ++ None ∷ []) (values_of moves Units q)) v → IsKept Units q v) [
        | true ↦ λ same there. (elim (Contains-append_cases (values_of moves Units q) (None ∷ []) v there) [
          | inl old ↦ kept Units q v old
          | inr new ↦ inr (refl, only_one None v new, subst IsRefused (same_text name q same) refused)
        ])
        | false ↦ λ same there. kept Units q v there
      ]) refl (subst (λ (vs : List Value). Contains vs v) step there)

  pub all_values : (more moves : List Move) → AllByRecursion IsOpeningMove more → AllKept moves → AllKept (moves ++ more)
  all_values [] moves all kept = subst AllKept (sym (append_nothing moves)) kept
  all_values (move ∷ more) moves all kept = subst AllKept (append_assoc moves (move ∷ []) more) (all_values more (moves ++ move ∷ []) all.1 (one_value moves move all.0 kept))

  -- after both syncs a crash leaves what stood
  pub synced_values : (moves : List Move) (synced : Area) (q : List ℕ) → values_of (moves ++ Synced synced ∷ []) synced q ≡ bytes_at (area_after moves synced) q ∷ []
  synced_values moves Units q = laws.values_one moves (Synced Units) Units q ∙ laws.last moves Units q
  synced_values moves Records q = laws.values_one moves (Synced Records) Records q ∙ laws.last moves Records q

  pub first_values : AllKept (synced_both before)
  first_values Units q v there =
      inl
      (only_one (bytes_at (area_after (before ++ Synced Records ∷ []) Units) q) v (subst (λ (vs : List Value). Contains vs v) (synced_values (before ++ Synced Records ∷ []) Units q) there)
      ∙ ap (λ (files : dir.Files). bytes_at files q) (synced_at before Records Units))
  first_values Records q v there =
      inl
      (only_one (bytes_at (area_after before Records) q) v
      (subst (λ (vs : List Value). Contains vs v) (laws.values_one (before ++ Synced Records ∷ []) (Synced Units) Records q ∙ synced_values before Records q) there))
