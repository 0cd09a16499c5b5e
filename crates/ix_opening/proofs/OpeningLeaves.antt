-- What an opening leaves, at its end and at each moment from its second sync on.
use Rattle.std.proofs.Common.{◌≡◌, ◌⊎◌, inl, inr, ℕ, zero, suc, ◌+◌, ◌-◌, ◌≤◌, cond, List, [], ◌∷◌, ◌++◌, length, map, take, refl, sym, ap, subst, ◌∙◌, Some, None, option_and_then, Ok, Err, is_ok, arith, append_assoc}
use Rattle.std.proofs.lemmas.List.{length-append}
use Rattle.std.specs.List.{AllByRecursion, filter_map, cons_option}
use Rattle.std.specs.Result.{result_ok}
use Rattle.std.specs.FinMap.{entries, entries_sorted, get, get-entries}
use Rattle.ix_dir.specs.declared.area.Area.{Area}
use Rattle.ix_dir.specs.declared.area.Area.TheVariants.{Units, Records}
use Rattle.ix_dir.specs.Crash.{standing, IsSettledIn, IsSettled}
use Rattle.ix_dir.specs.Files as dir
use Rattle.ix_dir.specs.Files.{Contents, bytes_at, contents_of}
use Rattle.ix_dir.specs.Images.{Value, Image, IsImage}
use Rattle.ix_dir.specs.declared.moves.Move.{Move}
use Rattle.ix_dir.specs.declared.moves.Move.TheVariants.{Removed, Synced}
use Rattle.ix_dir.specs.Moves.{area_after}
use Rattle.ix_dir.proofs.Door.{holds}
use Rattle.ix_model.specs.declared.publication.StoredUnit.{StoredUnit}
use Rattle.ix_machine.specs.declared.opened.Refused.{Refused}
use Rattle.ix_machine.specs.declared.opened.UnitFault.{UnitFault}
use Rattle.ix_machine.specs.Opening.{judged, refusal, sound_at}
use Rattle.ix_machine.specs.State.{Files}
use Rattle.ix_opening.specs.AfterOpening.{removals, opening_moves, synced_both, sound_bytes, IsFront}
use Rattle.ix_opening.specs.Found.{opening_of}
use Rattle.ix_opening.proofs.FilesByName.{IsIn, all_in}
use Rattle.ix_opening.proofs.FilesThatStand.{in_contents}
use Rattle.ix_opening.proofs.MovesOfOpening.{DirLaws, append_nothing, records_before, IsKept, IsOpeningMove, refused_names, all_refused, are_opening_moves, all_opening, kept_after, gone_after, all_values, first_values, synced_at, synced_values}
use Rattle.ix_opening.proofs.SameUnits.{same_contents, IsSameOrRefused, same_sound}

pub take_beyond : {A : Type 0} (xs ys : List A) (n : ℕ) → length xs ≤ n → take n (xs ++ ys) ≡ xs ++ take (n - length xs) ys
take_beyond [] ys n h = let e : n ≡ n - 0 = omega arith in ap (λ k. take k ys) e
take_beyond (x ∷ xs) ys zero h = absurd (omega arith)
take_beyond (x ∷ xs) ys (suc n) h =
    let e : n - length xs ≡ suc n - suc (length xs) = omega arith in
    ap (λ rest. x ∷ rest) (take_beyond xs ys n (omega arith) ∙ ap (λ k. xs ++ take k ys) e)

pub all_take : {A : Type 0} (P : A → Type 0) (xs : List A) (n : ℕ) → AllByRecursion P xs → AllByRecursion P (take n xs)
all_take P [] zero all = tt
all_take P [] (suc n) all = tt
all_take P (x ∷ xs) zero all = tt
all_take P (x ∷ xs) (suc n) all = (all.0, all_take P xs n all.1)

module _ (laws : DirLaws) (name_of : List ℕ → List ℕ) (before : List Move) where
  abbrev records : Files
  records = records_before laws name_of before

  abbrev Kept : Area → List ℕ → Value → Type 0
  Kept = IsKept laws name_of before

  abbrev after : List Move
  after = before ++ opening_moves name_of before

  to_same : (q : List ℕ) (v : Value) → Kept Units q v → IsSameOrRefused name_of records v q (bytes_at (area_after before Units) q)
  to_same q v (inl same) = inl same
  to_same q v (inr (is, none, refused)) =
      inr (none, ap (option_and_then (λ (b : List ℕ). result_ok (judged name_of records q b))) refused.stands ∙ ap result_ok refused.is)

  not_units : {X : Type 0} → Records ≡ Units → X
  not_units is = absurd (cc)

  record_kept : (q : List ℕ) (v : Value) → Kept Records q v → v ≡ bytes_at (area_after before Records) q
  record_kept q v (inl same) = same
  record_kept q v (inr (is, none, refused)) = not_units is

  -- contents in which only refused files are gone have the same sound units
  pub same_units : (image : Image) → ((area : Area) (q : List ℕ) → Kept area q (get (image area) q)) → (opening_of name_of image).units ≡ (opening_of name_of (standing before)).units
  same_units image kept =
      let same_records : image Records ≡ standing before Records = same_contents (image Records) (standing before Records) (λ q. record_kept q (get (image Records) q) (kept Records q) ∙ sym (in_contents (area_after before Records) q)) in
      ap (λ (c : Contents). filter_map (sound_at name_of (entries c)) (entries (image Units))) same_records
      ∙ same_sound name_of records (image Units) (standing before Units)
      (λ q. subst (IsSameOrRefused name_of records (get (image Units) q) q) (sym (in_contents (area_after before Units) q)) (to_same q (get (image Units) q) (kept Units q)))

  pub standing_same : (more : List Move) → AllByRecursion (IsOpeningMove laws name_of before) more → (opening_of name_of (standing (before ++ more))).units ≡ (opening_of name_of (standing before)).units
  standing_same more all =
      same_units (standing (before ++ more))
      (λ area q. subst (Kept area q) (sym (in_contents (area_after (before ++ more) area) q)) (kept_after laws name_of before more area q all))

  image_same : (more : List Move) → AllByRecursion (IsOpeningMove laws name_of before) more → (image : Image) → IsImage (synced_both before ++ more) image
      → (opening_of name_of image).units ≡ (opening_of name_of (standing before)).units
  image_same more all image left =
      same_units image (λ area q. all_values laws name_of before more (synced_both before) all (first_values laws name_of before) area q (get (image area) q) (left area q))

  -- the moves up to a moment from the second sync on
  pub up_to : (moment : ℕ) (rest : List Move) → length before + 2 ≤ moment → take moment (before ++ Synced Records ∷ Synced Units ∷ rest) ≡ synced_both before ++ take (moment - (length before + 2)) rest
  up_to moment rest within =
      let two : moment - length before ≡ suc (suc (moment - (length before + 2))) = omega arith in
      take_beyond before (Synced Records ∷ Synced Units ∷ rest) moment (omega arith)
      ∙ (ap (λ n. before ++ take n (Synced Records ∷ Synced Units ∷ rest)) two
      ∙ (sym (append_assoc before (Synced Records ∷ []) (Synced Units ∷ take (moment - (length before + 2)) rest))
      ∙ sym (append_assoc (before ++ Synced Records ∷ []) (Synced Units ∷ []) (take (moment - (length before + 2)) rest))))

  pub images_same : (moment : ℕ) (image : Image) → length before + 2 ≤ moment → IsImage (take moment after) image → (opening_of name_of image).units ≡ (opening_of name_of (standing before)).units
  images_same moment image within left =
      let names = refused_names laws name_of before in
      let all = are_opening_moves laws name_of before names (all_refused laws name_of before) in
      image_same (take (moment - (length before + 2)) (removals names)) (all_take (IsOpeningMove laws name_of before) (removals names) (moment - (length before + 2)) all) image
      (subst (λ (ms : List Move). IsImage ms image) (up_to moment (removals names) within) left)

  -- ---- a second opening

  pub second_units : (opening_of name_of (standing after)).units ≡ (opening_of name_of (standing before)).units
  second_units = standing_same (opening_moves name_of before) (all_opening laws name_of before)

  kept_end : (area : Area) (q : List ℕ) → Kept area q (bytes_at (area_after after area) q)
  kept_end area q = kept_after laws name_of before (opening_moves name_of before) area q (all_opening laws name_of before)

  same_records_end : standing after Records ≡ standing before Records
  same_records_end =
      same_contents (standing after Records) (standing before Records)
      (λ q. in_contents (area_after after Records) q ∙ record_kept q (bytes_at (area_after after Records) q) (kept_end Records q) ∙ sym (in_contents (area_after before Records) q))

  abbrev refused_in : Files → List Refused
  refused_in es = filter_map (λ (file : List ℕ × List ℕ). refusal file.0 (judged name_of records file.0 file.1)) es

  not_refused : (q bytes : List ℕ) (fault : UnitFault) → bytes_at (area_after after Units) q ≡ Some bytes → judged name_of records q bytes ≡ Err fault → Kept Units q (bytes_at (area_after after Units) q) → ⊥
  not_refused q bytes fault stands is (inl same) =
      let gone = gone_after laws name_of before q (record { bytes = bytes; fault = fault; stands = sym same ∙ stands; is = is }) in
      let no : Some bytes ≡ None = sym stands ∙ gone in
      absurd (cc)
  not_refused q bytes fault stands is (inr (area, none, refused)) = let no : Some bytes ≡ None = sym stands ∙ none in absurd (cc)

  none_refused : (es : Files) → AllByRecursion (IsIn (entries (standing after Units))) es → refused_in es ≡ []
  none_refused [] all = refl
  none_refused (e ∷ es) all =
      let stands : bytes_at (area_after after Units) e.0 ≡ Some e.1 = sym (in_contents (area_after after Units) e.0) ∙ (get-entries (standing after Units) e.0 ∙ all.0) in
      (elim (judged name_of records e.0 e.1) as (λ r. judged name_of records e.0 e.1 ≡ r → cons_option (refusal e.0 r) (refused_in es) ≡ []) [
        | Ok found ↦ λ is. none_refused es all.1
        | Err fault ↦ λ is. absurd (not_refused e.0 e.1 fault stands is (kept_end Units e.0))
      ]) refl

  pub second_refused : (opening_of name_of (standing after)).refused ≡ []
  second_refused =
      ap (λ (c : Contents). filter_map (λ (file : List ℕ × List ℕ). refusal file.0 (judged name_of (entries c) file.0 file.1)) (entries (standing after Units))) same_records_end
      ∙ none_refused (entries (standing after Units)) (all_in (entries (standing after Units)) (holds _ (entries_sorted (standing after Units))))

  -- ---- what stands at the end

  kept_sound : (q bytes : List ℕ) (found : StoredUnit) (v : Value) → bytes_at (area_after before Units) q ≡ Some bytes → judged name_of records q bytes ≡ Ok found → Kept Units q v → v ≡ Some bytes
  kept_sound q bytes found v stood is (inl same) = same ∙ stood
  kept_sound q bytes found v stood is (inr (area, none, refused)) =
      let both : Some refused.bytes ≡ Some bytes = sym refused.stands ∙ stood in
      let same : refused.bytes ≡ bytes = cc in
      let no : Err refused.fault ≡ Ok found = sym refused.is ∙ (ap (judged name_of records q) same ∙ is) in
      absurd (cc)

  kept_none : (q : List ℕ) (v : Value) → bytes_at (area_after before Units) q ≡ None → Kept Units q v → v ≡ None
  kept_none q v stood (inl same) = same ∙ stood
  kept_none q v stood (inr (area, none, refused)) = none

  pub sound_files_left : (q : List ℕ) → bytes_at (area_after after Units) q ≡ sound_bytes name_of records q (bytes_at (area_after before Units) q)
  sound_files_left q =
      (elim (bytes_at (area_after before Units) q) as (λ o. bytes_at (area_after before Units) q ≡ o → bytes_at (area_after after Units) q ≡ sound_bytes name_of records q o) [
        | None ↦ λ stood. kept_none q (bytes_at (area_after after Units) q) stood (kept_end Units q)
        | Some bytes ↦ λ stood.
            (elim (judged name_of records q bytes) as (λ r. judged name_of records q bytes ≡ r → bytes_at (area_after after Units) q ≡ cond (is_ok r) (Some bytes) None) [
              | Ok found ↦ λ is. kept_sound q bytes found (bytes_at (area_after after Units) q) stood is (kept_end Units q)
              | Err fault ↦ λ is. gone_after laws name_of before q (record { bytes = bytes; fault = fault; stands = stood; is = is })
            ]) refl
      ]) refl

  -- ---- wherever it stopped

  some_opening : (count : ℕ) → AllByRecursion (IsOpeningMove laws name_of before) (take count (opening_moves name_of before))
  some_opening count = all_take (IsOpeningMove laws name_of before) (opening_moves name_of before) count (all_opening laws name_of before)

  pub front_standing : (now : List Move) → IsFront name_of before now → (opening_of name_of (standing now)).units ≡ (opening_of name_of (standing before)).units
  front_standing now front =
      subst (λ (ms : List Move). (opening_of name_of (standing ms)).units ≡ (opening_of name_of (standing before)).units) (sym front.made)
      (standing_same (take front.count (opening_moves name_of before)) (some_opening front.count))

  pub front_records : (now : List Move) → IsFront name_of before now → standing now Records ≡ standing before Records
  front_records now front =
      let more = take front.count (opening_moves name_of before) in
      let same : standing (before ++ more) Records ≡ standing before Records =
      same_contents (standing (before ++ more) Records) (standing before Records)
      (λ q. in_contents (area_after (before ++ more) Records) q
      ∙ (record_kept q (bytes_at (area_after (before ++ more) Records) q) (kept_after laws name_of before more Records q (some_opening front.count))
      ∙ sym (in_contents (area_after before Records) q))) in
      subst (λ (ms : List Move). standing ms Records ≡ standing before Records) (sym front.made) same

  abbrev rest : List Move
  rest = removals (refused_names laws name_of before)

  all_rest : AllByRecursion (IsOpeningMove laws name_of before) rest
  all_rest = are_opening_moves laws name_of before (refused_names laws name_of before) (all_refused laws name_of before)

  -- a moment from the second sync on, of the moves that were made
  front_images_at : (now : List Move) (moment : ℕ) (image : Image) (count : ℕ) → now ≡ before ++ take count (opening_moves name_of before) → length before + 2 ≤ moment → moment ≤ length now
      → IsImage (take moment now) image → (opening_of name_of image).units ≡ (opening_of name_of (standing before)).units
  front_images_at now moment image zero made within there left =
      let n : length now ≡ length before + 0 = ap length made ∙ length-append before [] in
      absurd (omega (arith, n, within, there))
  front_images_at now moment image (suc zero) made within there left =
      let n : length now ≡ length before + 1 = ap length made ∙ length-append before (Synced Records ∷ []) in
      absurd (omega (arith, n, within, there))
  front_images_at now moment image (suc (suc k)) made within there left =
      let j = moment - (length before + 2) in
      image_same (take j (take k rest)) (all_take (IsOpeningMove laws name_of before) (take k rest) j (all_take (IsOpeningMove laws name_of before) rest k all_rest)) image
      (subst (λ (ms : List Move). IsImage ms image) (ap (take moment) made ∙ up_to moment (take k rest) within) left)

  pub front_images : (now : List Move) (moment : ℕ) (image : Image) → IsFront name_of before now → length before + 2 ≤ moment → moment ≤ length now → IsImage (take moment now) image
      → (opening_of name_of image).units ≡ (opening_of name_of (standing before)).units
  front_images now moment image front within there left = front_images_at now moment image front.count front.made within there left

  -- ---- nothing is pending at the end

  -- a change of the units area
  abbrev IsUnitsMove : Move → Type 0
  IsUnitsMove move = (move ≡ Synced Units) ⊎ ((name : List ℕ) × (move ≡ Removed Units name))

  settled_by : (moves : List Move) (area : Area) → IsSettledIn area (moves ++ Synced area ∷ [])
  settled_by moves area name = synced_values laws name_of before moves area name ∙ ap (λ (files : dir.Files). bytes_at files name ∷ []) (sym (synced_at laws name_of before moves area area))

  records_beside : (moves : List Move) (move : Move) → IsUnitsMove move → IsSettledIn Records moves → IsSettledIn Records (moves ++ move ∷ [])
  records_beside moves move (inl is) settled =
      subst (λ (m : Move). IsSettledIn Records (moves ++ m ∷ [])) (sym is)
      (λ name. laws.values_one moves (Synced Units) Records name ∙ (settled name ∙ ap (λ (files : dir.Files). bytes_at files name ∷ []) (sym (laws.area_one moves (Synced Units) Records))))
  records_beside moves move (inr (removed, is)) settled =
      subst (λ (m : Move). IsSettledIn Records (moves ++ m ∷ [])) (sym is)
      (λ name. laws.values_one moves (Removed Units removed) Records name ∙ (settled name ∙ ap (λ (files : dir.Files). bytes_at files name ∷ []) (sym (laws.area_one moves (Removed Units removed) Records))))

  all_beside : (more moves : List Move) → AllByRecursion IsUnitsMove more → IsSettledIn Records moves → IsSettledIn Records (moves ++ more)
  all_beside [] moves all settled = subst (IsSettledIn Records) (sym (append_nothing moves)) settled
  all_beside (move ∷ more) moves all settled = subst (IsSettledIn Records) (append_assoc moves (move ∷ []) more) (all_beside more (moves ++ move ∷ []) all.1 (records_beside moves move all.0 settled))

  units_moves : (names : List (List ℕ)) → AllByRecursion IsUnitsMove (map (Removed Units) names ++ Synced Units ∷ [])
  units_moves [] = (inl refl, tt)
  units_moves (name ∷ names) = (inr (name, refl), units_moves names)

  units_only : (names : List (List ℕ)) → AllByRecursion IsUnitsMove (Synced Units ∷ removals names)
  units_only [] = (inl refl, tt)
  units_only (name ∷ names) = (inl refl, units_moves (name ∷ names))

  units_settled : (names : List (List ℕ)) → IsSettledIn Units (before ++ Synced Records ∷ Synced Units ∷ removals names)
  units_settled [] = subst (IsSettledIn Units) (append_assoc before (Synced Records ∷ []) (Synced Units ∷ [])) (settled_by (before ++ Synced Records ∷ []) Units)
  units_settled (name ∷ names) =
      subst (IsSettledIn Units) (append_assoc before (Synced Records ∷ Synced Units ∷ map (Removed Units) (name ∷ names)) (Synced Units ∷ []))
      (settled_by (before ++ Synced Records ∷ Synced Units ∷ map (Removed Units) (name ∷ names)) Units)

  pub all_settled : IsSettled after
  all_settled Units = units_settled (refused_names laws name_of before)
  all_settled Records =
      subst (IsSettledIn Records) (append_assoc before (Synced Records ∷ []) (Synced Units ∷ rest))
      (all_beside (Synced Units ∷ rest) (before ++ Synced Records ∷ []) (units_only (refused_names laws name_of before)) (settled_by before Records))
