-- What a crash may leave before an opening's syncs and behind its end, and the names that are found.
use Rattle.std.proofs.Common.{◌≡◌, ℕ, zero, suc, ◌+◌, ◌-◌, ◌≤◌, Bool, true, false, cond, List, [], ◌∷◌, ◌++◌, length, map, take, refl, sym, ap, subst, ◌∙◌, Some, Result, Ok, Err, arith, append_assoc}
use Rattle.std.specs.List.{AllByRecursion, filter_map, cons_option}
use Rattle.std.specs.List.Sorted.{IsStrictlySortedBy}
use Rattle.std.specs.Option.{option_map}
use Rattle.std.specs.Result.{result_ok}
use Rattle.std.specs.Str.{bytes_eq}
use Rattle.std.specs.FinMap.{entries, entries_sorted, get}
use Rattle.std.proofs.lemmas.Slice.Eq.{bytes_eq-Decides}
use Rattle.ix_types.specs.Row.{text_cmp}
use Rattle.ix_dir.specs.declared.area.Area.{Area}
use Rattle.ix_dir.specs.declared.area.Area.TheVariants.{Units, Records}
use Rattle.ix_dir.specs.declared.moves.Move.{Move}
use Rattle.ix_dir.specs.declared.moves.Move.TheVariants.{Synced}
use Rattle.ix_dir.specs.Crash.{standing}
use Rattle.ix_dir.specs.Files.{Contents, bytes_at}
use Rattle.ix_dir.specs.Images.{Image, IsImage}
use Rattle.ix_dir.specs.Moves.{area_after}
use Rattle.ix_dir.proofs.Door.{holds}
use Rattle.ix_model.specs.declared.publication.StoredUnit.{StoredUnit}
use Rattle.ix_record.specs.declared.value.RecordValue.{RecordValue}
use Rattle.ix_unit.specs.declared.value.UnitValue.{UnitValue}
use Rattle.ix_machine.specs.declared.opened.UnitFault.{UnitFault}
use Rattle.ix_machine.specs.declared.opened.UnitFault.TheVariants.{WrongName}
use Rattle.ix_machine.specs.Opening.{judged, judged_unit, stored, values_in, unit_of, sound_at, refusal, opening}
use Rattle.ix_machine.specs.State.{Files}
use Rattle.ix_opening.specs.AfterOpening.{removals, names_of, opening_moves, IsFront}
use Rattle.ix_opening.specs.Found.{opening_of}
use Rattle.ix_opening.proofs.AllFound.{kept_rise, own_refusal}
use Rattle.ix_opening.proofs.FilesByName.{rising_keys}
use Rattle.ix_opening.proofs.FilesThatStand.{in_contents}
use Rattle.ix_opening.proofs.MovesOfOpening.{append_nothing}
use Rattle.ix_opening.proofs.OpeningLeaves.{take_beyond}
use Rattle.ix_opening.proofs.SameUnits.{same_contents}

-- ---- before the syncs

module _ (none_added : (moves : List Move) (area : Area) (image : Image) → IsImage (moves ++ Synced area ∷ []) image → IsImage moves image) (before : List Move) (image : Image) where
  abbrev Left : List Move → Type 0
  Left more = IsImage (before ++ more) image

  no_more : Left [] → IsImage before image
  no_more left = subst (λ (ms : List Move). IsImage ms image) (append_nothing before) left

  one_more : Left (Synced Records ∷ []) → IsImage before image
  one_more left = none_added before Records image left

  two_more : Left (Synced Records ∷ Synced Units ∷ []) → IsImage before image
  two_more left =
      one_more (none_added (before ++ Synced Records ∷ []) Units image (subst (λ (ms : List Move). IsImage ms image) (sym (append_assoc before (Synced Records ∷ []) (Synced Units ∷ []))) left))

  nothing_there : (j : ℕ) → Left (take j []) → IsImage before image
  nothing_there zero left = no_more left
  nothing_there (suc j) left = no_more left

  one_there : (j : ℕ) → Left (take j (Synced Records ∷ [])) → IsImage before image
  one_there zero left = no_more left
  one_there (suc zero) left = one_more left
  one_there (suc (suc j)) left = one_more left

  two_there : (j : ℕ) (rest : List Move) → j ≤ 2 → Left (take j (Synced Records ∷ Synced Units ∷ rest)) → IsImage before image
  two_there zero rest small left = no_more left
  two_there (suc zero) rest small left = one_more left
  two_there (suc (suc zero)) [] small left = two_more left
  two_there (suc (suc zero)) (x ∷ rest) small left = two_more left
  two_there (suc (suc (suc j))) rest small left = absurd (omega (arith, small))

  early : (j count : ℕ) (rest : List Move) → j ≤ 2 → Left (take j (take count (Synced Records ∷ Synced Units ∷ rest))) → IsImage before image
  early j zero rest small left = nothing_there j left
  early j (suc zero) rest small left = one_there j left
  early j (suc (suc k)) rest small left = two_there j (take k rest) small left

  pub early_images : (name_of : List ℕ → List ℕ) (now : List Move) (moment : ℕ) → IsFront name_of before now → length before ≤ moment → moment ≤ length before + 2 → IsImage (take moment now) image → IsImage before image
  early_images name_of now moment front from to left =
      let up_to : take moment now ≡ before ++ take (moment - length before) (take front.count (opening_moves name_of before)) =
      ap (take moment) front.made ∙ take_beyond before (take front.count (opening_moves name_of before)) moment from in
      early (moment - length before) front.count (removals (names_of (opening_of name_of (standing before)).refused)) (omega (arith, from, to))
      (subst (λ (ms : List Move). IsImage ms image) up_to left)

-- ---- behind the end

-- an image with the bytes that stand is what stands
pub same_found : (name_of : List ℕ → List ℕ) (moves : List Move) (image : Image) → ((area : Area) (q : List ℕ) → get (image area) q ≡ bytes_at (area_after moves area) q)
    → opening_of name_of image ≡ opening_of name_of (standing moves)
same_found name_of moves image is =
    let same : (area : Area) → image area ≡ standing moves area = λ area. same_contents (image area) (standing moves area) (λ q. is area q ∙ sym (in_contents (area_after moves area) q)) in
    ap (λ (c : Contents). opening name_of (entries c) (entries (image Records))) (same Units) ∙ ap (λ (c : Contents). opening name_of (entries (standing moves Units)) (entries c)) (same Records)

-- ---- the names

abbrev IsNamed : (List ℕ → List ℕ) → List ℕ × StoredUnit → Type 0
IsNamed name_of entry = entry.0 ≡ name_of entry.1.unit.output

module _ (name_of : List ℕ → List ℕ) (records : Files) where
  by_values : (name : List ℕ) (unit : UnitValue) (found : StoredUnit) (r : Result (List RecordValue) UnitFault) → name ≡ name_of unit.output → stored unit r ≡ Ok found → name ≡ name_of found.unit.output
  by_values name unit found (Ok values) named e =
      let whole : StoredUnit = record { unit = unit; values = values } in
      let same : whole ≡ found = cc in
      subst (λ (u : StoredUnit). name ≡ name_of u.unit.output) same named
  by_values name unit found (Err fault) named e = absurd (cc)

  by_name : (name : List ℕ) (unit : UnitValue) (found : StoredUnit) (b : Bool) → bytes_eq name (name_of unit.output) ≡ b
      → cond b (stored unit (values_in name_of records unit.records)) (Err WrongName) ≡ Ok found → name ≡ name_of found.unit.output
  by_name name unit found true is e = by_values name unit found (values_in name_of records unit.records) ((bytes_eq-Decides name (name_of unit.output)).0 is) e
  by_name name unit found false is e = absurd (cc)

  by_unit : (name : List ℕ) (found : StoredUnit) (r : Result UnitValue UnitFault) → judged_unit name_of records name r ≡ Ok found → name ≡ name_of found.unit.output
  by_unit name found (Err fault) e = absurd (cc)
  by_unit name found (Ok unit) e = by_name name unit found (bytes_eq name (name_of unit.output)) refl e

  all_named : (units : Files) → AllByRecursion (IsNamed name_of) (filter_map (sound_at name_of records) units)
  all_named [] = tt
  all_named (file ∷ units) =
      (elim (judged name_of records file.0 file.1) as (λ r. judged name_of records file.0 file.1 ≡ r → AllByRecursion (IsNamed name_of) (cons_option (option_map (λ (unit : StoredUnit). (file.0, unit)) (result_ok r)) (filter_map (sound_at name_of records) units))) [
        | Ok found ↦ λ e. (by_unit file.0 found (unit_of file.1) e, all_named units)
        | Err fault ↦ λ e. all_named units
      ]) refl

module _ (name_of : List ℕ → List ℕ) (image : Image) where
  abbrev files : Files
  files = entries (image Units)

  abbrev records_of : Files
  records_of = entries (image Records)

  files_rise : IsStrictlySortedBy text_cmp (map (λ (e : List ℕ × List ℕ). e.0) files)
  files_rise = rising_keys files (holds _ (entries_sorted (image Units)))

  pub named : AllByRecursion (IsNamed name_of) (opening_of name_of image).units
  named = all_named name_of records_of files

  own_unit : (file : List ℕ × List ℕ) (r : Result StoredUnit UnitFault) (x : List ℕ × StoredUnit) → option_map (λ (unit : StoredUnit). (file.0, unit)) (result_ok r) ≡ Some x → x.0 ≡ file.0
  own_unit file (Ok unit) x is = let same : (file.0, unit) ≡ x = cc in ap (λ e. e.0) (sym same)
  own_unit file (Err fault) x is = absurd (cc)

  pub units_rise : IsStrictlySortedBy text_cmp (map (λ (e : List ℕ × StoredUnit). e.0) (opening_of name_of image).units)
  units_rise = kept_rise (λ e. e.0) (sound_at name_of records_of) (λ file x e. own_unit file (judged name_of records_of file.0 file.1) x e) files files_rise

  pub refused_rise : IsStrictlySortedBy text_cmp (map (λ r. r.name) (opening_of name_of image).refused)
  refused_rise = kept_rise (λ r. r.name) (λ file. refusal file.0 (judged name_of records_of file.0 file.1)) (λ file x e. own_refusal file.0 (judged name_of records_of file.0 file.1) x e) files files_rise
