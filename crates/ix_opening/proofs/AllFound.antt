-- All that a look found.
use Rattle.std.proofs.Common.{◌≡◌, ℕ, List, [], ◌∷◌, map, refl, sym, ap, subst, ◌∙◌, Option, Some, None, option_map, IfSome, IsTrue, Result, Ok, Err}
use Rattle.std.specs.declared.cmp.Ordering.TheVariants.{Less}
use Rattle.std.specs.List.{AllByRecursion, filter_map, cons_option}
use Rattle.std.specs.List.Sorted.{IsStrictlySortedBy}
use Rattle.std.specs.Result.{result_ok}
use Rattle.std.specs.Map.{keys_of}
use Rattle.std.specs.FinMap.{is_sorted, entries, entries_sorted}
use Rattle.ix_types.specs.Row.{text_cmp}
use Rattle.ix_dir.specs.declared.area.Area.TheVariants.{Units, Records}
use Rattle.ix_dir.specs.declared.dir.Listed.{Listed}
use Rattle.ix_dir.specs.declared.moves.Move.{Move}
use Rattle.ix_dir.specs.Crash.{standing}
use Rattle.ix_dir.specs.Files.{Contents, listed_of, IsRising}
use Rattle.ix_dir.specs.Moves.{area_after}
use Rattle.ix_dir.proofs.Door.{holds}
use Rattle.ix_unit.specs.declared.batch.UnitPut.{UnitPut}
use Rattle.ix_model.specs.declared.publication.StoredUnit.{StoredUnit}
use Rattle.ix_machine.specs.declared.opened.Refused.{Refused}
use Rattle.ix_machine.specs.declared.opened.UnitFault.{UnitFault}
use Rattle.ix_machine.specs.Opening.{judged, sound_at, refusal, opening}
use Rattle.ix_machine.specs.Run.{IsSoundOpening}
use Rattle.ix_machine.specs.State.{Files}
use Rattle.ix_opening.specs.declared.looking.Found.{Found}
use Rattle.ix_opening.specs.declared.looking.Progress.{Progress}
use Rattle.ix_opening.specs.Found.{opening_of, put_row, unit_row, Tells, IsFound}
use Rattle.ix_opening.specs.Known.{AreRead, Agrees}
use Rattle.ix_opening.specs.Steps.{AreGiven, IsSoFar}
use Rattle.ix_opening.proofs.FilesByName.{rising_keys}
use Rattle.ix_opening.proofs.FilesThatStand.{given_stand, given_rise, agrees_told, some_agree}

module _ (name_of : List ℕ → List ℕ) (moves : Option (List Move)) (listed : List Listed) (files : Files) (look : Progress) (found : Found) (rising : IsTrue (is_sorted text_cmp files))
    (so_far : (records : Files) → Agrees name_of look.known.entries records → IsSoFar name_of files records look)
    (units : found.units ≡ look.units.items) (refused : found.refused ≡ look.refused.items) where
  with_records : (c : Contents) → Agrees name_of look.known.entries (entries c) → IfSome moves (λ m. (files ≡ entries (standing m Units)) × (entries c ≡ entries (standing m Records))) → IsFound name_of moves found
  with_records c agrees stand =
      let h = so_far (entries c) agrees in
      record {
        units = files;
        records = entries c;
        tells = record { units = ap (map put_row) units ∙ h.units; refused = refused ∙ h.refused };
        sound = record { rising = rising_keys (entries c) (holds _ (entries_sorted c)); stand = h.stand };
        rising = rising_keys files rising;
        stand = stand;
      }

pub all_found : (name_of : List ℕ → List ℕ) (moves : Option (List Move)) (listed : List Listed) (files : Files) (look : Progress) (found : Found)
    → IfSome moves (λ m. listed ≡ listed_of (area_after m Units)) → IsRising listed → AreGiven moves listed files → AreRead name_of moves look.known.entries
    → ((records : Files) → Agrees name_of look.known.entries records → IsSoFar name_of files records look)
    → found.units ≡ look.units.items → found.refused ≡ look.refused.items → IsFound name_of moves found
all_found name_of None listed files look found lists rising given read so_far units refused =
    let c = some_agree name_of None look.known.entries read in
    with_records name_of None listed files look found (given_rise None listed files given rising) so_far units refused c.0 c.1 tt
all_found name_of (Some m) listed files look found lists rising given read so_far units refused =
    with_records name_of (Some m) listed files look found (given_rise (Some m) listed files given rising) so_far units refused
    (standing m Records) (agrees_told name_of m look.known.entries read) (given_stand m listed files lists given, refl)

-- ---- what that says where the moves are told

module _ (name_of : List ℕ → List ℕ) (found : Found) where
  same_opening : (moves : List Move) (units records : Files) → units ≡ entries (standing moves Units) → records ≡ entries (standing moves Records) → opening name_of units records ≡ opening_of name_of (standing moves)
  same_opening moves units records u r = ap (λ (us : Files). opening name_of us records) u ∙ ap (opening name_of (entries (standing moves Units))) r

  pub told_exactly : (moves : Option (List Move)) → IsFound name_of moves found → IfSome moves (λ m. Tells found (opening_of name_of (standing m)))
  told_exactly None is = tt
  told_exactly (Some m) is = subst (Tells found) (same_opening m is.units is.records is.stand.0 is.stand.1) is.tells

  pub told_begins : (moves : Option (List Move)) → IsFound name_of moves found → IfSome moves (λ m. IsSoundOpening name_of (opening_of name_of (standing m)))
  told_begins None is = tt
  told_begins (Some m) is = subst (IsSoundOpening name_of) (same_opening m is.units is.records is.stand.0 is.stand.1) is.sound

-- ---- the names rise

module _ {X : Type 0} (name : X → List ℕ) (h : List ℕ × List ℕ → Option X) (own : (file : List ℕ × List ℕ) (x : X) → h file ≡ Some x → name x ≡ file.0) where
  kept_names : (P : List ℕ → Type 0) (files : Files) → AllByRecursion P (keys_of files) → AllByRecursion P (map name (filter_map h files))
  kept_names P [] all = tt
  kept_names P (file ∷ files) all =
      (elim (h file) as (λ o. h file ≡ o → AllByRecursion P (map name (cons_option o (filter_map h files)))) [
        | Some x ↦ λ is. (subst P (sym (own file x is)) all.0, kept_names P files all.1)
        | None ↦ λ is. kept_names P files all.1
      ]) refl

  pub kept_rise : (files : Files) → IsStrictlySortedBy text_cmp (keys_of files) → IsStrictlySortedBy text_cmp (map name (filter_map h files))
  unfolding IsStrictlySortedBy
  kept_rise [] rising = rising
  kept_rise (file ∷ files) rising =
      (elim (h file) as (λ o. h file ≡ o → IsStrictlySortedBy text_cmp (map name (cons_option o (filter_map h files)))) [
        | Some x ↦ λ is.
            let same : name x ≡ file.0 = own file x is in
            (subst (λ n. AllByRecursion (λ z. text_cmp n z ≡ Less) (map name (filter_map h files))) (sym same) (kept_names (λ z. text_cmp file.0 z ≡ Less) files rising.0), kept_rise files rising.1)
        | None ↦ λ is. kept_rise files rising.1
      ]) refl

own_unit : (file : List ℕ × List ℕ) (r : Result StoredUnit UnitFault) (x : List ℕ × StoredUnit) → option_map (λ (unit : StoredUnit). (file.0, unit)) (result_ok r) ≡ Some x → x.0 ≡ file.0
own_unit file (Ok unit) x is = let same : (file.0, unit) ≡ x = cc in ap (λ e. e.0) (sym same)
own_unit file (Err fault) x is = absurd (cc)

pub own_refusal : (name : List ℕ) (r : Result StoredUnit UnitFault) (x : Refused) → refusal name r ≡ Some x → x.name ≡ name
own_refusal name (Ok unit) x is = absurd (cc)
own_refusal name (Err fault) x is = let same : record { name = name; cause = fault } ≡ x = cc in ap (λ e. e.name) (sym same)

pub put_names : (puts : List UnitPut) → map (λ p. p.name) puts ≡ keys_of (map put_row puts)
put_names [] = refl
put_names (p ∷ puts) = ap (λ rest. p.name ∷ rest) (put_names puts)

pub unit_names : (es : List (List ℕ × StoredUnit)) → keys_of (map unit_row es) ≡ keys_of es
unit_names [] = refl
unit_names (e ∷ es) = ap (λ rest. e.0 ∷ rest) (unit_names es)

module _ (name_of : List ℕ → List ℕ) (moves : Option (List Move)) (found : Found) (is : IsFound name_of moves found) where
  pub units_rise : IsStrictlySortedBy text_cmp (map (λ p. p.name) found.units)
  units_rise =
      let rise = kept_rise (λ e. e.0) (sound_at name_of is.records) (λ file x e. own_unit file (judged name_of is.records file.0 file.1) x e) is.units is.rising in
      subst (IsStrictlySortedBy text_cmp) (sym (put_names found.units ∙ ap keys_of is.tells.units ∙ unit_names (opening name_of is.units is.records).units)) rise

  pub refused_rise : IsStrictlySortedBy text_cmp (map (λ r. r.name) found.refused)
  refused_rise =
      let rise = kept_rise (λ r. r.name) (λ file. refusal file.0 (judged name_of is.records file.0 file.1)) (λ file x e. own_refusal file.0 (judged name_of is.records file.0 file.1) x e) is.units is.rising in
      subst (IsStrictlySortedBy text_cmp) (sym (ap (map (λ r. r.name)) is.tells.refused)) rise
