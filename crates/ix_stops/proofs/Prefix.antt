-- A crash leaves the units after all publications, or those before the last change where that waits for a sync.
use Rattle.std.proofs.Common.{◌≡◌, ◌⊎◌, inl, inr, ℕ, zero, suc, ◌-◌, ◌≤◌, true, List, [], ◌∷◌, length, sym, subst, ◌∙◌, Option, Some, None, Contains, arith}
use Rattle.std.specs.FinMap.{entries, get, get-entries}
use Rattle.ix_dir.specs.declared.area.Area.TheVariants.{Units, Records}
use Rattle.ix_dir.specs.declared.moves.Move.{Move}
use Rattle.ix_dir.specs.Crash.{IsSettledIn, standing}
use Rattle.ix_dir.specs.Images.{Value, Image, IsImage}
use Rattle.ix_dir.specs.Moves.{area_after}
use Rattle.ix_model.specs.declared.publication.Publication.{Publication}
use Rattle.ix_model.specs.Units as model
use Rattle.ix_model.specs.Units.{units_at, units_after, unit_named}
use Rattle.ix_machine.specs.Needs.{units_need}
use Rattle.ix_stops.specs.Changes.{waiting}
use Rattle.ix_stops.specs.OnDisk.{HaveOneValue, AreKept, IsOneBehind, OnePends, IsOnDisk}
use Rattle.ix_stops.specs.Prefixes.{IsPrefix}
use Rattle.ix_stops.specs.UnitFiles.{IsSpelledUnder, Spell}
use Rattle.ix_stops.proofs.ByName.{lookup_is_find}
use Rattle.ix_stops.proofs.FoundWhole.{Stays, records_on, found_in}
use Rattle.ix_stops.specs.Given.{Laws}

-- a list of one value has no other
pub only_one : (x v : Value) → Contains (x ∷ []) v → v ≡ x
only_one x v (zero, h, is) = sym is
only_one x v (suc k, h, is) = absurd (omega arith)

module _ (laws : Laws) (name_of : List ℕ → List ℕ) (publications : List Publication) (moves : List Move) (image : Image) (left : IsImage moves image) where
  same_record : (units : model.Units) → HaveOneValue moves units → (name : List ℕ) → units_need name units ≡ true → Stays (entries (standing moves Records)) (entries (image Records)) name
  same_record units alone name needed =
      lookup_is_find name (entries (image Records)) ∙ sym (get-entries (image Records) name)
      ∙ only_one _ (get (image Records) name) (subst (λ vs. Contains vs (get (image Records) name)) (alone name needed) (left Records name))
      ∙ sym (laws.contents (area_after moves Records) name)
      ∙ get-entries (standing moves Records) name ∙ sym (lookup_is_find name (entries (standing moves Records)))

  settled_spell : (units : model.Units) → IsSettledIn Units moves → Spell name_of (standing moves Units) units → Spell name_of (image Units) units
  settled_spell units settled spell q =
      let is = only_one _ (get (image Units) q) (subst (λ vs. Contains vs (get (image Units) q)) (settled q) (left Units q)) in
      subst (λ v. IsSpelledUnder name_of q v (unit_named q units)) (laws.contents (area_after moves Units) q ∙ sym is) (spell q)

  at_mark : (mark least : ℕ) → least ≤ mark → mark ≤ length publications → AreKept name_of moves (units_at publications mark) → Spell name_of (image Units) (units_at publications mark)
      → IsPrefix name_of publications least (length publications) image
  at_mark mark least enough within kept spell =
      let units = units_at publications mark in
      let found = found_in laws name_of image units (laws.rises publications mark) spell
      (records_on name_of (entries (standing moves Records)) (entries (image Records)) units (same_record units kept.alone) kept.stand) in
      record { count = mark; enough = enough; within = within; units = found.0; refused = found.1 }

  abbrev Prefix : Type 0
  Prefix = IsPrefix name_of publications (length publications - waiting moves) (length publications) image

  all_of_them : AreKept name_of moves (units_after publications) → Spell name_of (image Units) (units_after publications) → Prefix
  all_of_them kept spell = at_mark (length publications) (length publications - waiting moves) (omega arith) (omega arith) kept spell

  one_or_two : (mark : ℕ) → IsOneBehind name_of mark publications moves → AreKept name_of moves (units_after publications)
      → Spell name_of (image Units) (units_after publications) ⊎ Spell name_of (image Units) (units_at publications mark) → Prefix
  one_or_two mark behind kept (inl spell) = all_of_them kept spell
  one_or_two mark behind kept (inr spell) =
      let last = behind.last in
      let waits = behind.waits in
      at_mark mark (length publications - waiting moves) (omega (arith, last, waits)) (omega (arith, last)) behind.kept spell

  by_pending : (pending : Option ℕ) → OnePends name_of pending publications moves → AreKept name_of moves (units_after publications) → Spell name_of (standing moves Units) (units_after publications) → Prefix
  by_pending None settled kept spell = all_of_them kept (settled_spell (units_after publications) settled spell)
  by_pending (Some mark) (inl settled) kept spell = all_of_them kept (settled_spell (units_after publications) settled spell)
  by_pending (Some mark) (inr behind) kept spell = one_or_two mark behind kept (behind.left (image Units) (left Units))

  pub prefix_left : (pending : Option ℕ) → IsOnDisk name_of pending publications moves → Prefix
  prefix_left pending disk = by_pending pending disk.one_pending disk.image_records disk.unit_files
