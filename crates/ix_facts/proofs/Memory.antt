-- What stands in memory.
use Rattle.std.proofs.Common.{◌≡◌, ℕ, ◌≤◌, List, length, map, Option, Some, IfSome, option_map, sym, ap, subst, ◌∙◌}
use Rattle.std.proofs.lemmas.Map.Made.{lookup-map_values}
use Rattle.std.specs.BTreeMap.{is_at}
use Rattle.ix_types.specs.Row.{text_cmp}
use Rattle.ix_model.specs.declared.publication.StoredUnit.{StoredUnit}
use Rattle.ix_model.specs.Units.{needs, unit_named, units_after, units_at}
use Rattle.ix_machine.specs.State.{Import, State}
use Rattle.ix_guard.specs.Counts.{names_of}
use Rattle.ix_guard.specs.Listing.{need_list_of}
use Rattle.ix_ledger.specs.Kept.{Kept, held_in, unit_at}
use Rattle.ix_ledger.specs.OfState.{Keeps, kept_of}
use Rattle.ix_facts.specs.Given.{GuardLaws}
use Rattle.ix_facts.proofs.Entries.{options_alike, lists_alike}

-- the need lists of what is kept are those of the units
abbrev pub HasNeedLists : Kept → State → Type 0
HasNeedLists kept s =
    (names_of kept.guard.visible ≡ needs (units_after s.publications))
    × (option_map names_of kept.guard.unsynced ≡ option_map (λ mark. needs (units_at s.publications mark)) s.pending)
    × (option_map names_of kept.guard.import ≡ option_map (λ (open_import : Import). needs (units_at s.publications open_import.mark)) s.import)
    × (names_of kept.guard.current ≡ needs (units_at s.publications s.current))
    × (map (option_map names_of) kept.guard.held ≡ map (option_map (λ mark. needs (units_at s.publications mark))) s.held)

-- the marks of what is kept are in order
abbrev pub HasMarksInOrder : Kept → Type 0
HasMarksInOrder kept =
    ((lane mark : ℕ) → held_in kept lane ≡ Some mark → mark ≤ kept.current)
    × ((open_import : Import) → kept.import ≡ Some open_import → (kept.current ≤ open_import.mark) × (open_import.mark ≤ kept.published))
    × (kept.current ≤ kept.published)
    × ((mark : ℕ) → kept.pending ≡ Some mark → mark ≤ kept.published)

module _ (laws : GuardLaws) (s : State) where
  names_at : (mark : ℕ) → names_of (need_list_of (units_at s.publications mark)) ≡ needs (units_at s.publications mark)
  names_at mark = laws.names (units_at s.publications mark)

  need_lists : HasNeedLists (kept_of s) s
  need_lists = (
    names_at (length s.publications),
    options_alike (λ mark. need_list_of (units_at s.publications mark)) names_of (λ mark. needs (units_at s.publications mark)) names_at s.pending,
    options_alike (λ (i : Import). need_list_of (units_at s.publications i.mark)) names_of (λ (i : Import). needs (units_at s.publications i.mark)) (λ i. names_at i.mark) s.import,
    names_at s.current,
    lists_alike (λ mark. need_list_of (units_at s.publications mark)) names_of (λ mark. needs (units_at s.publications mark)) names_at s.held,
  )

module _ (name_of : List ℕ → List ℕ) (s : State) (kept : Kept) (keeps : Keeps name_of kept s) where
  pub kept_needs : GuardLaws → HasNeedLists kept s
  kept_needs laws = subst (λ (k : Kept). HasNeedLists k s) (sym keeps.is) (need_lists laws s)

  pub kept_marks : HasMarksInOrder kept
  kept_marks =
      let marks = keeps.sound.marks in
      subst HasMarksInOrder (sym keeps.is) (
        λ lane mark is. subst (λ (o : Option ℕ). IfSome o (λ m. m ≤ s.current)) is (marks.held lane),
        λ open_import is. subst (λ (o : Option Import). IfSome o (λ (i : Import). (s.current ≤ i.mark) × (i.mark ≤ length s.publications))) is marks.imported,
        marks.current,
        λ mark is. subst (λ (o : Option ℕ). IfSome o (λ m. m ≤ length s.publications)) is marks.pending,
      )

  pub kept_units : (name : List ℕ) → unit_at name kept.units ≡ option_map (λ (stored : StoredUnit). stored.unit) (unit_named name (units_after s.publications))
  kept_units name = ap (λ (k : Kept). unit_at name k.units) keeps.is ∙ lookup-map_values (λ (stored : StoredUnit). stored.unit) (is_at (text_cmp name)) (units_after s.publications)

  pub kept_fields : (kept.published ≡ length s.publications) × (kept.pending ≡ s.pending) × (kept.import ≡ s.import) × (kept.current ≡ s.current) × (kept.held ≡ s.held)
  kept_fields = (
    ap (λ (k : Kept). k.published) keeps.is,
    ap (λ (k : Kept). k.pending) keeps.is,
    ap (λ (k : Kept). k.import) keeps.is,
    ap (λ (k : Kept). k.current) keeps.is,
    ap (λ (k : Kept). k.held) keeps.is,
  )
