-- What is opened stands for the start of a run.
use Rattle.std.proofs.Common.{◌≡◌, ℕ, suc, List, [], ◌∷◌, ◌++◌, length, map, refl, sym, ap, subst, ◌∙◌, Option, Some, None, IfSome}
use Rattle.std.specs.FinMap.{empty}
use Rattle.std.specs.List.{All, AllByRecursion}
use Rattle.std.specs.List.Sorted.{IsStrictlySortedBy}
use Rattle.std.specs.Map.{keys_of}
use Rattle.std.proofs.lemmas.List.Elements.{recursion_from_All}
use Rattle.ix_types.specs.Row.{text_cmp}
use Rattle.ix_unit.specs.declared.batch.UnitPut.{UnitPut}
use Rattle.ix_unit.specs.declared.value.UnitValue.{UnitValue}
use Rattle.ix_machine.specs.Opening.{opening}
use Rattle.ix_machine.specs.State.{Files}
use Rattle.ix_stops.specs.Prefixes.{CountsFrom}
use Rattle.ix_library.specs.Opened.{BeginsWith}
use Rattle.ix_dir.specs.declared.moves.Move.{Move}
use Rattle.ix_dir.specs.Crash.{standing}
use Rattle.ix_dir.specs.State.{DirState}
use Rattle.ix_dir.specs.WhatAChangeLeaves.{AddsTo, IfTold}
use Rattle.ix_shelf.specs.Shelf.{OnShelf}
use Rattle.ix_cabinet.specs.Scan.{HoldsUnits, IsNamedUnit}
use Rattle.ix_model.specs.Units.{NamesRise, Units}
use Rattle.ix_machine.specs.Laws.{AreNamed}
use Rattle.ix_machine.specs.Run.{Opening, IsSoundOpening, begun}
use Rattle.ix_opening.specs.declared.looking.Found.{Found}
use Rattle.ix_opening.specs.AfterOpening.{opening_moves}
use Rattle.ix_opening.specs.Found.{opening_of, put_row, unit_row, IsFound, Tells}
use Rattle.ix_ledger.specs.Effects.{kept_at_first}
use Rattle.ix_ledger.specs.Handles.{named_puts}
use Rattle.ix_ledger.specs.Kept.{Kept, Named}
use Rattle.ix_ledger.specs.OfState.{named_of, Keeps}
use Rattle.ix_changes.specs.Holds.{Holds}
use Rattle.ix_library.specs.declared.known.KnownStamps.{KnownStamps}
use Rattle.ix_library.specs.KnownUnits.{KnowsUnits}
use Rattle.ix_library.specs.StandsFor.{StandsFor}
use Rattle.ix_library.proofs.Slots.{none_staged}
use Rattle.ix_library.proofs.UnitsStay.{NoneLaws, none_known}

map-length : {A B : Type 0} (f : A → B) (xs : List A) → length (map f xs) ≡ length xs
map-length f [] = refl
map-length f (x ∷ xs) = ap suc (map-length f xs)

pub record OpenLaws : Type 0 where
  pub held : (name_of : List ℕ → List ℕ) (moves : List Move) (lanes : ℕ) (shelf : OnShelf) → HoldsUnits name_of (moves ++ opening_moves name_of moves) → IsSoundOpening name_of (opening_of name_of (standing moves)) → Holds name_of (begun (opening_of name_of (standing moves)) lanes) shelf (Some (moves ++ opening_moves name_of moves))
  pub opens : (name_of : List ℕ → List ℕ) (opening : Opening) (lanes : ℕ) → IsSoundOpening name_of opening → NamesRise opening.units → AreNamed name_of opening.units → Keeps name_of (kept_at_first (named_of opening.units) (length opening.units) lanes) (begun opening lanes)
  pub rise : (name_of : List ℕ → List ℕ) (moves : List Move) → NamesRise (opening_of name_of (standing moves)).units
  pub named : (name_of : List ℕ → List ℕ) (moves : List Move) → AreNamed name_of (opening_of name_of (standing moves)).units

-- ---- names

abbrev IsNamedRow : (List ℕ → List ℕ) → List ℕ × UnitValue → Type 0
IsNamedRow name_of row = row.0 ≡ name_of row.1.output

puts_named : (name_of : List ℕ → List ℕ) (puts : List UnitPut) → AllByRecursion (IsNamedUnit name_of) puts → AllByRecursion (IsNamedRow name_of) (map put_row puts)
puts_named name_of [] all = tt
puts_named name_of (put ∷ puts) all = (all.0.named, puts_named name_of puts all.1)

rows_named : (name_of : List ℕ → List ℕ) (units : Units) → AllByRecursion (IsNamedRow name_of) (map unit_row units) → AreNamed name_of units
rows_named name_of [] all = tt
rows_named name_of (entry ∷ units) all = (all.0, rows_named name_of units all.1)

-- whichever files rise by name, the units that opening finds of them do
abbrev pub UnitsRise : Type 0
UnitsRise = (name_of : List ℕ → List ℕ) (units records : Files) → IsStrictlySortedBy text_cmp (keys_of units) → NamesRise (opening name_of units records).units

-- ---- a run

-- a run counts from the end of an opening
abbrev pub Counts : (List ℕ → List ℕ) → ℕ → List Move → List Move → Type 0
Counts name_of lanes before now =
    CountsFrom (length now) (length (begun (opening_of name_of (standing before)) lanes).publications) (begun (opening_of name_of (standing before)) lanes).publications now

pub opened_counts : ((name_of : List ℕ → List ℕ) (moves : List Move) (lanes : ℕ) → HoldsUnits name_of (moves ++ opening_moves name_of moves) → IsSoundOpening name_of (opening_of name_of (standing moves)) → Counts name_of lanes moves (moves ++ opening_moves name_of moves))
    → (name_of : List ℕ → List ℕ) (lanes : ℕ) (before now : Option (List Move)) → IfSome before (λ m. IsSoundOpening name_of (opening_of name_of (standing m))) → IfTold before now (λ b n. n ≡ b ++ opening_moves name_of b) → IfTold before now (λ b n. HoldsUnits name_of n)
    → IfTold before now (Counts name_of lanes)
opened_counts law name_of lanes None now sound moves holds = tt
opened_counts law name_of lanes (Some m) None sound moves holds = tt
opened_counts law name_of lanes (Some m) (Some n) sound moves holds = subst (Counts name_of lanes m) (sym moves) (law name_of m lanes (subst (HoldsUnits name_of) moves holds) sound)

-- ---- what stands

abbrev pub Stands : (List ℕ → List ℕ) → ℕ → Kept → OnShelf → KnownStamps → DirState → List Move → Type 0
Stands name_of lanes kept shelf known dir m = StandsFor name_of (begun (opening_of name_of (standing m)) lanes) kept shelf known dir

module _ (laws : OpenLaws) (none : NoneLaws) (name_of : List ℕ → List ℕ) (lanes : ℕ) (found : Found) (kept : Kept) (shelf : OnShelf) (known : KnownStamps) (dir : DirState) (is : kept ≡ kept_at_first (named_puts found.units) (length found.units) lanes) where
  keeps_over : (opening : Opening) → Tells found opening → IsSoundOpening name_of opening → NamesRise opening.units → AreNamed name_of opening.units → Keeps name_of kept (begun opening lanes)
  keeps_over opening tells sound rise named =
      let n : length opening.units ≡ length found.units = sym (map-length (λ (e : _). (e.0, e.1.unit)) opening.units) ∙ ap length (sym tells.units) ∙ map-length (λ (p : _). (p.name, p.unit.value)) found.units in
      subst (λ k. Keeps name_of k (begun opening lanes)) (sym is)
      (subst (λ (us : Named). Keeps name_of (kept_at_first us (length found.units) lanes) (begun opening lanes)) (sym tells.units)
      (subst (λ (k : ℕ). Keeps name_of (kept_at_first (named_of opening.units) k lanes) (begun opening lanes)) n (laws.opens name_of opening lanes sound rise named)))

  keeps : (m : List Move) → Tells found (opening_of name_of (standing m)) → IsSoundOpening name_of (opening_of name_of (standing m)) → Keeps name_of kept (begun (opening_of name_of (standing m)) lanes)
  keeps m tells sound = keeps_over (opening_of name_of (standing m)) tells sound (laws.rise name_of m) (laws.named name_of m)

  -- over each directory, what was read is what it begins with
  pub begins_with : UnitsRise → (moves : Option (List Move)) → IsFound name_of moves found → All (IsNamedUnit name_of) found.units → BeginsWith name_of moves lanes found.refused kept
  begins_with rises moves read named = record {
    units = read.units;
    records = read.records;
    sound = read.sound;
    rising = read.rising;
    refuses = read.tells.refused;
    keeps = keeps_over (opening name_of read.units read.records) read.tells read.sound (rises name_of read.units read.records read.rising)
        (rows_named name_of (opening name_of read.units read.records).units
        (subst (AllByRecursion (IsNamedRow name_of)) read.tells.units (puts_named name_of found.units (recursion_from_All (IsNamedUnit name_of) found.units named))));
    stand = read.stand;
  }

  pub opened_stands : (before now : Option (List Move)) → known.current ≡ empty → known.import ≡ None → AddsTo before now → IfSome before (λ m. Tells found (opening_of name_of (standing m))) → IfSome before (λ m. IsSoundOpening name_of (opening_of name_of (standing m)))
      → IfTold before now (λ b n. n ≡ b ++ opening_moves name_of b) → IfTold before now (λ b n. HoldsUnits name_of n) → dir.moves ≡ now → IfSome before (Stands name_of lanes kept shelf known dir)
  opened_stands None now current import adds tells sound moves holds same = tt
  opened_stands (Some m) None current import adds tells sound moves holds same = absurd adds
  opened_stands (Some m) (Some n) current import adds tells sound moves holds same = record {
    keeps = keeps m tells sound;
    holds = subst (Holds name_of (begun (opening_of name_of (standing m)) lanes) shelf) (sym (same ∙ ap Some moves)) (laws.held name_of m lanes shelf (subst (HoldsUnits name_of) moves holds) sound);
    staged = none_staged lanes kept dir (ap (λ (k : Kept). k.staged) is);
    knows = subst (λ (o : Option (List Move)). IfSome o (KnowsUnits name_of (begun (opening_of name_of (standing m)) lanes) known)) (sym same) (none_known none name_of (opening_of name_of (standing m)) lanes known n current import);
  }

pub refused_are : (name_of : List ℕ → List ℕ) (found : Found) (before : Option (List Move)) → IfSome before (λ m. Tells found (opening_of name_of (standing m))) → IfSome before (λ m. found.refused ≡ (opening_of name_of (standing m)).refused)
refused_are name_of found None tells = tt
refused_are name_of found (Some m) tells = tells.refused
