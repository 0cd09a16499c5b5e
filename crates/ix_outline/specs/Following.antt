-- What leads from tables of some units to those of others.
use Rattle.std.specs.Prelude.{◌≡◌, ℕ, List, map, Some}
use Rattle.ix_types.specs.Row.{text_cmp}
use Rattle.ix_record.specs.declared.value.RecordValue.{RecordValue}
use Rattle.ix_unit.specs.declared.value.RecordDep.{RecordDep}
use Rattle.ix_unit.specs.declared.batch.UnitPut.{UnitPut}
use Rattle.ix_model.specs.Units.{Units, NamesRise}
use Rattle.ix_answers.specs.Meanings.{IsRecord}
use Rattle.ix_answers.specs.Batches.{LeadsTo, HaveOneValue}
use Rattle.ix_pages.specs.Pairs.{look_up}
use Rattle.ix_outline.specs.Outline.{outline_of}
use Rattle.ix_outline.specs.Known.{Known, Lists, HaveValues, bare}
use Rattle.ix_outline.specs.Moving.{Named, units_moved, outlines_moved, lists_name, touched}
use Rattle.ix_outline.specs.declared.outline.Outline.{Outline}

-- a batch, with the outlines of the records that are new, leads from some units to others
pub record Follows (puts : List UnitPut) (gone : List (List ℕ)) (bodies : Named Outline) (units later : Units) : Type 0 where
  pub leads : LeadsTo puts gone units later
  pub rises : NamesRise later
  pub whole : HaveValues later
  pub one : HaveOneValue units later
  -- each record that only the later units list has its outline at hand
  pub at_hand : (dep : RecordDep) (value : RecordValue) → IsRecord later dep value → (Lists (map bare units) dep.name → ⊥)
      → look_up text_cmp bodies dep.name ≡ Some (outline_of value)

-- what is remembered after a batch
abbrev pub known_after : List UnitPut → List (List ℕ) → Named Outline → Known → Known
known_after puts gone bodies known =
    let moved = units_moved puts gone known.units in
    record { units = moved.entries; outlines = (outlines_moved (lists_name moved.entries) bodies (touched moved) known.outlines).entries }
