-- What the parts of tables keep beside one another.
use Rattle.std.specs.Prelude.{ℕ, List}
use Rattle.std.specs.List.{flat_map}
use Rattle.ix_types.specs.Row.{text_cmp}
use Rattle.ix_unit.specs.declared.value.UnitValue.{UnitValue}
use Rattle.ix_pages.specs.Pairs.{IsRising}
use Rattle.ix_outline.specs.declared.outline.Outline.{Outline}
use Rattle.ix_outline.specs.Facts.{provided, relating, naming, coding, placing, pathing, listing_facts}
use Rattle.ix_tables.specs.Steps.{IsIndexOf}

-- an index from texts to texts
abbrev pub TextIndex : Type 0
TextIndex = List (List ℕ × List (List ℕ × ℕ))

-- the units rise by name, and each index is that of what they give
pub record AreUnitTables (units : List (List ℕ × UnitValue)) (in_path paths listing : TextIndex) : Type 0 where
  pub rise : IsRising text_cmp units
  pub places : IsIndexOf text_cmp text_cmp in_path (flat_map placing units)
  pub listed : IsIndexOf text_cmp text_cmp paths (flat_map pathing units)
  pub lists : IsIndexOf text_cmp text_cmp listing (flat_map listing_facts units)

-- the outlines rise by name, and each index is that of what they give
pub record AreRecordTables (outlines : List (List ℕ × Outline)) (providers related named coded : TextIndex) : Type 0 where
  pub rise : IsRising text_cmp outlines
  pub provides : IsIndexOf text_cmp text_cmp providers (flat_map provided outlines)
  pub relates : IsIndexOf text_cmp text_cmp related (flat_map relating outlines)
  pub names : IsIndexOf text_cmp text_cmp named (flat_map naming outlines)
  pub codes : IsIndexOf text_cmp text_cmp coded (flat_map coding outlines)
