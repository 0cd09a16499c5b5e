-- What the look-ups of tables find, as one value.
use Rattle.std.specs.Prelude.{ℕ, List}
use Rattle.std.specs.List.{flat_map}
use Rattle.ix_lookups.specs.Found.{Found}
use Rattle.ix_outline.specs.Facts.{provided, relating, naming, coding, placing, pathing, listing_facts}
use Rattle.ix_outline.specs.Finding.{values_under, keys_given}
use Rattle.ix_outline.specs.Known.{Known}

-- under each key what the outlines and the units that are known give there
abbrev pub found_of : Known → Found
found_of known = record {
  providers = λ usr. values_under usr (flat_map provided known.outlines);
  related = λ usr. values_under usr (flat_map relating known.outlines);
  named = λ name. values_under name (flat_map naming known.outlines);
  coded = λ codegen. values_under codegen (flat_map coding known.outlines);
  in_path = λ path. values_under path (flat_map placing known.units);
  paths = λ name. values_under name (flat_map pathing known.units);
  listing = λ path. values_under path (flat_map listing_facts known.units);
  names = keys_given (flat_map naming known.outlines);
  units = known.units;
}
