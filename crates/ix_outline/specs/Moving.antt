-- A map by name on its way to another: what it has now, and what came and what went since the start.
use Rattle.std.specs.Prelude.{ℕ, Bool, if◌then◌else◌, List, [], ◌∷◌, ◌++◌, map, Option, Some, None}
use Rattle.std.specs.List.{fold, flat_map, list_any}
use Rattle.std.specs.Str.{bytes_eq}
use Rattle.std.specs.Option.{option_map, option_to_list}
use Rattle.ix_types.specs.Row.{text_cmp}
use Rattle.ix_unit.specs.declared.value.UnitValue.{UnitValue}
use Rattle.ix_unit.specs.declared.batch.UnitPut.{UnitPut}
use Rattle.ix_pages.specs.Pairs.{look_up, with_pair, without_key}
use Rattle.ix_outline.specs.declared.outline.Outline.{Outline}

-- values by name
abbrev pub Named : Type 0 → Type 0
Named T = List (List ℕ × T)

pub record Moving (T : Type 0) : Type 0 where
  pub entries : Named T
  pub gained : Named T
  pub lost : Named T

module _ {T : Type 0} where
  -- a map from which nothing moved yet
  abbrev pub unmoved : Named T → Moving T
  unmoved start = record { entries = start; gained = []; lost = [] }

  -- what stands under a name, with the name
  abbrev pub standing : Named T → List ℕ → Named T
  standing entries name = option_to_list (option_map (λ value. (name, value)) (look_up text_cmp entries name))

  -- a value comes under a name, and the one that stood there goes
  abbrev pub moved_in : Moving T → List ℕ → T → Moving T
  moved_in m name value = record {
    entries = with_pair text_cmp m.entries (name, value);
    gained = m.gained ++ (name, value) ∷ [];
    lost = m.lost ++ standing m.entries name;
  }

  -- what stands under a name goes
  abbrev pub moved_out : Moving T → List ℕ → Moving T
  moved_out m name = record {
    entries = without_key text_cmp m.entries name;
    gained = m.gained;
    lost = m.lost ++ standing m.entries name;
  }

-- a unit comes
abbrev pub with_put : Moving UnitValue → UnitPut → Moving UnitValue
with_put m put = moved_in m put.name put.unit.value

-- all that are put come, one after the other, and then all that are gone go
unfoldable pub units_moved : List UnitPut → List (List ℕ) → Named UnitValue → Moving UnitValue
units_moved puts gone units = fold moved_out (fold with_put (unmoved units) puts) gone

-- the names of the records that units list, one for each place
abbrev pub record_names : Named UnitValue → List (List ℕ)
record_names units = flat_map (λ entry. map (λ dep. dep.name) entry.1.records) units

-- the names whose records may be listed more often or less
abbrev pub touched : Moving UnitValue → List (List ℕ)
touched m = record_names m.gained ++ record_names m.lost

-- whether units list a record of the name
abbrev pub lists_name : Named UnitValue → List ℕ → Bool
lists_name units name = list_any (λ other. bytes_eq other name) (record_names units)

-- the outline of a name comes, if it is at hand
abbrev pub come : Moving Outline → List ℕ → Option Outline → Moving Outline
come m name None = m
come m name (Some outline) = moved_in m name outline

-- an outline that stands stays
abbrev pub stay_or_come : Moving Outline → List ℕ → Option Outline → Option Outline → Moving Outline
stay_or_come m name None body = come m name body
stay_or_come m name (Some outline) body = m

-- the outline of a listed name stands or comes, that of another goes
abbrev pub settled : (List ℕ → Bool) → Named Outline → Moving Outline → List ℕ → Moving Outline
settled listed bodies m name =
    if listed name then stay_or_come m name (look_up text_cmp m.entries name) (look_up text_cmp bodies name)
    else moved_out m name

-- the outlines after all of the names were settled
unfoldable pub outlines_moved : (List ℕ → Bool) → Named Outline → List (List ℕ) → Named Outline → Moving Outline
outlines_moved listed bodies names outlines = fold (settled listed bodies) (unmoved outlines) names
