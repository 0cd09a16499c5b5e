-- The script of some bytes, or why they are refused.
--
-- Which definition is which rule of reading (the rules are those of docs/FORMATS.md):
--   of two faults the earlier is answered     `>>=` of Read: a fault of what is read first is the answer, and nothing behind it is read
--   the place of a fault                      `within` of Read
--   an object                                 `object_of`, `known_fields` (both in `with_fields`), `field` where it is required, `field_or` with its default, of Json
--   `do` and `query` before other fields      `step_of` and `ask_of` of Steps
--   a list                                    `items_of`, then `in_order`, of Json; that a list of roles isn't empty: `some_bits_from` of Values
--   texts, numbers, truth values, words       Values, a definition each
--   USRs of a record                          `new_usr_of` and `known_usr_of` of Values, beside the symbols by `symbols_of` and `occurrences_of` of Plans
--   two lanes that poll, after all else       `one_poller` below
--   the limits of lists                       the number beside each `list_of`, `items_of` and `count_of`, in the table that has the field
-- An object's table of fields is one definition, and its order is that of the lines: the script's is `fields_of` below, a compile job's objects
-- are in Plans, steps and asks in Steps.
use Rattle.std.specs.Prelude.{ℕ, ◌==◌, ◌+◌, nat_lt, if◌then◌else◌, List, [], ◌∷◌, length, codes, Bool, true, false, Option, Some, None, Ok, Err}
use Rattle.std.specs.List.{list_any}
use Rattle.serde_json.specs.Data.{Data}
use Rattle.ix_types.specs.declared.format.Format.{Format}
use Rattle.ix_types.specs.declared.format.Format.TheVariants.{One, Two}
use Rattle.ix_plan.specs.declared.plan.Script.{Script}
use Rattle.ix_plan.specs.declared.plan.Step.{Step}
use Rattle.ix_plan.specs.declared.plan.Step.TheVariants.{Build, Remove, Poll, Refresh, Ask, Release, Collect}
use Rattle.ix_plan.specs.declared.refusal.What.TheVariants as what
use Rattle.ix_plan.specs.declared.refusal.ScriptRefusal.TheVariants.{TwoPollers}
use Rattle.ix_plan.specs.Read.{Read, ◌>>=◌, bad_value}
use Rattle.ix_plan.specs.Json.{json_of, with_fields, field, field_or, list_of}
use Rattle.ix_plan.specs.Values.{number_of, tested}
use Rattle.ix_plan.specs.Steps.{lane_of}

-- the number 1 or 2
abbrev pub format_by_number : ℕ → Read Format
format_by_number n = if n == 1 then Ok One else (if n == 2 then Ok Two else bad_value)

abbrev pub format_of : Data → Read Format
format_of d = number_of d >>= format_by_number

-- a number of one of so many lanes
abbrev pub lane_number_of : ℕ → Data → Read ℕ
lane_number_of lanes d = number_of d >>= λ n. tested (nat_lt n lanes) n

abbrev pub is_poll : Step → Bool
is_poll (Build plan) = false
is_poll (Remove output) = false
is_poll Poll = true
is_poll Refresh = false
is_poll (Ask query) = false
is_poll Release = false
is_poll Collect = false

-- whether a lane has a poll
abbrev pub polls : List Step → Bool
polls lane = list_any is_poll lane

-- the number of the first lane, counted from i, that has a poll, and that of the second
abbrev pub first_poller : ℕ → List (List Step) → Option ℕ
first_poller i [] = None
first_poller i (lane ∷ lanes) = if polls lane then Some i else first_poller (i + 1) lanes

abbrev pub second_poller : ℕ → List (List Step) → Option ℕ
second_poller i [] = None
second_poller i (lane ∷ lanes) = if polls lane then first_poller (i + 1) lanes else second_poller (i + 1) lanes

-- limit: at most 16 lanes
unfoldable pub lanes_of : Format → Data → Read (List (List Step))
lanes_of format d = list_of what.Lanes 16 (λ before. lane_of format) d

-- limit: at most 65,536 numbers, each of a lane
unfoldable pub order_of : ℕ → Data → Read (List ℕ)
order_of lanes d = list_of what.Order 65536 (λ before. lane_number_of lanes) d

-- table of the script: `format`, `lanes`, `order` (none)
unfoldable pub fields_of : Data → Read Script
fields_of d = do
  checked ← with_fields (codes "format" ∷ codes "lanes" ∷ codes "order" ∷ []) d
  format ← field (codes "format") format_of d
  lanes ← field (codes "lanes") (lanes_of format) d
  order ← field_or [] (codes "order") (order_of (length lanes)) d
  Ok (record { lanes = lanes; order = order })

abbrev pub accepted : Script → Option ℕ → Read Script
accepted script None = Ok script
accepted script (Some lane) = Err (TwoPollers lane)

-- rule of pollers: after all else, no two lanes may have a poll
unfoldable pub one_poller : Script → Read Script
one_poller script = accepted script (second_poller 0 script.lanes)

-- the script of a JSON value
abbrev pub script_of_json : Data → Read Script
script_of_json d = fields_of d >>= one_poller

-- the script that the bytes spell, or why they are refused
abbrev pub script_of : List ℕ → Read Script
script_of bytes = json_of bytes >>= script_of_json
