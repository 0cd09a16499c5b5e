-- The tables of fields of steps and asks, by their words, one definition a table. `do` and `query` are read before the fields are judged.
use Rattle.std.specs.Prelude.{ℕ, ◌&&◌, if◌then◌else◌, List, [], ◌∷◌, codes, Bool, true, false, Ok}
use Rattle.std.specs.Str.{bytes_eq}
use Rattle.serde_json.specs.Data.{Data}
use Rattle.ix_types.specs.declared.format.Format.{Format}
use Rattle.ix_types.specs.declared.format.Format.TheVariants.{One, Two}
use Rattle.ix_types.specs.declared.row.Query.{Query}
use Rattle.ix_types.specs.declared.row.Query.TheVariants as query
use Rattle.ix_plan.specs.declared.steps.AskPlace.{AskPlace}
use Rattle.ix_plan.specs.declared.steps.AskPlace.TheVariants.{Among, Alone}
use Rattle.ix_plan.specs.declared.plan.Step.{Step}
use Rattle.ix_plan.specs.declared.plan.Step.TheVariants.{Build, Remove, Poll, Refresh, Ask, Release, Collect}
use Rattle.ix_plan.specs.declared.refusal.What.TheVariants as what
use Rattle.ix_plan.specs.Read.{Read, ◌>>=◌, within, bad_value}
use Rattle.ix_plan.specs.Json.{object_of, with_fields, field, field_or, list_of}
use Rattle.ix_plan.specs.Values.{string_of, text_of, text_or_empty_of, flag_of, count_of, role_of, relation_of, some_bits_of}
use Rattle.ix_plan.specs.Plans.{unit_of}

abbrev pub is_word : List ℕ → List ℕ → Bool
is_word word s = bytes_eq s word

-- a word that isn't one of the table is refused at its place
abbrev pub unknown_word : {A : Type 0} → List ℕ → Read A
unknown_word name = within name bad_value

-- the fields of an ask: `query` and those of its word, and among the steps of a lane `do`
abbrev pub ask_fields : AskPlace → List (List ℕ) → List (List ℕ)
ask_fields Among names = codes "do" ∷ codes "query" ∷ names
ask_fields Alone names = codes "query" ∷ names

-- table of an ask with one field, a text: `usr`, `path` or `codegen`
unfoldable pub one_text : AskPlace → List ℕ → Data → Read (List ℕ)
one_text at name d = do
  checked ← with_fields (ask_fields at (name ∷ [])) d
  field name text_of d

-- table of `occ` and `rel`: `usr`, `roles`
unfoldable pub usr_and_roles : AskPlace → (Data → Read ℕ) → Data → Read (List ℕ × ℕ)
usr_and_roles at word d = do
  checked ← with_fields (ask_fields at (codes "usr" ∷ codes "roles" ∷ [])) d
  usr ← field (codes "usr") text_of d
  roles ← field (codes "roles") (some_bits_of word) d
  Ok (usr, roles)

-- table of a walk: `usr`, `depth`, from 1 to 16
unfoldable pub usr_and_depth : AskPlace → Data → Read (List ℕ × ℕ)
usr_and_depth at d = do
  checked ← with_fields (ask_fields at (codes "usr" ∷ codes "depth" ∷ [])) d
  usr ← field (codes "usr") text_of d
  depth ← field (codes "depth") (count_of 16) d
  Ok (usr, depth)

-- table of `name`: `name`, which may be empty
unfoldable pub name_ask : AskPlace → Data → Read Query
name_ask at d = do
  checked ← with_fields (ask_fields at (codes "name" ∷ [])) d
  name ← field (codes "name") text_or_empty_of d
  Ok (query.Name name)

-- table of `pattern`: `text`, `start` (false), `end` (false), `fold` (false)
unfoldable pub pattern_ask : AskPlace → Data → Read Query
pattern_ask at d = do
  checked ← with_fields (ask_fields at (codes "text" ∷ codes "start" ∷ codes "end" ∷ codes "fold" ∷ [])) d
  text ← field (codes "text") text_of d
  start ← field_or false (codes "start") flag_of d
  end ← field_or false (codes "end") flag_of d
  fold ← field_or false (codes "fold") flag_of d
  Ok (query.Pattern text start end fold)

-- the ask `codegen` is one of format Two alone
abbrev pub format_two : Format → Bool
format_two One = false
format_two Two = true

-- the ask of a field, and that of two
abbrev pub asked : (List ℕ → Query) → Read (List ℕ) → Read Query
asked make read = read >>= λ text. Ok (make text)

abbrev pub asked_two : (List ℕ → ℕ → Query) → Read (List ℕ × ℕ) → Read Query
asked_two make read = read >>= λ pair. Ok (make pair.0 pair.1)

unfoldable pub walk_by_word : AskPlace → List ℕ → Data → Read Query
walk_by_word at word d =
    if is_word (codes "incoming") word then asked_two query.Incoming (usr_and_depth at d)
    else (if is_word (codes "outgoing") word then asked_two query.Outgoing (usr_and_depth at d)
    else (if is_word (codes "supertypes") word then asked_two query.Supertypes (usr_and_depth at d)
    else (if is_word (codes "subtypes") word then asked_two query.Subtypes (usr_and_depth at d)
    else unknown_word (codes "query"))))

unfoldable pub path_by_word : AskPlace → List ℕ → Data → Read Query
path_by_word at word d =
    if is_word (codes "symbols") word then asked query.Symbols (one_text at (codes "path") d)
    else (if is_word (codes "mains") word then asked query.Mains (one_text at (codes "path") d)
    else (if is_word (codes "units") word then asked query.Units (one_text at (codes "path") d)
    else (if is_word (codes "includes") word then asked query.Includes (one_text at (codes "path") d)
    else (if is_word (codes "includers") word then asked query.Includers (one_text at (codes "path") d)
    else walk_by_word at word d))))

unfoldable pub name_by_word : AskPlace → Format → List ℕ → Data → Read Query
name_by_word at format word d =
    if is_word (codes "name") word then name_ask at d
    else (if is_word (codes "pattern") word then pattern_ask at d
    else (if is_word (codes "codegen") word && format_two format then asked query.Codegen (one_text at (codes "codegen") d)
    else path_by_word at word d))

-- the ask of a word
unfoldable pub ask_by_word : AskPlace → Format → List ℕ → Data → Read Query
ask_by_word at format word d =
    if is_word (codes "def") word then asked query.Def (one_text at (codes "usr") d)
    else (if is_word (codes "refs") word then asked query.Refs (one_text at (codes "usr") d)
    else (if is_word (codes "occ") word then asked_two query.Occ (usr_and_roles at role_of d)
    else (if is_word (codes "rel") word then asked_two query.Rel (usr_and_roles at relation_of d)
    else (if is_word (codes "callers") word then asked query.Callers (one_text at (codes "usr") d)
    else (if is_word (codes "overrides") word then asked query.Overrides (one_text at (codes "usr") d)
    else name_by_word at format word d)))))

-- rule of asks: `query` is read before the fields are judged, and the word says which fields there are
unfoldable pub ask_of : AskPlace → Format → Data → Read Query
ask_of at format d = do
  word ← field (codes "query") string_of d
  ask_by_word at format word d

-- an ask that is no step of a script: one of format Two with no `do`
unfoldable pub ask_alone_of : Data → Read Query
ask_alone_of d = do
  members ← object_of d
  ask_of Alone Two d

-- table of `build`: `unit`
unfoldable pub build_of : Format → Data → Read Step
build_of format d = do
  checked ← with_fields (codes "do" ∷ codes "unit" ∷ []) d
  unit ← field (codes "unit") (unit_of format) d
  Ok (Build unit)

-- table of `remove`: `output`
unfoldable pub remove_of : Data → Read Step
remove_of d = do
  checked ← with_fields (codes "do" ∷ codes "output" ∷ []) d
  output ← field (codes "output") text_of d
  Ok (Remove output)

-- table of `poll`, `refresh`, `release`, `collect`: no field
unfoldable pub plain_step : Step → Data → Read Step
plain_step step d = with_fields (codes "do" ∷ []) d >>= λ checked. Ok step

unfoldable pub ask_step : Format → Data → Read Step
ask_step format d = do
  query ← ask_of Among format d
  Ok (Ask query)

-- the step of a word
unfoldable pub step_by_word : Format → List ℕ → Data → Read Step
step_by_word format word d =
    if is_word (codes "build") word then build_of format d
    else (if is_word (codes "remove") word then remove_of d
    else (if is_word (codes "poll") word then plain_step Poll d
    else (if is_word (codes "refresh") word then plain_step Refresh d
    else (if is_word (codes "ask") word then ask_step format d
    else (if is_word (codes "release") word then plain_step Release d
    else (if is_word (codes "collect") word then plain_step Collect d
    else unknown_word (codes "do")))))))

-- the step of an object
abbrev pub step_by_do : Format → Data → Read Step
step_by_do format d = field (codes "do") string_of d >>= λ word. step_by_word format word d

-- rule of steps: what isn't an object is refused, then `do` is read, before the fields are judged
unfoldable pub step_of : Format → Data → Read Step
step_of format d = do
  members ← object_of d
  word ← field (codes "do") string_of d
  step_by_word format word d

-- limit: at most 4,096 steps
unfoldable pub lane_of : Format → Data → Read (List Step)
lane_of format d = list_of what.Steps 4096 (λ before. step_of format) d
