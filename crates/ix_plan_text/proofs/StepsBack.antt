-- A script that was printed reads back as itself.
use Rattle.std.proofs.Common.{◌≡◌, ℕ, ◌≤◌, ◌<◌, ◌+◌, ltb, Bool, true, false, List, [], ◌∷◌, length, codes, Ok, Option, Some, None, refl, sym, ap, ◌∙◌, subst, cond, arith, lt-ltb}
use Rattle.std.specs.List.{AllByRecursion, filter}
use Rattle.serde_json.specs.Data.{Data, boolean, string, Members}
use Rattle.serde_json.specs.Find.{get}
use Rattle.ix_types.specs.Codes.{roles}
use Rattle.ix_types.specs.Text.{IsText, IsTextOrEmpty}
use Rattle.ix_types.specs.declared.format.Format.{Format}
use Rattle.ix_types.specs.declared.format.Format.TheVariants.{One, Two}
use Rattle.ix_types.specs.declared.row.Query.{Query}
use Rattle.ix_types.specs.declared.row.Query.TheVariants as query
use Rattle.ix_plan.specs.declared.steps.AskPlace.{AskPlace}
use Rattle.ix_plan.specs.declared.steps.AskPlace.TheVariants.{Among}
use Rattle.ix_plan.specs.declared.plan.Script.{Script}
use Rattle.ix_plan.specs.declared.plan.Step.{Step}
use Rattle.ix_plan.specs.declared.plan.Step.TheVariants.{Build, Remove, Poll, Refresh, Ask, Release, Collect}
use Rattle.ix_plan.specs.declared.plan.UnitPlan.{UnitPlan}
use Rattle.ix_plan.specs.declared.refusal.What.TheVariants as what
use Rattle.ix_plan.specs.Read.{Read, ◌>>=◌}
use Rattle.ix_plan.specs.Json.{object_of, with_fields, field, field_or}
use Rattle.ix_plan.specs.Values.{string_of, text_of, text_or_empty_of, flag_of, count_of, role_of, relation_of, some_bits_of}
use Rattle.ix_plan.specs.Plans.{unit_of}
use Rattle.ix_plan.specs.Steps.{ask_fields, one_text, usr_and_roles, usr_and_depth, name_ask, pattern_ask, asked, asked_two, walk_by_word, path_by_word, name_by_word, ask_by_word, ask_of, build_of, remove_of, plain_step, ask_step, step_by_word, step_of, lane_of}
use Rattle.ix_plan.specs.Reading.{format_of, lane_number_of, polls, first_poller, second_poller, lanes_of, order_of, fields_of, one_poller, accepted, script_of_json}
use Rattle.ix_plan.specs.Keeps.{AreFew, AreRoles, AreRelations, IsWalk, IsAsk, IsAskOf, IsStep, IsStepOf, IsLane, IsLaneOf, IsScriptOf, IsAccepted}
use Rattle.ix_plan_text.specs.Printed.{number_data, list_data, words_data, unit_data, usr_ask, path_ask, roles_ask, walk_ask, ask_data, plain_data, step_data, lane_data, format_number, script_data}
use Rattle.ix_plan_text.proofs.Basics.{then_ok, field_ok, field_or_ok, text_back, text_or_empty_back, count_back, all_read, list_back}
use Rattle.ix_plan_text.proofs.Marks.{roles_back, relations_back}
use Rattle.ix_plan_text.proofs.PlansBack.{both_all, IsUnit, unit_back}

one_text_from : (at : AskPlace) (name : List ℕ) (d : Data) (text : List ℕ)
    → with_fields (ask_fields at (name ∷ [])) d ≡ Ok tt
    → field name text_of d ≡ Ok text
    → one_text at name d ≡ Ok text
unfolding one_text
one_text_from at name d text checked is = then_ok (with_fields (ask_fields at (name ∷ [])) d) _ tt text checked is

roles_from : (at : AskPlace) (word : Data → Read ℕ) (d : Data) (usr : List ℕ) (mask : ℕ)
    → with_fields (ask_fields at (codes "usr" ∷ codes "roles" ∷ [])) d ≡ Ok tt
    → field (codes "usr") text_of d ≡ Ok usr
    → field (codes "roles") (some_bits_of word) d ≡ Ok mask
    → usr_and_roles at word d ≡ Ok (usr, mask)
unfolding usr_and_roles
roles_from at word d usr mask checked own marks =
    then_ok (with_fields (ask_fields at (codes "usr" ∷ codes "roles" ∷ [])) d) _ tt (usr, mask) checked
    (then_ok (field (codes "usr") text_of d) _ usr (usr, mask) own
    (then_ok (field (codes "roles") (some_bits_of word) d) _ mask (usr, mask) marks
    refl))

depth_from : (at : AskPlace) (d : Data) (usr : List ℕ) (depth : ℕ)
    → with_fields (ask_fields at (codes "usr" ∷ codes "depth" ∷ [])) d ≡ Ok tt
    → field (codes "usr") text_of d ≡ Ok usr
    → field (codes "depth") (count_of 16) d ≡ Ok depth
    → usr_and_depth at d ≡ Ok (usr, depth)
unfolding usr_and_depth
depth_from at d usr depth checked own deep =
    then_ok (with_fields (ask_fields at (codes "usr" ∷ codes "depth" ∷ [])) d) _ tt (usr, depth) checked
    (then_ok (field (codes "usr") text_of d) _ usr (usr, depth) own
    (then_ok (field (codes "depth") (count_of 16) d) _ depth (usr, depth) deep
    refl))

name_from : (at : AskPlace) (d : Data) (name : List ℕ)
    → with_fields (ask_fields at (codes "name" ∷ [])) d ≡ Ok tt
    → field (codes "name") text_or_empty_of d ≡ Ok name
    → name_ask at d ≡ Ok (query.Name name)
unfolding name_ask
name_from at d name checked own =
    then_ok (with_fields (ask_fields at (codes "name" ∷ [])) d) _ tt (query.Name name) checked
    (then_ok (field (codes "name") text_or_empty_of d) _ name (query.Name name) own
    refl)

pattern_from : (at : AskPlace) (d : Data) (text : List ℕ) (start end fold : Bool)
    → with_fields (ask_fields at (codes "text" ∷ codes "start" ∷ codes "end" ∷ codes "fold" ∷ [])) d ≡ Ok tt
    → field (codes "text") text_of d ≡ Ok text
    → field_or false (codes "start") flag_of d ≡ Ok start
    → field_or false (codes "end") flag_of d ≡ Ok end
    → field_or false (codes "fold") flag_of d ≡ Ok fold
    → pattern_ask at d ≡ Ok (query.Pattern text start end fold)
unfolding pattern_ask
pattern_from at d text start end fold checked own first last folds =
    then_ok (with_fields (ask_fields at (codes "text" ∷ codes "start" ∷ codes "end" ∷ codes "fold" ∷ [])) d) _ tt (query.Pattern text start end fold) checked
    (then_ok (field (codes "text") text_of d) _ text (query.Pattern text start end fold) own
    (then_ok (field_or false (codes "start") flag_of d) _ start (query.Pattern text start end fold) first
    (then_ok (field_or false (codes "end") flag_of d) _ end (query.Pattern text start end fold) last
    (then_ok (field_or false (codes "fold") flag_of d) _ fold (query.Pattern text start end fold) folds
    refl))))

build_from : (format : Format) (d : Data) (plan : UnitPlan)
    → with_fields (codes "do" ∷ codes "unit" ∷ []) d ≡ Ok tt
    → field (codes "unit") (unit_of format) d ≡ Ok plan
    → build_of format d ≡ Ok (Build plan)
unfolding build_of
build_from format d plan checked own =
    then_ok (with_fields (codes "do" ∷ codes "unit" ∷ []) d) _ tt (Build plan) checked
    (then_ok (field (codes "unit") (unit_of format) d) _ plan (Build plan) own
    refl)

remove_from : (d : Data) (output : List ℕ)
    → with_fields (codes "do" ∷ codes "output" ∷ []) d ≡ Ok tt
    → field (codes "output") text_of d ≡ Ok output
    → remove_of d ≡ Ok (Remove output)
unfolding remove_of
remove_from d output checked own =
    then_ok (with_fields (codes "do" ∷ codes "output" ∷ []) d) _ tt (Remove output) checked
    (then_ok (field (codes "output") text_of d) _ output (Remove output) own
    refl)

fields_from : (format : Format) (d : Data) (script : Script)
    → with_fields (codes "format" ∷ codes "lanes" ∷ codes "order" ∷ []) d ≡ Ok tt
    → field (codes "format") format_of d ≡ Ok format
    → field (codes "lanes") (lanes_of format) d ≡ Ok script.lanes
    → field_or [] (codes "order") (order_of (length script.lanes)) d ≡ Ok script.order
    → fields_of d ≡ Ok script
unfolding fields_of
fields_from format d script checked own lanes order =
    then_ok (with_fields (codes "format" ∷ codes "lanes" ∷ codes "order" ∷ []) d) _ tt script checked
    (then_ok (field (codes "format") format_of d) _ format script own
    (then_ok (field (codes "lanes") (lanes_of format) d) _ script.lanes script lanes
    (then_ok (field_or [] (codes "order") (order_of (length script.lanes)) d) _ script.order script order
    refl)))

usr_back : (word usr : List ℕ) → IsText usr → one_text Among (codes "usr") (usr_ask word usr) ≡ Ok usr
usr_back word usr is = one_text_from Among (codes "usr") (usr_ask word usr) usr refl (field_ok (codes "usr") text_of (usr_ask word usr) (string usr) usr refl (text_back usr is))

path_back : (word path : List ℕ) → IsText path → one_text Among (codes "path") (path_ask word path) ≡ Ok path
path_back word path is = one_text_from Among (codes "path") (path_ask word path) path refl (field_ok (codes "path") text_of (path_ask word path) (string path) path refl (text_back path is))

roles_ask_back : (read : Data → Read ℕ) (word usr : List ℕ) (mask : ℕ) → IsText usr → some_bits_of read (words_data roles mask) ≡ Ok mask → usr_and_roles Among read (roles_ask word usr mask) ≡ Ok (usr, mask)
roles_ask_back read word usr mask is marks =
    let d : Data = roles_ask word usr mask in
    roles_from Among read d usr mask refl (field_ok (codes "usr") text_of d (string usr) usr refl (text_back usr is)) (field_ok (codes "roles") (some_bits_of read) d (words_data roles mask) mask refl marks)

walk_back : (word usr : List ℕ) (depth : ℕ) → IsWalk usr depth → usr_and_depth Among (walk_ask word usr depth) ≡ Ok (usr, depth)
walk_back word usr depth is =
    let d : Data = walk_ask word usr depth in
    depth_from Among d usr depth refl (field_ok (codes "usr") text_of d (string usr) usr refl (text_back usr is.0)) (field_ok (codes "depth") (count_of 16) d (number_data depth) depth refl (count_back 16 depth is.1 is.2))

name_back : (name : List ℕ) → IsTextOrEmpty name → name_ask Among (ask_data (query.Name name)) ≡ Ok (query.Name name)
unfolding ask_data
name_back name is =
    let d : Data = ask_data (query.Name name) in
    name_from Among d name refl (field_ok (codes "name") text_or_empty_of d (string name) name refl (text_or_empty_back name is))

pattern_back : (text : List ℕ) (start end fold : Bool) → IsText text → pattern_ask Among (ask_data (query.Pattern text start end fold)) ≡ Ok (query.Pattern text start end fold)
unfolding ask_data
pattern_back text start end fold is =
    let d : Data = ask_data (query.Pattern text start end fold) in
    pattern_from Among d text start end fold refl
    (field_ok (codes "text") text_of d (string text) text refl (text_back text is))
    (field_or_ok false (codes "start") flag_of d (boolean start) start refl refl)
    (field_or_ok false (codes "end") flag_of d (boolean end) end refl refl)
    (field_or_ok false (codes "fold") flag_of d (boolean fold) fold refl refl)

codegen_back : (codegen : List ℕ) → IsText codegen → one_text Among (codes "codegen") (ask_data (query.Codegen codegen)) ≡ Ok codegen
unfolding ask_data
codegen_back codegen is =
    let d : Data = ask_data (query.Codegen codegen) in
    one_text_from Among (codes "codegen") d codegen refl (field_ok (codes "codegen") text_of d (string codegen) codegen refl (text_back codegen is))

ask_back : (format : Format) (ask : Query) → IsAsk ask → IsAskOf format ask → ask_of Among format (ask_data ask) ≡ Ok ask
unfolding ask_of ask_data ask_by_word name_by_word path_by_word walk_by_word
ask_back format (query.Def usr) is of = ap (asked query.Def) (usr_back (codes "def") usr is)
ask_back format (query.Refs usr) is of = ap (asked query.Refs) (usr_back (codes "refs") usr is)
ask_back format (query.Occ usr mask) is of = ap (asked_two query.Occ) (roles_ask_back role_of (codes "occ") usr mask is.0 (roles_back mask is.1))
ask_back format (query.Rel usr mask) is of = ap (asked_two query.Rel) (roles_ask_back relation_of (codes "rel") usr mask is.0 (relations_back mask is.1))
ask_back format (query.Callers usr) is of = ap (asked query.Callers) (usr_back (codes "callers") usr is)
ask_back format (query.Overrides usr) is of = ap (asked query.Overrides) (usr_back (codes "overrides") usr is)
ask_back format (query.Name name) is of = name_back name is
ask_back format (query.Pattern text start end fold) is of = pattern_back text start end fold is
ask_back format (query.Symbols path) is of = ap (asked query.Symbols) (path_back (codes "symbols") path is)
ask_back format (query.Mains path) is of = ap (asked query.Mains) (path_back (codes "mains") path is)
ask_back format (query.Units path) is of = ap (asked query.Units) (path_back (codes "units") path is)
ask_back format (query.Includes path) is of = ap (asked query.Includes) (path_back (codes "includes") path is)
ask_back format (query.Includers path) is of = ap (asked query.Includers) (path_back (codes "includers") path is)
ask_back format (query.Incoming usr depth) is of = ap (asked_two query.Incoming) (walk_back (codes "incoming") usr depth is)
ask_back format (query.Outgoing usr depth) is of = ap (asked_two query.Outgoing) (walk_back (codes "outgoing") usr depth is)
ask_back format (query.Supertypes usr depth) is of = ap (asked_two query.Supertypes) (walk_back (codes "supertypes") usr depth is)
ask_back format (query.Subtypes usr depth) is of = ap (asked_two query.Subtypes) (walk_back (codes "subtypes") usr depth is)
ask_back format (query.Codegen codegen) is two =
    subst (λ f. ask_of Among f (ask_data (query.Codegen codegen)) ≡ Ok (query.Codegen codegen)) (sym two) (ap (asked query.Codegen) (codegen_back codegen is))

-- the value of an ask is an object with its `do`
abbrev IsObject : Data → Type 0
IsObject d = (members : Members) × (object_of d ≡ Ok members)

asks_object : (ask : Query) → IsObject (ask_data ask)
unfolding ask_data
asks_object (query.Def usr) = (_, refl)
asks_object (query.Refs usr) = (_, refl)
asks_object (query.Occ usr mask) = (_, refl)
asks_object (query.Rel usr mask) = (_, refl)
asks_object (query.Callers usr) = (_, refl)
asks_object (query.Overrides usr) = (_, refl)
asks_object (query.Name name) = (_, refl)
asks_object (query.Pattern text start end fold) = (_, refl)
asks_object (query.Symbols path) = (_, refl)
asks_object (query.Mains path) = (_, refl)
asks_object (query.Units path) = (_, refl)
asks_object (query.Includes path) = (_, refl)
asks_object (query.Includers path) = (_, refl)
asks_object (query.Incoming usr depth) = (_, refl)
asks_object (query.Outgoing usr depth) = (_, refl)
asks_object (query.Supertypes usr depth) = (_, refl)
asks_object (query.Subtypes usr depth) = (_, refl)
asks_object (query.Codegen codegen) = (_, refl)

asks_do : (ask : Query) → get (codes "do") (ask_data ask) ≡ Some (string (codes "ask"))
unfolding ask_data
asks_do (query.Def usr) = refl
asks_do (query.Refs usr) = refl
asks_do (query.Occ usr mask) = refl
asks_do (query.Rel usr mask) = refl
asks_do (query.Callers usr) = refl
asks_do (query.Overrides usr) = refl
asks_do (query.Name name) = refl
asks_do (query.Pattern text start end fold) = refl
asks_do (query.Symbols path) = refl
asks_do (query.Mains path) = refl
asks_do (query.Units path) = refl
asks_do (query.Includes path) = refl
asks_do (query.Includers path) = refl
asks_do (query.Incoming usr depth) = refl
asks_do (query.Outgoing usr depth) = refl
asks_do (query.Supertypes usr depth) = refl
asks_do (query.Subtypes usr depth) = refl
asks_do (query.Codegen codegen) = refl

build_back : (format : Format) (plan : UnitPlan) → IsUnit format plan → build_of format (step_data (Build plan)) ≡ Ok (Build plan)
unfolding step_data
build_back format plan is =
    let d : Data = step_data (Build plan) in
    build_from format d plan refl (field_ok (codes "unit") (unit_of format) d (unit_data plan) plan refl (unit_back format plan is))

remove_back : (output : List ℕ) → IsText output → remove_of (step_data (Remove output)) ≡ Ok (Remove output)
unfolding step_data
remove_back output is =
    let d : Data = step_data (Remove output) in
    remove_from d output refl (field_ok (codes "output") text_of d (string output) output refl (text_back output is))

plain_back : (word : List ℕ) (step : Step) → plain_step step (plain_data word) ≡ Ok step
unfolding plain_step
plain_back word step = refl

ask_step_back : (format : Format) (ask : Query) → IsAsk ask → IsAskOf format ask → ask_step format (ask_data ask) ≡ Ok (Ask ask)
unfolding ask_step
ask_step_back format ask is of = then_ok (ask_of Among format (ask_data ask)) (λ query. Ok (Ask query)) ask (Ask ask) (ask_back format ask is of) refl

asking_back : (format : Format) (ask : Query) → IsAsk ask → IsAskOf format ask → step_of format (ask_data ask) ≡ Ok (Ask ask)
unfolding step_of step_by_word
asking_back format ask is of =
    let d : Data = ask_data ask in
    let object : IsObject d = asks_object ask in
    then_ok (object_of d) _ object.0 (Ask ask) object.1
    (then_ok (field (codes "do") string_of d) _ (codes "ask") (Ask ask) (field_ok (codes "do") string_of d (string (codes "ask")) (codes "ask") (asks_do ask) refl) (ask_step_back format ask is of))

abbrev IsStepIn : Format → Step → Type 0
IsStepIn format step = IsStep step × IsStepOf format step

step_back : (format : Format) (step : Step) → IsStepIn format step → step_of format (step_data step) ≡ Ok step
unfolding step_of step_data step_by_word
step_back format (Build plan) is = build_back format plan (is.0.0, (is.0.1, is.1))
step_back format (Remove output) is = remove_back output is.0
step_back format Poll is = plain_back (codes "poll") Poll
step_back format Refresh is = plain_back (codes "refresh") Refresh
step_back format (Ask ask) is = asking_back format ask is.0 is.1
step_back format Release is = plain_back (codes "release") Release
step_back format Collect is = plain_back (codes "collect") Collect

abbrev IsLaneIn : Format → List Step → Type 0
IsLaneIn format lane = IsLane lane × IsLaneOf format lane

lane_back : (format : Format) (lane : List Step) → IsLaneIn format lane → lane_of format (lane_data lane) ≡ Ok lane
unfolding lane_of lane_data
lane_back format lane is =
    list_back what.Steps 4096 (λ before. step_of format) step_data lane is.0.0
    (all_read (IsStepIn format) (step_of format) step_data (step_back format) [] lane (both_all IsStep (IsStepOf format) lane is.0.1 is.1))

lanes_back : (format : Format) (lanes : List (List Step)) → AreFew 16 IsLane lanes → AllByRecursion (IsLaneOf format) lanes → lanes_of format (list_data lane_data lanes) ≡ Ok lanes
unfolding lanes_of
lanes_back format lanes are of =
    list_back what.Lanes 16 (λ before. lane_of format) lane_data lanes are.0
    (all_read (IsLaneIn format) (lane_of format) lane_data (lane_back format) [] lanes (both_all IsLane (IsLaneOf format) lanes are.1 of))

number_back : (lanes n : ℕ) → n < lanes → lane_number_of lanes (number_data n) ≡ Ok n
number_back lanes n low = rw (lt-ltb n lanes low) refl

order_back : (lanes : ℕ) (order : List ℕ) → AreFew 65536 (λ lane. lane < lanes) order → order_of lanes (list_data number_data order) ≡ Ok order
unfolding order_of
order_back lanes order are =
    list_back what.Order 65536 (λ before. lane_number_of lanes) number_data order are.0 (all_read (λ lane. lane < lanes) (lane_number_of lanes) number_data (number_back lanes) [] order are.1)

format_back : (format : Format) → format_of (number_data (format_number format)) ≡ Ok format
format_back One = refl
format_back Two = refl

fields_back : (format : Format) (script : Script) → IsAccepted script → IsScriptOf format script → fields_of (script_data format script) ≡ Ok script
unfolding script_data
fields_back format script is of =
    let d : Data = script_data format script in
    fields_from format d script refl
    (field_ok (codes "format") format_of d (number_data (format_number format)) format refl (format_back format))
    (field_ok (codes "lanes") (lanes_of format) d (list_data lane_data script.lanes) script.lanes refl (lanes_back format script.lanes is.lanes of))
    (field_or_ok [] (codes "order") (order_of (length script.lanes)) d (list_data number_data script.order) script.order refl (order_back (length script.lanes) script.order is.order))

none_first : (i : ℕ) (lanes : List (List Step)) → length (filter polls lanes) ≤ 0 → first_poller i lanes ≡ None
none_first i [] few = refl
none_first i (lane ∷ lanes) few = here (polls lane) i lane lanes few (none_first (i + 1) lanes)
  where
    here : (b : Bool) (i : ℕ) (lane : List Step) (lanes : List (List Step)) → length (cond b (lane ∷ filter polls lanes) (filter polls lanes)) ≤ 0 → (length (filter polls lanes) ≤ 0 → first_poller (i + 1) lanes ≡ None)
        → cond b (Some i) (first_poller (i + 1) lanes) ≡ None
    here true i lane lanes few k = absurd (omega (arith, few))
    here false i lane lanes few k = k few

none_second : (i : ℕ) (lanes : List (List Step)) → length (filter polls lanes) ≤ 1 → second_poller i lanes ≡ None
none_second i [] few = refl
none_second i (lane ∷ lanes) few = here (polls lane) i lane lanes few (none_second (i + 1) lanes)
  where
    here : (b : Bool) (i : ℕ) (lane : List Step) (lanes : List (List Step)) → length (cond b (lane ∷ filter polls lanes) (filter polls lanes)) ≤ 1 → (length (filter polls lanes) ≤ 1 → second_poller (i + 1) lanes ≡ None)
        → cond b (first_poller (i + 1) lanes) (second_poller (i + 1) lanes) ≡ None
    here true i lane lanes few k = none_first (i + 1) lanes (omega (arith, few))
    here false i lane lanes few k = k few

one_back : (script : Script) → IsAccepted script → one_poller script ≡ Ok script
unfolding one_poller
one_back script is = ap (accepted script) (none_second 0 script.lanes is.one_poller)

pub script_back : (format : Format) (script : Script) → IsAccepted script → IsScriptOf format script → script_of_json (script_data format script) ≡ Ok script
script_back format script is of = then_ok (fields_of (script_data format script)) one_poller script script (fields_back format script is of) (one_back script is)
