-- What holds of the steps and the scripts that are read.
use Rattle.std.proofs.Common.{◌≡◌, ℕ, ◌<◌, ◌≤◌, ◌+◌, ◌&&◌, ltb, Bool, true, false, List, [], ◌∷◌, length, codes, Ok, Err, Result, IfOk, Option, Some, None, cond, refl, arith}
use Rattle.std.specs.List.{filter}
use Rattle.std.proofs.lemmas.Bool.{ltb-true}
use Rattle.serde_json.specs.Data.{Data}
use Rattle.ix_types.specs.Text.{IsText, IsTextOrEmpty}
use Rattle.ix_types.specs.declared.format.Format.{Format}
use Rattle.ix_types.specs.declared.format.Format.TheVariants.{One, Two}
use Rattle.ix_plan.specs.declared.steps.AskPlace.{AskPlace}
use Rattle.ix_plan.specs.declared.steps.AskPlace.TheVariants.{Among, Alone}
use Rattle.ix_types.specs.declared.row.Query.{Query}
use Rattle.ix_types.specs.declared.row.Query.TheVariants as query
use Rattle.ix_plan.specs.declared.plan.Script.{Script}
use Rattle.ix_plan.specs.declared.plan.Step.{Step}
use Rattle.ix_plan.specs.declared.plan.Step.TheVariants.{Poll, Refresh, Ask, Release, Collect}
use Rattle.ix_plan.specs.declared.refusal.What.TheVariants as what
use Rattle.ix_plan.specs.declared.refusal.ScriptError.{ScriptError}
use Rattle.ix_plan.specs.Read.{Read, Gives}
use Rattle.ix_plan.specs.Json.{object_of, with_fields, field, field_or}
use Rattle.ix_plan.specs.Values.{string_of, text_of, text_or_empty_of, flag_of, count_of, number_of, tested, role_of, relation_of, some_bits_of}
use Rattle.ix_plan.specs.Plans.{unit_of}
use Rattle.ix_plan.specs.Steps.{is_word, ask_fields, one_text, usr_and_roles, usr_and_depth, name_ask, pattern_ask, asked, asked_two, format_two, walk_by_word, path_by_word, name_by_word, ask_by_word, ask_of, ask_alone_of, build_of, remove_of, plain_step, ask_step, step_by_word, step_of, lane_of}
use Rattle.ix_plan.specs.Reading.{format_of, lane_number_of, polls, first_poller, second_poller, lanes_of, order_of, fields_of, one_poller, accepted, script_of_json}
use Rattle.ix_plan.specs.Keeps.{AreFew, AreRoles, AreRelations, IsWalk, IsAsk, IsAskOf, IsStep, IsStepOf, IsLane, IsLaneOf, HasFormat, IsAccepted}
use Rattle.ix_plan.proofs.Lengths.{Keeps, kept, then_keeps, field_keeps}
use Rattle.ix_plan.proofs.Keeping.{weaker, tested_keeps, field_or_keeps, text_keeps, text_or_empty_keeps, IsCount, count_keeps, list_keeps}
use Rattle.ix_plan.proofs.Masks.{roles_keep, relations_keep}
use Rattle.ix_plan.proofs.PlansKept.{passed, all_first, all_second, IsUnit, unit_keeps}

-- an ask of a script of the format
abbrev IsAskIn : Format → Query → Type 0
IsAskIn format ask = IsAsk ask × IsAskOf format ask

one_text_keeps : (at : AskPlace) (name : List ℕ) (d : Data) → Keeps IsText (one_text at name d)
unfolding one_text
one_text_keeps at name d =
    passed IsText (with_fields (ask_fields at (name ∷ [])) d) (λ checked. field name text_of d) (λ checked. field_keeps IsText name text_of d text_keeps)

-- a text of a kind, and roles or a depth of a kind
abbrev IsPair : (ℕ → Type 0) → List ℕ × ℕ → Type 0
IsPair P pair = IsText pair.0 × P pair.1

usr_and_roles_keeps : (at : AskPlace) (P : ℕ → Type 0) (word : Data → Read ℕ) → ((e : Data) → Keeps P (some_bits_of word e)) → (d : Data) → Keeps (IsPair P) (usr_and_roles at word d)
unfolding usr_and_roles
usr_and_roles_keeps at P word k d =
    passed (IsPair P) (with_fields (ask_fields at (codes "usr" ∷ codes "roles" ∷ [])) d) _ (λ checked.
    then_keeps IsText (IsPair P) (field (codes "usr") text_of d) _ (field_keeps IsText (codes "usr") text_of d text_keeps) (λ usr usr_is.
    then_keeps P (IsPair P) (field (codes "roles") (some_bits_of word) d) _ (field_keeps P (codes "roles") (some_bits_of word) d k) (λ roles roles_are. (usr_is, roles_are))))

usr_and_depth_keeps : (at : AskPlace) (d : Data) → Keeps (IsPair (IsCount 16)) (usr_and_depth at d)
unfolding usr_and_depth
usr_and_depth_keeps at d =
    passed (IsPair (IsCount 16)) (with_fields (ask_fields at (codes "usr" ∷ codes "depth" ∷ [])) d) _ (λ checked.
    then_keeps IsText (IsPair (IsCount 16)) (field (codes "usr") text_of d) _ (field_keeps IsText (codes "usr") text_of d text_keeps) (λ usr usr_is.
    then_keeps (IsCount 16) (IsPair (IsCount 16)) (field (codes "depth") (count_of 16) d) _ (field_keeps (IsCount 16) (codes "depth") (count_of 16) d (count_keeps 16)) (λ depth depth_is. (usr_is, depth_is))))

asked_keeps : (at : AskPlace) (format : Format) (make : List ℕ → Query) → ((text : List ℕ) → IsText text → (IsAskIn format) (make text)) → (name : List ℕ) (d : Data) → Keeps (IsAskIn format) (asked make (one_text at name d))
asked_keeps at format make k name d = then_keeps IsText (IsAskIn format) (one_text at name d) (λ text. Ok (make text)) (one_text_keeps at name d) k

walked_keeps : (at : AskPlace) (format : Format) (make : List ℕ → ℕ → Query) → ((usr : List ℕ) (depth : ℕ) → IsWalk usr depth → (IsAskIn format) (make usr depth)) → (d : Data) → Keeps (IsAskIn format) (asked_two make (usr_and_depth at d))
walked_keeps at format make k d = then_keeps (IsPair (IsCount 16)) (IsAskIn format) (usr_and_depth at d) (λ pair. Ok (make pair.0 pair.1)) (usr_and_depth_keeps at d) (λ pair is. k pair.0 pair.1 (is.0, is.1.0, is.1.1))

with_roles_keeps : (at : AskPlace) (format : Format) (P : ℕ → Type 0) (word : Data → Read ℕ) (make : List ℕ → ℕ → Query) → ((e : Data) → Keeps P (some_bits_of word e)) → ((usr : List ℕ) (roles : ℕ) → IsText usr → P roles → (IsAskIn format) (make usr roles))
    → (d : Data) → Keeps (IsAskIn format) (asked_two make (usr_and_roles at word d))
with_roles_keeps at format P word make roles k d = then_keeps (IsPair P) (IsAskIn format) (usr_and_roles at word d) (λ pair. Ok (make pair.0 pair.1)) (usr_and_roles_keeps at P word roles d) (λ pair is. k pair.0 pair.1 is.0 is.1)

name_ask_keeps : (at : AskPlace) (format : Format) (d : Data) → Keeps (IsAskIn format) (name_ask at d)
unfolding name_ask
name_ask_keeps at format d =
    passed (IsAskIn format) (with_fields (ask_fields at (codes "name" ∷ [])) d) _ (λ checked.
    then_keeps IsTextOrEmpty (IsAskIn format) (field (codes "name") text_or_empty_of d) _ (field_keeps IsTextOrEmpty (codes "name") text_or_empty_of d text_or_empty_keeps) (λ name name_is. (name_is, tt)))

pattern_ask_keeps : (at : AskPlace) (format : Format) (d : Data) → Keeps (IsAskIn format) (pattern_ask at d)
unfolding pattern_ask
pattern_ask_keeps at format d =
    passed (IsAskIn format) (with_fields (ask_fields at (codes "text" ∷ codes "start" ∷ codes "end" ∷ codes "fold" ∷ [])) d) _ (λ checked.
    then_keeps IsText (IsAskIn format) (field (codes "text") text_of d) _ (field_keeps IsText (codes "text") text_of d text_keeps) (λ text text_is.
    passed (IsAskIn format) (field_or false (codes "start") flag_of d) _ (λ start.
    passed (IsAskIn format) (field_or false (codes "end") flag_of d) _ (λ end.
    passed (IsAskIn format) (field_or false (codes "fold") flag_of d) _ (λ fold. (text_is, tt))))))

either : {A : Type 0} (Q : A → Type 0) (b : Bool) (x y : Read A) → Keeps Q x → Keeps Q y → Keeps Q (cond b x y)
either Q true x y x_is y_is = x_is
either Q false x y x_is y_is = y_is

-- the same where the one way is of format Two alone
either_two : {A : Type 0} (Q : A → Type 0) (b : Bool) (format : Format) (x y : Read A) → (format ≡ Two → Keeps Q x) → Keeps Q y → Keeps Q (cond (b && format_two format) x y)
either_two Q true One x y x_is y_is = y_is
either_two Q true Two x y x_is y_is = x_is refl
either_two Q false format x y x_is y_is = y_is

walk_keeps : (at : AskPlace) (format : Format) (word : List ℕ) (d : Data) → Keeps (IsAskIn format) (walk_by_word at word d)
unfolding walk_by_word
walk_keeps at format word d =
    either (IsAskIn format) (is_word (codes "incoming") word) _ _ (walked_keeps at format query.Incoming (λ usr depth is. (is, tt)) d)
    (either (IsAskIn format) (is_word (codes "outgoing") word) _ _ (walked_keeps at format query.Outgoing (λ usr depth is. (is, tt)) d)
    (either (IsAskIn format) (is_word (codes "supertypes") word) _ _ (walked_keeps at format query.Supertypes (λ usr depth is. (is, tt)) d)
    (either (IsAskIn format) (is_word (codes "subtypes") word) _ _ (walked_keeps at format query.Subtypes (λ usr depth is. (is, tt)) d) tt)))

path_keeps : (at : AskPlace) (format : Format) (word : List ℕ) (d : Data) → Keeps (IsAskIn format) (path_by_word at word d)
unfolding path_by_word
path_keeps at format word d =
    either (IsAskIn format) (is_word (codes "symbols") word) _ _ (asked_keeps at format query.Symbols (λ path is. (is, tt)) (codes "path") d)
    (either (IsAskIn format) (is_word (codes "mains") word) _ _ (asked_keeps at format query.Mains (λ path is. (is, tt)) (codes "path") d)
    (either (IsAskIn format) (is_word (codes "units") word) _ _ (asked_keeps at format query.Units (λ path is. (is, tt)) (codes "path") d)
    (either (IsAskIn format) (is_word (codes "includes") word) _ _ (asked_keeps at format query.Includes (λ path is. (is, tt)) (codes "path") d)
    (either (IsAskIn format) (is_word (codes "includers") word) _ _ (asked_keeps at format query.Includers (λ path is. (is, tt)) (codes "path") d) (walk_keeps at format word d)))))

name_keeps : (at : AskPlace) (format : Format) (word : List ℕ) (d : Data) → Keeps (IsAskIn format) (name_by_word at format word d)
unfolding name_by_word
name_keeps at format word d =
    either (IsAskIn format) (is_word (codes "name") word) _ _ (name_ask_keeps at format d)
    (either (IsAskIn format) (is_word (codes "pattern") word) _ _ (pattern_ask_keeps at format d)
    (either_two (IsAskIn format) (is_word (codes "codegen") word) format _ _ (λ two. asked_keeps at format query.Codegen (λ codegen is. (is, two)) (codes "codegen") d) (path_keeps at format word d)))

ask_by_word_keeps : (at : AskPlace) (format : Format) (word : List ℕ) (d : Data) → Keeps (IsAskIn format) (ask_by_word at format word d)
unfolding ask_by_word
ask_by_word_keeps at format word d =
    either (IsAskIn format) (is_word (codes "def") word) _ _ (asked_keeps at format query.Def (λ usr is. (is, tt)) (codes "usr") d)
    (either (IsAskIn format) (is_word (codes "refs") word) _ _ (asked_keeps at format query.Refs (λ usr is. (is, tt)) (codes "usr") d)
    (either (IsAskIn format) (is_word (codes "occ") word) _ _ (with_roles_keeps at format AreRoles role_of query.Occ roles_keep (λ usr roles usr_is roles_are. ((usr_is, roles_are), tt)) d)
    (either (IsAskIn format) (is_word (codes "rel") word) _ _ (with_roles_keeps at format AreRelations relation_of query.Rel relations_keep (λ usr roles usr_is roles_are. ((usr_is, roles_are), tt)) d)
    (either (IsAskIn format) (is_word (codes "callers") word) _ _ (asked_keeps at format query.Callers (λ usr is. (is, tt)) (codes "usr") d)
    (either (IsAskIn format) (is_word (codes "overrides") word) _ _ (asked_keeps at format query.Overrides (λ usr is. (is, tt)) (codes "usr") d) (name_keeps at format word d))))))

ask_keeps : (at : AskPlace) (format : Format) (d : Data) → Keeps (IsAskIn format) (ask_of at format d)
unfolding ask_of
ask_keeps at format d = passed (IsAskIn format) (field (codes "query") string_of d) _ (λ word. ask_by_word_keeps at format word d)

ask_alone_keeps : (d : Data) → Keeps (IsAskIn Two) (ask_alone_of d)
unfolding ask_alone_of
ask_alone_keeps d = passed (IsAskIn Two) (object_of d) _ (λ members. ask_keeps Alone Two d)

-- a step of a script of the format
abbrev IsStepIn : Format → Step → Type 0
IsStepIn format step = IsStep step × IsStepOf format step

build_keeps : (format : Format) (d : Data) → Keeps (IsStepIn format) (build_of format d)
unfolding build_of
build_keeps format d =
    passed (IsStepIn format) (with_fields (codes "do" ∷ codes "unit" ∷ []) d) _ (λ checked.
    then_keeps (IsUnit format) (IsStepIn format) (field (codes "unit") (unit_of format) d) _ (field_keeps (IsUnit format) (codes "unit") (unit_of format) d (unit_keeps format)) (λ unit unit_is. ((unit_is.0, unit_is.1.0), unit_is.1.1)))

remove_keeps : (format : Format) (d : Data) → Keeps (IsStepIn format) (remove_of d)
unfolding remove_of
remove_keeps format d =
    passed (IsStepIn format) (with_fields (codes "do" ∷ codes "output" ∷ []) d) _ (λ checked.
    then_keeps IsText (IsStepIn format) (field (codes "output") text_of d) _ (field_keeps IsText (codes "output") text_of d text_keeps) (λ output output_is. (output_is, tt)))

plain_keeps : (format : Format) (step : Step) (d : Data) → IsStepIn format step → Keeps (IsStepIn format) (plain_step step d)
unfolding plain_step
plain_keeps format step d is = passed (IsStepIn format) (with_fields (codes "do" ∷ []) d) (λ checked. Ok step) (λ checked. is)

ask_step_keeps : (format : Format) (d : Data) → Keeps (IsStepIn format) (ask_step format d)
unfolding ask_step
ask_step_keeps format d = then_keeps (IsAskIn format) (IsStepIn format) (ask_of Among format d) (λ query. Ok (Ask query)) (ask_keeps Among format d) (λ query is. is)

step_by_word_keeps : (format : Format) (word : List ℕ) (d : Data) → Keeps (IsStepIn format) (step_by_word format word d)
unfolding step_by_word
step_by_word_keeps format word d =
    either (IsStepIn format) (is_word (codes "build") word) _ _ (build_keeps format d)
    (either (IsStepIn format) (is_word (codes "remove") word) _ _ (remove_keeps format d)
    (either (IsStepIn format) (is_word (codes "poll") word) _ _ (plain_keeps format Poll d (tt, tt))
    (either (IsStepIn format) (is_word (codes "refresh") word) _ _ (plain_keeps format Refresh d (tt, tt))
    (either (IsStepIn format) (is_word (codes "ask") word) _ _ (ask_step_keeps format d)
    (either (IsStepIn format) (is_word (codes "release") word) _ _ (plain_keeps format Release d (tt, tt))
    (either (IsStepIn format) (is_word (codes "collect") word) _ _ (plain_keeps format Collect d (tt, tt)) tt))))))

step_keeps : (format : Format) (d : Data) → Keeps (IsStepIn format) (step_of format d)
unfolding step_of
step_keeps format d =
    passed (IsStepIn format) (object_of d) _ (λ members. passed (IsStepIn format) (field (codes "do") string_of d) _ (λ word. step_by_word_keeps format word d))

lane_steps_keep : (format : Format) (d : Data) → Keeps (AreFew 4096 (IsStepIn format)) (lane_of format d)
unfolding lane_of
lane_steps_keep format d = list_keeps (IsStepIn format) what.Steps 4096 (λ before. step_of format) d (λ before e. step_keeps format e)

abbrev IsLaneIn : Format → List Step → Type 0
IsLaneIn format lane = IsLane lane × IsLaneOf format lane

lane_keeps : (format : Format) (d : Data) → Keeps (IsLaneIn format) (lane_of format d)
unfolding lane_of
lane_keeps format d =
    weaker (AreFew 4096 (IsStepIn format)) (IsLaneIn format) (lane_of format d) (lane_steps_keep format d)
    (λ lane are. ((are.0, all_first IsStep (IsStepOf format) lane are.1), all_second IsStep (IsStepOf format) lane are.1))

lane_number_keeps : (lanes : ℕ) (d : Data) → Keeps (λ n. n < lanes) (lane_number_of lanes d)
lane_number_keeps lanes d = passed (λ n. n < lanes) (number_of d) (λ n. tested (ltb n lanes) n) (λ n. tested_keeps (λ k. k < lanes) (ltb n lanes) n (ltb-true n lanes))

abbrev HasFields : Script → Type 0
HasFields script = AreFew 16 IsLane script.lanes × AreFew 65536 (λ lane. lane < length script.lanes) script.order × HasFormat script

lanes_keep : (format : Format) (d : Data) → Keeps (AreFew 16 (IsLaneIn format)) (lanes_of format d)
unfolding lanes_of
lanes_keep format d = list_keeps (IsLaneIn format) what.Lanes 16 (λ before. lane_of format) d (λ before e. lane_keeps format e)

abbrev IsNumberOf : ℕ → ℕ → Type 0
IsNumberOf lanes n = n < lanes

order_keeps : (lanes : ℕ) (d : Data) → Keeps (AreFew 65536 (IsNumberOf lanes)) (order_of lanes d)
unfolding order_of
order_keeps lanes d = list_keeps (IsNumberOf lanes) what.Order 65536 (λ before. lane_number_of lanes) d (λ before e. lane_number_keeps lanes e)

fields_keep : (d : Data) → Keeps HasFields (fields_of d)
unfolding fields_of
fields_keep d =
    passed HasFields (with_fields (codes "format" ∷ codes "lanes" ∷ codes "order" ∷ []) d) _ (λ checked.
    passed HasFields (field (codes "format") format_of d) _ (λ format.
    then_keeps (AreFew 16 (IsLaneIn format)) HasFields (field (codes "lanes") (lanes_of format) d) _ (field_keeps (AreFew 16 (IsLaneIn format)) (codes "lanes") (lanes_of format) d (lanes_keep format)) (λ lanes lanes_are.
    then_keeps (AreFew 65536 (IsNumberOf (length lanes))) HasFields (field_or [] (codes "order") (order_of (length lanes)) d) _
    (field_or_keeps (AreFew 65536 (IsNumberOf (length lanes))) [] (codes "order") (order_of (length lanes)) d (omega arith, tt) (order_keeps (length lanes))) (λ order order_is.
    ((lanes_are.0, all_first IsLane (IsLaneOf format) lanes lanes_are.1), order_is, record { format = format; is = all_second IsLane (IsLaneOf format) lanes lanes_are.1 })))))

none_polls : (i : ℕ) (lanes : List (List Step)) → first_poller i lanes ≡ None → length (filter polls lanes) ≡ 0
none_polls i [] none = refl
none_polls i (lane ∷ lanes) none = none_here (polls lane) i lane lanes none (none_polls (i + 1) lanes)
  where
    none_here : (b : Bool) (i : ℕ) (lane : List Step) (lanes : List (List Step)) → cond b (Some i) (first_poller (i + 1) lanes) ≡ None → (first_poller (i + 1) lanes ≡ None → length (filter polls lanes) ≡ 0)
        → length (cond b (lane ∷ filter polls lanes) (filter polls lanes)) ≡ 0
    none_here true i lane lanes none k = cc
    none_here false i lane lanes none k = k none

few_poll : (i : ℕ) (lanes : List (List Step)) → second_poller i lanes ≡ None → length (filter polls lanes) ≤ 1
few_poll i [] none = omega arith
few_poll i (lane ∷ lanes) none = few_here (polls lane) i lane lanes none (few_poll (i + 1) lanes)
  where
    few_here : (b : Bool) (i : ℕ) (lane : List Step) (lanes : List (List Step)) → cond b (first_poller (i + 1) lanes) (second_poller (i + 1) lanes) ≡ None → (second_poller (i + 1) lanes ≡ None → length (filter polls lanes) ≤ 1)
        → length (cond b (lane ∷ filter polls lanes) (filter polls lanes)) ≤ 1
    few_here true i lane lanes none k = omega (arith, none_polls (i + 1) lanes none)
    few_here false i lane lanes none k = k none

one_poller_keeps : (script : Script) (o : Option ℕ) → second_poller 0 script.lanes ≡ o → HasFields script → Keeps IsAccepted (accepted script o)
one_poller_keeps script None is has = record { lanes = has.0; order = has.1; one_poller = few_poll 0 script.lanes is; one_format = has.2 }
one_poller_keeps script (Some lane) is has = tt

one_keeps : (script : Script) → HasFields script → Keeps IsAccepted (one_poller script)
unfolding one_poller
one_keeps script has = one_poller_keeps script (second_poller 0 script.lanes) refl has

script_keeps : (d : Data) → Keeps IsAccepted (script_of_json d)
script_keeps d = then_keeps HasFields IsAccepted (fields_of d) one_poller (fields_keep d) one_keeps

-- what is read of a value is a script that keeps its rules
pub accepted_is : (d : Data) (script : Script) → script_of_json d ≡ Ok script → IsAccepted script
accepted_is d script is = kept IsAccepted (script_of_json d) script (script_keeps d) is

pub read_is : (d : Data) (r : Result Script ScriptError) → Gives r (script_of_json d) → IfOk r IsAccepted
read_is d (Ok script) is = accepted_is d script is
read_is d (Err e) is = tt

-- what is read of a value as an ask alone keeps its rules
alone_is : (d : Data) (r : Result Query ScriptError) → Gives r (ask_alone_of d) → IfOk r (IsAskIn Two)
alone_is d (Ok ask) is = kept (IsAskIn Two) (ask_alone_of d) ask (ask_alone_keeps d) is
alone_is d (Err e) is = tt

only : (r : Result Query ScriptError) → IfOk r (IsAskIn Two) → IfOk r IsAsk
only (Ok ask) is = is.0
only (Err e) is = tt

pub ask_is : (d : Data) (r : Result Query ScriptError) → Gives r (ask_alone_of d) → IfOk r IsAsk
ask_is d r is = only r (alone_is d r is)
