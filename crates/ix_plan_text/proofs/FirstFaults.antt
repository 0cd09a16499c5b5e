-- Of two faults the one that is read first is answered.
use Rattle.std.proofs.Common.{◌≡◌, ℕ, ◌<◌, ◌+◌, Bool, true, false, ◌||◌, if◌then◌else◌, List, [], ◌∷◌, length, codes, Some, None, Ok, Err, refl, sym, ap, ◌∙◌, subst, arith, lt-ltb}
use Rattle.std.specs.Fmt.{decimal}
use Rattle.serde_json.specs.Data.{Data, Items, no_items, item, Members}
use Rattle.serde_json.specs.Find.{as_array}
use Rattle.ix_types.specs.declared.format.Format.{Format}
use Rattle.ix_plan.specs.declared.plan.Step.{Step}
use Rattle.ix_plan.specs.declared.plan.Step.TheVariants.{Poll, Refresh, Release, Collect}
use Rattle.ix_plan.specs.declared.steps.AskPlace.{AskPlace}
use Rattle.ix_plan.specs.declared.refusal.What.{What}
use Rattle.ix_plan.specs.declared.refusal.What.TheVariants.{Words}
use Rattle.ix_plan.specs.declared.refusal.ScriptRefusal.{ScriptRefusal}
use Rattle.ix_plan.specs.declared.refusal.ScriptRefusal.TheVariants.{BadValue, TooMany}
use Rattle.ix_plan.specs.Read.{Read, ◌>>=◌, within}
use Rattle.ix_plan.specs.Json.{json_of, object_of, with_fields, field, field_or, in_order, list_of, items_count}
use Rattle.ix_plan.specs.Values.{string_of, text_of, flag_of, some_bits_of}
use Rattle.ix_plan.specs.Plans.{symbols_of, record_of}
use Rattle.ix_plan.specs.Steps.{is_word, unknown_word, ask_fields, one_text, ask_by_word, ask_of, ask_step, build_of, remove_of, plain_step, step_by_word, step_of}
use Rattle.ix_plan.specs.Reading.{format_of, lanes_of, order_of, fields_of, script_of}
use Rattle.ix_plan_text.specs.Faults.{then_items}

-- a fault of the first is the answer, and where it has none the next is read
pub first_fault : {A B : Type 0} (read : Read A) (next : A → Read B) (r : ScriptRefusal) → read ≡ Err r → (read >>= next) ≡ Err r
first_fault (Ok a) next r is = cc
first_fault (Err e) next r is = let same : e ≡ r = cc in ap Err same

pub then_next : {A B : Type 0} (read : Read A) (next : A → Read B) (a : A) → read ≡ Ok a → (read >>= next) ≡ next a
then_next (Ok b) next a is = let same : b ≡ a = cc in ap next same
then_next (Err e) next a is = cc

pub then_fault : {A B : Type 0} (read : Read A) (next : A → Read B) (a : A) (r : ScriptRefusal) → read ≡ Ok a → next a ≡ Err r → (read >>= next) ≡ Err r
then_fault (Ok b) next a r is bad = let same : b ≡ a = cc in subst (λ c. next c ≡ Err r) (sym same) bad
then_fault (Err e) next a r is bad = cc

none_more : (i : ℕ) → 0 + i ≡ i
none_more i = omega arith

moved : (n i : ℕ) → n + 1 + i ≡ n + (i + 1)
moved n i = omega arith

behind : {S A : Type 0} (f : S → Data → Read A) (add : S → A → S) (s t : S) (i : ℕ) (x : Data) (front rest : Items) (d : Data) (r : ScriptRefusal) (read : Read A)
    → within (decimal i) (f s x) ≡ read → in_order f add s i (item x front) ≡ Ok t
    → ((a : A) → in_order f add (add s a) (i + 1) front ≡ Ok t → in_order f add (add s a) (i + 1) (then_items front (item d rest)) ≡ Err r)
    → in_order f add s i (item x (then_items front (item d rest))) ≡ Err r
behind f add s t i x front rest d r (Ok a) is good k =
    then_next (within (decimal i) (f s x)) (λ a. in_order f add (add s a) (i + 1) (then_items front (item d rest))) a is
    ∙ k a (sym (then_next (within (decimal i) (f s x)) (λ a. in_order f add (add s a) (i + 1) front) a is) ∙ good)
behind f add s t i x front rest d r (Err e) is good k =
    let bad : in_order f add s i (item x front) ≡ Err e = first_fault (within (decimal i) (f s x)) (λ a. in_order f add (add s a) (i + 1) front) e is in
    let never : Ok t ≡ Err e = sym good ∙ bad in cc

pub later_item : {S A : Type 0} (f : S → Data → Read A) (add : S → A → S) (s t : S) (i : ℕ) (front rest : Items) (d : Data) (r : ScriptRefusal)
    → in_order f add s i front ≡ Ok t → within (decimal (items_count front + i)) (f t d) ≡ Err r
    → in_order f add s i (then_items front (item d rest)) ≡ Err r
later_item f add s t i no_items rest d r good fault =
    let same : s ≡ t = cc in
    first_fault (within (decimal i) (f s d)) (λ a. in_order f add (add s a) (i + 1) rest) r (subst (λ u. within (decimal i) (f u d) ≡ Err r) (sym same) (subst (λ n. within (decimal n) (f t d) ≡ Err r) (none_more i) fault))
later_item f add s t i (item x front) rest d r good fault =
    behind f add s t i x front rest d r (within (decimal i) (f s x)) refl good
    (λ a known. later_item f add (add s a) t (i + 1) front rest d r known (subst (λ n. within (decimal n) (f t d) ≡ Err r) (moved (items_count front) i) fault))

-- a script: its fields, then `format`, `lanes` and `order`
pub script_fields : (d : Data) (r : ScriptRefusal) → with_fields (codes "format" ∷ codes "lanes" ∷ codes "order" ∷ []) d ≡ Err r → fields_of d ≡ Err r
unfolding fields_of
script_fields d r bad = first_fault (with_fields (codes "format" ∷ codes "lanes" ∷ codes "order" ∷ []) d) _ r bad

pub script_format : (d : Data) (r : ScriptRefusal) → with_fields (codes "format" ∷ codes "lanes" ∷ codes "order" ∷ []) d ≡ Ok tt → field (codes "format") format_of d ≡ Err r → fields_of d ≡ Err r
unfolding fields_of
script_format d r checked bad = then_fault (with_fields (codes "format" ∷ codes "lanes" ∷ codes "order" ∷ []) d) _ tt r checked (first_fault (field (codes "format") format_of d) _ r bad)

pub script_lanes : (d : Data) (r : ScriptRefusal) (format : Format) → with_fields (codes "format" ∷ codes "lanes" ∷ codes "order" ∷ []) d ≡ Ok tt → field (codes "format") format_of d ≡ Ok format
    → field (codes "lanes") (lanes_of format) d ≡ Err r → fields_of d ≡ Err r
unfolding fields_of
script_lanes d r format checked own bad = then_fault (with_fields (codes "format" ∷ codes "lanes" ∷ codes "order" ∷ []) d) _ tt r checked (then_fault (field (codes "format") format_of d) _ format r own (first_fault (field (codes "lanes") (lanes_of format) d) _ r bad))

pub script_order : (d : Data) (r : ScriptRefusal) (format : Format) (lanes : List (List Step)) → with_fields (codes "format" ∷ codes "lanes" ∷ codes "order" ∷ []) d ≡ Ok tt → field (codes "format") format_of d ≡ Ok format
    → field (codes "lanes") (lanes_of format) d ≡ Ok lanes → field_or [] (codes "order") (order_of (length lanes)) d ≡ Err r → fields_of d ≡ Err r
unfolding fields_of
script_order d r format lanes checked own are bad =
    then_fault (with_fields (codes "format" ∷ codes "lanes" ∷ codes "order" ∷ []) d) _ tt r checked (then_fault (field (codes "format") format_of d) _ format r own (then_fault (field (codes "lanes") (lanes_of format) d) _ lanes r are (first_fault (field_or [] (codes "order") (order_of (length lanes)) d) _ r bad)))

-- a step: its sort, then `do`, then the fields of its word
pub step_sort : (format : Format) (d : Data) (r : ScriptRefusal) → object_of d ≡ Err r → step_of format d ≡ Err r
unfolding step_of
step_sort format d r bad = first_fault (object_of d) _ r bad

pub step_do : (format : Format) (d : Data) (members : Members) (r : ScriptRefusal) → object_of d ≡ Ok members → field (codes "do") string_of d ≡ Err r → step_of format d ≡ Err r
unfolding step_of
step_do format d members r is bad = then_fault (object_of d) _ members r is (first_fault (field (codes "do") string_of d) _ r bad)

pub step_word : (format : Format) (d : Data) (members : Members) (word : List ℕ) → object_of d ≡ Ok members → field (codes "do") string_of d ≡ Ok word → step_of format d ≡ step_by_word format word d
unfolding step_of
step_word format d members word is said = then_next (object_of d) _ members is ∙ then_next (field (codes "do") string_of d) _ word said

pub other_word : (format : Format) (d : Data) (word : List ℕ) → (is_word (codes "build") word || is_word (codes "remove") word || is_word (codes "poll") word || is_word (codes "refresh") word || is_word (codes "ask") word || is_word (codes "release") word || is_word (codes "collect") word) ≡ false
    → step_by_word format word d ≡ Err (BadValue (codes "/do"))
unfolding step_by_word
other_word format d word none = here (is_word (codes "build") word) (is_word (codes "remove") word) (is_word (codes "poll") word) (is_word (codes "refresh") word) (is_word (codes "ask") word) (is_word (codes "release") word) (is_word (codes "collect") word) none
  where
    here : (a b c e f g h : Bool) → (a || b || c || e || f || g || h) ≡ false
        → (if a then build_of format d else (if b then remove_of d else (if c then plain_step Poll d else (if e then plain_step Refresh d else (if f then ask_step format d else (if g then plain_step Release d else (if h then plain_step Collect d else unknown_word (codes "do")))))))) ≡ Err (BadValue (codes "/do"))
    here true b c e f g h is = cc
    here false true c e f g h is = cc
    here false false true e f g h is = cc
    here false false false true f g h is = cc
    here false false false false true g h is = cc
    here false false false false false true h is = cc
    here false false false false false false true is = cc
    here false false false false false false false is = refl

pub ask_word : (at : AskPlace) (format : Format) (d : Data) (r : ScriptRefusal) → field (codes "query") string_of d ≡ Err r → ask_of at format d ≡ Err r
unfolding ask_of
ask_word at format d r bad = first_fault (field (codes "query") string_of d) _ r bad

pub def_fields : (at : AskPlace) (format : Format) (d : Data) (r : ScriptRefusal) → field (codes "query") string_of d ≡ Ok (codes "def") → with_fields (ask_fields at (codes "usr" ∷ [])) d ≡ Err r → ask_of at format d ≡ Err r
unfolding ask_of ask_by_word one_text
def_fields at format d r said bad =
    then_fault (field (codes "query") string_of d) _ (codes "def") r said
    (first_fault (one_text at (codes "usr") d) _ r (first_fault (with_fields (ask_fields at (codes "usr" ∷ [])) d) _ r bad))

-- a list: its sort, its length, and then its items
pub list_sort : {A : Type 0} (what : What) (most : ℕ) (f : List A → Data → Read A) (d : Data) → as_array d ≡ None → list_of what most f d ≡ Err (BadValue [])
list_sort what most f d is = rw is refl

pub list_length : {A : Type 0} (what : What) (most : ℕ) (f : List A → Data → Read A) (d : Data) (ds : Items) → as_array d ≡ Some ds → most < items_count ds → list_of what most f d ≡ Err (TooMany what)
list_length what most f d ds is more = rw (is, lt-ltb most (items_count ds) more) refl

pub words_length : (word : Data → Read ℕ) (d : Data) (ds : Items) → as_array d ≡ Some ds → 64 < items_count ds → some_bits_of word d ≡ Err (TooMany Words)
words_length word d ds is more = rw (is, lt-ltb 64 (items_count ds) more) refl

pub no_words : (word : Data → Read ℕ) (d : Data) → as_array d ≡ Some no_items → some_bits_of word d ≡ Err (BadValue [])
no_words word d is = rw is refl

-- a record: its symbols before its occurrences
pub record_symbols : (format : Format) (d : Data) (path : List ℕ) (system : Bool) (r : ScriptRefusal)
    → with_fields (codes "path" ∷ codes "system" ∷ codes "symbols" ∷ codes "occurrences" ∷ []) d ≡ Ok tt → field (codes "path") text_of d ≡ Ok path → field_or false (codes "system") flag_of d ≡ Ok system
    → field_or [] (codes "symbols") (symbols_of format) d ≡ Err r → record_of format d ≡ Err r
unfolding record_of
record_symbols format d path system r checked text flag bad =
    then_fault (with_fields (codes "path" ∷ codes "system" ∷ codes "symbols" ∷ codes "occurrences" ∷ []) d) _ tt r checked
    (then_fault (field (codes "path") text_of d) _ path r text
    (then_fault (field_or false (codes "system") flag_of d) _ system r flag
    (first_fault (field_or [] (codes "symbols") (symbols_of format) d) _ r bad)))

-- the text before the value
pub text_first : (bytes : List ℕ) (r : ScriptRefusal) → json_of bytes ≡ Err r → script_of bytes ≡ Err r
text_first bytes r bad = first_fault (json_of bytes) _ r bad
