-- How long the lists are that are read.
use Rattle.std.proofs.Common.{◌≡◌, ℕ, ◌≤◌, ◌+◌, Bool, true, false, List, [], ◌∷◌, length, codes, Ok, Err, Result, refl, subst, arith, ltb, cond, IfOk}
use Rattle.std.proofs.Common.{length-append}
use Rattle.std.proofs.lemmas.Bool.{ltb-false}
use Rattle.std.specs.Fmt.{decimal}
use Rattle.serde_json.specs.Data.{Data, null, boolean, number, string, array, object, Items, no_items, item}
use Rattle.ix_types.specs.declared.format.Format.{Format}
use Rattle.ix_plan.specs.declared.plan.Step.{Step}
use Rattle.ix_plan.specs.declared.refusal.What.{What}
use Rattle.ix_plan.specs.declared.refusal.What.TheVariants.{Lanes}
use Rattle.ix_plan.specs.declared.refusal.ScriptRefusal.TheVariants.{TooMany}
use Rattle.ix_plan.specs.Read.{Read, ◌>>=◌, within}
use Rattle.ix_plan.specs.Json.{items_count, in_order, one_more, list_of, field, member_of}
use Rattle.ix_plan.specs.Steps.{lane_of}
use Rattle.ix_plan.specs.Reading.{lanes_of}

-- what a reader that answers gives is so
abbrev pub Keeps : {A : Type 0} → (A → Type 0) → Read A → Type 0
Keeps P (Ok a) = P a
Keeps P (Err r) = Unit {0}

pub kept : {A : Type 0} (P : A → Type 0) (r : Read A) (a : A) → Keeps P r → r ≡ Ok a → P a
kept P (Ok b) a keeps is = let same : b ≡ a = cc in subst P same keeps
kept P (Err r) a keeps is = cc

pub then_keeps : {A B : Type 0} (P : A → Type 0) (Q : B → Type 0) (r : Read A) (f : A → Read B) → Keeps P r → ((a : A) → P a → Keeps Q (f a)) → Keeps Q (r >>= f)
then_keeps P Q (Ok a) f keeps k = k a keeps
then_keeps P Q (Err r) f keeps k = tt

pub within_keeps : {A : Type 0} (P : A → Type 0) (part : List ℕ) (r : Read A) → Keeps P r → Keeps P (within part r)
within_keeps P part (Ok a) keeps = keeps
within_keeps P part (Err r) keeps = tt

pub anything : {A : Type 0} (r : Read A) → Keeps (λ _. Unit {0}) r
anything (Ok a) = tt
anything (Err r) = tt

abbrev HasCount : {A : Type 0} → ℕ → List A → Type 0
HasCount n xs = length xs ≡ n

counts : {A : Type 0} (f : List A → Data → Read A) (before : List A) (i : ℕ) (ds : Items) → Keeps (HasCount (length before + items_count ds)) (in_order f one_more before i ds)
counts f before i no_items = omega arith
counts {A} f before i (item d ds) =
    then_keeps (λ _. Unit {0}) (HasCount (length before + (items_count ds + 1))) (within (decimal i) (f before d)) (λ a. in_order f one_more (one_more before a) (i + 1) ds) (anything (within (decimal i) (f before d)))
    (λ a _. let longer : length (one_more before a) ≡ length before + 1 = length-append before (a ∷ []) in
    let e : length (one_more before a) + items_count ds ≡ length before + (items_count ds + 1) = omega (arith, longer) in
    subst (λ n. Keeps (HasCount n) (in_order f one_more (one_more before a) (i + 1) ds)) e (counts f (one_more before a) (i + 1) ds))

abbrev pub IsShort : {A : Type 0} → ℕ → List A → Type 0
IsShort most xs = length xs ≤ most

short : {A : Type 0} (most n : ℕ) (r : Read (List A)) → n ≤ most → Keeps (HasCount n) r → Keeps (IsShort most) r
short most n (Ok xs) le is = omega (arith, is)
short most n (Err r) le is = tt

limited : {A : Type 0} (what : What) (most : ℕ) (f : List A → Data → Read A) (ds : Items) (b : Bool) → ltb most (items_count ds) ≡ b
    → Keeps (IsShort most) (cond b (Err (TooMany what)) (Ok ds) >>= in_order f one_more [] 0)
limited what most f ds true is = tt
limited what most f ds false is =
    let few : items_count ds ≤ most = ltb-false most (items_count ds) is in
    short most (0 + items_count ds) (in_order f one_more [] 0 ds) (omega (arith, few)) (counts f [] 0 ds)

-- a list that is read has at most so many items
pub list_is_short : {A : Type 0} (what : What) (most : ℕ) (f : List A → Data → Read A) (d : Data) → Keeps (IsShort most) (list_of what most f d)
list_is_short what most f null = tt
list_is_short what most f (boolean b) = tt
list_is_short what most f (number n) = tt
list_is_short what most f (string s) = tt
list_is_short what most f (array ds) = limited what most f ds (ltb most (items_count ds)) refl
list_is_short what most f (object ms) = tt

pub field_keeps : {A : Type 0} (P : A → Type 0) (name : List ℕ) (f : Data → Read A) (d : Data) → ((e : Data) → Keeps P (f e)) → Keeps P (field name f d)
field_keeps P name f d k = then_keeps (λ _. Unit {0}) P (member_of name d) (λ e. within name (f e)) (anything (member_of name d)) (λ e _. within_keeps P name (f e) (k e))

pub few_lanes : (format : Format) (d : Data) (lanes : List (List Step)) → field (codes "lanes") (lanes_of format) d ≡ Ok lanes → length lanes ≤ 16
unfolding lanes_of
few_lanes format d lanes is =
    kept (IsShort 16) (field (codes "lanes") (lanes_of format) d) lanes
    (field_keeps (IsShort 16) (codes "lanes") (lanes_of format) d (list_is_short Lanes 16 (λ before. lane_of format))) is

-- what holds of a value that is handed on as it was
pub same_passes : {A E : Type 0} (P : A → Type 0) (handed read : Result A E) → IfOk handed (λ a. read ≡ Ok a) → IfOk read P → IfOk handed P
same_passes P (Ok a) (Ok b) same holds = let e : b ≡ a = cc in subst P e holds
same_passes P (Ok a) (Err e) same holds = cc
same_passes P (Err e) read same holds = tt
