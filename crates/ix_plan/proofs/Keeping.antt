-- What holds of all that is read.
use Rattle.std.proofs.Common.{◌≡◌, ℕ, ◌≤◌, ◌+◌, ◌&&◌, leb, Bool, true, false, is_none, List, [], ◌∷◌, ◌++◌, Ok, Err, Some, None, Option, refl}
use Rattle.std.specs.Fmt.{decimal}
use Rattle.std.specs.List.{AllByRecursion}
use Rattle.std.proofs.lemmas.Bool.{leb-true}
use Rattle.serde_json.specs.Data.{Data, Items, no_items, item}
use Rattle.serde_json.specs.Find.{get}
use Rattle.ix_types.specs.Codes.{Table, code_of_name, has_code}
use Rattle.ix_types.specs.Text.{IsText, IsTextOrEmpty, refusal, refusal_or_empty}
use Rattle.ix_plan.specs.declared.refusal.What.{What}
use Rattle.ix_plan.specs.Read.{Read, ◌>>=◌, within, allowed}
use Rattle.ix_plan.specs.Json.{in_order, one_more, list_of, items_of, field_or, optional}
use Rattle.ix_plan.specs.Values.{tested, string_of, text_of, text_or_empty_of, number_of, count_of, word_of}
use Rattle.ix_plan.specs.Keeps.{AreFew}
use Rattle.ix_plan.proofs.Lengths.{Keeps, then_keeps, within_keeps, anything, IsShort, list_is_short}
use Rattle.ix_plan.proofs.Rows.{code_of_row}

pub both : {A : Type 0} (P Q : A → Type 0) (r : Read A) → Keeps P r → Keeps Q r → Keeps (λ a. P a × Q a) r
both P Q (Ok a) p q = (p, q)
both P Q (Err r) p q = tt

pub weaker : {A : Type 0} (P Q : A → Type 0) (r : Read A) → Keeps P r → ((a : A) → P a → Q a) → Keeps Q r
weaker P Q (Ok a) p k = k a p
weaker P Q (Err r) p k = tt

option_keeps : {A : Type 0} (P : A → Type 0) (default : A) (name : List ℕ) (f : Data → Read A) (o : Option Data) → P default → ((e : Data) → Keeps P (f e)) → Keeps P (optional default name f o)
option_keeps P default name f None is k = is
option_keeps P default name f (Some e) is k = within_keeps P name (f e) (k e)

pub field_or_keeps : {A : Type 0} (P : A → Type 0) (default : A) (name : List ℕ) (f : Data → Read A) (d : Data) → P default → ((e : Data) → Keeps P (f e)) → Keeps P (field_or default name f d)
field_or_keeps P default name f d is k = option_keeps P default name f (get name d) is k

pub tested_keeps : {A : Type 0} (P : A → Type 0) (b : Bool) (a : A) → (b ≡ true → P a) → Keeps P (tested b a)
tested_keeps P true a k = k refl
tested_keeps P false a k = tt

pub allowed_keeps : {A : Type 0} (P : A → Type 0) (o : Option A) → ((a : A) → o ≡ Some a → P a) → Keeps P (allowed o)
allowed_keeps P None k = tt
allowed_keeps P (Some a) k = k a refl

none_is : {A : Type 0} (o : Option A) → is_none o ≡ true → o ≡ None
none_is None h = refl
none_is (Some a) h = cc

pub text_keeps : (d : Data) → Keeps IsText (text_of d)
text_keeps d = then_keeps (λ _. Unit {0}) IsText (string_of d) (λ s. tested (is_none (refusal s)) s) (anything (string_of d)) (λ s _. tested_keeps IsText (is_none (refusal s)) s (none_is (refusal s)))

pub text_or_empty_keeps : (d : Data) → Keeps IsTextOrEmpty (text_or_empty_of d)
text_or_empty_keeps d = then_keeps (λ _. Unit {0}) IsTextOrEmpty (string_of d) (λ s. tested (is_none (refusal_or_empty s)) s) (anything (string_of d)) (λ s _. tested_keeps IsTextOrEmpty (is_none (refusal_or_empty s)) s (none_is (refusal_or_empty s)))

both_true : (a b : Bool) → (a && b) ≡ true → (a ≡ true) × (b ≡ true)
both_true true b h = (refl, h)
both_true false b h = cc

abbrev pub IsCount : ℕ → ℕ → Type 0
IsCount most n = (1 ≤ n) × (n ≤ most)

pub count_keeps : (most : ℕ) (d : Data) → Keeps (IsCount most) (count_of most d)
count_keeps most d = then_keeps (λ _. Unit {0}) (IsCount most) (number_of d) (λ n. tested (leb 1 n && leb n most) n) (anything (number_of d))
    (λ n _. tested_keeps (IsCount most) (leb 1 n && leb n most) n (λ h. let t : (leb 1 n ≡ true) × (leb n most ≡ true) = both_true (leb 1 n) (leb n most) h in (leb-true 1 n t.0, leb-true n most t.1)))

pub word_keeps : (table : Table) (d : Data) → Keeps (λ code. has_code table code ≡ true) (word_of table d)
word_keeps table d = then_keeps (λ _. Unit {0}) (λ code. has_code table code ≡ true) (string_of d) (λ s. allowed (code_of_name table s)) (anything (string_of d))
    (λ s _. allowed_keeps (λ code. has_code table code ≡ true) (code_of_name table s) (λ code is. code_of_row table s code is))

-- what is known holds of what is known after each item
pub order_keeps : {S A : Type 0} (I : S → Type 0) (f : S → Data → Read A) (add : S → A → S) → ((s : S) (d : Data) → I s → Keeps (λ a. I (add s a)) (f s d))
    → (s : S) (i : ℕ) (ds : Items) → I s → Keeps I (in_order f add s i ds)
order_keeps I f add k s i no_items is = is
order_keeps I f add k s i (item d ds) is =
    then_keeps (λ a. I (add s a)) I (within (decimal i) (f s d)) (λ a. in_order f add (add s a) (i + 1) ds) (within_keeps (λ a. I (add s a)) (decimal i) (f s d) (k s d is))
    (λ a more. order_keeps I f add k (add s a) (i + 1) ds more)

limited_keeps : {S : Type 0} (P : S → Type 0) (what : What) (most : ℕ) (g : Items → Read S) (d : Data) → ((ds : Items) → Keeps P (g ds)) → Keeps P (items_of what most d >>= g)
limited_keeps P what most g d k = then_keeps (λ _. Unit {0}) P (items_of what most d) g (anything (items_of what most d)) (λ ds _. k ds)

pub items_keep : {S : Type 0} (P : S → Type 0) (what : What) (most : ℕ) (g : Items → Read S) (d : Data) → ((ds : Items) → Keeps P (g ds)) → Keeps P (items_of what most d >>= g)
items_keep = limited_keeps

pub all_more : {A : Type 0} (P : A → Type 0) (xs : List A) (a : A) → AllByRecursion P xs → P a → AllByRecursion P (xs ++ a ∷ [])
all_more P [] a all is = (is, tt)
all_more P (x ∷ xs) a all is = (all.0, all_more P xs a all.1 is)

-- a list that is read is short, and what each reader gives is so
pub list_keeps : {A : Type 0} (P : A → Type 0) (what : What) (most : ℕ) (f : List A → Data → Read A) (d : Data) → ((before : List A) (e : Data) → Keeps P (f before e)) → Keeps (AreFew most P) (list_of what most f d)
list_keeps P what most f d k =
    both (IsShort most) (AllByRecursion P) (list_of what most f d) (list_is_short what most f d)
    (items_keep (AllByRecursion P) what most (in_order f one_more [] 0) d
    (λ ds. order_keeps (AllByRecursion P) f one_more (λ before e all. weaker P (λ a. AllByRecursion P (one_more before a)) (f before e) (k before e) (λ a is. all_more P before a all is)) [] 0 ds tt))
