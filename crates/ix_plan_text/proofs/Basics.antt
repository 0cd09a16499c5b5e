-- Reading what was printed: fields, values and lists.
use Rattle.std.proofs.Common.{◌≡◌, ℕ, ◌≤◌, ◌<◌, ◌+◌, ◌&&◌, leb, ltb, Bool, true, false, List, [], ◌∷◌, ◌++◌, length, map, Option, Some, None, Ok, Err, refl, sym, ap, ◌∙◌, subst, cond, arith, le-leb, le-ltb, append_assoc, append-nil}
use Rattle.std.specs.Fmt.{decimal}
use Rattle.std.specs.List.{AllByRecursion}
use Rattle.serde_json.specs.Data.{Data, number, unsigned, boolean, string, array, Items, no_items, item}
use Rattle.serde_json.specs.Find.{get}
use Rattle.serde_json.specs.View.{items_of}
use Rattle.ix_types.specs.Text.{IsText, IsTextOrEmpty}
use Rattle.ix_plan.specs.declared.refusal.What.{What}
use Rattle.ix_plan.specs.Read.{Read, ◌>>=◌, within}
use Rattle.ix_plan.specs.Json.{field, field_or, in_order, one_more, list_of, items_count}
use Rattle.ix_plan.specs.Values.{text_of, text_or_empty_of, count_of}
use Rattle.ix_plan_text.specs.Printed.{list_data}

pub then_ok : {A B : Type 0} (r : Read A) (f : A → Read B) (a : A) (b : B) → r ≡ Ok a → f a ≡ Ok b → (r >>= f) ≡ Ok b
then_ok (Ok x) f a b is next = let same : x ≡ a = cc in subst (λ y. f y ≡ Ok b) (sym same) next
then_ok (Err e) f a b is next = cc

pub field_ok : {A : Type 0} (name : List ℕ) (f : Data → Read A) (d value : Data) (a : A) → get name d ≡ Some value → f value ≡ Ok a → field name f d ≡ Ok a
field_ok name f d value a at is = rw (at, is) refl

pub field_or_ok : {A : Type 0} (default : A) (name : List ℕ) (f : Data → Read A) (d value : Data) (a : A) → get name d ≡ Some value → f value ≡ Ok a → field_or default name f d ≡ Ok a
field_or_ok default name f d value a at is = rw (at, is) refl

pub text_back : (text : List ℕ) → IsText text → text_of (string text) ≡ Ok text
text_back text is = rw is refl

pub text_or_empty_back : (text : List ℕ) → IsTextOrEmpty text → text_or_empty_of (string text) ≡ Ok text
text_or_empty_back text is = rw is refl

pub count_back : (most n : ℕ) → 1 ≤ n → n ≤ most → count_of most (number (unsigned n)) ≡ Ok n
count_back most n low high = rw (le-leb 1 n low, le-leb n most high) refl

-- each item reads back as what it is printed from, beside those before it
abbrev pub Reads : {A : Type 0} → (List A → Data → Read A) → (A → Data) → List A → List A → Type 0
Reads f shown before [] = Unit {0}
Reads f shown before (x ∷ xs) = (f before (shown x) ≡ Ok x) × Reads f shown (before ++ x ∷ []) xs

pub all_read : {A : Type 0} (P : A → Type 0) (f : Data → Read A) (shown : A → Data) → ((x : A) → P x → f (shown x) ≡ Ok x) → (before xs : List A) → AllByRecursion P xs → Reads (λ seen. f) shown before xs
all_read P f shown k before [] all = tt
all_read P f shown k before (x ∷ xs) all = (k x all.0, all_read P f shown k (before ++ x ∷ []) xs all.1)

in_order_back : {A : Type 0} (f : List A → Data → Read A) (shown : A → Data) (before : List A) (i : ℕ) (xs : List A) → Reads f shown before xs → in_order f one_more before i (items_of (map shown xs)) ≡ Ok (before ++ xs)
in_order_back f shown before i [] reads = ap Ok (sym (append-nil before))
in_order_back f shown before i (x ∷ xs) reads =
    then_ok (within (decimal i) (f before (shown x))) (λ a. in_order f one_more (one_more before a) (i + 1) (items_of (map shown xs))) x (before ++ x ∷ xs)
    (ap (within (decimal i)) reads.0)
    (in_order_back f shown (before ++ x ∷ []) (i + 1) xs reads.1 ∙ ap Ok (append_assoc before (x ∷ []) xs))

pub counted : {A : Type 0} (shown : A → Data) (xs : List A) → items_count (items_of (map shown xs)) ≡ length xs
counted shown [] = refl
counted shown (x ∷ xs) = omega (arith, counted shown xs)

pub list_back : {A : Type 0} (what : What) (most : ℕ) (f : List A → Data → Read A) (shown : A → Data) (xs : List A) → length xs ≤ most → Reads f shown [] xs → list_of what most f (list_data shown xs) ≡ Ok xs
list_back what most f shown xs few reads = rw (counted shown xs, le-ltb most (length xs) few) (in_order_back f shown [] 0 xs reads)
