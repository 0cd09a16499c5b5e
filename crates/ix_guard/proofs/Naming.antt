-- The names of a need list: which it has, that they rise, and that they are those that the units need.
use Rattle.std.proofs.Common.{◌≡◌, ℕ, zero, suc, ◌<◌, Bool, true, false, cond, ◌||◌, List, [], ◌∷◌, length, Option, Some, Contains, slice_index_or, refl, sym, ap, subst, ◌∙◌, arith}
use Rattle.std.specs.declared.cmp.Ordering.TheVariants.{Less}
use Rattle.std.specs.Ordering.{is_eq}
use Rattle.std.specs.List.{AllByRecursion}
use Rattle.std.specs.List.Sorted.{IsStrictlySortedBy}
use Rattle.std.specs.Option.{is_some}
use Rattle.std.specs.Str.{bytes_eq}
use Rattle.std.proofs.lemmas.Map.Text.{is_eq-slice_cmp}
use Rattle.std.proofs.lemmas.Slice.Eq.{bytes_eq-Decides}
use Rattle.ix_types.specs.Row.{text_cmp}
use Rattle.ix_pages.specs.Pairs.{IsRising, look_up}
use Rattle.ix_machine.specs.Needs.{has_name}
use Rattle.ix_guard.specs.Counts.{Counts, count_at, or_none, names_of, times}
use Rattle.ix_guard.proofs.Counting.{once, never, times-append}

pub eq_turned : (xs ys : List ℕ) → bytes_eq xs ys ≡ bytes_eq ys xs
eq_turned xs ys = go (bytes_eq xs ys) (bytes_eq ys xs) refl refl
  where
    go : (a b : Bool) → bytes_eq xs ys ≡ a → bytes_eq ys xs ≡ b → a ≡ b
    go true true e f = refl
    go true false e f = sym ((bytes_eq-Decides ys xs).1 (sym ((bytes_eq-Decides xs ys).0 e))) ∙ f
    go false true e f = sym e ∙ (bytes_eq-Decides xs ys).1 (sym ((bytes_eq-Decides ys xs).0 f))
    go false false e f = refl

-- a look-up finds a value exactly where the list has the name
pub is_found : (es : Counts) (name : List ℕ) → is_some (look_up text_cmp es name) ≡ has_name name (names_of es)
is_found [] name = refl
is_found (e ∷ es) name =
    step (is_eq (text_cmp name e.0)) (is_found es name)
    ∙ ap (λ b. b || has_name name (names_of es)) (is_eq-slice_cmp name e.0 ∙ eq_turned name e.0)
  where
    step : (b : Bool) → is_some (look_up text_cmp es name) ≡ has_name name (names_of es) → is_some (cond b (Some e.1) (look_up text_cmp es name)) ≡ (b || has_name name (names_of es))
    step true rest = refl
    step false rest = rest

all_keys : (k : List ℕ) (es : Counts) → AllByRecursion (λ later. text_cmp k later.0 ≡ Less) es → AllByRecursion (λ y. text_cmp k y ≡ Less) (names_of es)
all_keys k [] a = tt
all_keys k (e ∷ es) a = (a.0, all_keys k es a.1)

pub names_rise : (es : Counts) → IsRising text_cmp es → IsStrictlySortedBy text_cmp (names_of es)
unfolding IsStrictlySortedBy
names_rise [] rises = tt
names_rise (e ∷ es) rises = (all_keys e.0 es rises.0, names_rise es rises.1)

-- ---- a name is among some exactly where it stands there at least once

pub later_one : {X : Type 0} (y : X) (ys : List X) (x : X) → Contains ys x → Contains (y ∷ ys) x
later_one y ys x c = (suc c.0, omega (arith, c.1), c.2)

-- what holds of each element
pub all_of : {X : Type 0} (P : X → Type 0) (xs : List X) → ((x : X) → Contains xs x → P x) → AllByRecursion P xs
all_of P [] h = tt
all_of P (x ∷ xs) h = (h x (zero, omega arith, refl), all_of P xs (λ y c. h y (later_one x xs y c)))

pub there_once : (name : List ℕ) (names : List (List ℕ)) → 0 < times name names → Contains names name
there_once name [] some = absurd (omega arith)
there_once name (x ∷ xs) some = go (bytes_eq x name) refl (there_once name xs)
  where
    go : (b : Bool) → bytes_eq x name ≡ b → (0 < times name xs → Contains xs name) → Contains (x ∷ xs) name
    go true e rest = (zero, omega arith, (bytes_eq-Decides x name).0 e)
    go false e rest = later_one x xs name (rest (let h = times-append name (x ∷ []) xs in let n = never x name e in omega (arith, h, n)))

first_once : (x name : List ℕ) → x ≡ name → times name (x ∷ []) ≡ 1
first_once x name e = subst (λ (z : List ℕ). times z (x ∷ []) ≡ 1) e (once x)

once_at : (name : List ℕ) (xs : List (List ℕ)) (k : ℕ) → k < length xs → slice_index_or xs k name ≡ name → 0 < times name xs
once_at name [] k below is = absurd (omega arith)
once_at name (x ∷ xs) zero below is = let h = times-append name (x ∷ []) xs in let n = first_once x name is in omega (arith, h, n)
once_at name (x ∷ xs) (suc k) below is = let h = times-append name (x ∷ []) xs in let r = once_at name xs k (omega arith) is in omega (arith, h, r)

pub once_there : (name : List ℕ) (names : List (List ℕ)) → Contains names name → 0 < times name names
once_there name names c = once_at name names c.0 c.1 c.2

-- ---- a name of a need list has a count, and the other way round

pub counted : (es : Counts) (name : List ℕ) → AllByRecursion (λ pair. 0 < pair.1) es → Contains (names_of es) name → 0 < count_at es name
counted es name needed c = at es c.0 c.1 c.2 needed
  where
    found : (b : Bool) (n : ℕ) (o : Option ℕ) → 0 < n → (b ≡ false → 0 < or_none o) → 0 < or_none (cond b (Some n) o)
    found true n o some rest = some
    found false n o some rest = rest refl

    same : (x : List ℕ) → x ≡ name → is_eq (text_cmp name x) ≡ true
    same x e = is_eq-slice_cmp name x ∙ (bytes_eq-Decides name x).1 (sym e)

    differ : (b : Bool) → b ≡ true → b ≡ false → ⊥
    differ b e f = cc

    at : (es : Counts) (k : ℕ) → k < length (names_of es) → slice_index_or (names_of es) k name ≡ name → AllByRecursion (λ pair. 0 < pair.1) es → 0 < count_at es name
    at [] k below is needed = absurd (omega arith)
    at (e ∷ es) zero below is needed = found (is_eq (text_cmp name e.0)) e.1 (look_up text_cmp es name) needed.0 (λ f. absurd (differ (is_eq (text_cmp name e.0)) (same e.0 is) f))
    at (e ∷ es) (suc k) below is needed = found (is_eq (text_cmp name e.0)) e.1 (look_up text_cmp es name) needed.0 (λ _. at es k (omega arith) is needed.1)

pub among : (es : Counts) (name : List ℕ) → 0 < count_at es name → Contains (names_of es) name
among [] name some = absurd (omega arith)
among (e ∷ es) name some = go (is_eq (text_cmp name e.0)) refl (among es name)
  where
    go : (b : Bool) → is_eq (text_cmp name e.0) ≡ b → (0 < count_at es name → Contains (names_of es) name) → Contains (e.0 ∷ names_of es) name
    go true f rest = (zero, omega arith, sym ((bytes_eq-Decides name e.0).0 (sym (is_eq-slice_cmp name e.0) ∙ f)))
    go false f rest = later_one e.0 (names_of es) name (rest (subst (λ b. 0 < or_none (cond b (Some e.1) (look_up text_cmp es name))) f some))

-- ---- the test for a name finds it exactly where it is

false≢true : false ≡ true → ⊥
false≢true e = cc

pub has_there : (name : List ℕ) (names : List (List ℕ)) → has_name name names ≡ true → Contains names name
has_there name [] e = absurd (false≢true e)
has_there name (x ∷ xs) e = go (bytes_eq x name) refl e (has_there name xs)
  where
    go : (b : Bool) → bytes_eq x name ≡ b → (b || has_name name xs) ≡ true → (has_name name xs ≡ true → Contains xs name) → Contains (x ∷ xs) name
    go true f e rest = (zero, omega arith, (bytes_eq-Decides x name).0 f)
    go false f e rest = later_one x xs name (rest e)

pub or_left : {a : Bool} (b : Bool) → a ≡ true → (a || b) ≡ true
or_left b e = ap (λ z. z || b) e

pub or_right : (a : Bool) {b : Bool} → b ≡ true → (a || b) ≡ true
or_right true e = refl
or_right false e = e

there_at : (name : List ℕ) (xs : List (List ℕ)) (k : ℕ) → k < length xs → slice_index_or xs k name ≡ name → has_name name xs ≡ true
there_at name [] k below is = absurd (omega arith)
there_at name (x ∷ xs) zero below is = or_left (has_name name xs) ((bytes_eq-Decides x name).1 is)
there_at name (x ∷ xs) (suc k) below is = or_right (bytes_eq x name) (there_at name xs k (omega arith) is)

pub there_has : (name : List ℕ) (names : List (List ℕ)) → Contains names name → has_name name names ≡ true
there_has name names c = there_at name names c.0 c.1 c.2
