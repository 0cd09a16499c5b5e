-- The first name that wasn't taken, and an import that has taken all.
use Rattle.std.proofs.Common.{◌≡◌, ◌≢◌, ℕ, zero, suc, ◌<◌, true, false, Bool, not, List, [], ◌∷◌, length, get_or, Option, Some, None, Contains, if◌then◌else◌, refl, sym, ap, subst, ◌∙◌, arith}
use Rattle.std.specs.List.{AllByRecursion}
use Rattle.std.specs.List.Sorted.{IsStrictlySortedBy}
use Rattle.std.specs.Option.{is_some}
use Rattle.std.specs.declared.cmp.Ordering.TheVariants.{Less}
use Rattle.std.proofs.lemmas.Cmp.{nat_list_cmp_total, tied_itself}
use Rattle.ix_types.specs.Row.{text_cmp}
use Rattle.ix_model.specs.Units.{Units}
use Rattle.ix_pages.specs.Pairs.{look_up}
use Rattle.ix_outline.specs.declared.outline.Outline.{Outline}
use Rattle.ix_outline.specs.Outline.{outline_of}
use Rattle.ix_outline.specs.Moving.{Named}
use Rattle.ix_outline.specs.Following.{Follows}
use Rattle.ix_import.specs.Importing.{Opened, next_in}
use Rattle.ix_import.specs.Leading.{IsImportOf, AreOutlinesOf}
use Rattle.ix_import.proofs.Listed.{listed_of_record}

absent : (o : Option Outline) → not (is_some o) ≡ true → o ≡ None
absent None e = refl
absent (Some x) e = absurd (cc)

present : (o : Option Outline) → not (is_some o) ≡ false → o ≢ None
present None e = absurd (cc)
present (Some x) e = λ none. absurd (cc)

module _ (taken : Named Outline) where
  pub next_there : (fresh : List (List ℕ)) (name : List ℕ) → next_in fresh taken ≡ Some name → Contains fresh name × (look_up text_cmp taken name ≡ None)
  next_there [] name e = absurd (cc)
  next_there (f ∷ fs) name e = cases (next_there fs name) (not (is_some (look_up text_cmp taken f))) refl e
    where
      cases : (next_in fs taken ≡ Some name → Contains fs name × (look_up text_cmp taken name ≡ None)) → (b : Bool) → not (is_some (look_up text_cmp taken f)) ≡ b
          → (if b then Some f else next_in fs taken) ≡ Some name → Contains (f ∷ fs) name × (look_up text_cmp taken name ≡ None)
      cases rest true lacking e =
          let is : f ≡ name = cc in
          ((0, omega arith, is), subst (λ n. look_up text_cmp taken n ≡ None) is (absent (look_up text_cmp taken f) lacking))
      cases rest false has e = let there = rest e in ((suc there.0.0, omega (arith, there.0.1), there.0.2), there.1)

  pub next_none : (fresh : List (List ℕ)) (i : ℕ) (name : List ℕ) → next_in fresh taken ≡ None → i < length fresh → get_or fresh i name ≡ name → look_up text_cmp taken name ≢ None
  next_none [] i name e within at = absurd (omega arith)
  next_none (f ∷ fs) i name e within at = cases (λ e j within at. next_none fs j name e within at) (not (is_some (look_up text_cmp taken f))) refl e i within at
    where
      cases : (next_in fs taken ≡ None → (j : ℕ) → j < length fs → get_or fs j name ≡ name → look_up text_cmp taken name ≢ None) → (b : Bool) → not (is_some (look_up text_cmp taken f)) ≡ b → (if b then Some f else next_in fs taken) ≡ None → (i : ℕ) → i < length (f ∷ fs) → get_or (f ∷ fs) i name ≡ name → look_up text_cmp taken name ≢ None
      cases rest true lacking e i within at = absurd (cc)
      cases rest false has e zero within at = subst (λ n. look_up text_cmp taken n ≢ None) at (present (look_up text_cmp taken f) has)
      cases rest false has e (suc i) within at = rest e i (omega arith) at

  behind : (fs : List (List ℕ)) (f : List ℕ) → AllByRecursion (λ later. text_cmp f later ≡ Less) fs → (i : ℕ) (d : List ℕ) → i < length fs → text_cmp f (get_or fs i d) ≡ Less
  behind [] f all i d within = absurd (omega arith)
  behind (g ∷ fs) f all zero d within = all.0
  behind (g ∷ fs) f all (suc i) d within = behind fs f all.1 i d (omega arith)

  itself : (f : List ℕ) → text_cmp f f ≡ Less → ⊥
  itself f less = let tied = tied_itself nat_list_cmp_total f in absurd (cc)

  pub next_least : (fresh : List (List ℕ)) (name other : List ℕ) (i : ℕ) → IsStrictlySortedBy text_cmp fresh → next_in fresh taken ≡ Some name
      → i < length fresh → get_or fresh i other ≡ other → text_cmp other name ≡ Less → look_up text_cmp taken other ≢ None
  unfolding IsStrictlySortedBy
  next_least [] name other i rise e within at less = absurd (omega arith)
  next_least (f ∷ fs) name other i rise e within at less = cases (λ e j within at. next_least fs name other j rise.1 e within at less) (not (is_some (look_up text_cmp taken f))) refl e i within at
    where
      cases : (next_in fs taken ≡ Some name → (j : ℕ) → j < length fs → get_or fs j other ≡ other → look_up text_cmp taken other ≢ None)
          → (b : Bool) → not (is_some (look_up text_cmp taken f)) ≡ b → (if b then Some f else next_in fs taken) ≡ Some name
          → (i : ℕ) → i < length (f ∷ fs) → get_or (f ∷ fs) i other ≡ other → look_up text_cmp taken other ≢ None
      cases rest true lacking e zero within at =
          let is : f ≡ name = cc in
          let below : text_cmp f f ≡ Less = ap (λ n. text_cmp n f) at ∙ ap (text_cmp other) is ∙ less in
          absurd (itself f below)
      cases rest true lacking e (suc i) within at =
          let is : f ≡ name = cc in
          let above : text_cmp f other ≡ Less = sym (ap (text_cmp f) at) ∙ behind fs f rise.0 i other (omega arith) in
          absurd (itself f (nat_list_cmp_total.trans f other f above (ap (text_cmp other) is ∙ less)))
      cases rest false has e zero within at = subst (λ n. look_up text_cmp taken n ≢ None) at (present (look_up text_cmp taken f) has)
      cases rest false has e (suc i) within at = rest e i (omega arith) at

found : (o : Option Outline) (outline : Outline) → o ≢ None → ((x : Outline) → o ≡ Some x → x ≡ outline) → o ≡ Some outline
found None outline some each = absurd (some refl)
found (Some x) outline some each = ap (λ y. Some y) (each x refl)

pub leads_on : (units later : Units) (opened : Opened) → IsImportOf units later opened → AreOutlinesOf later opened → next_in opened.fresh opened.taken ≡ None
    → Follows opened.puts opened.gone opened.taken units later
leads_on units later opened import are none = record {
  leads = import.leads;
  rises = import.rises;
  whole = import.whole;
  one = import.one;
  at_hand = λ dep value is new.
      let there : Contains opened.fresh dep.name = (import.fresh dep.name).1 (listed_of_record later dep value is, new) in
      found (look_up text_cmp opened.taken dep.name) (outline_of value) (next_none opened.taken opened.fresh there.0 dep.name none there.1 there.2)
      (λ x is_x. are.each dep value x is is_x);
}
