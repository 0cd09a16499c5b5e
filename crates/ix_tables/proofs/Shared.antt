-- Maps whose values are shared, seen as maps of the values themselves.
use Rattle.std.proofs.Common.{◌≡◌, ℕ, Bool, true, false, cond, List, [], ◌∷◌, map, Option, Some, refl, ap, ◌∙◌}
use Rattle.std.specs.declared.cmp.Ordering.{Ordering}
use Rattle.std.specs.declared.cmp.Ordering.TheVariants.{Less, Equal, Greater}
use Rattle.std.specs.declared.sync.Arc.{Arc}
use Rattle.std.specs.declared.alloc.Global.{Global}
use Rattle.std.specs.Ordering.{match_ordering, is_eq}
use Rattle.std.specs.List.{AllByRecursion}
use Rattle.std.specs.Option.{option_map}
use Rattle.ix_types.specs.Row.{text_cmp}
use Rattle.ix_pages.specs.Pairs.{IsRising, look_up, with_pair, without_key}
use Rattle.ix_pages.specs.Paging.{pairs_of, pages_with, pages_without}
use Rattle.ix_tables.specs.Sharing.{shared_value, shared_entry, opened}

module _ {T : Type 0} where
  map-match : (o : Ordering) (a b c : List (List ℕ × Arc T Global)) → map shared_entry (match_ordering o a b c) ≡ match_ordering o (map shared_entry a) (map shared_entry b) (map shared_entry c)
  map-match Less a b c = refl
  map-match Equal a b c = refl
  map-match Greater a b c = refl

  map-cond : (t : Bool) (a b : List (List ℕ × Arc T Global)) → map shared_entry (cond t a b) ≡ cond t (map shared_entry a) (map shared_entry b)
  map-cond true a b = refl
  map-cond false a b = refl

  with-shared : (es : List (List ℕ × Arc T Global)) (name : List ℕ) (value : Arc T Global) → map shared_entry (with_pair text_cmp es (name, value)) ≡ with_pair text_cmp (map shared_entry es) (name, shared_value value)
  with-shared [] name value = refl
  with-shared (e ∷ es) name value =
      map-match (text_cmp name e.0) ((name, value) ∷ e ∷ es) ((name, value) ∷ es) (e ∷ with_pair text_cmp es (name, value))
      ∙ ap (λ (rest : List (List ℕ × T)). match_ordering (text_cmp name e.0) ((name, shared_value value) ∷ shared_entry e ∷ map shared_entry es) ((name, shared_value value) ∷ map shared_entry es) (shared_entry e ∷ rest)) (with-shared es name value)

  without-shared : (es : List (List ℕ × Arc T Global)) (name : List ℕ) → map shared_entry (without_key text_cmp es name) ≡ without_key text_cmp (map shared_entry es) name
  without-shared [] name = refl
  without-shared (e ∷ es) name =
      map-cond (is_eq (text_cmp name e.0)) es (e ∷ without_key text_cmp es name)
      ∙ ap (λ (rest : List (List ℕ × T)). cond (is_eq (text_cmp name e.0)) (map shared_entry es) (shared_entry e ∷ rest)) (without-shared es name)

  option-cond : (t : Bool) (v : Arc T Global) (o : Option (Arc T Global)) → option_map shared_value (cond t (Some v) o) ≡ cond t (Some (shared_value v)) (option_map shared_value o)
  option-cond true v o = refl
  option-cond false v o = refl

  pub found-shared : (es : List (List ℕ × Arc T Global)) (name : List ℕ) → option_map shared_value (look_up text_cmp es name) ≡ look_up text_cmp (map shared_entry es) name
  found-shared [] name = refl
  found-shared (e ∷ es) name =
      option-cond (is_eq (text_cmp name e.0)) e.1 (look_up text_cmp es name)
      ∙ ap (λ (o : Option T). cond (is_eq (text_cmp name e.0)) (Some (shared_value e.1)) o) (found-shared es name)

  all-shared : (k : List ℕ) (es : List (List ℕ × Arc T Global)) → AllByRecursion (λ later. text_cmp k later.0 ≡ Less) es → AllByRecursion (λ later. text_cmp k later.0 ≡ Less) (map shared_entry es)
  all-shared k [] a = tt
  all-shared k (e ∷ es) a = (a.0, all-shared k es a.1)

  pub rising-shared : (es : List (List ℕ × Arc T Global)) → IsRising text_cmp es → IsRising text_cmp (map shared_entry es)
  rising-shared [] rises = tt
  rising-shared (e ∷ es) rises = (all-shared e.0 es rises.0, rising-shared es rises.1)

  pub with-opened : (before after : List (List (List ℕ × Arc T Global))) (name : List ℕ) (value : Arc T Global) → pairs_of (pages_with text_cmp 64 before (name, value)) ≡ with_pair text_cmp (pairs_of before) (name, value)
      → after ≡ pages_with text_cmp 64 before (name, value) → opened after ≡ with_pair text_cmp (opened before) (name, shared_value value)
  with-opened before after name value law is = ap opened is ∙ (ap (map shared_entry) law ∙ with-shared (pairs_of before) name value)

  pub without-opened : (before after : List (List (List ℕ × Arc T Global))) (name : List ℕ) → pairs_of (pages_without text_cmp before name) ≡ without_key text_cmp (pairs_of before) name
      → after ≡ pages_without text_cmp before name → opened after ≡ without_key text_cmp (opened before) name
  without-opened before after name law is = ap opened is ∙ (ap (map shared_entry) law ∙ without-shared (pairs_of before) name)
