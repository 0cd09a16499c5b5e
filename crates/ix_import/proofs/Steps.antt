-- What taking a record does to an importer.
use Rattle.std.proofs.Common.{◌≡◌, ◌≢◌, ℕ, List, Option, Some, None, OnOk, OnErr, refl, sym, ap, subst, ◌∙◌}
use Rattle.std.specs.Ordering.{is_eq}
use Rattle.std.specs.declared.result.Result.{Result}
use Rattle.std.specs.declared.result.Result.TheVariants.{Ok, Err}
use Rattle.std.proofs.lemmas.Cmp.{nat_list_cmp_total, tied_itself}
use Rattle.ix_types.specs.Row.{text_cmp}
use Rattle.ix_pages.specs.Pairs.{look_up, with_pair}
use Rattle.ix_outline.specs.declared.outline.Outline.{Outline}
use Rattle.ix_outline.proofs.Door.{tied}
use Rattle.ix_import.specs.Importing.{Opened, Importing, next_under, next_of, taken_into, taken_under, took}
use Rattle.ix_import.proofs.Nexts.{next_there}
use Rattle.ix_import.proofs.Taken.{Puts}

pub on_done : {X E : Type 0} (r : Result X E) (P Q : Type 0) → (P → Q) → OnOk r P → OnOk r Q
on_done (Ok x) P Q f h = f h
on_done (Err e) P Q f h = h

pub either : {X E : Type 0} (r : Result X E) (A B P : Type 0) → (A → P) → (B → P) → OnOk r A → OnErr r B → P
either (Ok x) A B P f g ok err = f ok
either (Err e) A B P f g ok err = g err

module _ (puts : Puts) where
  pub taken_there : (name : List ℕ) (outline : Outline) (opened : Opened) → look_up text_cmp (taken_into name outline opened).taken name ≡ Some outline
  taken_there name outline opened = puts.put opened.taken (name, outline) name (tied_itself nat_list_cmp_total name)

  pub others_stay : (name other : List ℕ) (outline : Outline) (opened : Opened) → other ≢ name → look_up text_cmp (taken_into name outline opened).taken other ≡ look_up text_cmp opened.taken other
  others_stay name other outline opened apart = puts.not_put opened.taken (name, outline) other (λ e. apart (tied other name (ap is_eq e)))

  module _ (name : List ℕ) (outline : Outline) where
    taken_in : (import : Option Opened) → next_under import ≡ Some name → (opened : Opened) × (taken_under name outline import ≡ Some opened) × (look_up text_cmp opened.taken name ≡ Some outline)
    taken_in None e = absurd (cc)
    taken_in (Some opened) e = (taken_into name outline opened, refl, taken_there name outline opened)

    past_in : (import : Option Opened) → next_under (taken_under name outline import) ≢ Some name
    past_in None = λ e. absurd (cc)
    past_in (Some opened) = λ e.
        let there = next_there (with_pair text_cmp opened.taken (name, outline)) opened.fresh name e in
        let none : look_up text_cmp (with_pair text_cmp opened.taken (name, outline)) name ≡ None = there.1 in
        let some : look_up text_cmp (with_pair text_cmp opened.taken (name, outline)) name ≡ Some outline = taken_there name outline opened in
        absurd (cc)

    pub taken_after : (old new : Importing) → next_of old ≡ Some name → new ≡ took name outline old → (opened : Opened) × (new.import ≡ Some opened) × (look_up text_cmp opened.taken name ≡ Some outline)
    taken_after old new next is =
        let there = taken_in old.import next in
        (there.0, ap (λ (i : Importing). i.import) is ∙ there.1, there.2)

    pub past_after : (old new : Importing) → new ≡ took name outline old → next_of new ≢ Some name
    past_after old new is = subst (λ (i : Importing). next_of i ≢ Some name) (sym is) (past_in old.import)
