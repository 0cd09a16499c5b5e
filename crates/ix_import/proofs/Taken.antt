-- The first name that wasn't taken, behind those that were; and what taking a record leaves as it was.
use Rattle.std.proofs.Common.{Bor, ◌≡◌, ◌≢◌, ℕ, zero, suc, ◌+◌, Bool, true, false, not, cond, List, [], ◌∷◌, ◌++◌, take, Option, Some, None, refl, sym, ap, ◌∙◌, subst, arith}
use Rattle.std.specs.List.{AllByRecursion, slice_get}
use Rattle.std.specs.Option.{is_some, option_map, option_copied}
use Rattle.std.specs.declared.cmp.Ordering.{Ordering}
use Rattle.std.specs.declared.cmp.Ordering.TheVariants.{Less, Equal, Greater}
use Rattle.ix_types.specs.Row.{text_cmp}
use Rattle.ix_pages.specs.Pairs.{look_up, with_pair}
use Rattle.ix_outline.specs.Moving.{Named}
use Rattle.ix_outline.specs.declared.outline.Outline.{Outline}
use Rattle.ix_import.specs.Importing.{next_in, AreTaken}

module _ (taken : Named Outline) where
  pub next_at : (fresh : List (List ℕ)) (k : ℕ) → AreTaken taken (take k fresh) → ((name : List ℕ) → slice_get fresh k ≡ Some name → is_some (look_up text_cmp taken name) ≡ false) → slice_get fresh k ≡ next_in fresh taken
  next_at [] k all none = refl
  next_at (name ∷ names) zero all none = sym (ap (λ (b : Bool). cond (not b) (Some name) (next_in names taken)) (none name refl))
  next_at (name ∷ names) (suc k) all none =
      next_at names k all.1 none ∙ sym (ap (λ (b : Bool). cond (not b) (Some name) (next_in names taken)) all.0)

  one_more : (front : List (List ℕ)) (name : List ℕ) → AreTaken taken front → is_some (look_up text_cmp taken name) ≡ true → AreTaken taken (front ++ name ∷ [])
  one_more [] name all is = (is, record {})
  one_more (n ∷ ns) name all is = (all.0, one_more ns name all.1 is)

  pub more_taken : (fresh : List (List ℕ)) (k : ℕ) (name : List ℕ) → take (k + 1) fresh ≡ take k fresh ++ name ∷ [] → AreTaken taken (take k fresh) → is_some (look_up text_cmp taken name) ≡ true → AreTaken taken (take (k + 1) fresh)
  more_taken fresh k name e all is = subst (λ (ns : List (List ℕ)). AreTaken taken ns) (sym e) (one_more (take k fresh) name all is)

-- a put under one name, as far as it is needed here
pub record Puts : Type 0 where
  pub put : (pairs : Named Outline) (new : List ℕ × Outline) (key : List ℕ) → text_cmp key new.0 ≡ Equal → look_up text_cmp (with_pair text_cmp pairs new) key ≡ Some new.1
  pub not_put : (pairs : Named Outline) (new : List ℕ × Outline) (key : List ℕ) → text_cmp key new.0 ≢ Equal → look_up text_cmp (with_pair text_cmp pairs new) key ≡ look_up text_cmp pairs key

still : Puts → (taken : Named Outline) (new : List ℕ × Outline) (key : List ℕ) → is_some (look_up text_cmp taken key) ≡ true → is_some (look_up text_cmp (with_pair text_cmp taken new) key) ≡ true
still puts taken new key is =
    (elim (text_cmp key new.0) as (λ o. text_cmp key new.0 ≡ o → is_some (look_up text_cmp (with_pair text_cmp taken new) key) ≡ true) [
      | Less ↦ λ e. ap is_some (puts.not_put taken new key (λ q. absurd (cc))) ∙ is
      | Equal ↦ λ e. ap is_some (puts.put taken new key e)
      | Greater ↦ λ e. ap is_some (puts.not_put taken new key (λ q. absurd (cc))) ∙ is
    ]) refl

pub still_taken : Puts → (taken : Named Outline) (new : List ℕ × Outline) (names : List (List ℕ)) → AreTaken taken names → AreTaken (with_pair text_cmp taken new) names
still_taken puts taken new [] all = record {}
still_taken puts taken new (n ∷ ns) all = (still puts taken new n all.0, still_taken puts taken new ns all.1)

pub viewed_some : {A B : Type 0} (f : A → B) (o : Option A) (p : Option B) → option_map f o ≡ p → is_some o ≡ is_some p
viewed_some f None p e = ap is_some e
viewed_some f (Some x) p e = ap is_some e

pub copied_some : {T : Type 0} (o : Option (Bor T)) → is_some o ≡ is_some (option_copied o)
copied_some None = refl
copied_some (Some x) = refl
