-- How many of the new names were taken, and which comes next.
use Rattle.std.proofs.Common.{◌≡◌, ◌≢◌, ℕ, zero, suc, Bool, true, false, not, cond, List, [], ◌∷◌, take, drop, Option, Some, None, refl, sym, ap, ◌∙◌, subst}
use Rattle.std.specs.List.{AllByRecursion, slice_get}
use Rattle.std.specs.List.Sorted.{IsStrictlySortedBy}
use Rattle.std.specs.Option.{is_some}
use Rattle.std.specs.Str.{bytes_eq}
use Rattle.std.specs.declared.cmp.Ordering.TheVariants.{Less}
use Rattle.std.proofs.lemmas.Cmp.{nat_list_cmp_total, tied_itself}
use Rattle.std.proofs.lemmas.Slice.Eq.{bytes_eq-Decides}
use Rattle.ix_types.specs.Row.{text_cmp}
use Rattle.ix_pages.specs.Pairs.{look_up}
use Rattle.ix_outline.specs.Moving.{Named}
use Rattle.ix_outline.specs.declared.outline.Outline.{Outline}
use Rattle.ix_import.specs.Importing.{Opened, next_in, taken_into, AreTaken}
use Rattle.ix_polls.specs.Following.{HasTaken}
use Rattle.ix_polls.specs.Given.{Takings}

abbrev AreNew : Named Outline → List (List ℕ) → Type 0
AreNew taken names = AllByRecursion (λ name. look_up text_cmp taken name ≡ None) names

none_taken : (names : List (List ℕ)) → AreNew [] names
none_taken [] = tt
none_taken (n ∷ ns) = (refl, none_taken ns)

pub at_first : (opened : Opened) → opened.taken ≡ [] → HasTaken 0 opened
at_first opened is = record { front = tt; rest = subst (λ (t : Named Outline). AreNew t opened.fresh) (sym is) (none_taken opened.fresh) }

module _ (taken : Named Outline) where
  next_at : (fresh : List (List ℕ)) (k : ℕ) → AreTaken taken (take k fresh) → AreNew taken (drop k fresh) → next_in fresh taken ≡ slice_get fresh k
  next_at [] zero front rest = refl
  next_at [] (suc k) front rest = refl
  next_at (n ∷ ns) zero front rest = ap (λ (o : Option Outline). cond (not (is_some o)) (Some n) (next_in ns taken)) rest.0
  next_at (n ∷ ns) (suc k) front rest = ap (λ (b : Bool). cond (not b) (Some n) (next_in ns taken)) front.0 ∙ next_at ns k front.1 rest

pub next_is : (records : ℕ) (opened : Opened) → HasTaken records opened → next_in opened.fresh opened.taken ≡ slice_get opened.fresh records
next_is records opened has = next_at opened.taken opened.fresh records has.front has.rest

module _ (laws : Takings) (opened : Opened) (name : List ℕ) (outline : Outline) where
  abbrev now : Named Outline
  now = (taken_into name outline opened).taken

  still : (key : List ℕ) → is_some (look_up text_cmp opened.taken key) ≡ true → is_some (look_up text_cmp now key) ≡ true
  still key is =
      (elim (bytes_eq key name) as (λ b. bytes_eq key name ≡ b → is_some (look_up text_cmp now key) ≡ true) [
        | true ↦ λ e. ap is_some (subst (λ (k : List ℕ). look_up text_cmp now k ≡ Some outline) (sym ((bytes_eq-Decides key name).0 e)) (laws.there name outline opened))
        | false ↦ λ e. ap is_some (laws.others name key outline opened (λ q. absurd (apart e ((bytes_eq-Decides key name).1 q)))) ∙ is
      ]) refl
    where
      apart : {b : Bool} → b ≡ false → b ≡ true → ⊥
      apart e f = cc

  still_all : (names : List (List ℕ)) → AreTaken opened.taken names → AreTaken now names
  still_all [] all = tt
  still_all (n ∷ ns) all = (still n all.0, still_all ns all.1)

  itself : (f : List ℕ) → text_cmp f f ≡ Less → ⊥
  itself f less = let tied = tied_itself nat_list_cmp_total f in absurd (cc)

  -- the names behind the one that is taken are new still
  new_still : (ns : List (List ℕ)) → AllByRecursion (λ later. text_cmp name later ≡ Less) ns → AreNew opened.taken ns → AreNew now ns
  new_still [] above all = tt
  new_still (n ∷ ns) above all =
      (laws.others name n outline opened (λ e. itself name (subst (λ (m : List ℕ). text_cmp name m ≡ Less) e above.0)) ∙ all.0, new_still ns above.1 all.1)

  one_more : (fresh : List (List ℕ)) (k : ℕ) → IsStrictlySortedBy text_cmp fresh → slice_get fresh k ≡ Some name → AreTaken opened.taken (take k fresh) → AreNew opened.taken (drop k fresh)
      → AreTaken now (take (suc k) fresh) × AreNew now (drop (suc k) fresh)
  unfolding IsStrictlySortedBy
  one_more [] zero rising e front rest = absurd (cc)
  one_more [] (suc k) rising e front rest = absurd (cc)
  one_more (n ∷ ns) zero rising e front rest =
      let is : n ≡ name = cc in (
        (ap is_some (subst (λ (m : List ℕ). look_up text_cmp now m ≡ Some outline) (sym is) (laws.there name outline opened)), tt),
        new_still ns (subst (λ (m : List ℕ). AllByRecursion (λ later. text_cmp m later ≡ Less) ns) is rising.0) rest.1,
      )
  one_more (n ∷ ns) (suc k) rising e front rest =
      let r = one_more ns k rising.1 e front.1 rest in
      ((still n front.0, r.0), r.1)

  pub taken_on : (records : ℕ) → IsStrictlySortedBy text_cmp opened.fresh → next_in opened.fresh opened.taken ≡ Some name → HasTaken records opened → HasTaken (suc records) (taken_into name outline opened)
  taken_on records rising next has =
      let r = one_more opened.fresh records rising (sym (next_is records opened has) ∙ next) has.front has.rest in
      record { front = r.0; rest = r.1 }
