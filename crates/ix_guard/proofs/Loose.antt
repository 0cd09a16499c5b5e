-- The least loose name of some, and of some with one more behind them.
use Rattle.std.proofs.Common.{◌≡◌, ◌≢◌, ℕ, zero, suc, Bool, true, false, not, ◌&&◌, cond, List, [], ◌∷◌, ◌++◌, ◌+◌, ◌<◌, length, map, take, get_or, Option, Some, None, Contains, slice_index_or, refl, sym, ap, subst, ◌∙◌, arith}
use Rattle.std.specs.declared.cmp.Ordering.{Ordering}
use Rattle.std.specs.declared.cmp.Ordering.TheVariants.{Less, Equal, Greater}
use Rattle.std.specs.Ordering.{is_lt, is_eq, ordering_reverse}
use Rattle.std.specs.List.{AllByRecursion}
use Rattle.std.proofs.lemmas.Cmp.{nat_list_cmp_total}
use Rattle.std.proofs.lemmas.List.Elements.{Contains-push, Contains-append_left}
use Rattle.std.proofs.lemmas.List.{take_more, map-append}
use Rattle.ix_dir.specs.declared.dir.Listed.{Listed}
use Rattle.ix_types.specs.Row.{text_cmp}
use Rattle.ix_guard.specs.Guarding.{Guarding}
use Rattle.ix_guard.specs.Protection.{is_protected, comes_first, IsLeastLoose, IsFirstLoose}
use Rattle.ix_guard.proofs.Counting.{ties_itself}
use Rattle.ix_guard.proofs.Naming.{all_of}

module _ {X : Type 0} (P : X → Type 0) where
  all_more : (xs : List X) (x : X) → AllByRecursion P xs → P x → AllByRecursion P (xs ++ x ∷ [])
  all_more [] x a p = (p, tt)
  all_more (y ∷ ys) x a p = (a.0, all_more ys x a.1 p)

all_map : {X : Type 0} (P Q : X → Type 0) → ((x : X) → P x → Q x) → (xs : List X) → AllByRecursion P xs → AllByRecursion Q xs
all_map P Q f [] a = tt
all_map P Q f (x ∷ xs) a = (f x a.0, all_map P Q f xs a.1)

differ : {b : Bool} → b ≡ true → b ≡ false → ⊥
differ e f = cc

-- nothing is greater than itself
not_above_itself : (k : List ℕ) → text_cmp k k ≢ Greater
not_above_itself k e = differ (ties_itself k) (ap is_eq e)

-- the lesser of two comes before what the greater comes before
before_both : (name first other : List ℕ) → text_cmp name first ≡ Less → text_cmp first other ≢ Greater → text_cmp name other ≢ Greater
before_both name first other less not_above e =
    not_above (nat_list_cmp_total.antisymm first other ∙ ap ordering_reverse (nat_list_cmp_total.trans other name first (nat_list_cmp_total.antisymm other name ∙ ap ordering_reverse e) less))

is_less : (o : Ordering) → is_lt o ≡ true → o ≡ Less
is_less Less e = refl
is_less Equal e = absurd (cc)
is_less Greater e = absurd (cc)

not_less : (name first : List ℕ) → is_lt (text_cmp name first) ≡ false → text_cmp first name ≢ Greater
not_less name first e above = differ (ap is_lt (nat_list_cmp_total.antisymm name first ∙ ap ordering_reverse above)) e

module _ (g : Guarding) (names : List (List ℕ)) (name : List ℕ) where
  -- the first that is loose
  begin : AllByRecursion (λ other. is_protected g other ≡ true) names → is_protected g name ≡ false → IsLeastLoose g (names ++ name ∷ []) name
  begin all loose = record {
    listed = Contains-push names name;
    loose = loose;
    least = all_more (λ other. is_protected g other ≡ false → text_cmp name other ≢ Greater) names name
        (all_map (λ other. is_protected g other ≡ true) (λ other. is_protected g other ≡ false → text_cmp name other ≢ Greater) (λ other p q. absurd (differ p q)) names all)
        (λ _. not_above_itself name);
  }

  -- one that is loose, and before the first so far
  go_before : (first : List ℕ) → IsLeastLoose g names first → text_cmp name first ≡ Less → is_protected g name ≡ false → IsLeastLoose g (names ++ name ∷ []) name
  go_before first so_far less loose = record {
    listed = Contains-push names name;
    loose = loose;
    least = all_more (λ other. is_protected g other ≡ false → text_cmp name other ≢ Greater) names name
        (all_map (λ other. is_protected g other ≡ false → text_cmp first other ≢ Greater) (λ other. is_protected g other ≡ false → text_cmp name other ≢ Greater) (λ other p q. before_both name first other less (p q)) names so_far.least)
        (λ _. not_above_itself name);
  }

  -- one that is protected, or not before the first so far
  stay : (first : List ℕ) → IsLeastLoose g names first → (is_protected g name ≡ false → text_cmp first name ≢ Greater) → IsLeastLoose g (names ++ name ∷ []) first
  stay first so_far behind = record {
    listed = Contains-append_left names (name ∷ []) first so_far.listed;
    loose = so_far.loose;
    least = all_more (λ other. is_protected g other ≡ false → text_cmp first other ≢ Greater) names name so_far.least behind;
  }

  at_none : (b : Bool) → is_protected g name ≡ b → AllByRecursion (λ other. is_protected g other ≡ true) names → IsFirstLoose g (names ++ name ∷ []) (cond (not b) (Some name) None)
  at_none true e all = all_more (λ other. is_protected g other ≡ true) names name all e
  at_none false e all = begin all e

  at_some : (first : List ℕ) → IsLeastLoose g names first → (a b : Bool) → is_lt (text_cmp name first) ≡ a → is_protected g name ≡ b → IsFirstLoose g (names ++ name ∷ []) (cond (a && not b) (Some name) (Some first))
  at_some first so_far true true e f = stay first so_far (λ q. absurd (differ f q))
  at_some first so_far true false e f = go_before first so_far (is_less (text_cmp name first) e) f
  at_some first so_far false b e f = stay first so_far (λ _. not_less name first e)

  pub first_of_more : (first : Option (List ℕ)) → IsFirstLoose g names first → IsFirstLoose g (names ++ name ∷ []) (cond (comes_first g name first) (Some name) first)
  first_of_more None all = at_none (is_protected g name) refl all
  first_of_more (Some first) so_far = at_some first so_far (is_lt (text_cmp name first)) (is_protected g name) refl refl

-- one more file of a listing
pub loose_step : (g : Guarding) (xs : List Listed) (i : ℕ) (x : Listed) → i < length xs → x ≡ get_or xs i x → (first next : Option (List ℕ)) → next ≡ cond (comes_first g x.name first) (Some x.name) first
    → IsFirstLoose g (map (λ listed. listed.name) (take i xs)) first → IsFirstLoose g (map (λ listed. listed.name) (take (i + 1) xs)) next
loose_step g xs i x below is first next chosen so_far =
    let f : Listed → List ℕ = λ listed. listed.name in
    let names : map f (take (i + 1) xs) ≡ map f (take i xs) ++ x.name ∷ [] =
    ap (map f) (take_more xs i x below) ∙ (map-append f (take i xs) (get_or xs i x ∷ []) ∙ ap (λ (y : Listed). map f (take i xs) ++ y.name ∷ []) (sym is)) in
    subst (λ (o : Option (List ℕ)). IsFirstLoose g (map f (take (i + 1) xs)) o) (sym chosen)
    (subst (λ (ns : List (List ℕ)). IsFirstLoose g ns (cond (comes_first g x.name first) (Some x.name) first)) (sym names)
    (first_of_more g (map f (take i xs)) x.name first so_far))

-- ---- the same of each name that is among them

pub all_at : (P : List ℕ → Type 0) (xs : List (List ℕ)) (x : List ℕ) → Contains xs x → AllByRecursion P xs → P x
all_at P xs x c all = at xs c.0 c.1 c.2 all
  where
    at : (xs : List (List ℕ)) (k : ℕ) → k < length xs → slice_index_or xs k x ≡ x → AllByRecursion P xs → P x
    at [] k below is all = absurd (omega arith)
    at (y ∷ ys) zero below is all = subst P is all.0
    at (y ∷ ys) (suc k) below is all = at ys k (omega arith) is all.1

module _ (g : Guarding) (names : List (List ℕ)) where
  pub least_said : (name : List ℕ) → IsFirstLoose g names (Some name)
      → Contains names name × ((is_protected g name ≡ false) × ((other : List ℕ) → Contains names other → is_protected g other ≡ false → text_cmp name other ≢ Greater))
  least_said name l = (l.listed, (l.loose, λ other c. all_at (λ other. is_protected g other ≡ false → text_cmp name other ≢ Greater) names other c l.least))

  pub said_least : (name : List ℕ)
      → Contains names name × ((is_protected g name ≡ false) × ((other : List ℕ) → Contains names other → is_protected g other ≡ false → text_cmp name other ≢ Greater)) → IsFirstLoose g names (Some name)
  said_least name l = record { listed = l.0; loose = l.1.0; least = all_of (λ other. is_protected g other ≡ false → text_cmp name other ≢ Greater) names l.1.1 }

  pub none_said : IsFirstLoose g names None → (name : List ℕ) → Contains names name → is_protected g name ≡ true
  none_said all name c = all_at (λ other. is_protected g other ≡ true) names name c all

  pub said_none : ((name : List ℕ) → Contains names name → is_protected g name ≡ true) → IsFirstLoose g names None
  said_none h = all_of (λ other. is_protected g other ≡ true) names h
