-- Changes, one after the other: of pairs in two parts, and of pages in one go.
use Rattle.std.proofs.Common.{◌≡◌, ℕ, zero, suc, ◌+◌, ◌<◌, Bool, true, false, not, List, [], ◌∷◌, ◌++◌, length, map, drop, get_or, filter, if◌then◌else◌, refl, sym, ◌∙◌, ap, subst, Option, arith}
use Rattle.std.specs.List.{AllByRecursion}
use Rattle.std.specs.Option.{option_to_list}
use Rattle.std.specs.declared.cmp.Ordering.{Ordering}
use Rattle.std.specs.declared.cmp.Ordering.TheVariants.{Less, Greater}
use Rattle.std.specs.Cmp.{IsTotalOrder}
use Rattle.std.proofs.lemmas.List.{append-nil, append_assoc}
use Rattle.ix_pages.specs.declared.changes.Change.{Change}
use Rattle.ix_pages.specs.declared.changes.Change.TheVariants.{Put, Take}
use Rattle.ix_pages.specs.Pairs.{is_before, IsRising, IsParted, with_pair, without_key}
use Rattle.ix_pages.specs.Paging.{pairs_of}
use Rattle.ix_pages.specs.Changes.{key_of_change, cut_often, changed, AreRising, changes_before, changes_behind, page_changed, pages_changed}
use Rattle.ix_pages.proofs.Elements.{all_append, all_append_left, all_follow}
use Rattle.ix_pages.proofs.Order.{less_back, greater_back}
use Rattle.ix_pages.proofs.Rising.{rising_right, is_before_left, is_before_right, with_pair_right, without_key_right}
use Rattle.ix_pages.proofs.Parts.{with_parted, without_parted}
use Rattle.ix_pages.proofs.Paged.{pairs_of-append}
use Rattle.ix_pages.proofs.Filters.{all_true, all_false, filter_both, filter_middle, filter_last}

pub next_of : {X Y : Type 0} (f : X → Y) (es : List X) (i : ℕ) (d : X) → i < length es → map f (drop i es) ≡ f (get_or es i d) ∷ map f (drop (i + 1) es)
next_of f [] i d within = absurd (omega arith)
next_of f (e ∷ es) zero d within = refl
next_of f (e ∷ es) (suc i) d within =
    let next : suc i + 1 ≡ suc (i + 1) = omega arith in
    next_of f es i d (omega arith) ∙ ap (λ n. f (get_or es i d) ∷ map f (drop n (e ∷ es))) (sym next)

module _ {K V : Type 0} (cmp : K → K → Ordering) where
  -- changes whose keys are greater than those of the first part change the second one
  pub changed_right : (front back : List (K × V)) (changes : List (Change K V)) → AllByRecursion (λ change. AllByRecursion (λ x. cmp (key_of_change change) x.0 ≡ Greater) front) changes → changed cmp (front ++ back) changes ≡ front ++ changed cmp back changes
  changed_right front back [] above = refl
  changed_right front back (Put key value ∷ changes) above =
      ap (λ pairs. changed cmp pairs changes) (with_pair_right cmp (key, value) front back above.0) ∙ changed_right front (with_pair cmp back (key, value)) changes above.1
  changed_right front back (Take key ∷ changes) above =
      ap (λ pairs. changed cmp pairs changes) (without_key_right cmp key front back above.0) ∙ changed_right front (without_key cmp back key) changes above.1

  pub rising_changes_left : (xs ys : List (Change K V)) → AreRising cmp (xs ++ ys) → AreRising cmp xs
  rising_changes_left [] ys rising = tt
  rising_changes_left (x ∷ xs) ys rising = (all_append_left _ xs ys rising.0, rising_changes_left xs ys rising.1)

  pub rising_changes_right : (xs ys : List (Change K V)) → AreRising cmp (xs ++ ys) → AreRising cmp ys
  rising_changes_right [] ys rising = rising
  rising_changes_right (x ∷ xs) ys rising = rising_changes_right xs ys rising.1

  -- the changes behind one of some rising ones
  pub later_above : {X : Type 0} (f : X → Change K V) (es : List X) (i : ℕ) (d : X) → i < length es → AreRising cmp (map f es) → AllByRecursion (λ change. cmp (key_of_change (f (get_or es i d))) (key_of_change change) ≡ Less) (map f (drop (i + 1) es))
  later_above f [] i d within rising = absurd (omega arith)
  later_above f (e ∷ es) zero d within rising = rising.0
  later_above f (e ∷ es) (suc i) d within rising =
      let next : suc i + 1 ≡ suc (i + 1) = omega arith in
      subst (λ n. AllByRecursion (λ change. cmp (key_of_change (f (get_or es i d))) (key_of_change change) ≡ Less) (map f (drop n (e ∷ es)))) (sym next) (later_above f es i d (omega arith) rising.1)

  -- pages into which no change falls stay
  pub none_changed : (most : ℕ) (pages : List (List (K × V))) → pages_changed cmp most pages [] ≡ pages
  none_changed most [] = refl
  none_changed most (page ∷ pages) = ap (λ rest. page ∷ rest) (none_changed most pages)

  pub one_page_changed : (most : ℕ) (page : List (K × V)) (changes : List (Change K V)) → 0 < length changes → pages_changed cmp most (page ∷ []) changes ≡ cut_often most (changed cmp page changes)
  one_page_changed most page [] some = absurd (omega arith)
  one_page_changed most page (c ∷ cs) some =
      ap (λ kept. page_changed cmp most page kept ++ pages_changed cmp most [] (changes_behind cmp [] (c ∷ cs))) (all_true (c ∷ cs))
      ∙ ap (λ kept. page_changed cmp most page (c ∷ cs) ++ pages_changed cmp most [] kept) (all_false (c ∷ cs))
      ∙ append-nil (cut_often most (changed cmp page (c ∷ cs)))

module _ {K V : Type 0} {cmp : K → K → Ordering} (o : IsTotalOrder cmp) where
  -- keys up to one are less than the keys of changes behind it
  above_all : (key : K) (front : List (K × V)) → AllByRecursion (λ x. cmp key x.0 ≡ Greater) front → (changes : List (Change K V)) → AllByRecursion (λ change. cmp key (key_of_change change) ≡ Less) changes → AllByRecursion (λ change. AllByRecursion (λ x. cmp (key_of_change change) x.0 ≡ Greater) front) changes
  above_all key front lesser changes above = all_follow _ _ (λ change up. all_follow _ _ (λ x down. less_back o x.0 (key_of_change change) (o.trans x.0 key (key_of_change change) (greater_back o key x.0 down) up)) front lesser) changes above

  above_put : (new : K × V) (front : List (K × V)) → AllByRecursion (λ x. cmp new.0 x.0 ≡ Greater) front → (changes : List (Change K V)) → AllByRecursion (λ change. cmp new.0 (key_of_change change) ≡ Less) changes → AllByRecursion (λ change. AllByRecursion (λ x. cmp (key_of_change change) x.0 ≡ Greater) (front ++ new ∷ [])) changes
  above_put new front lesser changes above = all_follow _ _ (λ change up. all_append _ front (new ∷ []) (all_follow _ _ (λ x down. less_back o x.0 (key_of_change change) (o.trans x.0 new.0 (key_of_change change) (greater_back o new.0 x.0 down) up)) front lesser) (less_back o new.0 (key_of_change change) up, tt)) changes above

  -- a put, made in parted pairs
  pub put_merged : (new : K × V) (es lesser : List (K × V)) (same : Option (K × V)) (greater : List (K × V)) (changes : List (Change K V)) → IsParted cmp new.0 es lesser same greater → AllByRecursion (λ change. cmp new.0 (key_of_change change) ≡ Less) changes
      → (lesser ++ new ∷ []) ++ changed cmp greater changes ≡ changed cmp es (Put new.0 new.1 ∷ changes)
  put_merged new es lesser same greater changes parted above =
      sym (ap (λ pairs. changed cmp pairs changes) (with_parted cmp new es lesser same greater parted ∙ sym (append_assoc lesser (new ∷ []) greater))
      ∙ changed_right cmp (lesser ++ new ∷ []) greater changes (above_put new lesser parted.are_lesser changes above))

  pub take_merged : (key : K) (es lesser : List (K × V)) (same : Option (K × V)) (greater : List (K × V)) (changes : List (Change K V)) → IsParted cmp key es lesser same greater → AllByRecursion (λ change. cmp key (key_of_change change) ≡ Less) changes
      → lesser ++ changed cmp greater changes ≡ changed cmp es (Take key ∷ changes)
  take_merged key es lesser same greater changes parted above =
      sym (ap (λ pairs. changed cmp pairs changes) (without_parted cmp key es lesser same greater parted)
      ∙ changed_right cmp lesser greater changes (above_all key lesser parted.are_lesser changes above))

  pub greater_rises : (key : K) (es lesser : List (K × V)) (same : Option (K × V)) (greater : List (K × V)) → IsParted cmp key es lesser same greater → IsRising cmp es → IsRising cmp greater
  greater_rises key es lesser same greater parted rising =
      rising_right cmp (option_to_list same) greater (rising_right cmp lesser (option_to_list same ++ greater) (subst (IsRising cmp) parted.all rising))

  -- a key is before two parts where it is before each
  before_both : (key : K) (front back : List (K × V)) → IsRising cmp (front ++ back) → is_before cmp key (front ++ back) ≡ (if is_before cmp key back then is_before cmp key front else false)
  before_both key front back rising = cases (is_before cmp key back) refl
    where
      cases : (b : Bool) → is_before cmp key back ≡ b → is_before cmp key (front ++ back) ≡ (if b then is_before cmp key front else false)
      cases true before = is_before_left cmp key front back before
      cases false behind = is_before_right o key front back rising behind

  -- pages in two parts: each takes the changes that fall into it
  pub changed_in_two : (most : ℕ) (page : List (K × V)) (front back : List (List (K × V))) (changes : List (Change K V)) → IsRising cmp (pairs_of (page ∷ front) ++ pairs_of back)
      → pages_changed cmp most ((page ∷ front) ++ back) changes ≡ pages_changed cmp most (page ∷ front) (changes_before cmp (pairs_of back) changes) ++ pages_changed cmp most back (changes_behind cmp (pairs_of back) changes)
  changed_in_two most page [] back changes rising =
      let own = changes_before cmp (pairs_of back) changes in
      let e : page_changed cmp most page own ≡ pages_changed cmp most (page ∷ []) own =
      sym (ap (λ kept. page_changed cmp most page kept ++ pages_changed cmp most [] (changes_behind cmp [] own)) (all_true own)
      ∙ ap (λ kept. page_changed cmp most page own ++ pages_changed cmp most [] kept) (all_false own)
      ∙ append-nil (page_changed cmp most page own)) in
      ap (λ pages. pages ++ pages_changed cmp most back (changes_behind cmp (pairs_of back) changes)) e
  changed_in_two most page (next ∷ front) back changes rising =
      let later : IsRising cmp (pairs_of (next ∷ front) ++ pairs_of back) = rising_right cmp page (pairs_of (next ∷ front) ++ pairs_of back) (subst (IsRising cmp) (append_assoc page (pairs_of (next ∷ front)) (pairs_of back)) rising) in
      let p : Change K V → Bool = λ change. is_before cmp (key_of_change change) (pairs_of back) in
      let q : Change K V → Bool = λ change. is_before cmp (key_of_change change) (pairs_of (next ∷ front)) in
      let r : Change K V → Bool = λ change. is_before cmp (key_of_change change) (pairs_of ((next ∷ front) ++ back)) in
      let meet : (change : Change K V) → r change ≡ (if p change then q change else false) =
      λ change. ap (is_before cmp (key_of_change change)) (pairs_of-append (next ∷ front) back) ∙ before_both (key_of_change change) (pairs_of (next ∷ front)) (pairs_of back) later in
      ap (λ pages. page_changed cmp most page (changes_before cmp (pairs_of ((next ∷ front) ++ back)) changes) ++ pages) (changed_in_two most next front back (changes_behind cmp (pairs_of ((next ∷ front) ++ back)) changes) later)
      ∙ ap (λ own. page_changed cmp most page own ++ (pages_changed cmp most (next ∷ front) (filter p (filter (λ x. not (r x)) changes)) ++ pages_changed cmp most back (filter (λ x. not (p x)) (filter (λ x. not (r x)) changes)))) (filter_both p q r meet changes)
      ∙ ap (λ own. page_changed cmp most page (filter q (filter p changes)) ++ (pages_changed cmp most (next ∷ front) own ++ pages_changed cmp most back (filter (λ x. not (p x)) (filter (λ x. not (r x)) changes)))) (filter_middle p q r meet changes)
      ∙ ap (λ own. page_changed cmp most page (filter q (filter p changes)) ++ (pages_changed cmp most (next ∷ front) (filter (λ x. not (q x)) (filter p changes)) ++ pages_changed cmp most back own)) (filter_last p q r meet changes)
      ∙ sym (append_assoc (page_changed cmp most page (filter q (filter p changes))) (pages_changed cmp most (next ∷ front) (filter (λ x. not (q x)) (filter p changes))) (pages_changed cmp most back (filter (λ x. not (p x)) changes)))
