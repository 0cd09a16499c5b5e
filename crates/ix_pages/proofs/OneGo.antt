-- Pages after changes in one go: their pairs, and what stays true of them.
use Rattle.std.proofs.Common.{◌≡◌, ℕ, ◌<◌, ◌≤◌, Bool, true, false, not, List, [], ◌∷◌, ◌++◌, length, refl, sym, ◌∙◌, ap, subst, arith}
use Rattle.std.specs.List.{AllByRecursion}
use Rattle.std.specs.declared.cmp.Ordering.{Ordering}
use Rattle.std.specs.declared.cmp.Ordering.TheVariants.{Less, Equal, Greater}
use Rattle.std.specs.Ordering.{is_lt}
use Rattle.std.specs.Cmp.{IsTotalOrder}
use Rattle.std.proofs.lemmas.List.{append-nil}
use Rattle.ix_pages.specs.declared.changes.Change.{Change}
use Rattle.ix_pages.specs.declared.changes.Change.TheVariants.{Put, Take}
use Rattle.ix_pages.specs.Pairs.{is_before, IsRising, with_pair, without_key}
use Rattle.ix_pages.specs.Paging.{pairs_of, AreSized, ArePages}
use Rattle.ix_pages.specs.Changes.{key_of_change, changed, AreRising, changes_before, changes_behind, page_changed, pages_changed}
use Rattle.ix_pages.proofs.Elements.{all_append, all_follow}
use Rattle.ix_pages.proofs.Order.{greater_of, from_lt}
use Rattle.ix_pages.proofs.Rising.{rising_right, all_lesser, all_greater, with_pair_left, without_key_left}
use Rattle.ix_pages.proofs.Paged.{pairs_of-append}
use Rattle.ix_pages.proofs.Kept.{all_with, all_without, rising_with, rising_without}
use Rattle.ix_pages.proofs.Filters.{filter_keeps, filter_drops, filter_holds, filter_fails}
use Rattle.ix_pages.proofs.Halves.{pairs_of_halves, sized_halves}
use Rattle.ix_pages.proofs.Changing.{changed_right, rising_changes_right}

module _ {K V : Type 0} (cmp : K → K → Ordering) where
  -- what holds of the keys of pairs and changes holds of the keys after the changes
  all_changed : (P : K → Type 0) (pairs : List (K × V)) (changes : List (Change K V)) → AllByRecursion (λ pair. P pair.0) pairs → AllByRecursion (λ change. P (key_of_change change)) changes → AllByRecursion (λ pair. P pair.0) (changed cmp pairs changes)
  all_changed P pairs [] all new = all
  all_changed P pairs (Put key value ∷ changes) all new = all_changed P (with_pair cmp pairs (key, value)) changes (all_with cmp (λ pair. P pair.0) pairs (key, value) all new.0) new.1
  all_changed P pairs (Take key ∷ changes) all new = all_changed P (without_key cmp pairs key) changes (all_without cmp (λ pair. P pair.0) pairs key all) new.1

  changed_append : (pairs : List (K × V)) (xs ys : List (Change K V)) → changed cmp pairs (xs ++ ys) ≡ changed cmp (changed cmp pairs xs) ys
  changed_append pairs [] ys = refl
  changed_append pairs (Put key value ∷ xs) ys = changed_append (with_pair cmp pairs (key, value)) xs ys
  changed_append pairs (Take key ∷ xs) ys = changed_append (without_key cmp pairs key) xs ys

  pairs_of_own : (most : ℕ) (page : List (K × V)) (changes : List (Change K V)) → pairs_of (page_changed cmp most page changes) ≡ changed cmp page changes
  pairs_of_own most page [] = append-nil page
  pairs_of_own most page (c ∷ cs) = pairs_of_halves most (length (changed cmp page (c ∷ cs))) (changed cmp page (c ∷ cs))

  sized_own : (most : ℕ) (page : List (K × V)) (changes : List (Change K V)) → 0 < most → (0 < length page) × (length page ≤ most) → AreSized most (page_changed cmp most page changes)
  sized_own most page [] room sized = (sized, tt)
  sized_own most page (c ∷ cs) room sized = sized_halves most (length (changed cmp page (c ∷ cs))) (changed cmp page (c ∷ cs)) room (omega arith)

  sized_changed : (most : ℕ) (pages : List (List (K × V))) (changes : List (Change K V)) → 0 < most → AreSized most pages → AreSized most (pages_changed cmp most pages changes)
  sized_changed most [] changes room sized = sized_halves most (length (changed cmp [] changes)) (changed cmp [] changes) room (omega arith)
  sized_changed most (page ∷ pages) changes room sized =
      all_append _ (page_changed cmp most page (changes_before cmp (pairs_of pages) changes)) (pages_changed cmp most pages (changes_behind cmp (pairs_of pages) changes))
      (sized_own most page (changes_before cmp (pairs_of pages) changes) room sized.0)
      (sized_changed most pages (changes_behind cmp (pairs_of pages) changes) room sized.1)

module _ {K V : Type 0} {cmp : K → K → Ordering} (o : IsTotalOrder cmp) where
  -- changes before the second part change the first one
  changed_left : (front back : List (K × V)) (changes : List (Change K V)) → IsRising cmp back → AllByRecursion (λ change. is_before cmp (key_of_change change) back ≡ true) changes → changed cmp (front ++ back) changes ≡ changed cmp front changes ++ back
  changed_left front back [] rising before = refl
  changed_left front back (Put key value ∷ changes) rising before =
      ap (λ pairs. changed cmp pairs changes) (with_pair_left cmp (key, value) front back before.0) ∙ changed_left (with_pair cmp front (key, value)) back changes rising before.1
  changed_left front back (Take key ∷ changes) rising before =
      ap (λ pairs. changed cmp pairs changes) (without_key_left cmp key front back (all_greater o key back rising before.0)) ∙ changed_left (without_key cmp front key) back changes rising before.1

  behind_too : (pairs : List (K × V)) (a b : K) → is_before cmp a pairs ≡ false → cmp a b ≡ Less → is_before cmp b pairs ≡ false
  behind_too [] a b behind up = absurd (cc)
  behind_too (p ∷ ps) a b behind up = cases (cmp b p.0) refl
    where
      cases : (r : Ordering) → cmp b p.0 ≡ r → is_lt r ≡ false
      cases Less e = let below = ap is_lt (o.trans a b p.0 up e) in absurd (cc)
      cases Equal e = refl
      cases Greater e = refl

  -- rising changes are those before some pairs, and behind them the others
  pub in_two : (pairs : List (K × V)) (changes : List (Change K V)) → AreRising cmp changes → changes ≡ changes_before cmp pairs changes ++ changes_behind cmp pairs changes
  in_two pairs [] rising = refl
  in_two pairs (c ∷ cs) rising = cases (in_two pairs cs rising.1) (is_before cmp (key_of_change c) pairs) refl
    where
      cases : cs ≡ changes_before cmp pairs cs ++ changes_behind cmp pairs cs → (b : Bool) → is_before cmp (key_of_change c) pairs ≡ b → (c ∷ cs) ≡ changes_before cmp pairs (c ∷ cs) ++ changes_behind cmp pairs (c ∷ cs)
      cases rest true test = rw test (ap (λ zs. c ∷ zs) rest)
      cases rest false test =
          let later : AllByRecursion (λ change. is_before cmp (key_of_change change) pairs ≡ false) cs = all_follow _ _ (λ change up. behind_too pairs (key_of_change c) (key_of_change change) test up) cs rising.0 in
          rw test (sym (ap (λ zs. zs ++ (c ∷ changes_behind cmp pairs cs)) (filter_drops (λ change. is_before cmp (key_of_change change) pairs) cs later)
          ∙ ap (λ zs. c ∷ zs) (filter_keeps (λ change. not (is_before cmp (key_of_change change) pairs)) cs (all_follow _ _ (λ change no_. ap not no_) cs later))))

  -- a key behind pairs is greater than the keys of changes before them
  crossed : (pairs : List (K × V)) (key : K) → is_before cmp key pairs ≡ false → (changes : List (Change K V)) → AllByRecursion (λ change. is_before cmp (key_of_change change) pairs ≡ true) changes → AllByRecursion (λ change. cmp key (key_of_change change) ≡ Greater) changes
  crossed [] key behind changes before = absurd (cc)
  crossed (p ∷ ps) key behind changes before = all_follow _ _ (λ change less. greater_of o (key_of_change change) p.0 key (from_lt _ less) behind) changes before

  pub pairs_of_changed : (most : ℕ) (pages : List (List (K × V))) (changes : List (Change K V)) → IsRising cmp (pairs_of pages) → AreRising cmp changes → pairs_of (pages_changed cmp most pages changes) ≡ changed cmp (pairs_of pages) changes
  pairs_of_changed most [] changes rising up = pairs_of_halves most (length (changed cmp [] changes)) (changed cmp [] changes)
  pairs_of_changed most (page ∷ pages) changes rising up =
      let later : IsRising cmp (pairs_of pages) = rising_right cmp page (pairs_of pages) rising in
      let before = changes_before cmp (pairs_of pages) changes in
      let behind = changes_behind cmp (pairs_of pages) changes in
      let parted : changes ≡ before ++ behind = in_two (pairs_of pages) changes up in
      let up_behind : AreRising cmp behind = rising_changes_right cmp before behind (subst (AreRising cmp) parted up) in
      let all_before = filter_holds (λ change. is_before cmp (key_of_change change) (pairs_of pages)) changes in
      let all_behind = filter_fails (λ change. is_before cmp (key_of_change change) (pairs_of pages)) changes in
      let above : AllByRecursion (λ change. AllByRecursion (λ x. cmp (key_of_change change) x.0 ≡ Greater) (changed cmp page before)) behind =
      all_follow _ _ (λ change test. all_changed cmp (λ key. cmp (key_of_change change) key ≡ Greater) page before (all_lesser o (key_of_change change) page (pairs_of pages) rising test) (crossed (pairs_of pages) (key_of_change change) test before all_before)) behind all_behind in
      pairs_of-append (page_changed cmp most page before) (pages_changed cmp most pages behind)
      ∙ ap (λ front. front ++ pairs_of (pages_changed cmp most pages behind)) (pairs_of_own cmp most page before)
      ∙ ap (λ back. changed cmp page before ++ back) (pairs_of_changed most pages behind later up_behind)
      ∙ sym (changed_right cmp (changed cmp page before) (pairs_of pages) behind above)
      ∙ ap (λ pairs. changed cmp pairs behind) (sym (changed_left page (pairs_of pages) before later all_before))
      ∙ sym (changed_append cmp (page ++ pairs_of pages) before behind)
      ∙ ap (changed cmp (page ++ pairs_of pages)) (sym parted)

  rising_changed : (pairs : List (K × V)) (changes : List (Change K V)) → IsRising cmp pairs → IsRising cmp (changed cmp pairs changes)
  rising_changed pairs [] rising = rising
  rising_changed pairs (Put key value ∷ changes) rising = rising_changed (with_pair cmp pairs (key, value)) changes (rising_with o pairs (key, value) rising)
  rising_changed pairs (Take key ∷ changes) rising = rising_changed (without_key cmp pairs key) changes (rising_without cmp pairs key rising)

  pub are_pages_changed : (most : ℕ) (pages : List (List (K × V))) (changes : List (Change K V)) → 0 < most → AreRising cmp changes → ArePages cmp most pages → ArePages cmp most (pages_changed cmp most pages changes)
  are_pages_changed most pages changes room up are = record {
    sized = sized_changed cmp most pages changes room are.sized;
    rising = subst (IsRising cmp) (sym (pairs_of_changed most pages changes are.rising up)) (rising_changed (pairs_of pages) changes are.rising);
  }
