-- Changes in one go in other words: which page takes which changes, and how pairs are cut.
use Rattle.std.proofs.Common.{◌≡◌, ◌≢◌, ◌⊎◌, ℕ, ◌+◌, ◌/◌, ◌<◌, ◌≤◌, Bool, true, false, not, List, [], ◌∷◌, ◌++◌, length, take, drop, filter, sym, ◌∙◌, ap, subst, arith}
use Rattle.std.specs.List.{AllByRecursion}
use Rattle.std.specs.declared.cmp.Ordering.{Ordering}
use Rattle.std.specs.declared.cmp.Ordering.TheVariants.{Less}
use Rattle.std.specs.Ordering.{is_lt}
use Rattle.std.specs.Cmp.{IsTotalOrder}
use Rattle.std.proofs.lemmas.List.{append-nil, length-append}
use Rattle.std.proofs.Math.Seq.{take-append_seam, drop-append_seam}
use Rattle.ix_pages.specs.declared.changes.Change.{Change}
use Rattle.ix_pages.specs.Pairs.{IsRising}
use Rattle.ix_pages.specs.Paging.{pairs_of}
use Rattle.ix_pages.specs.Changes.{key_of_change, cut_often, changed, changes_behind, page_changed, pages_changed}
use Rattle.ix_pages.proofs.Elements.{all_append_right, all_follow}
use Rattle.ix_pages.proofs.Rising.{rising_right}
use Rattle.ix_pages.proofs.Paged.{pairs_of-append}
use Rattle.ix_pages.proofs.Filters.{filter_keeps, filter_drops, filter_front, filter_back}
use Rattle.ix_pages.proofs.Halves.{cut_often_few, cut_often_over}
use Rattle.ix_pages.proofs.Changing.{one_page_changed, changed_in_two}
use Rattle.ix_pages.proofs.OtherWords.{not_lt, half_of}

module _ {K V : Type 0} where
  pub cut_few : (most : ℕ) (pair : K × V) (pairs : List (K × V)) → length (pair ∷ pairs) ≤ most → cut_often most (pair ∷ pairs) ≡ (pair ∷ pairs) ∷ []
  cut_few most pair pairs few = cut_often_few most (pair ∷ pairs) few

  pub cut_many : (most : ℕ) (front back : List (K × V)) → 0 < most → most < length front + length back
      → (length front ≡ length back) ⊎ (length front ≡ length back + 1) → cut_often most (front ++ back) ≡ cut_often most front ++ cut_often most back
  cut_many most front back some over half =
      let long : most < length (front ++ back) = omega (arith, length-append front back, over) in
      let middle : (length (front ++ back) + 1) / 2 ≡ length front = half_of (length front) (length back) (length (front ++ back)) (length-append front back) half in
      cut_often_over most (front ++ back) some long
      ∙ ap (λ n. cut_often most (take n (front ++ back)) ++ cut_often most (drop n (front ++ back))) middle
      ∙ ap (λ pairs. cut_often most pairs ++ cut_often most (drop (length front) (front ++ back))) (take-append_seam front back)
      ∙ ap (λ pairs. cut_often most front ++ cut_often most pairs) (drop-append_seam front back)

module _ {K V : Type 0} (cmp : K → K → Ordering) where
  pub alone : (most : ℕ) (page : List (K × V)) (change : Change K V) (changes : List (Change K V)) → pages_changed cmp most (page ∷ []) (change ∷ changes) ≡ cut_often most (changed cmp page (change ∷ changes))
  alone most page change changes = one_page_changed cmp most page (change ∷ changes) (omega arith)

  pub first_stays : (most : ℕ) (page : List (K × V)) (next : K × V) (later : List (K × V)) (back : List (List (K × V))) (changes : List (Change K V))
      → AllByRecursion (λ change. cmp (key_of_change change) next.0 ≢ Less) changes → pages_changed cmp most (page ∷ (next ∷ later) ∷ back) changes ≡ page ∷ pages_changed cmp most ((next ∷ later) ∷ back) changes
  first_stays most page next later back changes others =
      let behind : AllByRecursion (λ change. is_lt (cmp (key_of_change change) next.0) ≡ false) changes = all_follow _ _ (λ change other. not_lt (cmp (key_of_change change) next.0) other) changes others in
      ap (λ own. page_changed cmp most page own ++ pages_changed cmp most ((next ∷ later) ∷ back) (changes_behind cmp (pairs_of ((next ∷ later) ∷ back)) changes)) (filter_drops (λ change. is_lt (cmp (key_of_change change) next.0)) changes behind)
      ∙ ap (λ own. page ∷ pages_changed cmp most ((next ∷ later) ∷ back) own) (filter_keeps (λ change. not (is_lt (cmp (key_of_change change) next.0))) changes (all_follow _ _ (λ change is. ap not is) changes behind))

module _ {K V : Type 0} {cmp : K → K → Ordering} (o : IsTotalOrder cmp) where
  pub parted : (most : ℕ) (page : List (K × V)) (front : List (List (K × V))) (least : K × V) (pairs : List (K × V)) (back : List (List (K × V))) (before behind : List (Change K V))
      → IsRising cmp (pairs_of ((page ∷ front) ++ (least ∷ pairs) ∷ back)) → AllByRecursion (λ change. cmp (key_of_change change) least.0 ≡ Less) before → AllByRecursion (λ change. cmp (key_of_change change) least.0 ≢ Less) behind
      → pages_changed cmp most ((page ∷ front) ++ (least ∷ pairs) ∷ back) (before ++ behind) ≡ pages_changed cmp most (page ∷ front) before ++ pages_changed cmp most ((least ∷ pairs) ∷ back) behind
  parted most page front least pairs back before behind rising less others =
      let up : IsRising cmp (pairs_of (page ∷ front) ++ pairs_of ((least ∷ pairs) ∷ back)) = subst (IsRising cmp) (pairs_of-append (page ∷ front) ((least ∷ pairs) ∷ back)) rising in
      let p : Change K V → Bool = λ change. is_lt (cmp (key_of_change change) least.0) in
      let yes : AllByRecursion (λ change. p change ≡ true) before = all_follow _ _ (λ change is. ap is_lt is) before less in
      let other : AllByRecursion (λ change. p change ≡ false) behind = all_follow _ _ (λ change is. not_lt (cmp (key_of_change change) least.0) is) behind others in
      changed_in_two o most page front ((least ∷ pairs) ∷ back) (before ++ behind) up
      ∙ ap (λ own. pages_changed cmp most (page ∷ front) own ++ pages_changed cmp most ((least ∷ pairs) ∷ back) (filter (λ change. not (p change)) (before ++ behind))) (filter_front p before behind yes other)
      ∙ ap (λ own. pages_changed cmp most (page ∷ front) before ++ pages_changed cmp most ((least ∷ pairs) ∷ back) own) (filter_back p before behind yes other)

  pub last_stays : (most : ℕ) (page : List (K × V)) (front : List (List (K × V))) (least : K × V) (pairs : List (K × V)) (changes : List (Change K V))
      → IsRising cmp (pairs_of ((page ∷ front) ++ (least ∷ pairs) ∷ [])) → AllByRecursion (λ change. cmp (key_of_change change) least.0 ≡ Less) changes
      → pages_changed cmp most ((page ∷ front) ++ (least ∷ pairs) ∷ []) changes ≡ pages_changed cmp most (page ∷ front) changes ++ (least ∷ pairs) ∷ []
  last_stays most page front least pairs changes rising less =
      ap (pages_changed cmp most ((page ∷ front) ++ (least ∷ pairs) ∷ [])) (sym (append-nil changes))
      ∙ parted most page front least pairs [] changes [] rising less tt

  pub one_stays : (most : ℕ) (page : List (K × V)) (front : List (List (K × V))) (least : K × V) (pairs : List (K × V)) (next : K × V) (later : List (K × V)) (back : List (List (K × V))) (before behind : List (Change K V))
      → IsRising cmp (pairs_of ((page ∷ front) ++ (least ∷ pairs) ∷ (next ∷ later) ∷ back)) → AllByRecursion (λ change. cmp (key_of_change change) least.0 ≡ Less) before → AllByRecursion (λ change. cmp (key_of_change change) next.0 ≢ Less) behind
      → pages_changed cmp most ((page ∷ front) ++ (least ∷ pairs) ∷ (next ∷ later) ∷ back) (before ++ behind) ≡ pages_changed cmp most (page ∷ front) before ++ (least ∷ pairs) ∷ pages_changed cmp most ((next ∷ later) ∷ back) behind
  one_stays most page front least pairs next later back before behind rising less others =
      let up : IsRising cmp ((least ∷ pairs) ++ pairs_of ((next ∷ later) ∷ back)) = rising_right cmp (pairs_of (page ∷ front)) ((least ∷ pairs) ++ pairs_of ((next ∷ later) ∷ back)) (subst (IsRising cmp) (pairs_of-append (page ∷ front) ((least ∷ pairs) ∷ (next ∷ later) ∷ back)) rising) in
      let below : cmp least.0 next.0 ≡ Less = (all_append_right (λ pair. cmp least.0 pair.0 ≡ Less) pairs (pairs_of ((next ∷ later) ∷ back)) up.0).0 in
      let not_less : AllByRecursion (λ change. cmp (key_of_change change) least.0 ≢ Less) behind = all_follow _ _ (λ change other is. other (o.trans (key_of_change change) least.0 next.0 is below)) behind others in
      parted most page front least pairs ((next ∷ later) ∷ back) before behind rising less not_less
      ∙ ap (λ pages. pages_changed cmp most (page ∷ front) before ++ pages) (first_stays cmp most (least ∷ pairs) next later back behind others)
