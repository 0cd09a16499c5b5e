-- Edits: parted at a key, and made in a tree.
use Rattle.std.proofs.Common.{◌≡◌, ℕ, suc, ◌<◌, ◌≤◌, true, false, not, List, [], ◌∷◌, ◌++◌, length, map, take, drop, get_or, filter, sym, ◌∙◌, ap, subst, Option, Ok, Err, arith}
use Rattle.std.specs.List.{AllByRecursion}
use Rattle.std.specs.List.Sorted.{IsBinarySearchResult}
use Rattle.std.specs.declared.cmp.Ordering.{Ordering}
use Rattle.std.specs.declared.cmp.Ordering.TheVariants.{Less, Greater}
use Rattle.std.specs.Ordering.{is_lt}
use Rattle.std.specs.Cmp.{IsTotalOrder}
use Rattle.std.specs.Borrow.{Bor}
use Rattle.std.proofs.Math.Seq.{drop-cons}
use Rattle.std.proofs.lemmas.List.{append_assoc, map-append, take-append-drop}
use Rattle.ix_pages.specs.declared.changes.Change.{Change}
use Rattle.ix_pages.specs.declared.bulk.Edit.{Edit}
use Rattle.ix_pages.specs.declared.bulk.Edit.TheVariants.{Place, Remove, Without}
use Rattle.std.specs.declared.sync.Arc.{Arc}
use Rattle.std.specs.declared.alloc.Global.{Global}
use Rattle.ix_pages.specs.declared.page.Entry.{Entry}
use Rattle.ix_pages.specs.Pairs.{IsRising, IsParted}
use Rattle.ix_pages.specs.Paging.{pairs_of}
use Rattle.ix_pages.specs.Changes.{key_of_change, changed, AreRising, changes_before, changes_behind, pages_changed}
use Rattle.ix_pages.specs.Tree.{pair_of}
use Rattle.ix_pages.specs.Edits.{change_of, key_of_edit}
use Rattle.ix_pages.proofs.Order.{less_back, greater_back}
use Rattle.ix_pages.proofs.Parting.{parted_absent, parted_present}
use Rattle.ix_pages.proofs.Paged.{pairs_of-append}
use Rattle.ix_pages.proofs.Filters.{filter_front, filter_back, all_mapped}
use Rattle.ix_pages.proofs.Changing.{rising_changes_left, rising_changes_right, changed_in_two, put_merged, take_merged}

module _ {K V : Type 0} where
  -- an edit behind its key, as pairs are parted
  abbrev pub keyed : Edit K V → K × Edit K V
  keyed edit = (key_of_edit edit, edit)

  pub keyed_rise : (cmp : K → K → Ordering) (es : List (Edit K V)) → AreRising cmp (map change_of es) → IsRising cmp (map keyed es)
  keyed_rise cmp [] rising = tt
  keyed_rise cmp (e ∷ es) rising = (all_mapped change_of keyed (λ later. cmp (key_of_edit e) (key_of_change later) ≡ Less) (λ later. cmp (key_of_edit e) later.0 ≡ Less) (λ x below. below) es rising.0, keyed_rise cmp es rising.1)

  in_two : (es : List (Edit K V)) (at : ℕ) → map change_of es ≡ map change_of (take at es) ++ map change_of (drop at es)
  in_two es at = ap (map change_of) (sym (take-append-drop at es)) ∙ map-append change_of (take at es) (drop at es)

module _ {K V : Type 0} {cmp : K → K → Ordering} (o : IsTotalOrder cmp) where
  -- a test that parts a list
  pub record IsSplit (key : K) (es : List (Edit K V)) (at : ℕ) : Type 0 where
    pub before : AllByRecursion (λ change. is_lt (cmp (key_of_change change) key) ≡ true) (map change_of (take at es))
    pub behind : AllByRecursion (λ change. is_lt (cmp (key_of_change change) key) ≡ false) (map change_of (drop at es))

  behind_of : (key : K) (es : List (Edit K V)) → AllByRecursion (λ p. cmp key p.0 ≡ Less) (map keyed es) → AllByRecursion (λ change. is_lt (cmp (key_of_change change) key) ≡ false) (map change_of es)
  behind_of key es above = all_mapped keyed change_of (λ p. cmp key p.0 ≡ Less) (λ change. is_lt (cmp (key_of_change change) key) ≡ false) (λ e less. ap is_lt (less_back o key (key_of_edit e) less)) es above

  before_of : (key : K) (es : List (Edit K V)) → AllByRecursion (λ p. cmp key p.0 ≡ Greater) (map keyed es) → AllByRecursion (λ change. is_lt (cmp (key_of_change change) key) ≡ true) (map change_of es)
  before_of key es below = all_mapped keyed change_of (λ p. cmp key p.0 ≡ Greater) (λ change. is_lt (cmp (key_of_change change) key) ≡ true) (λ e greater. ap is_lt (greater_back o key (key_of_edit e) greater)) es below

  pub split_absent : (key : K) (es : List (Edit K V)) (at : ℕ) → AreRising cmp (map change_of es) → at ≤ length es → IsBinarySearchResult (λ e. cmp (key_of_edit e) key) es (Err at) → IsSplit key es at
  split_absent key es at rising within found =
      let parted = parted_absent o keyed key es (keyed_rise cmp es rising) at within found in
      record { before = before_of key (take at es) parted.are_lesser; behind = behind_of key (drop at es) parted.are_greater }

  pub split_present : (key : K) (es : List (Edit K V)) (at : ℕ) → AreRising cmp (map change_of es) → at < length es → IsBinarySearchResult (λ e. cmp (key_of_edit e) key) es (Ok at) → IsSplit key es at
  split_present key [] at rising within found = absurd (omega arith)
  split_present key (e ∷ es) at rising within found =
      let same = get_or (e ∷ es) at e in
      let greater = drop (suc at) (e ∷ es) in
      let rest : drop at (e ∷ es) ≡ same ∷ greater = drop-cons (e ∷ es) at e within in
      let parted = parted_present o keyed key (e ∷ es) (keyed_rise cmp (e ∷ es) rising) at same greater within rest found in
      let equal : is_lt (cmp (key_of_edit same) key) ≡ false = ap is_lt (found e) in
      record {
        before = before_of key (take at (e ∷ es)) parted.are_lesser;
        behind = subst (λ zs. AllByRecursion (λ change. is_lt (cmp (key_of_change change) key) ≡ false) (map change_of zs)) (sym rest) (equal, behind_of key greater parted.are_greater);
      }

  pub split_before : (key : K) (es : List (Edit K V)) (at : ℕ) → IsSplit key es at → map change_of (take at es) ≡ filter (λ change. is_lt (cmp (key_of_change change) key)) (map change_of es)
  split_before key es at split =
      sym (ap (filter (λ change. is_lt (cmp (key_of_change change) key))) (in_two es at)
      ∙ filter_front (λ change. is_lt (cmp (key_of_change change) key)) (map change_of (take at es)) (map change_of (drop at es)) split.before split.behind)

  pub split_behind : (key : K) (es : List (Edit K V)) (at : ℕ) → IsSplit key es at → map change_of (drop at es) ≡ filter (λ change. not (is_lt (cmp (key_of_change change) key))) (map change_of es)
  split_behind key es at split =
      sym (ap (filter (λ change. not (is_lt (cmp (key_of_change change) key)))) (in_two es at)
      ∙ filter_back (λ change. is_lt (cmp (key_of_change change) key)) (map change_of (take at es)) (map change_of (drop at es)) split.before split.behind)

  pub rising_taken : (es : List (Edit K V)) (at : ℕ) → AreRising cmp (map change_of es) → AreRising cmp (map change_of (take at es))
  rising_taken es at rising = rising_changes_left cmp (map change_of (take at es)) (map change_of (drop at es)) (subst (AreRising cmp) (in_two es at) rising)

  pub rising_dropped : (es : List (Edit K V)) (at : ℕ) → AreRising cmp (map change_of es) → AreRising cmp (map change_of (drop at es))
  rising_dropped es at rising = rising_changes_right cmp (map change_of (take at es)) (map change_of (drop at es)) (subst (AreRising cmp) (in_two es at) rising)

  -- pages in two parts, each with the changes that fall into it
  pub edited_in_two : (most : ℕ) (front back : List (List (K × V))) (changes : List (Change K V)) → 0 < length front → IsRising cmp (pairs_of (front ++ back))
      → pages_changed cmp most (front ++ back) changes ≡ pages_changed cmp most front (changes_before cmp (pairs_of back) changes) ++ pages_changed cmp most back (changes_behind cmp (pairs_of back) changes)
  edited_in_two most [] back changes some rising = absurd (omega arith)
  edited_in_two most (page ∷ front) back changes some rising = changed_in_two o most page front back changes (subst (IsRising cmp) (pairs_of-append (page ∷ front) back) rising)

  -- a page that grew by the pairs up to an edit, and by that of a put
  pub place_made : (edit : Edit K V) (entry e : Arc (Entry K V) Global) (key : K) (p0 p1 p2 rest lesser greater : List (Arc (Entry K V) Global)) (same : Option (K × V)) → edit ≡ Place entry → key ≡ key_of_edit edit → map pair_of p1 ≡ map pair_of p0 ++ map pair_of lesser → p2 ≡ p1 ++ e ∷ [] → e.value ≡ entry.value
      → IsParted cmp key (map pair_of rest) (map pair_of lesser) same (map pair_of greater) → (later : List (Change K V)) → AllByRecursion (λ change. cmp (key_of_edit edit) (key_of_change change) ≡ Less) later
      → map pair_of p2 ++ changed cmp (map pair_of greater) later ≡ map pair_of p0 ++ changed cmp (map pair_of rest) (change_of edit ∷ later)
  place_made edit entry e key p0 p1 p2 rest lesser greater same is at front pushed cloned parted later above =
      let new : K × V = pair_of entry in
      let made : map pair_of p2 ≡ map pair_of p0 ++ (map pair_of lesser ++ new ∷ []) =
      ap (map pair_of) pushed ∙ map-append pair_of p1 (e ∷ []) ∙ ap (λ x. x ++ (pair_of e ∷ [])) front ∙ append_assoc (map pair_of p0) (map pair_of lesser) (pair_of e ∷ []) ∙ ap (λ y. map pair_of p0 ++ (map pair_of lesser ++ ((y.key, y.value) ∷ []))) cloned in
      let parted_here = subst (λ k. IsParted cmp k (map pair_of rest) (map pair_of lesser) same (map pair_of greater)) (at ∙ ap key_of_edit is) parted in
      let above_here : AllByRecursion (λ change. cmp new.0 (key_of_change change) ≡ Less) later = subst (λ ed. AllByRecursion (λ change. cmp (key_of_edit ed) (key_of_change change) ≡ Less) later) is above in
      ap (λ x. x ++ changed cmp (map pair_of greater) later) made
      ∙ append_assoc (map pair_of p0) (map pair_of lesser ++ new ∷ []) (changed cmp (map pair_of greater) later)
      ∙ ap (λ x. map pair_of p0 ++ x) (put_merged o new (map pair_of rest) (map pair_of lesser) same (map pair_of greater) later parted_here above_here)
      ∙ ap (λ ed. map pair_of p0 ++ changed cmp (map pair_of rest) (change_of ed ∷ later)) (sym is)

  pub remove_made : (edit : Edit K V) (k key : K) (p0 p1 rest lesser greater : List (Arc (Entry K V) Global)) (same : Option (K × V)) → edit ≡ Remove k → key ≡ key_of_edit edit → map pair_of p1 ≡ map pair_of p0 ++ map pair_of lesser
      → IsParted cmp key (map pair_of rest) (map pair_of lesser) same (map pair_of greater) → (later : List (Change K V)) → AllByRecursion (λ change. cmp (key_of_edit edit) (key_of_change change) ≡ Less) later
      → map pair_of p1 ++ changed cmp (map pair_of greater) later ≡ map pair_of p0 ++ changed cmp (map pair_of rest) (change_of edit ∷ later)
  remove_made edit k key p0 p1 rest lesser greater same is at front parted later above =
      let parted_here = subst (λ k. IsParted cmp k (map pair_of rest) (map pair_of lesser) same (map pair_of greater)) (at ∙ ap key_of_edit is) parted in
      let above_here : AllByRecursion (λ change. cmp k (key_of_change change) ≡ Less) later = subst (λ ed. AllByRecursion (λ change. cmp (key_of_edit ed) (key_of_change change) ≡ Less) later) is above in
      ap (λ x. x ++ changed cmp (map pair_of greater) later) front
      ∙ append_assoc (map pair_of p0) (map pair_of lesser) (changed cmp (map pair_of greater) later)
      ∙ ap (λ x. map pair_of p0 ++ x) (take_merged o k (map pair_of rest) (map pair_of lesser) same (map pair_of greater) later parted_here above_here)
      ∙ ap (λ ed. map pair_of p0 ++ changed cmp (map pair_of rest) (change_of ed ∷ later)) (sym is)

  pub without_made : (edit : Edit K V) (k : Bor K) (key : K) (p0 p1 rest lesser greater : List (Arc (Entry K V) Global)) (same : Option (K × V)) → edit ≡ Without k → key ≡ key_of_edit edit → map pair_of p1 ≡ map pair_of p0 ++ map pair_of lesser
      → IsParted cmp key (map pair_of rest) (map pair_of lesser) same (map pair_of greater) → (later : List (Change K V)) → AllByRecursion (λ change. cmp (key_of_edit edit) (key_of_change change) ≡ Less) later
      → map pair_of p1 ++ changed cmp (map pair_of greater) later ≡ map pair_of p0 ++ changed cmp (map pair_of rest) (change_of edit ∷ later)
  without_made edit k key p0 p1 rest lesser greater same is at front parted later above =
      let parted_here = subst (λ k. IsParted cmp k (map pair_of rest) (map pair_of lesser) same (map pair_of greater)) (at ∙ ap key_of_edit is) parted in
      let above_here : AllByRecursion (λ change. cmp k.now (key_of_change change) ≡ Less) later = subst (λ ed. AllByRecursion (λ change. cmp (key_of_edit ed) (key_of_change change) ≡ Less) later) is above in
      ap (λ x. x ++ changed cmp (map pair_of greater) later) front
      ∙ append_assoc (map pair_of p0) (map pair_of lesser) (changed cmp (map pair_of greater) later)
      ∙ ap (λ x. map pair_of p0 ++ x) (take_merged o k.now (map pair_of rest) (map pair_of lesser) same (map pair_of greater) later parted_here above_here)
      ∙ ap (λ ed. map pair_of p0 ++ changed cmp (map pair_of rest) (change_of ed ∷ later)) (sym is)
