-- What loops over a fork's parts keep, and edits around one of the parts.
use Rattle.std.proofs.Common.{◌≡◌, ◌⊎◌, inl, inr, ℕ, zero, suc, ◌+◌, ◌-◌, ◌<◌, ◌≤◌, Bool, true, false, not, List, [], ◌∷◌, ◌++◌, length, map, take, drop, get_or, filter, refl, sym, ◌∙◌, ap, subst, Some, None, arith, slice_get}
use Rattle.std.specs.List.{AllByRecursion}
use Rattle.std.specs.declared.cmp.Ordering.{Ordering}
use Rattle.std.specs.declared.cmp.Ordering.TheVariants.{Less, Equal, Greater}
use Rattle.std.specs.Ordering.{is_lt}
use Rattle.std.specs.Cmp.{IsTotalOrder}
use Rattle.std.proofs.lemmas.List.{append_assoc, length-append, length-map}
use Rattle.std.proofs.lemmas.List.Elements.{filter_agree}
use Rattle.ix_pages.specs.declared.changes.Change.{Change}
use Rattle.ix_pages.specs.declared.part.Child.{Child}
use Rattle.ix_pages.specs.declared.bulk.Edit.{Edit}
use Rattle.ix_pages.specs.declared.node.Node.{Node}
use Rattle.ix_pages.specs.Pairs.{is_before, IsRising}
use Rattle.ix_pages.specs.Paging.{pairs_of}
use Rattle.ix_pages.specs.Changes.{key_of_change, AreRising, changes_before, changes_behind, pages_changed}
use Rattle.ix_pages.specs.Tree.{pair_of, IsFirst, leasts, HaveHeads, IsSameChild, pages_of, IsChild, AreChildren, AreKept, node_pages, IsNode}
use Rattle.ix_pages.specs.Edits.{change_of}
use Rattle.ix_pages.proofs.Elements.{all_append, all_append_left, all_append_right, all_follow}
use Rattle.ix_pages.proofs.Rising.{rising_right}
use Rattle.ix_pages.proofs.Paged.{pairs_of-append}
use Rattle.ix_pages.proofs.Filters.{filter_keeps, filter_drops, all_false}
use Rattle.ix_pages.proofs.Trees.{first_in_front, before_first, rising_back}
use Rattle.ix_pages.proofs.Searches.{entry_left, entry_right}
use Rattle.ix_pages.proofs.Changing.{none_changed}
use Rattle.ix_pages.proofs.Edits.{edited_in_two}
use Rattle.ix_pages.proofs.Children.{some_pages, pages_of-append, pages_of-push, before_leasts, same_part, one_kept, kept_first, all_around, child_whole, rising_behind}

-- the next of the elements that are left
pub next_item : {X : Type 0} (xs : List X) (i : ℕ) (x : X) → i < length xs → x ≡ get_or xs i x → drop i xs ≡ x ∷ drop (i + 1) xs
next_item [] i x within is = absurd (omega arith)
next_item (y ∷ ys) zero x within is = ap (λ z. z ∷ ys) (sym is)
next_item (y ∷ ys) (suc i) x within is =
    let next : suc i + 1 ≡ suc (i + 1) = omega arith in
    next_item ys i x (omega arith) is ∙ ap (λ n. x ∷ drop n (y ∷ ys)) (sym next)

-- the first of some elements
pub first_of : {X : Type 0} (xs : List X) (x : X) → Some x ≡ slice_get xs 0 → xs ≡ x ∷ drop 1 xs
first_of [] x is = absurd (cc)
first_of (y ∷ ys) x is = let same : y ≡ x = cc in ap (λ z. z ∷ ys) same

module _ {K V T : Type 0} (pages : T → List (List (K × V))) where
  -- one of the parts that are left, put behind others as it is
  pages_on : (made after left later : List (Child K V T)) (child copy : Child K V T) (all : List (List (K × V))) → pages_of pages made ++ pages_of pages left ≡ all → left ≡ child ∷ later → after ≡ made ++ copy ∷ [] → copy.part.value ≡ child.part.value
      → pages_of pages after ++ pages_of pages later ≡ all
  pages_on made after left later child copy all known is pushed same =
      ap (λ p. pages_of pages p ++ pages_of pages later) pushed
      ∙ ap (λ p. p ++ pages_of pages later) (pages_of-append pages made (copy ∷ []))
      ∙ append_assoc (pages_of pages made) (pages_of pages (copy ∷ [])) (pages_of pages later)
      ∙ ap (λ p. pages_of pages made ++ p) (append_assoc (pages copy.part.value) [] (pages_of pages later))
      ∙ ap (λ t. pages_of pages made ++ (pages t ++ pages_of pages later)) same
      ∙ sym (ap (λ p. pages_of pages made ++ pages_of pages p) is)
      ∙ known

  pub kept_on : (whole : T → Type 0) (head_of : K → K → ℕ → ℕ) (base : K) (skip : ℕ) (made after left later : List (Child K V T)) (child copy : Child K V T) (all : List (List (K × V)))
      → AreKept pages whole head_of base skip made × AreKept pages whole head_of base skip left × (pages_of pages made ++ pages_of pages left ≡ all) → left ≡ child ∷ later → after ≡ made ++ copy ∷ [] → IsSameChild copy child
      → AreKept pages whole head_of base skip after × AreKept pages whole head_of base skip later × (pages_of pages after ++ pages_of pages later ≡ all)
  kept_on whole head_of base skip made after left later child copy all known is pushed same =
      let parts = kept_first pages whole head_of base skip child later (subst (AreKept pages whole head_of base skip) is known.1) in
      let head : copy.head ≡ head_of copy.least.value.key base skip = same.head ∙ parts.1 ∙ ap (λ e. head_of e.key base skip) (sym same.least) in (
        subst (AreKept pages whole head_of base skip) (sym pushed) (one_kept pages whole head_of base skip made copy known.0 (same_part pages whole copy child same parts.0) head),
        parts.2,
        pages_on made after left later child copy all known.2 is pushed same.part,
      )

  -- the same with a head made anew
  pub added_on : (whole : T → Type 0) (head_of : K → K → ℕ → ℕ) (base : K) (skip : ℕ) (made after left later : List (Child K V T)) (child copy new : Child K V T) (all : List (List (K × V)))
      → AreKept pages whole head_of base skip made × AreChildren pages whole left × (pages_of pages made ++ pages_of pages left ≡ all) → left ≡ child ∷ later → after ≡ made ++ new ∷ [] → IsSameChild copy child
      → new ≡ record copy { head = head_of copy.least.value.key base skip }
      → AreKept pages whole head_of base skip after × AreChildren pages whole later × (pages_of pages after ++ pages_of pages later ≡ all)
  added_on whole head_of base skip made after left later child copy new all known is pushed same made_new =
      let are = subst (AreChildren pages whole) is known.1 in
      let same_new : IsChild pages whole new = subst (IsChild pages whole) (sym made_new) (headed (head_of copy.least.value.key base skip) (same_part pages whole copy child same are.0)) in
      let head : new.head ≡ head_of new.least.value.key base skip = ap (λ c. c.head) made_new ∙ ap (λ c. head_of c.least.value.key base skip) (sym made_new) in (
        subst (AreKept pages whole head_of base skip) (sym pushed) (one_kept pages whole head_of base skip made new known.0 same_new head),
        are.1,
        pages_on made after left later child new all known.2 is pushed (ap (λ c. c.part.value) made_new ∙ same.part),
      )
    where
      headed : (h : ℕ) → IsChild pages whole copy → IsChild pages whole (record copy { head = h })
      headed h child_is = record { part = child_is.part; first = child_is.first; page_count = child_is.page_count; pair_count = child_is.pair_count }

  -- the counts of the parts so far, and what is left
  pub counted_on : (whole : T → Type 0) (left later : List (Child K V T)) (child : Child K V T) (pages_before pages_after pairs_before pairs_after all_pages all_pairs : ℕ)
      → AreChildren pages whole left × (pages_before + length (pages_of pages left) ≡ all_pages) × (pairs_before + length (pairs_of (pages_of pages left)) ≡ all_pairs) → left ≡ child ∷ later
      → pages_after ≡ pages_before + child.count.pages → pairs_after ≡ pairs_before + child.count.pairs
      → AreChildren pages whole later × (pages_after + length (pages_of pages later) ≡ all_pages) × (pairs_after + length (pairs_of (pages_of pages later)) ≡ all_pairs)
  counted_on whole left later child pages_before pages_after pairs_before pairs_after all_pages all_pairs known is more_pages more_pairs =
      let are = subst (AreChildren pages whole) is known.0 in
      let first_pages : length (pages_of pages left) ≡ length (pages child.part.value) + length (pages_of pages later) =
      ap (λ l. length (pages_of pages l)) is ∙ length-append (pages child.part.value) (pages_of pages later) in
      let first_pairs : length (pairs_of (pages_of pages left)) ≡ length (pairs_of (pages child.part.value)) + length (pairs_of (pages_of pages later)) =
      ap (λ l. length (pairs_of (pages_of pages l))) is ∙ ap length (pairs_of-append (pages child.part.value) (pages_of pages later)) ∙ length-append (pairs_of (pages child.part.value)) (pairs_of (pages_of pages later)) in
      let page_count = are.0.page_count in
      let pair_count = are.0.pair_count in
      let known_pages = known.1 in
      let known_pairs = known.2 in (
        are.1,
        omega (arith, first_pages, page_count, known_pages, more_pages),
        omega (arith, first_pairs, pair_count, known_pairs, more_pairs),
      )

  -- the pages of a front, and then those of what is behind
  pub in_groups : (front back children : List (Child K V T)) (start made : List (List (K × V))) → children ≡ front ++ back → made ≡ start ++ pages_of pages front → made ++ pages_of pages back ≡ start ++ pages_of pages children
  in_groups front back children start made is known =
      ap (λ p. p ++ pages_of pages back) known ∙ append_assoc start (pages_of pages front) (pages_of pages back) ∙ sym (ap (λ p. start ++ p) (ap (pages_of pages) is ∙ pages_of-append pages front back))

  -- a pair of the first part
  pub entry_in_first : (whole : T → Type 0) (children rest : List (Child K V T)) (child : Child K V T) (part : T) (i : ℕ) → AreChildren pages whole children → children ≡ child ∷ rest → part ≡ child.part.value → i < child.count.pairs
      → slice_get (pairs_of (pages part)) i ≡ slice_get (pairs_of (pages_of pages children)) i
  entry_in_first whole children rest child part i are is at within =
      let here = subst (AreChildren pages whole) is are in
      let low : i < length (pairs_of (pages child.part.value)) = subst (λ n. i < n) here.0.pair_count within in
      ap (λ t. slice_get (pairs_of (pages t)) i) at ∙ entry_left (pages child.part.value) (pages_of pages rest) (pages_of pages children) i (ap (pages_of pages) is) low

  -- a pair behind it
  pub entry_in_rest : (whole : T → Type 0) (children rest : List (Child K V T)) (child : Child K V T) (i : ℕ) → AreChildren pages whole children → children ≡ child ∷ rest → child.count.pairs ≤ i
      → slice_get (pairs_of (pages_of pages rest)) (i - child.count.pairs) ≡ slice_get (pairs_of (pages_of pages children)) i
  entry_in_rest whole children rest child i are is behind =
      let here = subst (AreChildren pages whole) is are in
      entry_right (pages child.part.value) (pages_of pages rest) (pages_of pages children) i child.count.pairs (ap (pages_of pages) is) here.0.pair_count behind

module _ {K V T : Type 0} (cmp : K → K → Ordering) (key : K) where
  -- one part more that a key isn't before
  pub passed_on : (children : List (Child K V T)) (i : ℕ) (child : Child K V T) → i < length children → child ≡ get_or children i child → is_lt (cmp key child.least.value.key) ≡ false → AllByRecursion (λ pair. is_lt (cmp key pair.0) ≡ false) (leasts (take i children))
      → AllByRecursion (λ pair. is_lt (cmp key pair.0) ≡ false) (leasts (take (i + 1) children))
  passed_on [] i child within is here all = absurd (omega arith)
  passed_on (c ∷ children) zero child within is here all = (subst (λ x. is_lt (cmp key x.least.value.key) ≡ false) is here, tt)
  passed_on (c ∷ children) (suc i) child within is here all =
      let next : suc i + 1 ≡ suc (i + 1) = omega arith in
      subst (λ n. AllByRecursion (λ pair. is_lt (cmp key pair.0) ≡ false) (leasts (take n (c ∷ children)))) (sym next) (all.0, passed_on children i child (omega arith) is here all.1)

  -- the last of the parts in front
  last_in_front : (x : Child K V T) (later : List (Child K V T)) (m : ℕ) (child : Child K V T) (rest : List (Child K V T)) → m ≤ length later → AllByRecursion (λ pair. is_lt (cmp key pair.0) ≡ false) (leasts (take (suc m) (x ∷ later))) → drop m (x ∷ later) ≡ child ∷ rest
      → is_lt (cmp key child.least.value.key) ≡ false
  last_in_front x later zero child rest within all is = let same : x ≡ child = cc in subst (λ c. is_lt (cmp key c.least.value.key) ≡ false) same all.0
  last_in_front x [] (suc m) child rest within all is = absurd (omega arith)
  last_in_front x (y ∷ later) (suc m) child rest within all is = last_in_front y later m child rest (omega arith) all.1 is

  -- the part in which a key is: behind the parts that the key isn't before
  pub found_in : (first : Child K V T) (later : List (Child K V T)) (n : ℕ) (child : Child K V T) (rest : List (Child K V T)) → n ≤ length later → AllByRecursion (λ pair. is_lt (cmp key pair.0) ≡ false) (leasts (take n later)) → drop n (first ∷ later) ≡ child ∷ rest
      → (take n (first ∷ later) ≡ []) ⊎ (is_lt (cmp key child.least.value.key) ≡ false)
  found_in first later zero child rest within all is = inl refl
  found_in first [] (suc n) child rest within all is = absurd (omega arith)
  found_in first (x ∷ later) (suc n) child rest within all is = inr (last_in_front x later n child rest (omega arith) all is)

  -- the parts behind it
  pub behind_it : (first : Child K V T) (later : List (Child K V T)) (n : ℕ) (child : Child K V T) (rest : List (Child K V T)) → n ≤ length later → drop n (first ∷ later) ≡ child ∷ rest → rest ≡ drop n later
  behind_it first later zero child rest within is = cc
  behind_it first [] (suc n) child rest within is = absurd (omega arith)
  behind_it first (x ∷ later) (suc n) child rest within is = behind_it x later n child rest (omega arith) is

module _ {K V T : Type 0} (cmp : K → K → Ordering) where
  -- a key before the first of some parts is before all
  pub first_decides : (children : List (Child K V T)) (child : Child K V T) (key : K) → Some child ≡ slice_get children 0 → is_lt (cmp key child.least.value.key) ≡ is_before cmp key (leasts children)
  first_decides [] child key is = absurd (cc)
  first_decides (c ∷ children) child key is = let same : c ≡ child = cc in sym (ap (λ x. is_lt (cmp key x.least.value.key)) same)

  pub before_first_part : (children : List (Child K V T)) (child : Child K V T) (changes : List (Change K V)) → Some child ≡ slice_get children 0 → filter (λ change. is_lt (cmp (key_of_change change) child.least.value.key)) changes ≡ changes_before cmp (leasts children) changes
  before_first_part children child changes is = filter_agree (λ change. is_lt (cmp (key_of_change change) child.least.value.key)) (λ change. is_before cmp (key_of_change change) (leasts children)) (λ change. first_decides children child (key_of_change change) is) changes

  pub behind_first_part : (children : List (Child K V T)) (child : Child K V T) (changes : List (Change K V)) → Some child ≡ slice_get children 0 → filter (λ change. not (is_lt (cmp (key_of_change change) child.least.value.key))) changes ≡ changes_behind cmp (leasts children) changes
  behind_first_part children child changes is = filter_agree (λ change. not (is_lt (cmp (key_of_change change) child.least.value.key))) (λ change. not (is_before cmp (key_of_change change) (leasts children))) (λ change. ap not (first_decides children child (key_of_change change) is)) changes

  -- no part, or one change: all are in front
  pub all_in_front : (children : List (Child K V T)) (changes : List (Change K V)) → (children ≡ []) ⊎ (length changes ≤ 1) → AllByRecursion (λ change. is_before cmp (key_of_change change) (leasts children) ≡ true) (take 1 changes)
      → AllByRecursion (λ change. is_before cmp (key_of_change change) (leasts children) ≡ true) changes
  all_in_front children [] few first = tt
  all_in_front children (change ∷ []) few first = (first.0, tt)
  all_in_front [] (change ∷ next ∷ changes) (inl none) first = each (change ∷ next ∷ changes)
    where
      each : (xs : List (Change K V)) → AllByRecursion (λ x. true ≡ true) xs
      each [] = tt
      each (x ∷ xs) = (refl, each xs)
  all_in_front (c ∷ children) (change ∷ next ∷ changes) (inl none) first = absurd (cc)
  all_in_front children (change ∷ next ∷ changes) (inr few) first = absurd (omega arith)

module _ {K V T : Type 0} (pages : T → List (List (K × V))) {cmp : K → K → Ordering} (o : IsTotalOrder cmp) (most : ℕ) where
  -- what isn't less than a key stays so
  later_too : (f c y : K) → cmp f c ≡ Less → is_lt (cmp f y) ≡ false → is_lt (cmp c y) ≡ false
  later_too f c y up least = parts (cmp c y) refl
    where
      parts : (a : Ordering) → cmp c y ≡ a → is_lt (cmp c y) ≡ false
      parts Less p = let e = ap is_lt (o.trans f c y up p) in absurd (cc)
      parts Equal p = ap is_lt p
      parts Greater p = ap is_lt p

  all_behind : (least : K × V) (pairs : List (K × V)) (first : Change K V) (later : List (Change K V)) → IsFirst least pairs → AreRising cmp (first ∷ later) → is_lt (cmp (key_of_change first) least.0) ≡ false
      → AllByRecursion (λ change. is_before cmp (key_of_change change) pairs ≡ false) (first ∷ later)
  all_behind least pairs first later is rising behind = (
    before_first cmp (key_of_change first) least pairs is ∙ behind,
    all_follow _ _ (λ change up. before_first cmp (key_of_change change) least pairs is ∙ later_too (key_of_change first) (key_of_change change) least.0 up behind) later rising.0,
  )

  -- parts in front of the one into which the first change falls stay
  front_stays : (whole : T → Type 0) (front : List (Child K V T)) (back : List (List (K × V))) (least : K × V) (first : Change K V) (later : List (Change K V)) → AreChildren pages whole front → IsRising cmp (pairs_of (pages_of pages front ++ back)) → IsFirst least (pairs_of back)
      → AreRising cmp (first ∷ later) → (front ≡ []) ⊎ (is_lt (cmp (key_of_change first) least.0) ≡ false)
      → pages_changed cmp most (pages_of pages front ++ back) (first ∷ later) ≡ pages_of pages front ++ pages_changed cmp most back (first ∷ later)
  front_stays whole [] back least first later are rising is up place = refl
  front_stays whole (c ∷ front) back least first later are rising is up (inl none) = absurd (cc)
  front_stays whole (c ∷ front) back least first later are rising is up (inr behind) =
      let all = all_behind least (pairs_of back) first later is up behind in
      let some : 0 < length (pages c.part.value) = some_pages (pair_of c.least) (pages c.part.value) are.0.first in
      let long = length-append (pages c.part.value) (pages_of pages front) in
      edited_in_two o most (pages_of pages (c ∷ front)) back (first ∷ later) (omega (arith, some, long)) rising
      ∙ ap (λ own. pages_changed cmp most (pages_of pages (c ∷ front)) own ++ pages_changed cmp most back (changes_behind cmp (pairs_of back) (first ∷ later))) (filter_drops (λ change. is_before cmp (key_of_change change) (pairs_of back)) (first ∷ later) all)
      ∙ ap (λ p. p ++ pages_changed cmp most back (changes_behind cmp (pairs_of back) (first ∷ later))) (none_changed cmp most (pages_of pages (c ∷ front)))
      ∙ ap (λ own. pages_of pages (c ∷ front) ++ pages_changed cmp most back own) (filter_keeps (λ change. not (is_before cmp (key_of_change change) (pairs_of back))) (first ∷ later) (all_follow _ _ (λ change no_. ap not no_) (first ∷ later) all))

  pub edited_around : (whole : T → Type 0) (children front : List (Child K V T)) (child : Child K V T) (rest : List (Child K V T)) (first : Change K V) (later : List (Change K V)) → children ≡ front ++ child ∷ rest → AreChildren pages whole children → IsRising cmp (pairs_of (pages_of pages children))
      → AreRising cmp (first ∷ later) → (front ≡ []) ⊎ (is_lt (cmp (key_of_change first) child.least.value.key) ≡ false)
      → pages_changed cmp most (pages_of pages children) (first ∷ later)
      ≡ pages_of pages front ++ (pages_changed cmp most (pages child.part.value) (changes_before cmp (leasts rest) (first ∷ later)) ++ pages_changed cmp most (pages_of pages rest) (changes_behind cmp (leasts rest) (first ∷ later)))
  edited_around whole children front child rest first later is are rising up place =
      let changes = first ∷ later in
      let all = subst (AreChildren pages whole) is are in
      let here : AreChildren pages whole (child ∷ rest) = all_append_right _ front (child ∷ rest) all in
      let whole_pages : pages_of pages children ≡ pages_of pages front ++ (pages child.part.value ++ pages_of pages rest) = ap (pages_of pages) is ∙ pages_of-append pages front (child ∷ rest) in
      let back = pages child.part.value ++ pages_of pages rest in
      let rising_here : IsRising cmp (pairs_of (pages_of pages front ++ (pages child.part.value ++ pages_of pages rest))) = subst (λ p. IsRising cmp (pairs_of p)) whole_pages rising in
      let rising_back_ = rising_back cmp (pages_of pages children) (pages_of pages front) (pages child.part.value ++ pages_of pages rest) whole_pages rising in
      let first_here = first_in_front (pair_of child.least) (pages child.part.value) (pages_of pages rest) (pages child.part.value ++ pages_of pages rest) refl here.0.first in
      let agree = λ (change : Change K V). before_leasts pages cmp (key_of_change change) whole rest here.1 in
      ap (λ p. pages_changed cmp most p changes) whole_pages
      ∙ front_stays whole front (pages child.part.value ++ pages_of pages rest) (pair_of child.least) first later (all_append_left _ front (child ∷ rest) all) rising_here first_here up place
      ∙ ap (λ p. pages_of pages front ++ p)
      (edited_in_two o most (pages child.part.value) (pages_of pages rest) changes (some_pages (pair_of child.least) (pages child.part.value) here.0.first) rising_back_
      ∙ ap (λ own. pages_changed cmp most (pages child.part.value) own ++ pages_changed cmp most (pages_of pages rest) (changes_behind cmp (pairs_of (pages_of pages rest)) changes))
      (filter_agree (λ change. is_before cmp (key_of_change change) (pairs_of (pages_of pages rest))) (λ change. is_before cmp (key_of_change change) (leasts rest)) agree changes)
      ∙ ap (λ own. pages_changed cmp most (pages child.part.value) (changes_before cmp (leasts rest) changes) ++ pages_changed cmp most (pages_of pages rest) own)
      (filter_agree (λ change. not (is_before cmp (key_of_change change) (pairs_of (pages_of pages rest)))) (λ change. not (is_before cmp (key_of_change change) (leasts rest))) (λ change. ap not (agree change)) changes))

  -- edits made around one part, put behind others
  pub edited_all : (whole : T → Type 0) (children front : List (Child K V T)) (child : Child K V T) (rest : List (Child K V T)) (first : Change K V) (later changes before behind : List (Change K V)) (key : K) (start kept made parts : List (Child K V T)) (part : T)
      → children ≡ front ++ child ∷ rest → AreChildren pages whole children → IsRising cmp (pairs_of (pages_of pages children)) → changes ≡ first ∷ later → AreRising cmp changes → key ≡ key_of_change first → (front ≡ []) ⊎ (is_lt (cmp key child.least.value.key) ≡ false)
      → pages_of pages kept ≡ pages_of pages start ++ pages_of pages front → pages_of pages made ≡ pages_of pages kept ++ pages_of pages parts → pages_of pages parts ≡ pages_changed cmp most (pages part) before → part ≡ child.part.value
      → before ≡ changes_before cmp (leasts rest) changes → behind ≡ changes_behind cmp (leasts rest) changes
      → pages_of pages made ++ pages_changed cmp most (pages_of pages rest) behind ≡ pages_of pages start ++ pages_changed cmp most (pages_of pages children) changes
  edited_all whole children front child rest first later changes before behind key start kept made parts part is are rising at_first up at place in_front then_parts edited same own others =
      let up_here = subst (AreRising cmp) at_first up in
      let place_here = subst (λ k. (front ≡ []) ⊎ (is_lt (cmp k child.least.value.key) ≡ false)) at place in
      let whole_edit : pages_changed cmp most (pages_of pages children) changes ≡ pages_of pages front ++ (pages_changed cmp most (pages child.part.value) (changes_before cmp (leasts rest) changes) ++ pages_changed cmp most (pages_of pages rest) (changes_behind cmp (leasts rest) changes)) =
      subst (λ cs. pages_changed cmp most (pages_of pages children) cs ≡ pages_of pages front ++ (pages_changed cmp most (pages child.part.value) (changes_before cmp (leasts rest) cs) ++ pages_changed cmp most (pages_of pages rest) (changes_behind cmp (leasts rest) cs))) (sym at_first)
      (edited_around whole children front child rest first later is are rising up_here place_here) in
      let own_edit : pages_of pages parts ≡ pages_changed cmp most (pages child.part.value) (changes_before cmp (leasts rest) changes) = edited ∙ ap (λ t. pages_changed cmp most (pages t) before) same ∙ ap (λ cs. pages_changed cmp most (pages child.part.value) cs) own in
      ap (λ p. p ++ pages_changed cmp most (pages_of pages rest) behind) then_parts
      ∙ ap (λ p. (p ++ pages_of pages parts) ++ pages_changed cmp most (pages_of pages rest) behind) in_front
      ∙ ap (λ p. ((pages_of pages start ++ pages_of pages front) ++ p) ++ pages_changed cmp most (pages_of pages rest) behind) own_edit
      ∙ ap (λ cs. ((pages_of pages start ++ pages_of pages front) ++ pages_changed cmp most (pages child.part.value) (changes_before cmp (leasts rest) changes)) ++ pages_changed cmp most (pages_of pages rest) cs) others
      ∙ regroup (pages_of pages start) (pages_of pages front) (pages_changed cmp most (pages child.part.value) (changes_before cmp (leasts rest) changes)) (pages_changed cmp most (pages_of pages rest) (changes_behind cmp (leasts rest) changes))
      ∙ sym (ap (λ p. pages_of pages start ++ p) whole_edit)
    where
      regroup : {X : Type 0} (a b x y : List X) → ((a ++ b) ++ x) ++ y ≡ a ++ (b ++ (x ++ y))
      regroup a b x y = append_assoc (a ++ b) x y ∙ append_assoc a b (x ++ y)

  -- no edit
  pub no_edits : (ps : List (List (K × V))) (edits : List (Edit K V)) → None ≡ slice_get edits 0 → pages_changed cmp most ps (map change_of edits) ≡ ps
  no_edits ps [] is = none_changed cmp most ps
  no_edits ps (e ∷ edits) is = absurd (cc)

  -- edits that are left are edits of parts that are left
  pub some_behind : (rest : List (Child K V T)) (behind : List (Edit K V)) (changes : List (Change K V)) → map change_of behind ≡ changes_behind cmp (leasts rest) changes → (length behind ≡ 0) ⊎ (0 < length rest)
  some_behind [] behind changes is = inl (sym (length-map behind change_of) ∙ ap length (is ∙ all_false changes))
  some_behind (c ∷ rest) behind changes is = inr (omega arith)

module _ {K V T : Type 0} (pages : T → List (List (K × V))) (whole : T → Type 0) (head_of : K → K → ℕ → ℕ) where
  -- a fork as a part
  pub fork_is : (part : Child K V (Node K V T)) (node : Node K V T) (first : Child K V T) → part.part.value ≡ node → part.least.value ≡ first.least.value → Some first ≡ slice_get node.children.items 0 → AreKept pages whole head_of node.base.value.key node.skip node.children.items
      → part.count.pages ≡ length (pages_of pages node.children.items) → part.count.pairs ≡ length (pairs_of (pages_of pages node.children.items)) → IsChild (node_pages pages) (IsNode pages head_of whole) part
  fork_is part node first is least at kept page_count pair_count =
      let list = first_of node.children.items first at in
      let long : 0 < length node.children.items = subst (λ l. 0 < length l) (sym list) (omega arith) in
      let are = subst (AreChildren pages whole) list kept.are in
      let first_pair : IsFirst (pair_of first.least) (pairs_of (pages_of pages node.children.items)) = first_in_front (pair_of first.least) (pages first.part.value) (pages_of pages (drop 1 node.children.items)) (pages_of pages node.children.items) (ap (pages_of pages) list) are.0.first in
      record {
        part = subst (IsNode pages head_of whole) (sym is) (record { some = long; kept = kept });
        first = subst (λ e. IsFirst (e.key, e.value) (pairs_of (node_pages pages part.part.value))) (sym least) (subst (λ n. IsFirst (pair_of first.least) (pairs_of (node_pages pages n))) (sym is) first_pair);
        page_count = page_count ∙ ap (λ n. length (node_pages pages n)) (sym is);
        pair_count = pair_count ∙ ap (λ n. length (pairs_of (node_pages pages n))) (sym is);
      }

  -- a fork behind others
  pub forks_pushed : (nodes after : List (Child K V (Node K V T))) (part : Child K V (Node K V T)) (node : Node K V T) (first : Child K V T) → AreChildren (node_pages pages) (IsNode pages head_of whole) nodes → after ≡ nodes ++ part ∷ [] → part.part.value ≡ node → part.least.value ≡ first.least.value
      → Some first ≡ slice_get node.children.items 0 → AreKept pages whole head_of node.base.value.key node.skip node.children.items → part.count.pages ≡ length (pages_of pages node.children.items) → part.count.pairs ≡ length (pairs_of (pages_of pages node.children.items))
      → AreChildren (node_pages pages) (IsNode pages head_of whole) after
  forks_pushed nodes after part node first are pushed is least at kept page_count pair_count =
      subst (AreChildren (node_pages pages) (IsNode pages head_of whole)) (sym pushed) (all_append _ nodes (part ∷ []) are (fork_is part node first is least at kept page_count pair_count, tt))

  pub fork_pages : (nodes after : List (Child K V (Node K V T))) (part : Child K V (Node K V T)) (children : List (Child K V T)) → after ≡ nodes ++ part ∷ [] → part.part.value.children.items ≡ children
      → pages_of (node_pages pages) after ≡ pages_of (node_pages pages) nodes ++ pages_of pages children
  fork_pages nodes after part children pushed is = ap (pages_of (node_pages pages)) pushed ∙ pages_of-push (node_pages pages) nodes part ∙ ap (λ cs. pages_of (node_pages pages) nodes ++ pages_of pages cs) is
