-- What is in a set of USRs.
use Rattle.std.proofs.Common.{◌≡◌, ℕ, Bool, true, false, cond, not, ◌||◌, if◌then◌else◌, List, [], ◌∷◌, ◌++◌, length, map, filter, take, get_or, refl, sym, ap, ◌∙◌, ◌+◌, ◌<◌, append-nil}
use Rattle.std.specs.List.{list_any}
use Rattle.std.specs.Ordering.{match_ordering}
use Rattle.std.specs.BTreeMap.{is_at}
use Rattle.std.specs.BTreeSet.{insert_key}
use Rattle.std.specs.Str.{bytes_eq}
use Rattle.std.specs.Cmp.Lexicographic.{nat_list_eq_equiv}
use Rattle.std.proofs.lemmas.Map.Text.{is_eq-slice_cmp}
use Rattle.std.proofs.lemmas.List.{map-append, take_more}
use Rattle.std.proofs.lemmas.List.Elements.{filter-append}
use Rattle.std.proofs.lemmas.List.Sums.{fold_push}
use Rattle.ix_types.specs.Row.{text_cmp}
use Rattle.ix_types.specs.declared.row.EdgeRow.{EdgeRow}
use Rattle.ix_model.specs.SortedSet.{add_once, sorted_set}
use Rattle.ix_answers.specs.Lookups.{is_among}
use Rattle.ix_levels.specs.Levels.{fresh_ends}

pub insert-adds : (k : List ℕ) (ks : List (List ℕ)) → insert_key text_cmp ks k ≡ add_once text_cmp k ks
insert-adds k [] = refl
insert-adds k (x ∷ xs) = ap (λ (rest : List (List ℕ)). match_ordering (text_cmp k x) (k ∷ x ∷ xs) (x ∷ xs) (x ∷ rest)) (insert-adds k xs)

-- whether a key compares equal to the query, and whether it is the query
pub at-is : (usr key : List ℕ) → is_at (text_cmp usr) key ≡ bytes_eq key usr
at-is usr key = is_eq-slice_cmp usr key ∙ nat_list_eq_equiv.symm usr key

pub contains-among : (usr : List ℕ) (keys : List (List ℕ)) → list_any (is_at (text_cmp usr)) keys ≡ is_among keys usr
contains-among usr [] = refl
contains-among usr (key ∷ keys) = λ i. at-is usr key i || contains-among usr keys i

cond-or : (b c : Bool) → cond b true c ≡ (b || c)
cond-or true c = refl
cond-or false c = refl

-- what is in a set after an insertion
pub inserted-among : (usr : List ℕ) (before after : List (List ℕ)) → ((other : List ℕ) → list_any (is_at (text_cmp other)) after ≡ cond (is_at (text_cmp usr) other) true (list_any (is_at (text_cmp other)) before))
    → (other : List ℕ) → is_among after other ≡ (bytes_eq usr other || is_among before other)
inserted-among usr before after updates other =
    sym (contains-among other after)
    ∙ (updates other
    ∙ ((λ i. cond (is_eq-slice_cmp usr other i) true (contains-among other before i)) ∙ cond-or (bytes_eq usr other) (is_among before other)))

-- ---- a level that is put into a set, USR by USR

-- seen, one more USR and what is left
moved : (seen usr rest : Bool) → ((usr || seen) || rest) ≡ (seen || (usr || rest))
moved true true rest = refl
moved true false rest = refl
moved false true rest = refl
moved false false rest = refl

pub one-moved : (usr other : List ℕ) (before after left rest : List (List ℕ)) → ((q : List ℕ) → is_among after q ≡ (bytes_eq usr q || is_among before q)) → left ≡ usr ∷ rest
    → (is_among after other || is_among rest other) ≡ (is_among before other || is_among left other)
one-moved usr other before after left rest put is =
    (λ i. put other i || is_among rest other) ∙ (moved (is_among before other) (bytes_eq usr other) (is_among rest other) ∙ (λ i. is_among before other || is_among (sym is i) other))

shrinks : (usr rest level : Bool) → ((usr || rest) || level) ≡ level → (rest || level) ≡ level
shrinks true true true e = refl
shrinks true false true e = refl
shrinks true rest false e = absurd (cc)
shrinks false rest level e = e

pub one-left : (usr other : List ℕ) (left rest level : List (List ℕ)) → left ≡ usr ∷ rest → (is_among left other || is_among level other) ≡ is_among level other → (is_among rest other || is_among level other) ≡ is_among level other
one-left usr other left rest level is e = shrinks (bytes_eq usr other) (is_among rest other) (is_among level other) ((λ i. is_among (sym is i) other || is_among level other) ∙ e)

-- what was met stays met, whatever is left
stays : (seen rest before level : Bool) → (seen || rest) ≡ (before || level) → (rest || level) ≡ level → (seen || level) ≡ (before || level)
stays true rest before level e f = e
stays false true true true e f = refl
stays false true true false e f = absurd (cc)
stays false true false true e f = refl
stays false true false false e f = absurd (cc)
stays false false true level e f = absurd (cc)
stays false false false true e f = refl
stays false false false false e f = refl

pub met-stays : (seen rest before level : List (List ℕ)) (usr : List ℕ) → (is_among seen usr || is_among rest usr) ≡ (is_among before usr || is_among level usr) → (is_among rest usr || is_among level usr) ≡ is_among level usr
    → (is_among seen usr || is_among level usr) ≡ (is_among before usr || is_among level usr)
met-stays seen rest before level usr e f = stays (is_among seen usr) (is_among rest usr) (is_among before usr) (is_among level usr) e f

or_none : (b : Bool) → (b || false) ≡ b
or_none true = refl
or_none false = refl

pub all-moved : (seen rest before level : List (List ℕ)) (usr : List ℕ) → rest ≡ [] → (is_among seen usr || is_among rest usr) ≡ (is_among before usr || is_among level usr) → is_among seen usr ≡ (is_among before usr || is_among level usr)
all-moved seen rest before level usr none e = sym (or_none (is_among seen usr)) ∙ ((λ i. is_among seen usr || is_among (sym none i) usr) ∙ e)

-- ---- ends of edges that weren't seen

one_end : (seen : List (List ℕ)) (usr : List ℕ) (set : List (List ℕ)) (items : List (List ℕ)) → set ≡ sorted_set text_cmp items
    → (if is_among seen usr then set else add_once text_cmp usr set) ≡ sorted_set text_cmp (items ++ filter (λ (other : List ℕ). not (is_among seen other)) (usr ∷ []))
one_end seen usr set items is =
    elim (is_among seen usr) as (λ b. (if b then set else add_once text_cmp usr set) ≡ sorted_set text_cmp (items ++ cond (not b) (usr ∷ []) [])) [
      | true ↦ is ∙ ap (sorted_set text_cmp) (sym (append-nil items))
      | false ↦ ap (add_once text_cmp usr) is ∙ sym (fold_push (λ set x. add_once text_cmp x set) [] items usr)
    ]

pub one-more-end : (seen : List (List ℕ)) (edges : List EdgeRow) (i : ℕ) (e : EdgeRow) → i < length edges → e ≡ get_or edges i e → (before after : List (List ℕ)) → before ≡ fresh_ends seen (take i edges)
    → after ≡ (if is_among seen e.to then before else add_once text_cmp e.to before) → after ≡ fresh_ends seen (take (i + 1) edges)
one-more-end seen edges i e within is before after so_far step =
    let taken : take (i + 1) edges ≡ take i edges ++ e ∷ [] = take_more edges i e within ∙ ap (λ (x : EdgeRow). take i edges ++ x ∷ []) (sym is) in
    let ends : map (λ (x : EdgeRow). x.to) (take i edges ++ e ∷ []) ≡ map (λ (x : EdgeRow). x.to) (take i edges) ++ e.to ∷ [] = map-append (λ (x : EdgeRow). x.to) (take i edges) (e ∷ []) in
    step
    ∙ (one_end seen e.to before (filter (λ (other : List ℕ). not (is_among seen other)) (map (λ (x : EdgeRow). x.to) (take i edges))) so_far
    ∙ (ap (sorted_set text_cmp) (sym (filter-append (λ (other : List ℕ). not (is_among seen other)) (map (λ (x : EdgeRow). x.to) (take i edges)) (e.to ∷ [])))
    ∙ (ap (λ (us : List (List ℕ)). sorted_set text_cmp (filter (λ (other : List ℕ). not (is_among seen other)) us)) (sym ends)
    ∙ ap (fresh_ends seen) (sym taken))))

pub no_items : {X : Type 0} (xs : List X) → length xs ≡ 0 → xs ≡ []
no_items [] e = refl
no_items (x ∷ xs) e = absurd (cc)
