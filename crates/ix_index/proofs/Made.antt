-- The changes of each part are, one behind the other, those of all steps.
use Rattle.std.proofs.Common.{◌≡◌, ℕ, ◌+◌, ◌-◌, List, [], ◌++◌, map, refl, sym, ap, subst, ◌∙◌, append_assoc}
use Rattle.std.specs.List.{AllByRecursion, sum_by}
use Rattle.std.specs.declared.cmp.Ordering.{Ordering}
use Rattle.std.specs.Cmp.{IsTotalOrder}
use Rattle.std.proofs.lemmas.List.{map-append}
use Rattle.ix_pages.specs.declared.changes.Change.{Change}
use Rattle.ix_pages.specs.Changes.{changed, AreRising}
use Rattle.ix_index.specs.declared.parts.Parts.{Parts}
use Rattle.ix_index.specs.declared.revisions.Revision.{Revision}
use Rattle.ix_index.specs.declared.steps.Step.{Step}
use Rattle.ix_index.specs.Counted.{count_of, IsIndex}
use Rattle.ix_index.specs.Recounting.{all_revised, change_made, AreRecounts, AreRevisions}
use Rattle.ix_index.specs.Stepping.{gains_of, losses_of}
use Rattle.ix_index.specs.Dealing.{Dealt, Sides, dealt_of, steps_of, AreApart, AreNetBehind}
use Rattle.ix_index.specs.Making.{AreMadeBehind}
use Rattle.ix_index.proofs.Revising.{recounts_of, changes_rise, revised_pages, index_all_revised, count_all_revised}
use Rattle.ix_index.proofs.Joined.{joined, alone, all_net}

module _ {K V : Type 0} {kcmp : K → K → Ordering} {vcmp : V → V → Ordering} (ok : IsTotalOrder kcmp) (ov : IsTotalOrder vcmp) (index : List (K × List (V × ℕ))) where
  -- one part
  pub part_made : (steps : List (Step K V)) (none revisions : List (Revision K V)) (before after : List (Change K (List (V × ℕ)))) → AreNetBehind kcmp vcmp steps none revisions → none ≡ []
      → (AllByRecursion (λ r. AreRecounts vcmp r.recounts) revisions → after ≡ before ++ map (change_made kcmp vcmp index) revisions)
      → AreMadeBehind kcmp vcmp index steps before after
  part_made steps none revisions before after net empty made =
      let same = alone ok ov steps none revisions net empty in
      record {
        more = net.more;
        is = made (recounts_of vcmp ok revisions (subst (λ rs. AreRevisions kcmp vcmp rs) (sym same) net.nets.rise))
            ∙ ap (λ (rs : List (Revision K V)). before ++ map (change_made kcmp vcmp index) rs) same;
        nets = net.nets;
      }

  -- two sides of a key
  sides_made : (l r : Dealt K V) (k : K) (before mid after : List (Change K (List (V × ℕ)))) → AreApart kcmp (Sides l k r)
      → (AreApart kcmp l → AreMadeBehind kcmp vcmp index (steps_of l) before mid) → (AreApart kcmp r → AreMadeBehind kcmp vcmp index (steps_of r) mid after)
      → AreMadeBehind kcmp vcmp index (steps_of (Sides l k r)) before after
  sides_made l r k before mid after apart first second =
      let one = first apart.2 in
      let two = second apart.3 in
      record {
        more = one.more ++ two.more;
        is = two.is ∙ ap (λ (xs : List (Change K (List (V × ℕ)))). xs ++ map (change_made kcmp vcmp index) two.more) one.is
            ∙ append_assoc before (map (change_made kcmp vcmp index) one.more) (map (change_made kcmp vcmp index) two.more)
            ∙ ap (λ (xs : List (Change K (List (V × ℕ)))). before ++ xs) (sym (map-append (change_made kcmp vcmp index) one.more two.more));
        nets = joined ok ov k (steps_of l) (steps_of r) one.more two.more apart.0 apart.1 one.nets two.nets;
      }

  -- the same of parts at hand
  pub cut_made : (parts l r left right : Parts K V) (k : K) (before mid after : List (Change K (List (V × ℕ)))) → dealt_of parts ≡ Sides (dealt_of left) k (dealt_of right) → l ≡ left → r ≡ right
      → (AreApart kcmp (dealt_of l) → AreMadeBehind kcmp vcmp index (steps_of (dealt_of l)) before mid) → (AreApart kcmp (dealt_of r) → AreMadeBehind kcmp vcmp index (steps_of (dealt_of r)) mid after)
      → AreApart kcmp (dealt_of parts) → AreMadeBehind kcmp vcmp index (steps_of (dealt_of parts)) before after
  cut_made parts l r left right k before mid after is l_is r_is first second apart =
      subst (λ (d : Dealt K V). AreMadeBehind kcmp vcmp index (steps_of d) before after) (sym is)
      (sides_made (dealt_of left) (dealt_of right) k before mid after (subst (AreApart kcmp) is apart)
      (subst (λ (p : Parts K V). AreApart kcmp (dealt_of p) → AreMadeBehind kcmp vcmp index (steps_of (dealt_of p)) before mid) l_is first)
      (subst (λ (p : Parts K V). AreApart kcmp (dealt_of p) → AreMadeBehind kcmp vcmp index (steps_of (dealt_of p)) mid after) r_is second))

  -- ---- all parts

  pub made_alone : (all : List (Step K V)) (before after : List (Change K (List (V × ℕ)))) (net : AreMadeBehind kcmp vcmp index all before after) → before ≡ [] → after ≡ map (change_made kcmp vcmp index) net.more
  made_alone all before after net empty = net.is ∙ ap (λ (xs : List (Change K (List (V × ℕ)))). xs ++ map (change_made kcmp vcmp index) net.more) empty

  pub made_rise : (all : List (Step K V)) (before after : List (Change K (List (V × ℕ)))) → AreMadeBehind kcmp vcmp index all before after → before ≡ [] → AreRising kcmp after
  made_rise all before after net empty = subst (AreRising kcmp) (sym (made_alone all before after net empty)) (changes_rise vcmp ok index net.more net.nets.rise)

  -- what the pages with these changes stand for
  made_pages : (all : List (Step K V)) (before after : List (Change K (List (V × ℕ)))) (pages : List (K × List (V × ℕ))) (net : AreMadeBehind kcmp vcmp index all before after) → before ≡ []
      → pages ≡ changed kcmp index after → pages ≡ all_revised kcmp vcmp index net.more
  made_pages all before after pages net empty is =
      revised_pages vcmp ok index pages after net.more net.nets.rise (λ rise. made_alone all before after net empty) is

  pub made_index : (all : List (Step K V)) (before after : List (Change K (List (V × ℕ)))) (pages : List (K × List (V × ℕ))) → AreMadeBehind kcmp vcmp index all before after → before ≡ []
      → pages ≡ changed kcmp index after → IsIndex kcmp vcmp index → IsIndex kcmp vcmp pages
  made_index all before after pages net empty is whole =
      subst (IsIndex kcmp vcmp) (sym (made_pages all before after pages net empty is)) (index_all_revised ok ov index net.more whole)

  pub made_counts : (steps all : List (Step K V)) (before after : List (Change K (List (V × ℕ)))) (pages : List (K × List (V × ℕ))) → AreMadeBehind kcmp vcmp index all before after → before ≡ []
      → pages ≡ changed kcmp index after → IsIndex kcmp vcmp index → ((measure : Step K V → ℕ) → sum_by measure all ≡ sum_by measure steps)
      → (key : K) (value : V) → count_of kcmp vcmp pages key value ≡ count_of kcmp vcmp index key value + gains_of kcmp vcmp steps key value - losses_of kcmp vcmp steps key value
  made_counts steps all before after pages net empty is whole same key value =
      ap (λ now. count_of kcmp vcmp now key value) (made_pages all before after pages net empty is)
      ∙ count_all_revised ok ov index net.more key value whole net.nets.rise
      ∙ all_net ok ov steps all [] net.more (record { more = net.more; is = refl; nets = net.nets }) refl same (count_of kcmp vcmp index key value) key value
