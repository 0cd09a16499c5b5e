-- What a map's root keeps.
use Rattle.std.proofs.Common.{◌≡◌, ℕ, suc, ◌+◌, ◌≤◌, List, [], ◌∷◌, ◌++◌, length, Option, Some, None, refl, sym, ◌∙◌, ap, subst, arith}
use Rattle.std.specs.declared.cmp.Ordering.{Ordering}
use Rattle.std.specs.Cmp.{IsTotalOrder}
use Rattle.std.proofs.lemmas.List.{append-nil, length-append}
use Rattle.ix_pages.specs.declared.part.Child.{Child}
use Rattle.ix_pages.specs.declared.part.Leaf.{Leaf}
use Rattle.ix_pages.specs.declared.node.Node.{Node}
use Rattle.ix_pages.specs.declared.root.Root.{Root}
use Rattle.ix_pages.specs.declared.root.Root.TheVariants.{One, Two, Three, Four}
use Rattle.ix_pages.specs.Tree.{pages_of, IsChild, AreChildren}
use Rattle.ix_pages.specs.declared.changes.Change.{Change}
use Rattle.ix_pages.specs.Paging.{ArePages}
use Rattle.ix_pages.specs.Changes.{AreRising, pages_changed}
use Rattle.ix_pages.specs.Roots.{pages_in, IsRestOf, IsRoot, first_pages, second_pages, third_pages, fourth_pages, IsFirstNode, IsSecondNode, IsThirdNode, IsFourthNode}
use Rattle.ix_pages.proofs.OneGo.{are_pages_changed}

module _ {K V : Type 0} {cmp : K → K → Ordering} (o : IsTotalOrder cmp) (head_of : K → K → ℕ → ℕ) where
  pub root_changed : (most : ℕ) (root rest : Option (Root K V)) (changes : List (Change K V)) → IsRoot head_of cmp most root → AreRising cmp changes → IsRestOf head_of rest (pages_changed cmp most (pages_in root) changes) → IsRoot head_of cmp most rest
  root_changed most root rest changes old up next = record {
    room = old.room;
    whole = next.whole;
    pages = subst (ArePages cmp most) (sym next.is) (are_pages_changed o most (pages_in root) changes (omega (arith, old.room)) up old.pages);
  }

-- what is popped of at most one part
pub record IsAlone {K V T : Type 0} (pages : T → List (List (K × V))) (whole : T → Type 0) (nodes : List (Child K V T)) (child : Child K V T) : Type 0 where
  pub part : IsChild pages whole child
  pub is : pages child.part.value ≡ pages_of pages nodes

module _ {K V T : Type 0} (pages : T → List (List (K × V))) (whole : T → Type 0) where
  pub popped : (nodes left : List (Child K V T)) (child : Child K V T) → nodes ≡ left ++ child ∷ [] → length nodes ≤ 1 → AreChildren pages whole nodes → IsAlone pages whole nodes child
  popped nodes [] child is few are = record {
    part = (subst (AreChildren pages whole) is are).0;
    is = sym (ap (pages_of pages) is ∙ append-nil (pages child.part.value));
  }
  popped nodes (x ∷ left) child is few are =
      let long : length nodes ≡ suc (length (left ++ child ∷ [])) = ap length is in
      let two = length-append left (child ∷ []) in
      absurd (omega (arith, long, two, few))

module _ {K V : Type 0} (head_of : K → K → ℕ → ℕ) where
  pub none_rest : {T : Type 0} (pages : T → List (List (K × V))) (nodes : List (Child K V T)) → length nodes ≡ 0 → IsRestOf head_of None (pages_of pages nodes)
  none_rest pages [] none = record { whole = tt; is = refl }
  none_rest pages (x ∷ nodes) none = absurd (omega (arith, none))

  pub first_rest : (nodes left : List (Child K V (Node K V (Leaf K V)))) (child : Child K V (Node K V (Leaf K V))) → nodes ≡ left ++ child ∷ [] → length nodes ≤ 1 → AreChildren first_pages (IsFirstNode head_of) nodes
      → IsRestOf head_of (Some (One child)) (pages_of first_pages nodes)
  first_rest nodes left child is few are = let alone = popped first_pages (IsFirstNode head_of) nodes left child is few are in record { whole = alone.part; is = alone.is }

  pub second_rest : (nodes left : List (Child K V (Node K V (Node K V (Leaf K V))))) (child : Child K V (Node K V (Node K V (Leaf K V)))) → nodes ≡ left ++ child ∷ [] → length nodes ≤ 1 → AreChildren second_pages (IsSecondNode head_of) nodes
      → IsRestOf head_of (Some (Two child)) (pages_of second_pages nodes)
  second_rest nodes left child is few are = let alone = popped second_pages (IsSecondNode head_of) nodes left child is few are in record { whole = alone.part; is = alone.is }

  pub third_rest : (nodes left : List (Child K V (Node K V (Node K V (Node K V (Leaf K V)))))) (child : Child K V (Node K V (Node K V (Node K V (Leaf K V))))) → nodes ≡ left ++ child ∷ [] → length nodes ≤ 1 → AreChildren third_pages (IsThirdNode head_of) nodes
      → IsRestOf head_of (Some (Three child)) (pages_of third_pages nodes)
  third_rest nodes left child is few are = let alone = popped third_pages (IsThirdNode head_of) nodes left child is few are in record { whole = alone.part; is = alone.is }

  pub fourth_rest : (nodes left : List (Child K V (Node K V (Node K V (Node K V (Node K V (Leaf K V))))))) (child : Child K V (Node K V (Node K V (Node K V (Node K V (Leaf K V)))))) → nodes ≡ left ++ child ∷ [] → length nodes ≤ 1 → AreChildren fourth_pages (IsFourthNode head_of) nodes
      → IsRestOf head_of (Some (Four child)) (pages_of fourth_pages nodes)
  fourth_rest nodes left child is few are = let alone = popped fourth_pages (IsFourthNode head_of) nodes left child is few are in record { whole = alone.part; is = alone.is }
