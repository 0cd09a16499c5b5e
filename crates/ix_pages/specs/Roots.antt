-- All pages of a map, under forks of the height that is needed.
use Rattle.std.specs.Prelude.{◌≡◌, ℕ, ◌≤◌, List, [], length, Option, Some, None}
use Rattle.std.specs.declared.cmp.Ordering.{Ordering}
use Rattle.ix_pages.specs.declared.node.Node.{Node}
use Rattle.ix_pages.specs.declared.part.Leaf.{Leaf}
use Rattle.ix_pages.specs.declared.root.Root.{Root}
use Rattle.ix_pages.specs.declared.root.Root.TheVariants.{One, Two, Three, Four}
use Rattle.ix_pages.specs.Paging.{ArePages}
use Rattle.ix_pages.specs.Tree.{leaf_pages, IsLeaf, node_pages, IsChild, IsNode}

module _ {K V : Type 0} where
  abbrev pub first_pages : Node K V (Leaf K V) → List (List (K × V))
  first_pages = node_pages leaf_pages

  abbrev pub second_pages : Node K V (Node K V (Leaf K V)) → List (List (K × V))
  second_pages = node_pages first_pages

  abbrev pub third_pages : Node K V (Node K V (Node K V (Leaf K V))) → List (List (K × V))
  third_pages = node_pages second_pages

  abbrev pub fourth_pages : Node K V (Node K V (Node K V (Node K V (Leaf K V)))) → List (List (K × V))
  fourth_pages = node_pages third_pages

  -- the pages of all, from left to right
  abbrev pub pages_under : Root K V → List (List (K × V))
  pages_under (One child) = first_pages child.part.value
  pages_under (Two child) = second_pages child.part.value
  pages_under (Three child) = third_pages child.part.value
  pages_under (Four child) = fourth_pages child.part.value

  abbrev pub pages_in : Option (Root K V) → List (List (K × V))
  pages_in None = []
  pages_in (Some root) = pages_under root

module _ {K V : Type 0} (head_of : K → K → ℕ → ℕ) where
  abbrev pub IsFirstNode : Node K V (Leaf K V) → Type 0
  IsFirstNode = IsNode leaf_pages head_of IsLeaf

  abbrev pub IsSecondNode : Node K V (Node K V (Leaf K V)) → Type 0
  IsSecondNode = IsNode first_pages head_of IsFirstNode

  abbrev pub IsThirdNode : Node K V (Node K V (Node K V (Leaf K V))) → Type 0
  IsThirdNode = IsNode second_pages head_of IsSecondNode

  abbrev pub IsFourthNode : Node K V (Node K V (Node K V (Node K V (Leaf K V)))) → Type 0
  IsFourthNode = IsNode third_pages head_of IsThirdNode

  -- the highest fork is as it should be, and its first pair and numbers are known
  abbrev pub IsWhole : Root K V → Type 0
  IsWhole (One child) = IsChild first_pages IsFirstNode child
  IsWhole (Two child) = IsChild second_pages IsSecondNode child
  IsWhole (Three child) = IsChild third_pages IsThirdNode child
  IsWhole (Four child) = IsChild fourth_pages IsFourthNode child

  abbrev pub IsWholeIn : Option (Root K V) → Type 0
  IsWholeIn None = Unit {0}
  IsWholeIn (Some root) = IsWhole root

  -- what is left has these pages
  pub record IsRestOf (rest : Option (Root K V)) (pages : List (List (K × V))) : Type 0 where
    pub whole : IsWholeIn rest
    pub is : pages_in rest ≡ pages

  -- the root of a map whose pages have at most so many pairs
  pub record IsRoot (cmp : K → K → Ordering) (most : ℕ) (root : Option (Root K V)) : Type 0 where
    pub room : 4 ≤ most
    pub whole : IsWholeIn root
    pub pages : ArePages cmp most (pages_in root)
