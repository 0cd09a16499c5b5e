-- The pages of parts that stand side by side, and of forks of them.
use Rattle.std.specs.Prelude.{◌≡◌, ℕ, ◌<◌, List, [], ◌∷◌, ◌++◌, length, map, Some, slice_get}
use Rattle.std.specs.List.{AllByRecursion}
use Rattle.std.specs.declared.sync.Arc.{Arc}
use Rattle.std.specs.declared.alloc.Global.{Global}
use Rattle.ix_pages.specs.declared.page.Entry.{Entry}
use Rattle.ix_pages.specs.declared.part.Child.{Child}
use Rattle.ix_pages.specs.declared.part.Leaf.{Leaf}
use Rattle.ix_pages.specs.declared.node.Node.{Node}
use Rattle.ix_pages.specs.Paging.{pairs_of}

module _ {K V : Type 0} where
  -- a pair of the map
  abbrev pub pair_of : Arc (Entry K V) Global → K × V
  pair_of entry = (entry.value.key, entry.value.value)

  -- the first of some pairs
  abbrev pub IsFirst : K × V → List (K × V) → Type 0
  IsFirst first pairs = slice_get pairs 0 ≡ Some first

  -- a page alone
  abbrev pub leaf_pages : Leaf K V → List (List (K × V))
  leaf_pages leaf = map pair_of leaf.entries.items ∷ []

  abbrev pub IsLeaf : Leaf K V → Type 0
  IsLeaf leaf = 0 < length leaf.entries.items

module _ {K V T : Type 0} where
  -- the first pairs that some parts are known by
  abbrev pub leasts : List (Child K V T) → List (K × V)
  leasts children = map (λ child. pair_of child.least) children

  -- the head of each part is that of its first pair's key
  abbrev pub HaveHeads : (K → K → ℕ → ℕ) → K → ℕ → List (Child K V T) → Type 0
  HaveHeads head_of base skip children = AllByRecursion (λ child. child.head ≡ head_of child.least.value.key base skip) children

  -- the same part once more
  pub record IsSameChild (copy child : Child K V T) : Type 0 where
    pub head : copy.head ≡ child.head
    pub least : copy.least.value ≡ child.least.value
    pub part : copy.part.value ≡ child.part.value
    pub count : copy.count ≡ child.count

module _ {K V T : Type 0} (pages : T → List (List (K × V))) where
  -- the pages of some parts, from left to right
  abbrev pub pages_of : List (Child K V T) → List (List (K × V))
  pages_of [] = []
  pages_of (child ∷ children) = pages child.part.value ++ pages_of children

  abbrev pub node_pages : Node K V T → List (List (K × V))
  node_pages node = pages_of node.children.items

  -- a part, its first pair, and how many pages and pairs it has
  pub record IsChild (whole : T → Type 0) (child : Child K V T) : Type 0 where
    pub part : whole child.part.value
    pub first : IsFirst (pair_of child.least) (pairs_of (pages child.part.value))
    pub page_count : child.count.pages ≡ length (pages child.part.value)
    pub pair_count : child.count.pairs ≡ length (pairs_of (pages child.part.value))

  abbrev pub AreChildren : (T → Type 0) → List (Child K V T) → Type 0
  AreChildren whole children = AllByRecursion (IsChild whole) children

  -- such parts, with heads by this base and skip
  pub record AreKept (whole : T → Type 0) (head_of : K → K → ℕ → ℕ) (base : K) (skip : ℕ) (children : List (Child K V T)) : Type 0 where
    pub are : AreChildren whole children
    pub heads : HaveHeads head_of base skip children

  -- a fork has a part, and the heads of its parts are made by its own base and skip
  pub record IsNode (head_of : K → K → ℕ → ℕ) (whole : T → Type 0) (node : Node K V T) : Type 0 where
    pub some : 0 < length node.children.items
    pub kept : AreKept whole head_of node.base.value.key node.skip node.children.items
