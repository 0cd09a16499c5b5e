-- Values that are shared, seen as themselves.
use Rattle.std.specs.Prelude.{ℕ, List, map}
use Rattle.std.specs.declared.sync.Arc.{Arc}
use Rattle.std.specs.declared.alloc.Global.{Global}
use Rattle.ix_pages.specs.Paging.{pairs_of}

module _ {T : Type 0} where
  abbrev pub shared_value : Arc T Global → T
  shared_value value = value.value

  abbrev pub shared_entry : List ℕ × Arc T Global → List ℕ × T
  shared_entry entry = (entry.0, shared_value entry.1)

  -- the pairs of some pages
  abbrev pub opened : List (List (List ℕ × Arc T Global)) → List (List ℕ × T)
  opened pages = map shared_entry (pairs_of pages)
