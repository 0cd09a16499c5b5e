-- Items by name.
use Rattle.std.specs.Prelude.{ℕ, List}
use Rattle.ix_tables.specs.declared.mover.Item.{Item}
use Rattle.ix_tables.specs.Sharing.{shared_value}

-- an item as a pair
abbrev pub item_of : {T : Type 0} → Item T → List ℕ × T
item_of item = (item.name, shared_value item.value)
