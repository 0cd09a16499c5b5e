-- What the laws on first faults speak of: one thing that is read after another, and items behind items.
use Rattle.serde_json.specs.Data.{Items, no_items, item}
use Rattle.ix_plan.specs.Read.{Read, ◌>>=◌}

-- one thing is read, and then the next
abbrev pub read_then : {A B : Type 0} → Read A → (A → Read B) → Read B
read_then read next = read >>= next

-- the items of a list, and then more
abbrev pub then_items : Items → Items → Items
then_items no_items more = more
then_items (item d ds) more = item d (then_items ds more)
