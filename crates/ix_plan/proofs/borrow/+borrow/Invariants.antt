use Rattle.std.proofs.Common.{◌≡◌, List, ◌++◌, take, map}
use Rattle.serde_json.specs.View as owned
use Rattle.serde_json.proofs.Views.{Entry}
use Rattle.ix_plan.specs.View.{view, members_view}
use Rattle.ix_plan.proofs.borrow.+borrow.Given as goal

abbrev pub invariant-borrow_items-loop-item : goal.invariant-borrow_items-loop-item
invariant-borrow_items-loop-item l = map view l.found.items ≡ map owned.view (take l.item-index l.item-items)

abbrev pub invariant-borrow_members-loop-name : goal.invariant-borrow_members-loop-name
invariant-borrow_members-loop-name l =
    (done : List Entry) × (l.members.entries ≡ done ++ l.name-iterator) × (members_view l.found.items ≡ owned.members_view done)
