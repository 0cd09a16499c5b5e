use Rattle.ix_changes.proofs.Looking.{stamps_now, stamps_stay, on_disk}
use Rattle.ix_changes.proofs.laws.stamps_are_of_units.Goals as goal

pub returns-clause-now : goal.returns-clause-now
returns-clause-now c name_of s shelf moves holds = stamps_now name_of s moves (on_disk name_of s shelf moves holds)

pub returns-clause-stay : goal.returns-clause-stay
returns-clause-stay c name_of units stamps before now are adds = stamps_stay name_of units stamps before now are adds
