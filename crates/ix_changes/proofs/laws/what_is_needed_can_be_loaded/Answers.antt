use Rattle.ix_changes.proofs.Looking.{needed_stands, stands_whole, same_value, on_disk}
use Rattle.ix_changes.proofs.laws.what_is_needed_can_be_loaded.Goals as goal

pub returns-clause-whole : goal.returns-clause-whole
returns-clause-whole c name_of s shelf moves units name holds stand needed =
    let there = needed_stands name_of s.records name units stand needed in
    stands_whole name_of s moves (on_disk name_of s shelf moves holds) name there.0 there.1

pub returns-clause-value : goal.returns-clause-value
returns-clause-value c name_of s shelf moves name value expected holds stands loaded = same_value name_of s moves (on_disk name_of s shelf moves holds) name c.given_looks.ensures value expected stands loaded
