use Rattle.std.proofs.Common.{sym}
use Rattle.ix_dir.proofs.SortedIsAMap.{lists_ok}
use Rattle.ix_dir.proofs.file_index.FileIndex.list.Goals as goal

pub returns-in-Units-clause-listed : goal.returns-in-Units-clause-listed
returns-in-Units-clause-listed c =
    let e = c.sorted_list.ensures in
    rw c.in-Units.is (lists_ok c.sorted_list.result _ c.args.self.now _ (λ q. sym (e.numbers q)) e.rows e.sorted e.unique)

pub returns-in-Records-clause-listed : goal.returns-in-Records-clause-listed
returns-in-Records-clause-listed c =
    let e = c.sorted_list-in-Records.ensures in
    rw c.in-Records.is (lists_ok c.sorted_list-in-Records.result _ c.args.self.now _ (λ q. sym (e.numbers q)) e.rows e.sorted e.unique)
