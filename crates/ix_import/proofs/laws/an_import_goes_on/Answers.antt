use Rattle.ix_import.proofs.Taken.{Puts}
use Rattle.ix_import.proofs.Going.{begins, takes}
use Rattle.ix_import.proofs.Steps.{taken_there, others_stay}
use Rattle.ix_import.proofs.laws.an_import_goes_on.Goals as goal

pub returns-clause-begins : goal.returns-clause-begins
returns-clause-begins c = λ units later importing scan are is. begins units later importing scan are is

pub returns-clause-takes : goal.returns-clause-takes
returns-clause-takes c =
    let puts : Puts = record { put = c.a_change_changes_one_key.ensures.put; not_put = c.a_change_changes_one_key.ensures.not_put } in
    λ units later importing name value leads is. takes units later name value puts importing leads is

pub returns-clause-taken : goal.returns-clause-taken
returns-clause-taken c =
    let puts : Puts = record { put = c.a_change_changes_one_key.ensures.put; not_put = c.a_change_changes_one_key.ensures.not_put } in
    λ name outline opened. taken_there puts name outline opened

pub returns-clause-others : goal.returns-clause-others
returns-clause-others c =
    let puts : Puts = record { put = c.a_change_changes_one_key.ensures.put; not_put = c.a_change_changes_one_key.ensures.not_put } in
    λ name other outline opened apart. others_stay puts name other outline opened apart
