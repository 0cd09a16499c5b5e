use Rattle.std.proofs.Common.{[]}
use Rattle.ix_cabinet.proofs.AreaHoldsUnits.{held_with, held_without, held_beside, held_still}
use Rattle.ix_cabinet.proofs.laws.changes_keep_units.Goals as goal

pub returns-clause-put : goal.returns-clause-put
returns-clause-put c name_of name bytes before now held file left = held_with name_of name before now held bytes file left

pub returns-clause-removed : goal.returns-clause-removed
returns-clause-removed c name_of name before now held left = held_without name_of name before now held left

pub returns-clause-other : goal.returns-clause-other
returns-clause-other c name_of name value before now held left = held_beside name_of name before now held name value left

pub returns-clause-same : goal.returns-clause-same
returns-clause-same c name_of before now held same = held_still name_of [] before now held same
