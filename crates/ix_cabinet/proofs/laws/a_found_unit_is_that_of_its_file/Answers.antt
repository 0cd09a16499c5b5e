use Rattle.std.proofs.Common.{sym, ap, ◌∙◌, subst, is_some}
use Rattle.std.proofs.lemmas.Option.{same_Some}
use Rattle.ix_unit.specs.Spelling.{UnitSpelling}
use Rattle.ix_cabinet.proofs.laws.a_found_unit_is_that_of_its_file.Goals as goal

pub returns-clause-stands : goal.returns-clause-stands
returns-clause-stands c files put at = ap is_some at.stands

pub returns-clause-spelled : goal.returns-clause-spelled
returns-clause-spelled c files put bytes at is = subst (λ b. UnitSpelling b put.unit.value) (same_Some _ _ (sym at.stands ∙ is)) at.spelled

pub returns-clause-file : goal.returns-clause-file
returns-clause-file c name_of put bytes named spelled = record { unit = put.unit.value; spelled = spelled; named = named.named }

pub returns-clause-valid : goal.returns-clause-valid
returns-clause-valid c name_of put named = named.valid
