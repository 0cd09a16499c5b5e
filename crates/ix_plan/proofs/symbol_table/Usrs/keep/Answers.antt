use Rattle.std.proofs.Common.{sym, ◌∙◌, length}
use Rattle.ix_plan.proofs.Keys.{keeps_first, keeps_other}
use Rattle.ix_plan.proofs.symbol_table.Usrs.keep.Goals as goal

pub returns-in-None-clause-kept : goal.returns-in-None-clause-kept
returns-in-None-clause-kept c = λ keeps.
    keeps_first c.args.self.now.firsts c.insert.new.self c.args.self.now.others.keys c.args.symbols.now c.args.usr.now c.digest-digest.result keeps c.digest-digest.ensures (sym c.in_ok-insert.ensures.old ∙ c.in-None.is)
    c.in_ok-insert.ensures.updates.0

pub returns-after-is_first-clause-kept : goal.returns-after-is_first-clause-kept
returns-after-is_first-clause-kept c = λ keeps.
    keeps_other c.args.self.now.firsts c.insert.new.self c.insert-in-Some.new.self c.args.self.now.others.keys c.insert-in-Some-2.new.self.keys c.in_ok-from_slice-in-Some.field-0 c.args.symbols.now c.args.usr.now
    c.digest-digest.result c.in-Some.first (length c.args.symbols.now) keeps (sym c.in_ok-insert.ensures.old ∙ c.in-Some.is) c.in_ok-insert.ensures.updates.0 c.in_ok-insert-in-Some.ensures.updates.0
    c.in_ok-from_slice-in-Some.ensures.items c.in_ok-insert-in-Some-2.ensures.keys
