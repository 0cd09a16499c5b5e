use Rattle.std.proofs.Common.{◌≡◌, true, subst}
use Rattle.std.specs.List.{AllByRecursion}
use Rattle.ix_unit.specs.declared.value.RecordDep.{RecordDep}
use Rattle.ix_unit.specs.declared.value.UnitValue.{UnitValue}
use Rattle.ix_guard.specs.Protection.{was_put}
use Rattle.ix_library.proofs.tests.build.Goals as goal

pub publishes-requires-clause-put : goal.publishes-requires-clause-put
publishes-requires-clause-put g c =
    let guard = c.puts.new.library.ledger.kept.guard in
    let noted = c.puts.ensures.noted c.if-not-puts.false in
    let deps = subst (λ (u : UnitValue). AllByRecursion (λ (dep : RecordDep). was_put guard 0 dep.name ≡ true) u.records) c.deref.ensures (c.needs_alone.ensures c.if-not-needs_alone.false (was_put guard 0) noted) in
    c.puts_are_noted.ensures.each guard 0 c.args.unit.value.records (c.puts_are_noted.ensures.leased guard 0 c.args.body.now.name noted) deps
