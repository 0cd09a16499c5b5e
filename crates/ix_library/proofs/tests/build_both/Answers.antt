use Rattle.std.proofs.Common.{◌≡◌, ℕ, true, List, subst}
use Rattle.std.specs.List.{AllByRecursion}
use Rattle.ix_unit.specs.declared.value.RecordDep.{RecordDep}
use Rattle.ix_unit.specs.declared.value.UnitValue.{UnitValue}
use Rattle.ix_guard.specs.Protection.{was_put}
use Rattle.ix_library.proofs.tests.build_both.Goals as goal

pub publishes-requires-clause-put : goal.publishes-requires-clause-put
publishes-requires-clause-put g c =
    let guard = c.puts-2.new.library.ledger.kept.guard in
    let noted = c.puts-2.ensures.noted c.if-not-puts-2.false in
    let earlier = c.puts-2.ensures.stays c.if-not-puts-2.false c.args.first.now.name (c.puts.ensures.noted c.if-not-puts.false) in
    let deps = subst (λ (u : UnitValue). AllByRecursion (λ (dep : RecordDep). was_put guard 0 dep.name ≡ true) u.records) c.deref.ensures (c.needs_both.ensures c.if-not-needs_both.false (was_put guard 0) earlier noted) in
    c.puts_are_noted.ensures.each guard 0 c.args.unit.value.records (c.puts_are_noted.ensures.leased guard 0 c.args.second.now.name noted) deps

pub publishes-requires-clause-ready : goal.publishes-requires-clause-ready
publishes-requires-clause-ready g c = c.puts-2.ensures.ready (c.puts.ensures.ready (c.leases.ensures c.requires.ready))

pub returns-then-not-puts-2 : goal.returns-then-not-puts-2
returns-then-not-puts-2 g c = c.puts-2.ensures.ready (c.puts.ensures.ready (c.leases.ensures c.requires.ready))

pub returns-then-not-needs_both : goal.returns-then-not-needs_both
returns-then-not-needs_both g c = c.puts-2.ensures.ready (c.puts.ensures.ready (c.leases.ensures c.requires.ready))
