use Rattle.std.proofs.Common.{◌≡◌, true, ap, subst, ◌∙◌, Result}
use Rattle.std.specs.List.{AllByRecursion}
use Rattle.ix_unit.specs.declared.value.RecordDep.{RecordDep}
use Rattle.ix_unit.specs.declared.value.UnitValue.{UnitValue}
use Rattle.ix_guard.specs.Protection.{was_put}
use Rattle.ix_ledger.specs.Effects.{settled}
use Rattle.ix_ledger.specs.Kept.{Kept}
use Rattle.ix_library.specs.declared.fault.CollectError.{CollectError}
use Rattle.ix_library.specs.declared.fault.Collected.{Collected}
use Rattle.ix_library.specs.Endings.{collect_leaves}
use Rattle.ix_library.proofs.tests.build_beside_a_collect.Goals as goal

pub publishes-requires-clause-put : goal.publishes-requires-clause-put
publishes-requires-clause-put g c =
    let name = c.args.body.now.name in
    let earlier = c.puts.new.library.ledger.kept in
    let kept = c.collect.new.self.ledger.kept in
    let guard = kept.guard in
    let same : kept ≡ settled earlier = c.collect.ensures.kept ∙ ap (λ (r : Result Collected CollectError). collect_leaves r earlier) c.in-Ok-Nothing.is in
    let noted : was_put guard 0 name ≡ true = ap (λ (k : Kept). was_put k.guard 0 name) same ∙ (c.puts_are_noted.ensures.settled earlier 0 name ∙ c.puts.ensures.noted c.if-not-puts.false) in
    let deps = subst (λ (u : UnitValue). AllByRecursion (λ (dep : RecordDep). was_put guard 0 dep.name ≡ true) u.records) c.deref.ensures (c.needs_alone.ensures c.if-not-needs_alone.false (was_put guard 0) noted) in
    c.puts_are_noted.ensures.each guard 0 c.args.unit.value.records (c.puts_are_noted.ensures.leased guard 0 name noted) deps

pub returns-in_default : goal.returns-in_default
returns-in_default g c = c.collect.ensures.ready (c.puts.ensures.ready (c.leases.ensures c.requires.ready))
