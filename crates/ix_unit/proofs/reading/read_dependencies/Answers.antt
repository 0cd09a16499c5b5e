use Rattle.std.proofs.Common.{◌≡◌, inr, None, true, false}
use Rattle.std.proofs.lemmas.Result.{err_from_is_err_and}
use Rattle.ix_wire.specs.Grammar.{last_of, may_follow, items_at}
use Rattle.ix_wire.proofs.Door.{goes_on, ends, falls_back, is_done}
use Rattle.ix_unit.specs.declared.fault.UnitError.TheVariants.{OutOfOrder, Memory}
use Rattle.ix_unit.specs.Order.{dependency_cmp}
use Rattle.ix_unit.specs.Reading.{dependency_at, dependencies_at}
use Rattle.ix_unit.proofs.reading.read_dependencies.Goals as goal

pub returns-in_err-dependency : goal.returns-in_err-dependency
unfolding dependencies_at
returns-in_err-dependency c =
    let p = err_from_is_err_and c.from_residual.result c.from_residual.ensures.1 in
    rw (p.1, p.2) (ends OutOfOrder dependency_at dependency_cmp c.loop.dependencies.items c.args.count c.loop.counter c.loop.cursor Memory c.in_err-dependency.field-0.0 (items_at OutOfOrder dependency_at dependency_cmp c.args.count None c.args.cursor.now) c.loop-test.true c.in_err-dependency.ensures c.loop.invariant)

pub returns-then-not-dependency_follows : goal.returns-then-not-dependency_follows
unfolding dependencies_at
returns-then-not-dependency_follows c =
    let x = c.in_ok-dependency.dependency in
    let falls : may_follow dependency_cmp (last_of c.loop.dependencies.items) x ≡ false = cc in
    rw c.at-at.ensures (inr (falls_back OutOfOrder dependency_at dependency_cmp c.loop.dependencies.items c.args.count c.loop.counter c.loop.cursor c.read_dependency.new.cursor x (items_at OutOfOrder dependency_at dependency_cmp c.args.count None c.args.cursor.now) c.loop-test.true c.in_ok-dependency.ensures falls c.loop.invariant))

pub loop-preserved : goal.loop-preserved
loop-preserved c =
    let x = c.in_ok-dependency.dependency in
    let follows : may_follow dependency_cmp (last_of c.loop.dependencies.items) x ≡ true = cc in
    rw c.in_ok-push.ensures.items (goes_on OutOfOrder dependency_at dependency_cmp c.loop.dependencies.items c.args.count c.loop.counter c.loop.cursor c.read_dependency.new.cursor x (items_at OutOfOrder dependency_at dependency_cmp c.args.count None c.args.cursor.now) c.loop-test.true c.in_ok-dependency.ensures follows c.loop.invariant)

pub returns : goal.returns
unfolding dependencies_at
returns c = rw c.of.ensures (is_done OutOfOrder dependency_at dependency_cmp c.loop.dependencies.items c.args.count c.loop.counter c.loop.cursor (items_at OutOfOrder dependency_at dependency_cmp c.args.count None c.args.cursor.now) c.loop-test.false c.loop.invariant)
