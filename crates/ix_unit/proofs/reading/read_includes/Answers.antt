use Rattle.std.proofs.Common.{◌≡◌, inr, None, true, false}
use Rattle.std.proofs.lemmas.Result.{err_from_is_err_and}
use Rattle.ix_wire.specs.Grammar.{last_of, may_follow, items_at}
use Rattle.ix_wire.proofs.Door.{goes_on, ends, falls_back, is_done}
use Rattle.ix_unit.specs.declared.fault.UnitError.TheVariants.{OutOfOrder, Memory}
use Rattle.ix_unit.specs.Order.{include_cmp}
use Rattle.ix_unit.specs.Reading.{include_at, includes_at}
use Rattle.ix_unit.proofs.reading.read_includes.Goals as goal

pub returns-in_err-include : goal.returns-in_err-include
unfolding includes_at
returns-in_err-include c =
    let p = err_from_is_err_and c.from_residual.result c.from_residual.ensures.1 in
    rw (p.1, p.2) (ends OutOfOrder include_at include_cmp c.loop.includes.items c.args.count c.loop.counter c.loop.cursor Memory c.in_err-include.field-0.0 (items_at OutOfOrder include_at include_cmp c.args.count None c.args.cursor.now) c.loop-test.true c.in_err-include.ensures c.loop.invariant)

pub returns-then-not-include_follows : goal.returns-then-not-include_follows
unfolding includes_at
returns-then-not-include_follows c =
    let x = c.in_ok-include.include in
    let falls : may_follow include_cmp (last_of c.loop.includes.items) x ≡ false = cc in
    rw c.at-at.ensures (inr (falls_back OutOfOrder include_at include_cmp c.loop.includes.items c.args.count c.loop.counter c.loop.cursor c.read_include.new.cursor x (items_at OutOfOrder include_at include_cmp c.args.count None c.args.cursor.now) c.loop-test.true c.in_ok-include.ensures falls c.loop.invariant))

pub loop-preserved : goal.loop-preserved
loop-preserved c =
    let x = c.in_ok-include.include in
    let follows : may_follow include_cmp (last_of c.loop.includes.items) x ≡ true = cc in
    rw c.in_ok-push.ensures.items (goes_on OutOfOrder include_at include_cmp c.loop.includes.items c.args.count c.loop.counter c.loop.cursor c.read_include.new.cursor x (items_at OutOfOrder include_at include_cmp c.args.count None c.args.cursor.now) c.loop-test.true c.in_ok-include.ensures follows c.loop.invariant)

pub returns : goal.returns
unfolding includes_at
returns c = rw c.of.ensures (is_done OutOfOrder include_at include_cmp c.loop.includes.items c.args.count c.loop.counter c.loop.cursor (items_at OutOfOrder include_at include_cmp c.args.count None c.args.cursor.now) c.loop-test.false c.loop.invariant)
