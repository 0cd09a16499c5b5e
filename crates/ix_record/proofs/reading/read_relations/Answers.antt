use Rattle.std.proofs.Common.{◌≡◌, inr, None, true, false}
use Rattle.std.proofs.lemmas.Result.{err_from_is_err_and}
use Rattle.ix_wire.specs.Grammar.{last_of, may_follow, items_at}
use Rattle.ix_wire.proofs.Door.{goes_on, ends, falls_back, is_done}
use Rattle.ix_record.specs.declared.fault.RecordError.TheVariants.{OutOfOrder, Memory}
use Rattle.ix_record.specs.Order.{relation_cmp}
use Rattle.ix_record.specs.Reading.{relation_at, relations_at}
use Rattle.ix_record.proofs.reading.read_relations.Goals as goal

pub returns-in_err-relation : goal.returns-in_err-relation
unfolding relations_at
returns-in_err-relation c =
    let p = err_from_is_err_and c.from_residual.result c.from_residual.ensures.1 in
    rw (p.1, p.2) (ends OutOfOrder (relation_at c.args.symbols) relation_cmp c.loop.relations.items c.args.count c.loop.counter c.loop.cursor Memory c.in_err-relation.field-0.0 (items_at OutOfOrder (relation_at c.args.symbols) relation_cmp c.args.count None c.args.cursor.now) c.loop-test.true c.in_err-relation.ensures c.loop.invariant)

pub returns-then-not-relation_follows : goal.returns-then-not-relation_follows
unfolding relations_at
returns-then-not-relation_follows c =
    let x = c.in_ok-relation.relation in
    let falls : may_follow relation_cmp (last_of c.loop.relations.items) x ≡ false = cc in
    rw c.at-at.ensures (inr (falls_back OutOfOrder (relation_at c.args.symbols) relation_cmp c.loop.relations.items c.args.count c.loop.counter c.loop.cursor c.read_relation.new.cursor x (items_at OutOfOrder (relation_at c.args.symbols) relation_cmp c.args.count None c.args.cursor.now) c.loop-test.true c.in_ok-relation.ensures falls c.loop.invariant))

pub loop-preserved : goal.loop-preserved
loop-preserved c =
    let x = c.in_ok-relation.relation in
    let follows : may_follow relation_cmp (last_of c.loop.relations.items) x ≡ true = cc in
    rw c.in_ok-push.ensures.items (goes_on OutOfOrder (relation_at c.args.symbols) relation_cmp c.loop.relations.items c.args.count c.loop.counter c.loop.cursor c.read_relation.new.cursor x (items_at OutOfOrder (relation_at c.args.symbols) relation_cmp c.args.count None c.args.cursor.now) c.loop-test.true c.in_ok-relation.ensures follows c.loop.invariant)

pub returns : goal.returns
unfolding relations_at
returns c = rw c.of.ensures (is_done OutOfOrder (relation_at c.args.symbols) relation_cmp c.loop.relations.items c.args.count c.loop.counter c.loop.cursor (items_at OutOfOrder (relation_at c.args.symbols) relation_cmp c.args.count None c.args.cursor.now) c.loop-test.false c.loop.invariant)
