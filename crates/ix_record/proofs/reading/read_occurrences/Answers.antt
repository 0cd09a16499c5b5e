use Rattle.std.proofs.Common.{◌≡◌, inr, None, true, false}
use Rattle.std.proofs.lemmas.Result.{err_from_is_err_and}
use Rattle.ix_wire.specs.Grammar.{last_of, may_follow, items_at}
use Rattle.ix_wire.proofs.Door.{goes_on, ends, falls_back, is_done}
use Rattle.ix_record.specs.declared.fault.RecordError.TheVariants.{OutOfOrder, Memory}
use Rattle.ix_record.specs.Order.{occurrence_cmp}
use Rattle.ix_record.specs.Reading.{occurrence_at, occurrences_at}
use Rattle.ix_record.proofs.reading.read_occurrences.Goals as goal

pub returns-in_err-occurrence : goal.returns-in_err-occurrence
unfolding occurrences_at
returns-in_err-occurrence c =
    let p = err_from_is_err_and c.from_residual.result c.from_residual.ensures.1 in
    rw (p.1, p.2) (ends OutOfOrder (occurrence_at c.args.symbols) occurrence_cmp c.loop.occurrences.items c.args.count c.loop.counter c.loop.cursor Memory c.in_err-occurrence.field-0.0 (items_at OutOfOrder (occurrence_at c.args.symbols) occurrence_cmp c.args.count None c.args.cursor.now) c.loop-test.true c.in_err-occurrence.ensures c.loop.invariant)

pub returns-then-not-occurrence_follows : goal.returns-then-not-occurrence_follows
unfolding occurrences_at
returns-then-not-occurrence_follows c =
    let x = c.in_ok-occurrence.occurrence in
    let falls : may_follow occurrence_cmp (last_of c.loop.occurrences.items) x ≡ false = cc in
    rw c.at-at.ensures (inr (falls_back OutOfOrder (occurrence_at c.args.symbols) occurrence_cmp c.loop.occurrences.items c.args.count c.loop.counter c.loop.cursor c.read_occurrence.new.cursor x (items_at OutOfOrder (occurrence_at c.args.symbols) occurrence_cmp c.args.count None c.args.cursor.now) c.loop-test.true c.in_ok-occurrence.ensures falls c.loop.invariant))

pub loop-preserved : goal.loop-preserved
loop-preserved c =
    let x = c.in_ok-occurrence.occurrence in
    let follows : may_follow occurrence_cmp (last_of c.loop.occurrences.items) x ≡ true = cc in
    rw c.in_ok-push.ensures.items (goes_on OutOfOrder (occurrence_at c.args.symbols) occurrence_cmp c.loop.occurrences.items c.args.count c.loop.counter c.loop.cursor c.read_occurrence.new.cursor x (items_at OutOfOrder (occurrence_at c.args.symbols) occurrence_cmp c.args.count None c.args.cursor.now) c.loop-test.true c.in_ok-occurrence.ensures follows c.loop.invariant)

pub returns : goal.returns
unfolding occurrences_at
returns c = rw c.of.ensures (is_done OutOfOrder (occurrence_at c.args.symbols) occurrence_cmp c.loop.occurrences.items c.args.count c.loop.counter c.loop.cursor (items_at OutOfOrder (occurrence_at c.args.symbols) occurrence_cmp c.args.count None c.args.cursor.now) c.loop-test.false c.loop.invariant)
