use Rattle.std.proofs.Common.{◌≡◌, inr, None, true, false}
use Rattle.std.proofs.lemmas.Result.{err_from_is_err_and}
use Rattle.ix_wire.specs.Grammar.{last_of, may_follow, items_at}
use Rattle.ix_wire.proofs.Door.{goes_on, ends, falls_back, is_done}
use Rattle.ix_record.specs.declared.fault.RecordError.TheVariants.{OutOfOrder, Memory}
use Rattle.ix_record.specs.Order.{symbol_cmp}
use Rattle.ix_record.specs.Reading.{symbol_at, symbols_at}
use Rattle.ix_record.proofs.reading.read_symbols.Goals as goal

pub returns-in_err-symbol : goal.returns-in_err-symbol
unfolding symbols_at
returns-in_err-symbol c =
    let p = err_from_is_err_and c.from_residual.result c.from_residual.ensures.1 in
    rw (p.1, p.2) (ends OutOfOrder (symbol_at c.args.format) symbol_cmp c.loop.symbols.items c.args.count c.loop.counter c.loop.cursor Memory c.in_err-symbol.field-0.0 (items_at OutOfOrder (symbol_at c.args.format) symbol_cmp c.args.count None c.args.cursor.now) c.loop-test.true c.in_err-symbol.ensures c.loop.invariant)

pub returns-then-not-symbol_follows : goal.returns-then-not-symbol_follows
unfolding symbols_at
returns-then-not-symbol_follows c =
    let x = c.in_ok-symbol.symbol in
    let falls : may_follow symbol_cmp (last_of c.loop.symbols.items) x ≡ false = cc in
    rw c.at-at.ensures (inr (falls_back OutOfOrder (symbol_at c.args.format) symbol_cmp c.loop.symbols.items c.args.count c.loop.counter c.loop.cursor c.read_symbol.new.cursor x (items_at OutOfOrder (symbol_at c.args.format) symbol_cmp c.args.count None c.args.cursor.now) c.loop-test.true c.in_ok-symbol.ensures falls c.loop.invariant))

pub loop-preserved : goal.loop-preserved
loop-preserved c =
    let x = c.in_ok-symbol.symbol in
    let follows : may_follow symbol_cmp (last_of c.loop.symbols.items) x ≡ true = cc in
    rw c.in_ok-push.ensures.items (goes_on OutOfOrder (symbol_at c.args.format) symbol_cmp c.loop.symbols.items c.args.count c.loop.counter c.loop.cursor c.read_symbol.new.cursor x (items_at OutOfOrder (symbol_at c.args.format) symbol_cmp c.args.count None c.args.cursor.now) c.loop-test.true c.in_ok-symbol.ensures follows c.loop.invariant)

pub returns : goal.returns
unfolding symbols_at
returns c = rw c.of.ensures (is_done OutOfOrder (symbol_at c.args.format) symbol_cmp c.loop.symbols.items c.args.count c.loop.counter c.loop.cursor (items_at OutOfOrder (symbol_at c.args.format) symbol_cmp c.args.count None c.args.cursor.now) c.loop-test.false c.loop.invariant)
