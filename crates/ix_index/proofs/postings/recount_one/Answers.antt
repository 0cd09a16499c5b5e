use Rattle.std.proofs.Common.{◌+◌, ◌-◌, refl, ap, ◌∙◌}
use Rattle.ix_index.proofs.Merging.{merged_none, merged_some, greater_rises}
use Rattle.ix_index.proofs.postings.recount_one.Goals as goal

pub returns-then-count-eq0-clause-rising : goal.returns-then-count-eq0-clause-rising
returns-then-count-eq0-clause-rising g c =
    greater_rises g.met.V.Ord.total c.args.recount.value c.args.rest.now c.parted-lesser.result.lesser c.parted-lesser.result.count c.parted-lesser.result.greater c.parted-lesser.ensures c.requires

pub returns-then-count-eq0-clause-recounted : goal.returns-then-count-eq0-clause-recounted
returns-then-count-eq0-clause-recounted g c =
    merged_none g.met.V.Ord.total c.args.recount.value c.args.rest.now c.parted-lesser.result.lesser c.parted-lesser.result.count c.parted-lesser.result.greater c.parted-lesser.ensures
    c.args.recount c.in_ok-count.count c.args.after.now c.append.new.self refl
    (c.in_ok-count.ensures ∙ ap (λ n. n + c.args.recount.gained - c.args.recount.lost) c.unwrap_or.ensures) c.if-count-eq0.true c.in_ok-append.ensures

pub returns-clause-rising : goal.returns-clause-rising
returns-clause-rising g c =
    greater_rises g.met.V.Ord.total c.args.recount.value c.args.rest.now c.parted-lesser.result.lesser c.parted-lesser.result.count c.parted-lesser.result.greater c.parted-lesser.ensures c.requires

pub returns-clause-recounted : goal.returns-clause-recounted
returns-clause-recounted g c =
    merged_some g.met.V.Ord.total c.args.recount.value c.args.rest.now c.parted-lesser.result.lesser c.parted-lesser.result.count c.parted-lesser.result.greater c.parted-lesser.ensures
    c.args.recount c.in_ok-count.count c.args.after.now c.append.new.self c.push.new.self refl
    (c.in_ok-count.ensures ∙ ap (λ n. n + c.args.recount.gained - c.args.recount.lost) c.unwrap_or.ensures) c.if-count-eq0.false c.in_ok-append.ensures c.in_ok-push.ensures
