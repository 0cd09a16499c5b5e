use Rattle.std.proofs.Common.{ap}
use Rattle.std.proofs.lemmas.Result.{on_ok_weaker}
use Rattle.ix_index.specs.Dealing.{dealt_of}
use Rattle.ix_index.proofs.Joined.{cut_net}
use Rattle.ix_index.proofs.steps.+revise_all.Goals as goal

pub returns : goal.returns
returns g t c =
    on_ok_weaker c.revise_all-in-Cut.result
    (λ second. cut_net g.met.K.Ord.total g.met.V.Ord.total c.args.parts c.into_inner.result c.into_inner-in-Cut.result c.in-Cut.left.value c.in-Cut.right.value c.in-Cut.field-1
    c.args.revisions.now.items c.revise_all.new.revisions.items c.revise_all-in-Cut.new.revisions.items (ap dealt_of c.in-Cut.is)
    c.into_inner.ensures c.into_inner-in-Cut.ensures c.in_ok-revise_all-in-Cut.ensures second)
    c.revise_all-in-Cut.ensures
