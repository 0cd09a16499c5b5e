use Rattle.std.proofs.Common.{◌++◌, ap, ◌∙◌}
use Rattle.std.proofs.lemmas.Result.{on_ok_weaker}
use Rattle.ix_index.specs.Gathering.{all_settled}
use Rattle.ix_index.proofs.Joined.{part_net}
use Rattle.ix_index.proofs.steps.revise.Goals as goal

pub returns : goal.returns
returns g c =
    on_ok_weaker c.settle_all.result
    (λ is. part_net g.met.K.Ord.total g.met.V.Ord.total c.args.steps.items c.sort.new.steps.items c.args.revisions.now.items c.settle_all.new.revisions.items
    c.sort.ensures.moved c.sort.ensures.sorted (is ∙ ap (λ rs. c.args.revisions.now.items ++ all_settled rs) c.in_ok-gathered.ensures))
    c.settle_all.ensures
