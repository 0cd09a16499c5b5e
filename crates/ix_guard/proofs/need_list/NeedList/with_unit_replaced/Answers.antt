use Rattle.std.proofs.lemmas.Result.{IfOk-weaker}
use Rattle.ix_guard.specs.Counts.{Gains}
use Rattle.ix_guard.specs.Listing.{names_in}
use Rattle.ix_guard.proofs.Following.{FollowsReplaced, follows_replaced}
use Rattle.ix_guard.proofs.need_list.NeedList.with_unit_replaced.Goals as goal

pub returns : goal.returns
returns c =
    IfOk-weaker c.with_unit.result (Gains (names_in c.args.new.now) c.in_ok-rest.rest) (FollowsReplaced c.args.old.now c.args.new.now c.args.self.now)
    (λ after gains. follows_replaced c.need_lists_are_exact.ensures.counts c.args.old.now c.args.new.now c.args.self.now c.in_ok-rest.rest after c.in_ok-rest.ensures.loses gains)
    c.with_unit.ensures.gains
