use Rattle.ix_index.specs.Dealing.{dealt_of}
use Rattle.ix_index.proofs.Dealt.{dealt_apart, dealt_same}
use Rattle.ix_index.proofs.parts.parted.Goals as goal

pub returns-clause-apart : goal.returns-clause-apart
returns-clause-apart g c =
    dealt_apart g.K.Ord.cmp (dealt_of c.in_ok-parts.parts) c.args.steps.items (dealt_of c.deal_all.new.parts) c.in_ok-parts.ensures c.in_ok-deal_all.ensures

pub returns-clause-same : goal.returns-clause-same
returns-clause-same g c =
    dealt_same g.K.Ord.cmp (dealt_of c.in_ok-parts.parts) c.args.steps.items (dealt_of c.deal_all.new.parts) c.in_ok-parts.ensures c.in_ok-deal_all.ensures
