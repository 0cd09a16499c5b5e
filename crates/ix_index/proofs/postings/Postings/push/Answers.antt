use Rattle.ix_index.proofs.Zips.{zip_pushed}
use Rattle.ix_index.proofs.postings.Postings.push.Goals as goal

pub returns-in-Ok : goal.returns-in-Ok
returns-in-Ok g c =
    zip_pushed c.self.inside.values.items c.push.new.self.items c.self.inside.counts.items c.push-2.new.self.items c.args.value c.args.count c.args.self.now
    c.self.invariant c.self.view_is c.in_ok-push.ensures.items c.in-Ok.ensures.items
