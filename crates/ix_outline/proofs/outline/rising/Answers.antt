use Rattle.ix_outline.proofs.Inserted.{one-inserted}
use Rattle.ix_outline.proofs.outline.rising.Goals as goal

pub loop-text-preserved : goal.loop-text-preserved
loop-text-preserved c = one-inserted c.loop-text.yielded c.in-Some.text c.loop-text.set.keys c.insert.new.self.keys c.loop-text.invariant c.in-Ok.ensures.keys
