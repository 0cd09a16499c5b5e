use Rattle.std.proofs.Common.{◌≡◌, ap, subst, sym, ◌<◌, length, Some, rules}
use Rattle.ix_dir.specs.NumberByName.{Sets}
use Rattle.ix_dir.specs.Stamps.{IsFresh}
use Rattle.ix_dir.proofs.NextNumberIsFresh.{numbered_fresh}
use Rattle.ix_dir.proofs.IndexStaysRight.{kept_with, indexes_renamed}
use Rattle.ix_dir.proofs.memory.MemoryDir.put.Goals as goal

pub invariant_of-self : goal.invariant_of-self
invariant_of-self c =
    let d = c.self.inside in
    let some : 0 < d.spare = subst (λ n. 0 < n) (ap (λ d. d.spare) (sym c.self.view_is)) c.requires in
    let last : c.len-stamp.result ≡ length d.moves.items = search rules in
    let sets = subst (λ n. Sets d.index c.set.new.self c.args.area c.args.name (Some n)) last c.set.ensures.numbers in
    kept_with d.moves c.keep.new.moves d.index c.set.new.self d.spare _ c.self.invariant some c.keep.ensures.items c.keep.ensures.capacity c.set.ensures.room
    (indexes_renamed d.moves.items d.index c.set.new.self c.args.area c.args.name c.args.bytes c.len-stamp.result c.self.invariant.indexes sets) (last, tt)

pub returns-clause-fresh : goal.returns-clause-fresh
returns-clause-fresh c =
    subst (λ moves. IsFresh moves c.args.name (length moves)) (ap (λ d. d.moves) c.self.view_is) (numbered_fresh c.self.inside.moves.items c.args.name c.self.invariant.numbered)
