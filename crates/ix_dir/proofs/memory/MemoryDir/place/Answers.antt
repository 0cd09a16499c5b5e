use Rattle.std.proofs.Common.{◌≡◌, ◌+◌, ◌-◌, ap, subst, arith, length, Some, rules}
use Rattle.ix_dir.specs.IndexInvariant.{IsKept}
use Rattle.ix_dir.specs.NumberByName.{Sets}
use Rattle.ix_dir.specs.Stamps.{IsFresh}
use Rattle.ix_dir.proofs.NextNumberIsFresh.{numbered_fresh}
use Rattle.ix_dir.proofs.IndexStaysRight.{kept_with, indexes_placed}
use Rattle.ix_dir.proofs.memory.MemoryDir.place.Goals as goal

pub invariant_of-self : goal.invariant_of-self
invariant_of-self c = c.widen.ensures.kept _ c.self.invariant

pub invariant_of-self-2 : goal.invariant_of-self-2
invariant_of-self-2 c =
    let d = c.self.inside in
    let wide : IsKept c.widen.new.moves c.widen.new.index (d.spare + 1) = c.in_ok-widen.ensures.room d.spare c.self.invariant in
    let last : c.len-number.result ≡ length c.widen.new.moves.items = search rules in
    let sets = subst (λ n. Sets c.widen.new.index c.set.new.self c.args.area c.args.name (Some n)) last c.set.ensures.numbers in
    let kept = kept_with c.widen.new.moves c.keep.new.moves c.widen.new.index c.set.new.self (d.spare + 1) _ wide (omega arith) c.keep.ensures.items c.keep.ensures.capacity c.set.ensures.room
    (indexes_placed c.widen.new.moves.items c.widen.new.index c.set.new.self c.args.area c.args.name _ c.len-number.result wide.indexes sets) (last, tt) in
    let same : d.spare + 1 - 1 ≡ d.spare = omega arith in
    subst (IsKept c.keep.new.moves c.set.new.self) same kept

pub returns-clause-fresh : goal.returns-clause-fresh
returns-clause-fresh c =
    subst (λ moves. IsFresh moves c.args.name (length moves)) (ap (λ d. d.moves) c.self.view_is) (numbered_fresh c.self.inside.moves.items c.args.name c.self.invariant.numbered)
