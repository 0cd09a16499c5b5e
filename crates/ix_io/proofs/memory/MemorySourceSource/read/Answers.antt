use Rattle.std.proofs.Common.{◌≡◌, ℕ, ◌+◌, ◌-◌, ◌≤◌, List, ◌++◌, length, take, drop, ap, sym, subst, refl, ◌∙◌, arith}
use Rattle.ix_io.proofs.Pieces.{front_and_rest}
use Rattle.ix_io.proofs.memory.MemorySourceSource.read.Goals as goal

pub returns-clause-taken : goal.returns-clause-taken
returns-clause-taken c =
    let bytes = c.as_slice-2.result.now in
    let at = c.self.inside.at in
    let n = c.min-taken.result in
    let left = take (length bytes - at) (drop at bytes) in
    let front = c.copy_from_slice.new.self in
    let behind = drop n c.args.into.now in
    let fits : n ≤ length left = omega arith in
    let split = front_and_rest bytes left front behind at n refl fits c.copy_from_slice.ensures.after in
    let P : List ℕ → Type 0 = λ l. drop at l ≡ take n (front ++ behind) ++ drop (at + n) l in
    ap (λ s. s.left) (sym c.self.view_is) ∙ subst P c.as_slice-2.ensures split
