use Rattle.std.proofs.Common.{◌≡◌, ◌+◌, ◌*◌, ◌/◌, ◌%◌, ap, sym, ◌∙◌, arith}
use Rattle.std.proofs.Math.Nat.{mod-add-div, add-mul-mod_self_left}
use Rattle.ix_dir.proofs.crash.number_of.Goals as goal

pub returns-in-Nth-clause-number : goal.returns-in-Nth-clause-number
returns-in-Nth-clause-number c =
    let n = c.in-Nth.n in
    let count = c.args.count in
    let i = c.args.i in
    let whole : n + i ≡ (n % count + i) + count * (n / count) = omega (arith, mod-add-div n count) in
    rw c.in-Nth.is (sym (ap (λ x. x % count) whole ∙ add-mul-mod_self_left (n % count + i) count (n / count)))
