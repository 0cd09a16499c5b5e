use Rattle.std.proofs.Common.{◌≡◌, ap, sym, true, false, not, cond, Bool, List, ℕ, ◌∷◌, ◌+◌, drop, filter, ◌∙◌}
use Rattle.ix_machine.specs.Needs.{is_protected, settled}
use Rattle.ix_machine.specs.PlainState.{state_of, first_of}
use Rattle.ix_machine.proofs.Seen.{next-passing}
use Rattle.ix_machine.proofs.parts.Parts.first_free.Goals as goal

pub returns-then-not-branch : goal.returns-then-not-branch
returns-then-not-branch c =
    let p : List ℕ → Bool = λ name. not (is_protected (settled (state_of c.args.self.now)) name) in
    let names = c.args.names.now in
    let i = c.loop-name.name-index in
    let x = c.name-item.result in
    let rest = filter p (drop (i + 1) names) in
    let free : p x ≡ true = ap not (sym c.in_ok-is_spared.ensures ∙ c.if-not-branch.true) in
    sym (ap first_of (c.loop-name.invariant ∙ (next-passing p names i x c.name-item.is c.loop-name-test.true ∙ ap (λ (b : Bool). cond b (x ∷ rest) rest) free)))

pub loop-name-preserved : goal.loop-name-preserved
loop-name-preserved c =
    let p : List ℕ → Bool = λ name. not (is_protected (settled (state_of c.args.self.now)) name) in
    let names = c.args.names.now in
    let i = c.loop-name.name-index in
    let x = c.name-item.result in
    let rest = filter p (drop (i + 1) names) in
    let spared : p x ≡ false = ap not (sym c.in_ok-is_spared.ensures ∙ c.if-not-branch.false) in
    c.loop-name.invariant ∙ (next-passing p names i x c.name-item.is c.loop-name-test.true ∙ ap (λ (b : Bool). cond b (x ∷ rest) rest) spared)
