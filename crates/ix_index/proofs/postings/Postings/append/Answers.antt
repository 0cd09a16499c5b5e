use Rattle.std.proofs.Common.{◌≡◌, ◌+◌, ◌++◌, length, sym, ap, ◌∙◌, add-one, arith}
use Rattle.std.proofs.lemmas.List.{take_all}
use Rattle.ix_index.proofs.Zips.{zip_length}
use Rattle.ix_index.proofs.Found.{appended}
use Rattle.ix_index.proofs.postings.Postings.append.Goals as goal

pub loop-at-preserved : goal.loop-at-preserved
loop-at-preserved g c =
    appended c.args.self.now c.loop-at.self c.push.new.self c.part.inside.values.now c.part.inside.counts.now c.args.part.now c.loop-at.at (c.loop-at.at + 1) c.in_ok-copied.field-0 c.index-part-at.result
    c.part.invariant c.part.view_is (add-one c.loop-at.at) c.loop-at.invariant c.loop-at-test.true (c.in_ok-copied.ensures ∙ sym c.index-part-at.is) c.index-part-at.is c.in_ok-push.ensures

pub returns : goal.returns
returns g c =
    let all : length c.args.part.now ≡ length c.part.inside.values.now = sym (ap length c.part.view_is) ∙ zip_length c.part.inside.values.now c.part.inside.counts.now c.part.invariant in
    c.loop-at.invariant ∙ ap (λ zs. c.args.self.now ++ zs) (take_all c.loop-at.at c.args.part.now (omega (arith, all, c.loop-at-test.false)))
