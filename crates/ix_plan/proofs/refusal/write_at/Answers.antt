use Rattle.std.proofs.Common.{ap, sym, subst, ◌∙◌, ◌++◌, codes}
use Rattle.std.specs.Fmt.{HasWritten}
use Rattle.ix_plan.proofs.Items.{text_at_utf8}
use Rattle.ix_plan.proofs.refusal.write_at.Goals as goal

pub returns-in-Ok : goal.returns-in-Ok
returns-in-Ok g c = λ plain ok.
    subst (λ text. HasWritten {W = g.row.W.Denot} g.W.Write.write_str_gives c.args.f.now text c.write.new.self)
    (ap (λ path. c.args.sort.now ++ (codes " at \"" ++ (path ++ codes "\""))) c.in-Ok.ensures.cases.0 ∙ sym (text_at_utf8 c.args.sort.now c.args.path.now c.in-Ok.ensures.cases.1))
    (c.write.ensures.writes plain ok)
