use Rattle.std.proofs.Common.{inr, not, true≢false, refl, sym, ap, ◌∙◌, ◌≡◌}
use Rattle.std.specs.Cmp.Lexicographic.{bytes_decides}
use Rattle.ix_cabinet.proofs.OneUnitMore.{the_value}
use Rattle.ix_cabinet.proofs.scanning.unit_in.Goals as goal

pub returns-then-ne-clause-damaged : goal.returns-then-ne-clause-damaged
returns-then-ne-clause-damaged g c =
    inr (
      refl,
      λ file.
          let same = the_value c.decode.result c.in-Ok.unit file.unit c.in-Ok.is (c.decode.ensures.only file.unit file.spelled) in
          let named : c.name.result ≡ c.args.name = c.name.ensures ∙ ap g.N.Naming.name_of (c.bytes.ensures.value ∙ ap (λ u. u.output) same) ∙ sym file.named in
          let tied = (bytes_decides c.name.result c.args.name).1 named in
          true≢false (sym c.if-ne.true ∙ c.ne.ensures ∙ ap not tied),
    )
