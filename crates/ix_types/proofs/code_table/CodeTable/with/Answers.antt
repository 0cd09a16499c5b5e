use Rattle.std.proofs.Common.{sym, ◌∙◌}
use Rattle.ix_types.proofs.TableRows.{IsCodeTable-seen_push}
use Rattle.ix_types.proofs.code_table.CodeTable.with.Goals as goal

pub invariant_of-self : goal.invariant_of-self
invariant_of-self g c =
    IsCodeTable-seen_push g.row.N c.self.inside.rows.items c.push.new.self.items c.args.self (record { code = c.args.code; name = c.args.name }) c.self.invariant c.self.view_is c.push.ensures.items c.is_full.ensures.fits
    (sym c.is_full.ensures.value ∙ c.if-is_full.false) (sym c.has_code.ensures ∙ c.if-has_code.false) (sym c.has_name.ensures ∙ c.if-has_name.false)
