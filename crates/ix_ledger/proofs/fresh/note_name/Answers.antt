use Rattle.std.proofs.Common.{not, sym, ap, ◌∙◌}
use Rattle.ix_ledger.proofs.Freshly.{name_noted}
use Rattle.ix_ledger.proofs.fresh.note_name.Goals as goal

pub returns : goal.returns
returns c =
    name_noted c.args.needs.now c.args.names.now.entries c.insert_name.new.names.entries c.args.name
    (ap not (sym c.needs.ensures.needs ∙ c.if-needs.false)) c.in_ok-insert_name.ensures
