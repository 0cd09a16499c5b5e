use Rattle.std.proofs.Common.{Some, refl, ap, sym, ◌∙◌}
use Rattle.std.specs.List.{slice_get}
use Rattle.std.proofs.lemmas.Option.{slice_get-get_or, slice_get_past}
use Rattle.ix_record.specs.declared.value.Symbol.{Symbol}
use Rattle.ix_model.specs.Rows.{row_with}
use Rattle.ix_query.proofs.Grown.{picked-other, picked-none}
use Rattle.ix_query.proofs.rows.append_occurrence.Goals as goal

pub returns-else-chooses : goal.returns-else-chooses
returns-else-chooses g c =
    picked-other (row_with c.args.path.now c.args.symbols.now c.args.occurrence.now) (g.C.Choice.passes c.args.key.now c.args.mask) (slice_get c.args.symbols.now c.args.occurrence.now.symbol)
    c.in-Some.symbol.now c.args.out.now.items c.args.out.now.items
    (slice_get-get_or c.args.symbols.now c.args.occurrence.now.symbol c.in-Some.symbol.now c.in-Some.ensures.lookup.3.0 ∙ ap (λ (s : Symbol). Some s) (sym c.in-Some.ensures.lookup.1))
    (sym c.chooses.ensures ∙ c.if-chooses.false) refl

pub returns-in-None : goal.returns-in-None
returns-in-None g c =
    picked-none (row_with c.args.path.now c.args.symbols.now c.args.occurrence.now) (g.C.Choice.passes c.args.key.now c.args.mask) (slice_get c.args.symbols.now c.args.occurrence.now.symbol)
    c.args.out.now.items c.args.out.now.items (slice_get_past c.args.symbols.now c.args.occurrence.now.symbol c.in-None.ensures.lookup.3) refl
