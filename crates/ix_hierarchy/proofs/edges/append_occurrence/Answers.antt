use Rattle.std.proofs.Common.{◌≡◌, ◌++◌, Bool, List, Some, OnOk, sym, ap, ◌∙◌, subst, append-nil}
use Rattle.std.specs.List.{filter_map, slice_get}
use Rattle.std.proofs.lemmas.Option.{slice_get-get_or, slice_get_past}
use Rattle.ix_record.specs.declared.value.Symbol.{Symbol}
use Rattle.ix_types.specs.declared.row.EdgeRow.{EdgeRow}
use Rattle.ix_hierarchy.specs.Marks.{edge_found}
use Rattle.ix_hierarchy.proofs.Marked.{occurrence-those, none-those}
use Rattle.ix_hierarchy.proofs.edges.append_occurrence.Goals as goal

pub returns-in-Some : goal.returns-in-Some
returns-in-Some c level marked =
    let at : slice_get c.args.symbols.now c.args.occurrence.now.symbol ≡ Some c.in-Some.symbol.now =
    slice_get-get_or c.args.symbols.now c.args.occurrence.now.symbol c.in-Some.symbol.now c.in-Some.ensures.lookup.3.0 ∙ ap (λ (s : Symbol). Some s) (sym c.in-Some.ensures.lookup.1) in
    subst (λ (es : List EdgeRow). OnOk c.append_relations.result (c.append_relations.new.out.items ≡ c.args.out.now.items ++ es))
    (ap (λ (marks : List Bool). filter_map (edge_found c.args.walk c.args.depth marks c.args.path.now c.args.symbols.now c.args.occurrence.now c.in-Some.symbol.now.usr) c.args.occurrence.now.relations) marked
    ∙ occurrence-those level c.args.depth c.args.path.now c.args.symbols.now c.args.occurrence.now c.in-Some.symbol.now at c.args.walk)
    c.append_relations.ensures

pub returns-in-None : goal.returns-in-None
returns-in-None c level marked =
    sym (append-nil c.args.out.now.items)
    ∙ ap (λ (es : List EdgeRow). c.args.out.now.items ++ es)
    (none-those level c.args.walk c.args.depth c.args.path.now c.args.symbols.now c.args.occurrence.now (slice_get_past c.args.symbols.now c.args.occurrence.now.symbol c.in-None.ensures.lookup.3))
