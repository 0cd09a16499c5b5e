use Rattle.std.proofs.Common.{rules, ◌≡◌, true, Some, ap, sym, ◌∙◌}
use Rattle.std.specs.List.{slice_get}
use Rattle.std.proofs.lemmas.Option.{slice_get-get_or, slice_get_past}
use Rattle.ix_record.specs.declared.value.Symbol.{Symbol}
use Rattle.ix_types.specs.Codes.{has_any}
use Rattle.ix_answers.specs.Walks.{followed}
use Rattle.ix_hierarchy.specs.Marks.{is_marked, begins_at}
use Rattle.ix_hierarchy.proofs.Marked.{found-some, found-none}
use Rattle.ix_hierarchy.proofs.edges.edge_found.Goals as goal

pub returns-in_ok-edge_between-in-Some : goal.returns-in_ok-edge_between-in-Some
returns-in_ok-edge_between-in-Some c =
    let at : slice_get c.args.symbols.now c.args.relation.now.symbol ≡ Some c.in-Some.other.now =
    slice_get-get_or c.args.symbols.now c.args.relation.now.symbol c.in-Some.other.now c.in-Some.ensures.lookup.3.0 ∙ ap (λ (s : Symbol). Some s) (sym c.in-Some.ensures.lookup.1) in
    let follows : has_any c.args.relation.now.roles (followed c.args.walk) ≡ true = search rules in
    let marked : is_marked c.args.marks.now (begins_at c.args.walk c.args.occurrence.now c.args.relation.now) ≡ true = search rules in
    ap Some c.in_ok-edge_between-in-Some.ensures
    ∙ sym (found-some c.args.walk c.args.depth c.args.marks.now c.args.path.now c.args.symbols.now c.args.occurrence.now c.args.usr.now c.args.relation.now c.in-Some.other.now at follows marked)

pub returns-in-None : goal.returns-in-None
returns-in-None c =
    sym (found-none c.args.walk c.args.depth c.args.marks.now c.args.path.now c.args.symbols.now c.args.occurrence.now c.args.usr.now c.args.relation.now
    (slice_get_past c.args.symbols.now c.args.relation.now.symbol c.in-None.ensures.lookup.3))
