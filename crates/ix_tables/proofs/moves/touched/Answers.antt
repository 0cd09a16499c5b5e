use Rattle.std.proofs.Common.{◌≡◌, ◌++◌, ℕ, List, map, ap, ◌∙◌, rules}
use Rattle.std.specs.List.{flat_map}
use Rattle.ix_unit.specs.declared.value.UnitValue.{UnitValue}
use Rattle.ix_outline.specs.Moving.{record_names}
use Rattle.ix_tables.specs.Items.{item_of}
use Rattle.ix_tables.proofs.Stepped.{of_items, both_parts}
use Rattle.ix_tables.proofs.moves.touched.Goals as goal

pub returns : goal.returns
returns c =
    let names_of : List ℕ × UnitValue → List (List ℕ) = λ entry. map (λ dep. dep.name) entry.1.records in
    let came : flat_map (λ item. names_of (item_of item)) c.gained.result.now ≡ record_names c.args.mover.now.gained = of_items item_of names_of c.gained.result.now c.args.mover.now.gained c.gained.ensures in
    let went : flat_map (λ item. names_of (item_of item)) c.lost.result.now ≡ record_names c.args.mover.now.lost = of_items item_of names_of c.lost.result.now c.args.mover.now.lost c.lost.ensures in
    both_parts c.new-names.result.items c.append_names.new.names.items c.append_names-2.new.names.items _ _ (search rules) c.in_ok-append_names.ensures c.in_ok-append_names-2.ensures
    ∙ (ap (λ (h : List (List ℕ)). h ++ flat_map (λ item. names_of (item_of item)) c.lost.result.now) came ∙ ap (λ (h : List (List ℕ)). record_names c.args.mover.now.gained ++ h) went)
