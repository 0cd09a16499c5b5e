use Rattle.std.proofs.Common.{List, length, refl, ap, ◌∙◌}
use Rattle.ix_dir.specs.Crash.{standing}
use Rattle.ix_unit.specs.declared.batch.UnitPut.{UnitPut}
use Rattle.ix_ledger.specs.Books.{Books}
use Rattle.ix_ledger.specs.Effects.{kept_at_first}
use Rattle.ix_ledger.specs.Handles.{named_puts}
use Rattle.ix_library.proofs.Opens.{OpenLaws, begins_with, opened_counts, opened_stands}
use Rattle.ix_library.proofs.Slots.{none_ready}
use Rattle.ix_library.proofs.UnitsStay.{NoneLaws}
use Rattle.ix_library.proofs.opening.open_store.Goals as goal

pub returns-in-Ok-open-clause-stands : goal.returns-in-Ok-open-clause-stands
returns-in-Ok-open-clause-stands g c =
    let laws : OpenLaws = record {
      held = c.an_opening_is_held.ensures;
      opens = c.each_step_is_the_machines.ensures.opens;
      rise = λ name_of moves. c.found_names_rise.ensures.units name_of (standing moves);
      named = λ name_of moves. c.found_names_rise.ensures.named name_of (standing moves);
    } in
    let none : NoneLaws = record { contents = c.contents_have_bytes.ensures; stamp_of = c.stamps_are_those_of_files.ensures } in
    opened_stands laws none g.N.Naming.name_of c.args.lanes c.in-Ok.found c.in-Ok-open.ledger.kept c.new.result c.none.result (g.D.Dir.state c.open.new.dir)
    (ap (λ (b : Books). b.kept) c.in-Ok-open.ensures ∙ ap (λ (us : List UnitPut). kept_at_first (named_puts us) (length us) c.args.lanes) c.as_slice.ensures)
    (g.D.Dir.state c.args.dir).moves (g.D.Dir.state c.open.new.dir).moves c.none.ensures.current c.none.ensures.import
    c.open.ensures.added c.in-Ok.ensures.opening c.in-Ok.ensures.begins c.in-Ok.ensures.moves c.in-Ok.ensures.holds refl

pub returns-in-Ok-open-clause-ready : goal.returns-in-Ok-open-clause-ready
returns-in-Ok-open-clause-ready g c = none_ready c.args.lanes c.in-Ok-open.ledger.kept (g.D.Dir.state c.open.new.dir) (ap (λ (b : Books). b.kept.staged) c.in-Ok-open.ensures)

pub returns-in-Ok-open-clause-found : goal.returns-in-Ok-open-clause-found
returns-in-Ok-open-clause-found g c =
    let laws : OpenLaws = record {
      held = c.an_opening_is_held.ensures;
      opens = c.each_step_is_the_machines.ensures.opens;
      rise = λ name_of moves. c.found_names_rise.ensures.units name_of (standing moves);
      named = λ name_of moves. c.found_names_rise.ensures.named name_of (standing moves);
    } in
    let none : NoneLaws = record { contents = c.contents_have_bytes.ensures; stamp_of = c.stamps_are_those_of_files.ensures } in
    begins_with laws none g.N.Naming.name_of c.args.lanes c.in-Ok.found c.in-Ok-open.ledger.kept c.new.result c.none.result (g.D.Dir.state c.open.new.dir)
    (ap (λ (b : Books). b.kept) c.in-Ok-open.ensures ∙ ap (λ (us : List UnitPut). kept_at_first (named_puts us) (length us) c.args.lanes) c.as_slice.ensures)
    c.opening_lists_what_is_judged.ensures.units_rise (g.D.Dir.state c.args.dir).moves c.in-Ok.ensures.found c.in-Ok.ensures.units

pub returns-in-Ok-open-clause-counts : goal.returns-in-Ok-open-clause-counts
returns-in-Ok-open-clause-counts g c =
    opened_counts c.an_opening_begins.ensures.counts g.N.Naming.name_of c.args.lanes (g.D.Dir.state c.args.dir).moves (g.D.Dir.state c.open.new.dir).moves c.in-Ok.ensures.begins c.in-Ok.ensures.moves c.in-Ok.ensures.holds
