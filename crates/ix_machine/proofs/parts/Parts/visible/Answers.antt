use Rattle.std.proofs.Common.{◌≡◌, ap, sym, map, length, ◌∙◌, List, ℕ}
use Rattle.std.proofs.lemmas.List.{length-map}
use Rattle.ix_model.specs.Units.{units_at}
use Rattle.ix_machine.specs.declared.units.Change.{Change}
use Rattle.ix_machine.specs.Plain.{publication_of, unit_map}
use Rattle.ix_machine.proofs.parts.Parts.visible.Goals as goal

pub returns : goal.returns
returns c =
    let items = c.args.self.now.changes.items in
    let len : length (map publication_of items) ≡ length items = simp length-map in
    c.in_ok-units.ensures
    ∙ (ap (λ (ds : List Change). unit_map (units_at (map publication_of ds) c.len.result)) c.deref.ensures.value
    ∙ ap (λ (n : ℕ). unit_map (units_at (map publication_of items) n)) (c.len.ensures ∙ (sym c.deref.ensures.len ∙ (ap length c.deref.ensures.value ∙ sym len))))
