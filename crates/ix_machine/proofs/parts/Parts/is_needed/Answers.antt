use Rattle.std.proofs.Common.{◌≡◌, ap, sym, map, length, option_map, ◌∙◌, ◌||◌, Bool, List, ℕ, Option}
use Rattle.std.specs.List.{list_any}
use Rattle.std.proofs.lemmas.List.{length-map}
use Rattle.ix_model.specs.Units.{units_at}
use Rattle.ix_machine.specs.declared.units.Change.{Change}
use Rattle.ix_machine.specs.Needs.{option_any, units_need, is_needed}
use Rattle.ix_machine.specs.Plain.{publication_of}
use Rattle.ix_machine.specs.PlainState.{import_seen}
use Rattle.ix_machine.proofs.Seen.{import-any}
use Rattle.ix_machine.proofs.parts.Parts.is_needed.Goals as goal

pub returns : goal.returns
unfolding is_needed
returns c =
    let name = c.args.name.now in
    let items = c.args.self.now.changes.items in
    let len : length (map publication_of items) ≡ length items = simp length-map in
    let visible = c.in_ok-by_visible.ensures
    ∙ (ap (λ (ds : List Change). units_need name (units_at (map publication_of ds) c.len.result)) c.deref.ensures.value
    ∙ ap (λ (n : ℕ). units_need name (units_at (map publication_of items) n)) (c.len.ensures ∙ (sym c.deref.ensures.len ∙ (ap length c.deref.ensures.value ∙ sym len)))) in
    let pending = c.in_ok-by_pending.ensures ∙ ap (λ (ds : List Change). option_any (λ m. units_need name (units_at (map publication_of ds) m)) c.args.pending) c.deref-2.ensures.value in
    let imported = c.in_ok-by_import.ensures
    ∙ (ap (λ (ds : List Change). option_any (λ m. units_need name (units_at (map publication_of ds) m)) c.mark_of.result) c.deref-3.ensures.value
    ∙ (ap (λ (o : Option ℕ). option_any (λ m. units_need name (units_at (map publication_of items) m)) o) c.mark_of.ensures
    ∙ import-any (λ m. units_need name (units_at (map publication_of items) m)) c.args.self.now.import)) in
    let current = c.in_ok-by_current.ensures ∙ ap (λ (ds : List Change). units_need name (units_at (map publication_of ds) c.args.self.now.current)) c.deref-4.ensures.value in
    let held = c.in_ok-by_held.ensures
    ∙ (ap (λ (ds : List Change). list_any (option_any (λ m. units_need name (units_at (map publication_of ds) m))) c.deref-6.result.now) c.deref-5.ensures.value
    ∙ ap (λ (hs : List (Option ℕ)). list_any (option_any (λ m. units_need name (units_at (map publication_of items) m))) hs) c.deref-6.ensures.value) in
    c.either-4.ensures
    ∙ (ap (λ (b : Bool). b || c.in_ok-by_held.by_held)
    (c.either-3.ensures ∙ (ap (λ (b : Bool). b || c.in_ok-by_current.by_current)
    (c.either-2.ensures ∙ (ap (λ (b : Bool). b || c.in_ok-by_import.by_import) (c.either.ensures ∙ (ap (λ (b : Bool). b || c.in_ok-by_pending.by_pending) visible ∙ ap (λ (b : Bool). units_need name (units_at (map publication_of items) (length (map publication_of items))) || b) pending))
    ∙ ap (λ (b : Bool). units_need name (units_at (map publication_of items) (length (map publication_of items))) || option_any (λ m. units_need name (units_at (map publication_of items) m)) c.args.pending || b) imported))
    ∙ ap (λ (b : Bool). units_need name (units_at (map publication_of items) (length (map publication_of items))) || option_any (λ m. units_need name (units_at (map publication_of items) m)) c.args.pending || option_any (λ i. units_need name (units_at (map publication_of items) i.mark)) (option_map import_seen c.args.self.now.import) || b) current))
    ∙ ap (λ (b : Bool). units_need name (units_at (map publication_of items) (length (map publication_of items))) || option_any (λ m. units_need name (units_at (map publication_of items) m)) c.args.pending || option_any (λ i. units_need name (units_at (map publication_of items) i.mark)) (option_map import_seen c.args.self.now.import) || units_need name (units_at (map publication_of items) c.args.self.now.current) || b) held)
