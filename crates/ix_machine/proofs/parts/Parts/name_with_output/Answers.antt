use Rattle.std.proofs.Common.{ap, ◌∙◌, List, ℕ, Option, Bor, slice_get}
use Rattle.std.specs.BTreeMap.{keys}
use Rattle.std.specs.List.{position}
use Rattle.std.specs.Option.{option_and_then}
use Rattle.std.specs.Str.{bytes_eq}
use Rattle.std.specs.declared.sync.Arc.{Arc}
use Rattle.std.specs.declared.alloc.Global.{Global}
use Rattle.ix_unit.specs.declared.value.UnitValue.{UnitValue}
use Rattle.ix_machine.specs.Needs.{visible}
use Rattle.ix_machine.specs.PlainState.{state_of}
use Rattle.ix_machine.proofs.Plainly.{name-shown}
use Rattle.ix_machine.proofs.parts.Parts.name_with_output.Goals as goal

pub returns : goal.returns
returns c =
    c.name_at.ensures
    ∙ (ap (λ (ns : List (List ℕ)). option_and_then (slice_get ns) c.place_with_output-place.result) (c.deref-2.ensures.value ∙ c.in_ok-names.ensures)
    ∙ (ap (λ (o : Option ℕ). option_and_then (slice_get (keys c.in_ok-units.units)) o) (c.place_with_output-place.ensures ∙ ap (λ (us : List (Bor (Arc UnitValue Global))). position (λ unit. bytes_eq unit.now.value.output c.args.output.now) us) (c.deref.ensures.value ∙ c.in_ok-all.ensures))
    ∙ name-shown (λ unit. bytes_eq unit.output c.args.output.now) c.in_ok-units.units.entries (visible (state_of c.args.self.now)) c.in_ok-units.ensures))
