use Rattle.std.proofs.Common.{◌∙◌, not}
use Rattle.std.specs.Str.{bytes_eq}
use Rattle.ix_machine.specs.Needs.{visible}
use Rattle.ix_machine.specs.PlainState.{state_of}
use Rattle.ix_machine.proofs.Plainly.{named-shown}
use Rattle.ix_machine.proofs.parts.Parts.clashes.Goals as goal

pub returns : goal.returns
returns c =
    c.has_other_output.ensures
    ∙ named-shown (λ unit. not (bytes_eq unit.output c.args.output.now)) c.args.name.now c.in_ok-units.units.entries (visible (state_of c.args.self.now)) c.in_ok-units.ensures
