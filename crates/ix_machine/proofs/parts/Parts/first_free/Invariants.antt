use Rattle.std.proofs.Common.{◌≡◌, drop, filter, not}
use Rattle.ix_machine.specs.Needs.{is_protected, settled}
use Rattle.ix_machine.specs.PlainState.{state_of}
use Rattle.ix_machine.proofs.parts.Parts.first_free.Given as goal

-- those that are free are among the names to come
abbrev pub invariant-loop-name : goal.invariant-loop-name
invariant-loop-name l =
    filter (λ name. not (is_protected (settled (state_of l.self)) name)) l.names ≡ filter (λ name. not (is_protected (settled (state_of l.self)) name)) (drop l.name-index l.names)
