use Rattle.ix_dir.specs.Untold.{state_untold}
use Rattle.ix_library.specs.StandsFor.{HasSlots}
use Rattle.ix_facts.proofs.tests.check_lines.Given as goal

-- the slots of the lanes that staged units are staged
abbrev pub invariant-loop-line : goal.invariant-loop-line
invariant-loop-line g l = HasSlots l.library.ledger.kept (state_untold l.library.dir)
