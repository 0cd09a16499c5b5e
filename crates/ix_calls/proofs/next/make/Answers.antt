use Rattle.std.proofs.Common.{ap, sym, ◌∙◌, option_map}
use Rattle.ix_lanes.specs.TurnView.{turn_of}
use Rattle.ix_calls.proofs.Making.{asking_as, turn_there}
use Rattle.ix_calls.proofs.Tasks.{turn_fits}
use Rattle.ix_calls.proofs.next.make.Goals as goal

pub make_turn-requires-clause-sound : goal.make_turn-requires-clause-sound
make_turn-requires-clause-sound g c =
    turn_fits g.N.Naming.name_of c.args.lane.now.progress (turn_of c.in-Some.turn) c.requires.tasks (sym c.next.ensures ∙ ap (option_map turn_of) c.in-Some.is)

pub make_turn-requires-clause-asking : goal.make_turn-requires-clause-asking
make_turn-requires-clause-asking g c = c.requires.asking ∙ asking_as c.args.lane.now.progress (turn_of c.in-Some.turn) (sym c.next.ensures ∙ ap (option_map turn_of) c.in-Some.is)

pub make_turn-requires-clause-there : goal.make_turn-requires-clause-there
make_turn-requires-clause-there g c =
    turn_there g.N.Naming.name_of c.args.library.now.ledger.kept c.args.library.now.shelf c.args.library.now.known (g.D.Dir.state c.args.library.now.dir) c.args.number c.args.lane.now.progress (turn_of c.in-Some.turn) c.args.importer.now c.args.lacking
    (sym c.next.ensures ∙ ap (option_map turn_of) c.in-Some.is) c.requires.there

pub returns-in_ok-made-in-Some-clause-call : goal.returns-in_ok-made-in-Some-clause-call
returns-in_ok-made-in-Some-clause-call g c s stands at =
    c.in_ok-made-in-Some.ensures.call s c.args.lane.now.progress stands (sym c.next.ensures ∙ ap (option_map turn_of) c.in-Some.is) at
