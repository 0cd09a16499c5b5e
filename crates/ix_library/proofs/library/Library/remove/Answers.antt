use Rattle.std.proofs.Common.{◌≡◌, sym, ap, subst, ◌∙◌, Some, None, is_some, IfSome, Result}
use Rattle.ix_cabinet.specs.declared.change.Settled.{Settled}
use Rattle.ix_machine.specs.declared.event.Outcome.TheVariants as outcome
use Rattle.ix_machine.specs.Given as given
use Rattle.ix_ledger.specs.Books.{Books}
use Rattle.ix_ledger.specs.Effects.{remove_change}
use Rattle.ix_ledger.specs.Kept.{Kept}
use Rattle.ix_library.specs.declared.fault.RemoveError.{RemoveError}
use Rattle.ix_library.specs.Endings.{flag_for, remove_answer, remove_ending, remove_leaves}
use Rattle.ix_library.specs.StandsFor.{Takes}
use Rattle.ix_library.proofs.Removes.{RemoveLaws, RemovesOnDisk, refused_takes, remove_takes}
use Rattle.ix_library.proofs.Reserved.{at_room, from_room, ends_from_room}
use Rattle.ix_library.proofs.library.Library.remove.Goals as goal

pub returns-in-None-clause-step : goal.returns-in-None-clause-step
returns-in-None-clause-step g c s stands =
    let name_of = g.N.Naming.name_of in
    let lane = c.args.lane in
    let output = c.args.output.now in
    let old = c.args.self.now.ledger.kept in
    let kept = c.make_room.new.ledger.kept in
    let known = c.args.self.now.known in
    let shelf = c.args.self.now.shelf in
    let before = g.D.Dir.state c.args.self.now.dir in
    let room = g.D.Dir.state c.make_room.new.dir in
    let steps = c.each_step_is_the_machines.ensures in
    let ledger : RemoveLaws = record { made = steps.remove_made; unsynced = steps.remove_unsynced; failed = steps.remove_failed; refused = steps.remove_refused } in
    let same : kept ≡ old = ap (λ (b : Books). b.kept) c.make_room.ensures.ledger in
    let there = at_room name_of s known before room c.make_room.ensures.dir old kept shelf same stands in
    let named : c.name-name.result ≡ name_of output = c.name-name.ensures ∙ ap name_of c.bytes.ensures.value in
    let none : remove_change kept (name_of output) output ≡ None = ap (λ n. remove_change kept n output) (sym named) ∙ (sym c.in_ok-removing.ensures ∙ c.in-None.is) in
    from_room name_of s known before room c.make_room.ensures.dir lane (given.Remove output) outcome.Done outcome.NoUnit c.remove_refused.new.self.kept shelf room
    (refused_takes c.given.ensures ledger name_of s lane output kept c.remove_refused.new.self.kept known shelf room there none (ap (λ (b : Books). b.kept) c.remove_refused.ensures))

pub returns-in-Some-clause-step : goal.returns-in-Some-clause-step
returns-in-Some-clause-step g c s stands =
    let name_of = g.N.Naming.name_of in
    let lane = c.args.lane in
    let output = c.args.output.now in
    let old = c.args.self.now.ledger.kept in
    let kept = c.make_room.new.ledger.kept in
    let now = c.end_remove.new.ledger.kept in
    let known = c.args.self.now.known in
    let shelf = c.args.self.now.shelf in
    let shelf_now = c.remove-answer.new.shelf in
    let before = g.D.Dir.state c.args.self.now.dir in
    let room = g.D.Dir.state c.make_room.new.dir in
    let after = g.D.Dir.state c.remove-answer.new.dir in
    let change = c.in-Some.change in
    let r = c.remove-answer.result in
    let steps = c.each_step_is_the_machines.ensures in
    let ledger : RemoveLaws = record { made = steps.remove_made; unsynced = steps.remove_unsynced; failed = steps.remove_failed; refused = steps.remove_refused } in
    let same : kept ≡ old = ap (λ (b : Books). b.kept) c.make_room.ensures.ledger in
    let there = at_room name_of s known before room c.make_room.ensures.dir old kept shelf same stands in
    let named : c.name-name.result ≡ name_of output = c.name-name.ensures ∙ ap name_of c.bytes.ensures.value in
    let is_change : remove_change kept (name_of output) output ≡ Some change = ap (λ n. remove_change kept n output) (sym named) ∙ (sym c.in_ok-removing.ensures ∙ c.in-Some.is) in
    let waits : c.is_some-pending.result ≡ is_some s.pending = c.is_some-pending.ensures ∙ (ap is_some c.pending.ensures ∙ ap (λ (k : Kept). is_some k.pending) there.keeps.is) in
    let disk : RemovesOnDisk name_of s lane output room.moves after.moves shelf_now r = record {
      made = λ settled stepped with_output is taken. c.remove-answer.ensures.made name_of s lane output settled stepped there.holds (with_output ∙ ap Some (sym named)) waits is taken;
      failed = λ next alike failed. c.remove-answer.ensures.failed name_of s next there.holds alike failed;
    } in
    let left : now ≡ remove_leaves (remove_answer r) kept (Some change) = ap (λ (b : Books). b.kept) c.end_remove.ensures.ledger ∙ ap (λ (a : Result Settled RemoveError). remove_leaves a kept (Some change)) c.end_remove.ensures.answer in
    subst (λ (a : Result Settled RemoveError). IfSome (remove_ending a) (λ how. Takes name_of s lane (given.Remove output) (flag_for how) how before now shelf_now known after)) (sym c.end_remove.ensures.answer)
    (ends_from_room name_of s known before room c.make_room.ensures.dir lane (given.Remove output) now shelf_now after (remove_ending (remove_answer r))
    (remove_takes c.given.ensures ledger name_of s lane output kept now known change is_change shelf shelf_now room after there c.remove-answer.ensures.slots c.remove-answer.ensures.added r disk left))

pub returns-then-is_err-clause-again : goal.returns-then-is_err-clause-again
returns-then-is_err-clause-again g c s stands is =
    at_room g.N.Naming.name_of s c.args.self.now.known (g.D.Dir.state c.args.self.now.dir) (g.D.Dir.state c.make_room.new.dir) c.make_room.ensures.dir c.args.self.now.ledger.kept c.make_room.new.ledger.kept c.args.self.now.shelf
    (ap (λ (b : Books). b.kept) c.make_room.ensures.ledger) stands

pub returns-in_err-removing-clause-again : goal.returns-in_err-removing-clause-again
returns-in_err-removing-clause-again g c s stands is =
    at_room g.N.Naming.name_of s c.args.self.now.known (g.D.Dir.state c.args.self.now.dir) (g.D.Dir.state c.make_room.new.dir) c.make_room.ensures.dir c.args.self.now.ledger.kept c.make_room.new.ledger.kept c.args.self.now.shelf
    (ap (λ (b : Books). b.kept) c.make_room.ensures.ledger) stands
