use Rattle.std.proofs.Common.{◌≡◌, refl, sym, ap, subst, ◌∙◌, Option, Some, None, is_some, IfSome, Result}
use Rattle.ix_cabinet.specs.declared.change.Settled.{Settled}
use Rattle.ix_machine.specs.declared.event.Outcome.TheVariants as outcome
use Rattle.ix_machine.specs.Given as given
use Rattle.ix_ledger.specs.Books.{Books}
use Rattle.ix_ledger.specs.Effects.{publish_change}
use Rattle.ix_ledger.specs.Kept.{Kept, staged_in}
use Rattle.ix_library.specs.declared.fault.PublishError.{PublishError}
use Rattle.ix_library.specs.Endings.{flag_for, name_of_unit, publish_answer, publish_ending, publish_leaves}
use Rattle.ix_library.specs.StandsFor.{Takes}
use Rattle.ix_library.proofs.Publishes.{PublishLaws, PublishesOnDisk, clash_takes, publish_takes, publish_ready}
use Rattle.ix_library.proofs.Reserved.{at_room, from_room, ends_from_room, ready_room}
use Rattle.ix_library.proofs.Slots.{unit_of}
use Rattle.ix_library.proofs.library.Library.publish.Goals as goal

pub returns-in-None-clause-step : goal.returns-in-None-clause-step
returns-in-None-clause-step g c s stands =
    let name_of = g.N.Naming.name_of in
    let lane = c.args.lane in
    let old = c.args.self.now.ledger.kept in
    let kept = c.make_room.new.ledger.kept in
    let known = c.args.self.now.known in
    let shelf = c.args.self.now.shelf in
    let before = g.D.Dir.state c.args.self.now.dir in
    let room = g.D.Dir.state c.make_room.new.dir in
    let steps = c.each_step_is_the_machines.ensures in
    let ledger : PublishLaws = record { made = steps.publish_made; unsynced = steps.publish_unsynced; failed = steps.publish_failed; clashed = steps.publish_clashed } in
    let same : kept ≡ old = ap (λ (b : Books). b.kept) c.make_room.ensures.ledger in
    let there = at_room name_of s known before room c.make_room.ensures.dir old kept shelf same stands in
    let found = unit_of (staged_in old lane) c.requires.staged in
    let has : staged_in kept lane ≡ Some found.0 = ap (λ (k : Kept). staged_in k lane) same ∙ found.1 in
    let named : c.publish_name-name.result ≡ name_of found.0.output = c.publish_name-name.ensures ∙ ap (name_of_unit name_of) found.1 in
    let none : publish_change kept lane (name_of found.0.output) ≡ None = ap (publish_change kept lane) (sym named) ∙ (sym c.in_ok-publishing.ensures ∙ c.in-None.is) in
    from_room name_of s known before room c.make_room.ensures.dir lane given.Publish outcome.Done outcome.Clash c.publish_clashed.new.self.kept shelf room
    (clash_takes c.given.ensures ledger name_of s lane found.0 kept c.publish_clashed.new.self.kept known has shelf room there none (ap (λ (b : Books). b.kept) c.publish_clashed.ensures))

pub returns-in-Some-clause-step : goal.returns-in-Some-clause-step
returns-in-Some-clause-step g c s stands =
    let name_of = g.N.Naming.name_of in
    let lane = c.args.lane in
    let old = c.args.self.now.ledger.kept in
    let kept = c.make_room.new.ledger.kept in
    let now = c.end_publish.new.ledger.kept in
    let known = c.args.self.now.known in
    let shelf = c.args.self.now.shelf in
    let shelf_now = c.publish-answer.new.shelf in
    let before = g.D.Dir.state c.args.self.now.dir in
    let room = g.D.Dir.state c.make_room.new.dir in
    let after = g.D.Dir.state c.publish-answer.new.dir in
    let change = c.in-Some.change in
    let r = c.publish-answer.result in
    let steps = c.each_step_is_the_machines.ensures in
    let ledger : PublishLaws = record { made = steps.publish_made; unsynced = steps.publish_unsynced; failed = steps.publish_failed; clashed = steps.publish_clashed } in
    let same : kept ≡ old = ap (λ (b : Books). b.kept) c.make_room.ensures.ledger in
    let there = at_room name_of s known before room c.make_room.ensures.dir old kept shelf same stands in
    let found = unit_of (staged_in old lane) c.requires.staged in
    let unit = found.0 in
    let has : staged_in kept lane ≡ Some unit = ap (λ (k : Kept). staged_in k lane) same ∙ found.1 in
    let named : c.publish_name-name.result ≡ name_of unit.output = c.publish_name-name.ensures ∙ ap (name_of_unit name_of) found.1 in
    let is_change : publish_change kept lane (name_of unit.output) ≡ Some change = ap (publish_change kept lane) (sym named) ∙ (sym c.in_ok-publishing.ensures ∙ c.in-Some.is) in
    let waits : c.is_some-waits.result ≡ is_some s.pending = c.is_some-waits.ensures ∙ (ap is_some c.pending.ensures ∙ ap (λ (k : Kept). is_some k.pending) there.keeps.is) in
    let disk : PublishesOnDisk name_of s lane unit room.moves after.moves shelf_now r = record {
      made = λ lease settled stepped leased staged is taken ends.
          c.publish-answer.ensures.made name_of s lane lease unit settled stepped there.holds there.keeps.sound leased staged named (there.staged lane unit has).1 waits is taken ends;
      failed = λ next alike failed. c.publish-answer.ensures.failed name_of s next there.holds alike failed;
    } in
    let left : now ≡ publish_leaves (publish_answer r) kept lane (Some change) = ap (λ (b : Books). b.kept) c.end_publish.ensures.ledger ∙ ap (λ (a : Result Settled PublishError). publish_leaves a kept lane (Some change)) c.end_publish.ensures.answer in
    subst (λ (a : Result Settled PublishError). IfSome (publish_ending a) (λ how. Takes name_of s lane given.Publish (flag_for how) how before now shelf_now known after)) (sym c.end_publish.ensures.answer)
    (ends_from_room name_of s known before room c.make_room.ensures.dir lane given.Publish now shelf_now after (publish_ending (publish_answer r))
    (publish_takes c.given.ensures ledger name_of s lane unit kept now known has change is_change shelf shelf_now room after there c.publish-answer.ensures.slots c.publish-answer.ensures.added r disk left))

pub returns-in-Some-clause-ready : goal.returns-in-Some-clause-ready
returns-in-Some-clause-ready g c =
    let lane = c.args.lane in
    let old = c.args.self.now.ledger.kept in
    let kept = c.make_room.new.ledger.kept in
    let now = c.end_publish.new.ledger.kept in
    let before = g.D.Dir.state c.args.self.now.dir in
    let room = g.D.Dir.state c.make_room.new.dir in
    let r = c.publish-answer.result in
    let change = c.in-Some.change in
    let same : kept ≡ old = ap (λ (b : Books). b.kept) c.make_room.ensures.ledger in
    let left : now ≡ publish_leaves (publish_answer r) kept lane (Some change) = ap (λ (b : Books). b.kept) c.end_publish.ensures.ledger ∙ ap (λ (a : Result Settled PublishError). publish_leaves a kept lane (Some change)) c.end_publish.ensures.answer in
    publish_ready r kept now lane change room (g.D.Dir.state c.publish-answer.new.dir) left c.publish-answer.ensures.slots (ready_room old kept before room same c.make_room.ensures.dir c.requires.ready)

pub returns-then-is_err-clause-again : goal.returns-then-is_err-clause-again
returns-then-is_err-clause-again g c s stands is =
    at_room g.N.Naming.name_of s c.args.self.now.known (g.D.Dir.state c.args.self.now.dir) (g.D.Dir.state c.make_room.new.dir) c.make_room.ensures.dir c.args.self.now.ledger.kept c.make_room.new.ledger.kept c.args.self.now.shelf
    (ap (λ (b : Books). b.kept) c.make_room.ensures.ledger) stands

pub returns-in_err-publishing-clause-again : goal.returns-in_err-publishing-clause-again
returns-in_err-publishing-clause-again g c s stands is =
    at_room g.N.Naming.name_of s c.args.self.now.known (g.D.Dir.state c.args.self.now.dir) (g.D.Dir.state c.make_room.new.dir) c.make_room.ensures.dir c.args.self.now.ledger.kept c.make_room.new.ledger.kept c.args.self.now.shelf
    (ap (λ (b : Books). b.kept) c.make_room.ensures.ledger) stands
