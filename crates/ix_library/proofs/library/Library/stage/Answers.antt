use Rattle.std.proofs.Common.{◌≡◌, refl, ap, subst, ◌∙◌, IsSome, OnOk, Result}
use Rattle.ix_cabinet.specs.declared.fault.StageError.{StageError}
use Rattle.ix_ledger.specs.Kept.{Kept, staged_in}
use Rattle.ix_dir.specs.State.{DirState, staged_bytes}
use Rattle.ix_unit.specs.declared.value.UnitValue.{UnitValue}
use Rattle.ix_unit.specs.Spelling.{UnitSpelling}
use Rattle.ix_machine.specs.Given as given
use Rattle.ix_guard.specs.Guarding.{lease_of}
use Rattle.ix_ledger.specs.Books.{Books}
use Rattle.ix_library.specs.Endings.{stage_ending, stage_leaves}
use Rattle.ix_library.proofs.Reserved.{at_room, ends_from_room, again_apart}
use Rattle.ix_library.proofs.Stages.{StageLaws, StagesOnDisk, others_stay, put_under, stage_takes}
use Rattle.ix_library.proofs.library.Library.stage.Goals as goal

pub returns-clause-step : goal.returns-clause-step
returns-clause-step g c s stands =
    let name_of = g.N.Naming.name_of in
    let lane = c.args.lane in
    let unit = c.args.unit.value in
    let old = c.args.self.now.ledger.kept in
    let kept = c.make_room.new.ledger.kept in
    let known = c.args.self.now.known in
    let shelf = c.args.self.now.shelf in
    let before = g.D.Dir.state c.args.self.now.dir in
    let room = g.D.Dir.state c.make_room.new.dir in
    let after = g.D.Dir.state c.stage_unit-answer.new.dir in
    let r = c.stage_unit-answer.result in
    let ledger : StageLaws = record { made = c.each_step_is_the_machines.ensures.stage_made; failed = c.each_step_is_the_machines.ensures.stage_failed } in
    let same : kept ≡ old = ap (λ (b : Books). b.kept) c.make_room.ensures.ledger in
    let there = at_room name_of s known before room c.make_room.ensures.dir old kept shelf same stands in
    let under = put_under unit.records (lease_of old.guard lane) c.requires.put in
    let may = c.calls_may_be_made.ensures.stage name_of s lane old unit under.lease stands.keeps under.is c.requires.unstaged c.requires.valid under.put in
    let disk : StagesOnDisk lane unit room after r = record {
      staged = c.stage_unit-answer.ensures.staged;
      bytes = subst (λ (u : UnitValue). OnOk r (IsSome room.moves → UnitSpelling (staged_bytes after lane) u)) c.deref-2.ensures c.stage_unit-answer.ensures.bytes;
      moves = ap (λ (d : DirState). d.moves) c.stage_unit-answer.ensures.state;
      slots = ap (λ (d : DirState). d.slots) c.stage_unit-answer.ensures.state;
    } in
    ends_from_room name_of s known before room c.make_room.ensures.dir lane (given.Stage unit) c.end_stage.new.ledger.kept shelf after (stage_ending r)
    (stage_takes c.given.ensures ledger name_of s lane unit kept c.end_stage.new.ledger.kept known shelf room after there may r disk (ap (λ (b : Books). b.kept) c.end_stage.ensures))

pub returns-then-is_err-clause-again : goal.returns-then-is_err-clause-again
returns-then-is_err-clause-again g c s stands is =
    at_room g.N.Naming.name_of s c.args.self.now.known (g.D.Dir.state c.args.self.now.dir) (g.D.Dir.state c.make_room.new.dir) c.make_room.ensures.dir c.args.self.now.ledger.kept c.make_room.new.ledger.kept c.args.self.now.shelf
    (ap (λ (b : Books). b.kept) c.make_room.ensures.ledger) stands

pub returns-clause-again : goal.returns-clause-again
returns-clause-again g c s stands is =
    let name_of = g.N.Naming.name_of in
    let lane = c.args.lane in
    let unit = c.args.unit.value in
    let old = c.args.self.now.ledger.kept in
    let kept = c.make_room.new.ledger.kept in
    let known = c.args.self.now.known in
    let shelf = c.args.self.now.shelf in
    let room = g.D.Dir.state c.make_room.new.dir in
    let after = g.D.Dir.state c.stage_unit-answer.new.dir in
    let same : kept ≡ old = ap (λ (b : Books). b.kept) c.make_room.ensures.ledger in
    let there = at_room name_of s known (g.D.Dir.state c.args.self.now.dir) room c.make_room.ensures.dir old kept shelf same stands in
    again_apart name_of s known kept c.end_stage.new.ledger.kept shelf shelf lane room after
    (ap (λ (b : Books). b.kept) c.end_stage.ensures ∙ ap (λ (a : Result (Unit {0}) StageError). stage_leaves a kept lane unit) is) refl (ap (λ (d : DirState). d.moves) c.stage_unit-answer.ensures.state)
    (others_stay lane room after (ap (λ (d : DirState). d.slots) c.stage_unit-answer.ensures.state)) (ap (λ (k : Kept). staged_in k lane) same ∙ c.requires.unstaged) there
