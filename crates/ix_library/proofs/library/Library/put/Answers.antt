use Rattle.std.proofs.Common.{◌≡◌, ◌≢◌, sym, ap, ◌∙◌, Result, Ok, Err}
use Rattle.ix_shelf.specs.declared.fault.PutError.{PutError}
use Rattle.ix_shelf.specs.declared.fault.PutError.TheVariants.{Memory}
use Rattle.ix_shelf.specs.declared.shelf.Put.{Put}
use Rattle.ix_shelf.specs.declared.shelf.Put.TheVariants.{Written}
use Rattle.ix_machine.specs.Given as given
use Rattle.ix_machine.specs.Needs as machine
use Rattle.ix_guard.specs.Protection.{is_guarded}
use Rattle.ix_ledger.specs.Books.{Books}
use Rattle.ix_ledger.specs.Kept.{Kept, staged_in}
use Rattle.ix_library.specs.Endings.{put_ending, put_leaves}
use Rattle.ix_library.proofs.Puts.{PutLaws, PutsOnDisk, put_takes}
use Rattle.ix_library.proofs.Reserved.{at_room, ends_from_room, again_apart}
use Rattle.ix_library.proofs.library.Library.put.Goals as goal

pub returns-clause-step : goal.returns-clause-step
returns-clause-step g c s stands =
    let name_of = g.N.Naming.name_of in
    let lane = c.args.lane in
    let body = c.args.body.now in
    let old = c.args.self.now.ledger.kept in
    let kept = c.make_room.new.ledger.kept in
    let known = c.args.self.now.known in
    let shelf = c.args.self.now.shelf in
    let before = g.D.Dir.state c.args.self.now.dir in
    let room = g.D.Dir.state c.make_room.new.dir in
    let after = g.D.Dir.state c.put-answer.new.dir in
    let r = c.put-answer.result in
    let ledger : PutLaws = record {
      written = c.each_step_is_the_machines.ensures.put_written;
      shared = c.each_step_is_the_machines.ensures.put_shared;
      clashed = c.each_step_is_the_machines.ensures.put_clashed;
      failed = c.each_step_is_the_machines.ensures.put_failed;
    } in
    let same : kept ≡ old = ap (λ (b : Books). b.kept) c.make_room.ensures.ledger in
    let there = at_room name_of s known before room c.make_room.ensures.dir old kept shelf same stands in
    let guarded : c.protects-protected.result ≡ machine.is_guarded s lane body.name =
    c.protects-protected.ensures ∙ (ap (λ (k : Kept). is_guarded k.guard lane body.name) there.keeps.is ∙ c.the_guard_agrees_with_the_machine.ensures.guarded name_of s lane body.name stands.keeps.sound) in
    let may = c.calls_may_be_made.ensures.put name_of s lane old body stands.keeps c.requires.unstaged c.requires.leased c.requires.whole in
    let disk : PutsOnDisk name_of s lane body shelf c.put-answer.new.shelf room.moves after.moves r = record {
      written = c.put-answer.ensures.written name_of s lane there.holds there.keeps.sound guarded;
      shared = c.put-answer.ensures.shared name_of s lane there.holds guarded;
      clashed = λ name. c.put-answer.ensures.clashed name_of s lane name there.holds guarded;
      kept = c.put-answer.ensures.kept;
      same = c.put-answer.ensures.same;
    } in
    ends_from_room name_of s known before room c.make_room.ensures.dir lane (given.Put body) c.end_put.new.ledger.kept c.put-answer.new.shelf after (put_ending r)
    (put_takes c.given.ensures ledger name_of s lane body kept c.end_put.new.ledger.kept known shelf c.put-answer.new.shelf room after there may (ap (λ (k : Kept). staged_in k lane) same ∙ c.requires.unstaged) c.put-answer.ensures.slots c.put-answer.ensures.added
    r disk (ap (λ (b : Books). b.kept) c.end_put.ensures))

pub returns-then-is_err-clause-again : goal.returns-then-is_err-clause-again
returns-then-is_err-clause-again g c s stands is =
    at_room g.N.Naming.name_of s c.args.self.now.known (g.D.Dir.state c.args.self.now.dir) (g.D.Dir.state c.make_room.new.dir) c.make_room.ensures.dir c.args.self.now.ledger.kept c.make_room.new.ledger.kept c.args.self.now.shelf
    (ap (λ (b : Books). b.kept) c.make_room.ensures.ledger) stands

not_written : (r : Result Put PutError) → r ≡ Err Memory → r ≢ Ok Written
not_written r is e = let no : Err Memory ≡ Ok Written = sym is ∙ e in absurd (cc)

pub returns-clause-again : goal.returns-clause-again
returns-clause-again g c s stands is =
    let name_of = g.N.Naming.name_of in
    let lane = c.args.lane in
    let name = c.args.body.now.name in
    let old = c.args.self.now.ledger.kept in
    let kept = c.make_room.new.ledger.kept in
    let known = c.args.self.now.known in
    let shelf = c.args.self.now.shelf in
    let room = g.D.Dir.state c.make_room.new.dir in
    let r = c.put-answer.result in
    let same : kept ≡ old = ap (λ (b : Books). b.kept) c.make_room.ensures.ledger in
    let there = at_room name_of s known (g.D.Dir.state c.args.self.now.dir) room c.make_room.ensures.dir old kept shelf same stands in
    again_apart name_of s known kept c.end_put.new.ledger.kept shelf c.put-answer.new.shelf lane room (g.D.Dir.state c.put-answer.new.dir)
    (ap (λ (b : Books). b.kept) c.end_put.ensures ∙ ap (λ (a : Result Put PutError). put_leaves a kept lane name) is) (c.put-answer.ensures.same (not_written r is)) (c.put-answer.ensures.kept (not_written r is)) c.put-answer.ensures.slots
    (ap (λ (k : Kept). staged_in k lane) same ∙ c.requires.unstaged) there
