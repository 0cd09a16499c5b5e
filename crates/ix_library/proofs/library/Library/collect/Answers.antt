use Rattle.std.proofs.Common.{◌≡◌, List, map, refl, sym, ap, subst, ◌∙◌, Option, Some, None, is_some, IfSome, Result, slice_get}
use Rattle.std.specs.Map.{keys_of}
use Rattle.ix_dir.specs.declared.area.Area.TheVariants.{Records}
use Rattle.ix_dir.specs.declared.dir.Listed.{Listed}
use Rattle.ix_dir.specs.declared.moves.Move.{Move}
use Rattle.ix_dir.specs.Files.{listed_of}
use Rattle.ix_dir.specs.Moves.{area_after}
use Rattle.ix_dir.specs.State.{DirState}
use Rattle.ix_machine.specs.declared.event.Outcome.TheVariants as outcome
use Rattle.ix_machine.specs.Given as given
use Rattle.ix_machine.specs.Needs.{loose}
use Rattle.ix_guard.specs.Protection.{IsFirstLoose}
use Rattle.ix_ledger.specs.Books.{Books}
use Rattle.ix_ledger.specs.Kept.{Kept}
use Rattle.ix_changes.specs.Holds.{Leads}
use Rattle.ix_library.specs.declared.fault.CollectError.{CollectError}
use Rattle.ix_library.specs.declared.fault.Collected.{Collected}
use Rattle.ix_library.specs.declared.fault.Collected.TheVariants as collects
use Rattle.ix_library.specs.Endings.{flag_for, collect_answer, collect_ending, collect_leaves}
use Rattle.ix_library.specs.StandsFor.{Takes}
use Rattle.ix_library.proofs.Collects.{CollectLaws, CollectsOnDisk, failed_takes, nothing_takes, removed_takes}
use Rattle.ix_library.proofs.Listing.{LooseLaws, first_of_records}
use Rattle.ix_library.proofs.Reserved.{at_room, at_same, from_same, ends_from_same}
use Rattle.ix_library.proofs.Taking.{none_added}
use Rattle.ix_library.proofs.library.Library.collect.Goals as goal

pub returns-in-Err-Failed-clause-step : goal.returns-in-Err-Failed-clause-step
returns-in-Err-Failed-clause-step g c s stands =
    let name_of = g.N.Naming.name_of in
    let lane = c.args.lane in
    let old = c.args.self.now.ledger.kept in
    let kept = c.make_room.new.ledger.kept in
    let now = c.collect_failed.new.self.kept in
    let known = c.args.self.now.known in
    let shelf = c.args.self.now.shelf in
    let before = g.D.Dir.state c.args.self.now.dir in
    let after = g.D.Dir.state c.list.new.self in
    let steps = c.each_step_is_the_machines.ensures in
    let ledger : CollectLaws = record { nothing = steps.collect_nothing; removed = steps.collect_removed; failed = steps.collect_failed } in
    let same : kept ≡ old = ap (λ (b : Books). b.kept) c.make_room.ensures.ledger in
    let moves : after.moves ≡ before.moves = ap (λ (d : DirState). d.moves) c.list.ensures.state ∙ ap (λ (d : DirState). d.moves) c.make_room.ensures.dir in
    let slots : after.slots ≡ before.slots = ap (λ (d : DirState). d.slots) c.list.ensures.state ∙ ap (λ (d : DirState). d.slots) c.make_room.ensures.dir in
    let there = at_same name_of s known before after moves slots old kept shelf same stands in
    from_same name_of s known before after moves slots lane given.Collect outcome.Fault outcome.Fault now shelf after
    (failed_takes c.given.ensures ledger name_of s lane kept now known shelf shelf after after there refl (none_added after.moves)
    (c.given.ensures.unmoved name_of s s shelf after.moves there.holds (record { publications = refl; pending = refl; records = refl })) (ap (λ (b : Books). b.kept) c.collect_failed.ensures))

pub returns-in-None-clause-step : goal.returns-in-None-clause-step
returns-in-None-clause-step g c s stands =
    let name_of = g.N.Naming.name_of in
    let lane = c.args.lane in
    let old = c.args.self.now.ledger.kept in
    let room = c.make_room.new.ledger.kept in
    let kept = c.first_loose.new.self.kept in
    let now = c.end_collect.new.ledger.kept in
    let known = c.args.self.now.known in
    let shelf = c.args.self.now.shelf in
    let shelf_now = c.collect-answer.new.shelf in
    let before = g.D.Dir.state c.args.self.now.dir in
    let listed = g.D.Dir.state c.list.new.self in
    let after = g.D.Dir.state c.collect-answer.new.dir in
    let records = c.in-Ok.records in
    let r = c.collect-answer.result in
    let steps = c.each_step_is_the_machines.ensures in
    let ledger : CollectLaws = record { nothing = steps.collect_nothing; removed = steps.collect_removed; failed = steps.collect_failed } in
    let loose_laws : LooseLaws = record { some = c.the_first_loose_name_is_the_least.ensures.some; none = c.the_first_loose_name_is_the_least.ensures.none } in
    let same_room : room ≡ old = ap (λ (b : Books). b.kept) c.make_room.ensures.ledger in
    let same : kept ≡ old = ap (λ (b : Books). b.kept) c.first_loose.ensures.same ∙ same_room in
    let moves : listed.moves ≡ before.moves = ap (λ (d : DirState). d.moves) c.list.ensures.state ∙ ap (λ (d : DirState). d.moves) c.make_room.ensures.dir in
    let slots : listed.slots ≡ before.slots = ap (λ (d : DirState). d.slots) c.list.ensures.state ∙ ap (λ (d : DirState). d.slots) c.make_room.ensures.dir in
    let there = at_same name_of s known before listed moves slots old kept shelf same stands in
    let in_room = at_same name_of s known before listed moves slots old room shelf same_room stands in
    let told = stands.holds.told in
    let files : records ≡ listed_of (area_after told Records) =
    subst (λ (m : Option (List Move)). IfSome m (λ (ms : List Move). records ≡ listed_of (area_after ms Records))) (ap (λ (d : DirState). d.moves) c.make_room.ensures.dir ∙ stands.holds.is) c.in-Ok.ensures.listed in
    let first = c.first_loose.result in
    let guard = record room.guard { unsynced = None } in
    let of_files : IsFirstLoose guard (map (λ (one : Listed). one.name) (listed_of (area_after told Records))) first = subst (λ (ls : List Listed). IsFirstLoose guard (map (λ (one : Listed). one.name) ls) first) files c.first_loose.ensures.first in
    let first_is : first ≡ slice_get (loose s) 0 = steps.first_loose name_of s room first in_room.keeps (first_of_records s.records told stands.holds.stands.records loose_laws guard first of_files) in
    let none : slice_get (loose s) 0 ≡ None = sym first_is ∙ c.in-None.is in
    let waits : c.is_some-pending.result ≡ is_some s.pending = c.is_some-pending.ensures ∙ (ap is_some c.pending.ensures ∙ ap (λ (k : Kept). is_some k.pending) in_room.keeps.is) in
    let disk : CollectsOnDisk name_of s lane outcome.Nothing listed.moves after.moves shelf_now r = record {
      made = λ stepped is taken ends. c.collect-answer.ensures.nothing name_of s lane stepped there.holds there.keeps.sound refl waits is taken ends;
      failed = λ next alike failed. c.collect-answer.ensures.failed name_of s next there.holds alike failed;
    } in
    let left : now ≡ collect_leaves (collect_answer collects.Nothing r) kept = ap (λ (b : Books). b.kept) c.end_collect.ensures.ledger ∙ ap (λ (a : Result Collected CollectError). collect_leaves a kept) c.end_collect.ensures.answer in
    subst (λ (a : Result Collected CollectError). IfSome (collect_ending a) (λ how. Takes name_of s lane given.Collect (flag_for how) how before now shelf_now known after)) (sym c.end_collect.ensures.answer)
    (ends_from_same name_of s known before listed moves slots lane given.Collect now shelf_now after (collect_ending (collect_answer collects.Nothing r))
    (nothing_takes c.given.ensures ledger name_of s lane kept now known shelf shelf_now listed after there c.collect-answer.ensures.slots c.collect-answer.ensures.added r none disk left))

pub returns-clause-step : goal.returns-clause-step
returns-clause-step g c s stands =
    let name_of = g.N.Naming.name_of in
    let lane = c.args.lane in
    let old = c.args.self.now.ledger.kept in
    let room = c.make_room.new.ledger.kept in
    let kept = c.first_loose.new.self.kept in
    let now = c.end_collect-in-Some.new.ledger.kept in
    let known = c.args.self.now.known in
    let shelf = c.args.self.now.shelf in
    let shelf_now = c.collect-answer-in-Some.new.shelf in
    let before = g.D.Dir.state c.args.self.now.dir in
    let listed = g.D.Dir.state c.list.new.self in
    let after = g.D.Dir.state c.collect-answer-in-Some.new.dir in
    let records = c.in-Ok.records in
    let name = c.in-Some.name in
    let r = c.collect-answer-in-Some.result in
    let steps = c.each_step_is_the_machines.ensures in
    let ledger : CollectLaws = record { nothing = steps.collect_nothing; removed = steps.collect_removed; failed = steps.collect_failed } in
    let loose_laws : LooseLaws = record { some = c.the_first_loose_name_is_the_least.ensures.some; none = c.the_first_loose_name_is_the_least.ensures.none } in
    let same_room : room ≡ old = ap (λ (b : Books). b.kept) c.make_room.ensures.ledger in
    let same : kept ≡ old = ap (λ (b : Books). b.kept) c.first_loose.ensures.same ∙ same_room in
    let moves : listed.moves ≡ before.moves = ap (λ (d : DirState). d.moves) c.list.ensures.state ∙ ap (λ (d : DirState). d.moves) c.make_room.ensures.dir in
    let slots : listed.slots ≡ before.slots = ap (λ (d : DirState). d.slots) c.list.ensures.state ∙ ap (λ (d : DirState). d.slots) c.make_room.ensures.dir in
    let there = at_same name_of s known before listed moves slots old kept shelf same stands in
    let in_room = at_same name_of s known before listed moves slots old room shelf same_room stands in
    let told = stands.holds.told in
    let files : records ≡ listed_of (area_after told Records) =
    subst (λ (m : Option (List Move)). IfSome m (λ (ms : List Move). records ≡ listed_of (area_after ms Records))) (ap (λ (d : DirState). d.moves) c.make_room.ensures.dir ∙ stands.holds.is) c.in-Ok.ensures.listed in
    let first = c.first_loose.result in
    let guard = record room.guard { unsynced = None } in
    let of_files : IsFirstLoose guard (map (λ (one : Listed). one.name) (listed_of (area_after told Records))) first = subst (λ (ls : List Listed). IsFirstLoose guard (map (λ (one : Listed). one.name) ls) first) files c.first_loose.ensures.first in
    let first_is : first ≡ slice_get (loose s) 0 = steps.first_loose name_of s room first in_room.keeps (first_of_records s.records told stands.holds.stands.records loose_laws guard first of_files) in
    let some : slice_get (loose s) 0 ≡ Some name = sym first_is ∙ c.in-Some.is in
    let waits : c.is_some-pending.result ≡ is_some s.pending = c.is_some-pending.ensures ∙ (ap is_some c.pending.ensures ∙ ap (λ (k : Kept). is_some k.pending) in_room.keeps.is) in
    let disk : CollectsOnDisk name_of s lane (outcome.Removed name) listed.moves after.moves shelf_now r = record {
      made = λ stepped is taken ends. c.collect-answer-in-Some.ensures.removed name_of s lane name stepped there.holds there.keeps.sound refl waits is taken ends;
      failed = λ next alike failed. c.collect-answer-in-Some.ensures.failed name_of s next there.holds alike failed;
    } in
    let left : now ≡ collect_leaves (collect_answer (collects.Removed name) r) kept = ap (λ (b : Books). b.kept) c.end_collect-in-Some.ensures.ledger ∙ ap (λ (a : Result Collected CollectError). collect_leaves a kept) c.end_collect-in-Some.ensures.answer in
    subst (λ (a : Result Collected CollectError). IfSome (collect_ending a) (λ how. Takes name_of s lane given.Collect (flag_for how) how before now shelf_now known after)) (sym c.end_collect-in-Some.ensures.answer)
    (ends_from_same name_of s known before listed moves slots lane given.Collect now shelf_now after (collect_ending (collect_answer (collects.Removed name) r))
    (removed_takes c.given.ensures ledger name_of s lane kept now known shelf shelf_now listed after there c.collect-answer-in-Some.ensures.slots c.collect-answer-in-Some.ensures.added r name some disk left))

pub returns-then-is_err-clause-again : goal.returns-then-is_err-clause-again
returns-then-is_err-clause-again g c s stands is =
    at_room g.N.Naming.name_of s c.args.self.now.known (g.D.Dir.state c.args.self.now.dir) (g.D.Dir.state c.make_room.new.dir) c.make_room.ensures.dir c.args.self.now.ledger.kept c.make_room.new.ledger.kept c.args.self.now.shelf
    (ap (λ (b : Books). b.kept) c.make_room.ensures.ledger) stands

pub returns-in-Err-Memory-clause-again : goal.returns-in-Err-Memory-clause-again
returns-in-Err-Memory-clause-again g c s stands is =
    at_same g.N.Naming.name_of s c.args.self.now.known (g.D.Dir.state c.args.self.now.dir) (g.D.Dir.state c.list.new.self) (ap (λ (d : DirState). d.moves) c.list.ensures.state ∙ ap (λ (d : DirState). d.moves) c.make_room.ensures.dir)
    (ap (λ (d : DirState). d.slots) c.list.ensures.state ∙ ap (λ (d : DirState). d.slots) c.make_room.ensures.dir) c.args.self.now.ledger.kept c.make_room.new.ledger.kept c.args.self.now.shelf (ap (λ (b : Books). b.kept) c.make_room.ensures.ledger) stands
