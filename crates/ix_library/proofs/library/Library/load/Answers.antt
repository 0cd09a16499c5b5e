use Rattle.std.proofs.Common.{ap, refl, ◌∙◌, Result, Err, ◌≡◌}
use Rattle.ix_dir.specs.State.{DirState}
use Rattle.ix_ledger.specs.Books.{Books}
use Rattle.ix_library.specs.LookEndings.{load_flag, kept_behind_load}
use Rattle.ix_library.proofs.Loading.{there_whole, for_import, for_ask, value_at, load_takes, load_fails, load_again, failure_of}
use Rattle.ix_library.proofs.library.Library.load.Goals as goal

same_err : {X E : Type 0} {a b : E} → ◌≡◌ {A = Result X E} (Err a) (Err b) → a ≡ b
same_err is = cc

pub load-requires : goal.load-requires
load-requires g c =
    there_whole c.what_is_held_may_be_looked_at.ensures.needed g.N.Naming.name_of c.args.self.now.ledger.kept c.args.self.now.shelf c.args.self.now.known (g.D.Dir.state c.args.self.now.dir) c.args.lane c.args.name c.args.purpose c.requires

pub returns-in-Ok-clause-imported : goal.returns-in-Ok-clause-imported
returns-in-Ok-clause-imported g c s open_import stands may is at =
    value_at g.N.Naming.name_of s c.args.self.now.ledger.kept c.args.self.now.shelf c.args.self.now.known (g.D.Dir.state c.args.self.now.dir) c.args.lane c.args.name c.args.purpose open_import.mark c.in-Ok.value.value
    (λ units holds stand needed. c.in-Ok.ensures.needed s c.args.self.now.shelf units holds stand needed) stands may (for_import s c.args.lane c.args.purpose open_import is at)

pub returns-in-Ok-clause-asked : goal.returns-in-Ok-clause-asked
returns-in-Ok-clause-asked g c s mark stands may is at =
    value_at g.N.Naming.name_of s c.args.self.now.ledger.kept c.args.self.now.shelf c.args.self.now.known (g.D.Dir.state c.args.self.now.dir) c.args.lane c.args.name c.args.purpose mark c.in-Ok.value.value
    (λ units holds stand needed. c.in-Ok.ensures.needed s c.args.self.now.shelf units holds stand needed) stands may (for_ask s c.args.lane c.args.purpose mark is at)

pub returns-in-Ok-clause-step : goal.returns-in-Ok-clause-step
returns-in-Ok-clause-step g c s stands may =
    load_takes c.given.ensures g.N.Naming.name_of s c.args.lane c.args.name c.args.self.now.ledger.kept c.load_made.new.self.kept c.args.self.now.known c.args.self.now.known c.args.self.now.shelf (g.D.Dir.state c.args.self.now.dir) (g.D.Dir.state c.load.new.dir)
    stands (record { moves = ap (λ (d : DirState). d.moves) c.load.ensures.state; slots = ap (λ (d : DirState). d.slots) c.load.ensures.state })
    c.each_step_is_the_machines.ensures.load_made c.args.purpose may
    (ap (λ (b : Books). b.kept) c.load_made.ensures ∙ ap (λ (b : Books). b.kept) c.room_for_load.ensures.same) refl

pub returns-in-Err-clause-step : goal.returns-in-Err-clause-step
returns-in-Err-clause-step g c s stands may =
    let error = c.in-Err.error in
    load_fails c.given.ensures g.N.Naming.name_of s c.args.lane c.args.name c.args.self.now.ledger.kept c.end_failed_load.new.ledger.kept c.args.self.now.known c.end_failed_load.new.known c.args.self.now.shelf (g.D.Dir.state c.args.self.now.dir) (g.D.Dir.state c.load.new.dir)
    stands (record { moves = ap (λ (d : DirState). d.moves) c.load.ensures.state; slots = ap (λ (d : DirState). d.slots) c.load.ensures.state })
    c.each_step_is_the_machines.ensures.load_failed c.args.purpose error may
    (failure_of c.args.name error (λ n is. (c.load.ensures.lost n (c.in-Err.is ∙ ap Err is)).0) (λ n is. (c.load.ensures.damaged n (c.in-Err.is ∙ ap Err is)).0))
    (c.end_failed_load.ensures.kept ∙ ap (λ (b : Books). kept_behind_load c.args.purpose (load_flag error) b.kept) c.room_for_load.ensures.same) c.end_failed_load.ensures.known

pub returns-in-Err-clause-again : goal.returns-in-Err-clause-again
returns-in-Err-clause-again g c s stands is =
    let error = c.in-Err.error in
    load_again g.N.Naming.name_of s c.args.self.now.ledger.kept c.end_failed_load.new.ledger.kept c.args.self.now.known c.end_failed_load.new.known c.args.self.now.shelf (g.D.Dir.state c.args.self.now.dir) (g.D.Dir.state c.load.new.dir) c.args.purpose error
    (record { moves = ap (λ (d : DirState). d.moves) c.load.ensures.state; slots = ap (λ (d : DirState). d.slots) c.load.ensures.state })
    (c.end_failed_load.ensures.kept ∙ ap (λ (b : Books). kept_behind_load c.args.purpose (load_flag error) b.kept) c.room_for_load.ensures.same) c.end_failed_load.ensures.known (same_err is) stands
