use Rattle.std.proofs.Common.{◌≡◌, List, ℕ, Option, Some, None, IfSome, IfOk, refl, sym, ap, subst, ◌∙◌}
use Rattle.ix_dir.specs.State.{DirState}
use Rattle.ix_shelf.specs.Shelf.{OnShelf}
use Rattle.ix_machine.specs.declared.event.Purpose.TheVariants as purpose
use Rattle.ix_machine.specs.Run.{MayLoad}
use Rattle.ix_machine.specs.State.{State}
use Rattle.ix_ledger.specs.Kept.{Kept}
use Rattle.ix_library.specs.declared.known.KnownStamps.{KnownStamps}
use Rattle.ix_library.specs.Looks.{MayLoadThere}
use Rattle.ix_library.specs.StandsFor.{StandsFor}
use Rattle.ix_import.specs.Importing.{Importing, next_of}
use Rattle.ix_lanes.specs.Calls.{load_or_install}
use Rattle.ix_polls.specs.Following.{IsImporting}
use Rattle.ix_polls.specs.Given.{Laws}
use Rattle.ix_polls.specs.Polling.{FollowsThere, Polls, version_of}
use Rattle.ix_polls.proofs.Follows.{may_load}
use Rattle.ix_polls.proofs.polls.import.Goals as goal

-- where there are moves the next new name may be loaded
may_there : Laws → (name_of : List ℕ → List ℕ) (kept : Kept) (shelf : OnShelf) (known : KnownStamps) (dir : DirState) (importer : Importing) (lane : ℕ) (name : List ℕ) → next_of importer ≡ Some name
    → FollowsThere name_of kept shelf known dir importer → MayLoadThere name_of kept shelf known dir lane name purpose.Import
may_there laws name_of kept shelf known dir importer lane name next there =
    (elim dir.moves as (λ o. IfSome o (λ moves. (s : State) × StandsFor name_of s kept shelf known dir × IsImporting s importer) → IfSome o (λ moves. (s : State) × StandsFor name_of s kept shelf known dir × MayLoad s lane name purpose.Import)) [
      | None ↦ λ t. tt
      | Some moves ↦ λ t. (t.0, t.1, may_load laws t.0 importer t.2 name next)
    ]) there

pub load_new-requires-clause-may : goal.load_new-requires-clause-may
load_new-requires-clause-may g c =
    may_there c.given.ensures g.N.Naming.name_of c.args.library.now.ledger.kept c.args.library.now.shelf c.args.library.now.known (g.D.Dir.state c.args.library.now.dir) c.args.importer.now c.args.lane c.in-Some.name
    (sym c.next_new.ensures.next ∙ c.in-Some.is) c.requires

pub returns-in-Some-clause-step : goal.returns-in-Some-clause-step
returns-in-Some-clause-step g c s p stands imports way turned =
    let old = c.args.library.now in
    let new = c.load_new.new.library in
    let next : next_of c.args.importer.now ≡ Some c.in-Some.name = sym c.next_new.ensures.next ∙ c.in-Some.is in
    subst (λ (o : Option (List ℕ)). IfOk c.load_new.result (λ made. Polls g.N.Naming.name_of s c.args.lane p (load_or_install o) made.outcome (version_of made) (g.D.Dir.state old.dir) new.ledger.kept new.shelf new.known (g.D.Dir.state new.dir) c.load_new.new.importer))
    (sym next) (c.load_new.ensures.step s p stands imports way turned)

pub returns-in-None-clause-step : goal.returns-in-None-clause-step
returns-in-None-clause-step g c s p stands imports way turned =
    let old = c.args.library.now in
    let new = c.install.new.library in
    let next : next_of c.args.importer.now ≡ None = sym c.next_new.ensures.next ∙ c.in-None.is in
    subst (λ (o : Option (List ℕ)). IfOk c.install.result (λ made. Polls g.N.Naming.name_of s c.args.lane p (load_or_install o) made.outcome (version_of made) (g.D.Dir.state old.dir) new.ledger.kept new.shelf new.known (g.D.Dir.state new.dir) c.install.new.importer))
    (sym next) (c.install.ensures.step s p stands imports way turned)
