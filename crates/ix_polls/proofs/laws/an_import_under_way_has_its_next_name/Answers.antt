use Rattle.std.proofs.Common.{◌≡◌, ◌↔◌, Option, Some, None, refl}
use Rattle.ix_machine.specs.State as state
use Rattle.ix_machine.specs.State.{State}
use Rattle.ix_import.specs.Importing.{Opened}
use Rattle.ix_polls.specs.Following.{AreOpen}
use Rattle.ix_polls.proofs.Follows.{next_as, may_load}
use Rattle.ix_polls.proofs.laws.an_import_under_way_has_its_next_name.Goals as goal

pub returns-clause-next : goal.returns-clause-next
returns-clause-next c s lane mark records importer imports own = next_as c.given.ensures s importer imports lane mark records own

pub returns-clause-own : goal.returns-clause-own
returns-clause-own c s lane mark records importer own = record { open_import = record { lane = lane; mark = mark }; is_open = own.own; own = refl }

pub returns-clause-may : goal.returns-clause-may
returns-clause-may c s name importer imports next = may_load c.given.ensures s importer imports name next

closed_alike : (s : State) (i : Option state.Import) (o : Option Opened) → AreOpen s i o → (o ≡ None) ↔ (i ≡ None)
closed_alike s None None are = (λ e. refl, λ e. refl)
closed_alike s None (Some o) are = absurd are
closed_alike s (Some i) None are = absurd are
closed_alike s (Some i) (Some o) are = (λ e. absurd (cc), λ e. absurd (cc))

pub returns-clause-none : goal.returns-clause-none
returns-clause-none c s importer imports = closed_alike s s.import importer.import imports.opened
