-- An install is the machine's step.
use Rattle.std.proofs.Common.{◌≡◌, ℕ, true, ◌==◌, List, refl, sym, ap, subst, ◌∙◌, eqb-true, Option, Some, None, option_map, IfSome}
use Rattle.ix_dir.specs.declared.moves.Move.{Move}
use Rattle.ix_dir.specs.State.{DirState}
use Rattle.ix_shelf.specs.Shelf.{OnShelf}
use Rattle.ix_cabinet.specs.Scan.{StampMap}
use Rattle.ix_machine.specs.declared.event.Outcome.TheVariants as outcome
use Rattle.ix_machine.specs.Given as given
use Rattle.ix_machine.specs.Needs.{option_any}
use Rattle.ix_machine.specs.State.{Import, State}
use Rattle.ix_machine.specs.Step as calls
use Rattle.ix_guard.specs.Counts.{Counts}
use Rattle.ix_ledger.specs.Effects as effect
use Rattle.ix_ledger.specs.Kept.{Kept}
use Rattle.ix_ledger.specs.OfState.{Keeps, Makes}
use Rattle.ix_ledger.specs.Registered.{has_opened}
use Rattle.ix_library.specs.declared.known.KnownStamps.{KnownStamps}
use Rattle.ix_library.specs.Given.{Laws}
use Rattle.ix_library.specs.KnownUnits.{AreStampsOfImport, KnowsUnits}
use Rattle.ix_library.specs.Looks.{stamps_installed}
use Rattle.ix_library.specs.StandsFor.{StandsFor, Takes}
use Rattle.ix_library.proofs.Looking.{look_takes}

abbrev pub Installs : Type 0
Installs = (name_of : List ℕ → List ℕ) (s : State) (lane : ℕ) (kept : Kept) (open_import : Import) → Keeps name_of kept s → kept.import ≡ Some open_import → open_import.lane ≡ lane
    → Makes name_of s lane given.Install outcome.Done (outcome.At open_import.mark) (effect.installed kept lane) (calls.install_mark s lane open_import.mark).plain.state

-- the import that is open is the lane's
pub record IsOwn (o : Option Import) (lane mark : ℕ) : Type 0 where
  pub open_import : Import
  pub is_open : o ≡ Some open_import
  pub own : open_import.lane ≡ lane
  pub at : open_import.mark ≡ mark

own_import : (o : Option Import) (lane mark : ℕ) → option_any (λ open_import. open_import.lane == lane) o ≡ true → option_map (λ open_import. open_import.mark) o ≡ Some mark → IsOwn o lane mark
own_import None lane mark own at = absurd (cc)
own_import (Some i) lane mark own at = let same : i.mark ≡ mark = cc in record { open_import = i; is_open = refl; own = eqb-true i.lane lane own; at = same }

-- the stamps of the import are those of the mark from now on
installed_stamps : (name_of : List ℕ → List ℕ) (s : State) (lane : ℕ) (open_import : Import) (known : KnownStamps) (import : Option StampMap) (moves : List Move) → s.import ≡ Some open_import → AreStampsOfImport name_of s s.import import moves
    → KnowsUnits name_of (calls.install_mark s lane open_import.mark).plain.state (stamps_installed known import) moves
installed_stamps name_of s lane open_import known None moves is are = absurd (subst (λ (o : Option Import). AreStampsOfImport name_of s o None moves) is are)
installed_stamps name_of s lane open_import known (Some stamps) moves is are = record { current = subst (λ (o : Option Import). AreStampsOfImport name_of s o (Some stamps) moves) is are; import = tt }

installed_knows : (name_of : List ℕ → List ℕ) (s : State) (lane : ℕ) (open_import : Import) (known : KnownStamps) (moves : Option (List Move)) → s.import ≡ Some open_import → IfSome moves (KnowsUnits name_of s known)
    → IfSome moves (KnowsUnits name_of (calls.install_mark s lane open_import.mark).plain.state (stamps_installed known known.import))
installed_knows name_of s lane open_import known None is knows = tt
installed_knows name_of s lane open_import known (Some m) is knows = installed_stamps name_of s lane open_import known known.import m is knows.import

pub installed_staged : (kept : Kept) (lane : ℕ) → (effect.installed kept lane).staged ≡ kept.staged
installed_staged kept lane = by_cases kept.import kept.guard.import
  where
    by_cases : (o : Option Import) (needs : Option Counts) → (effect.installed_over kept lane o needs).staged ≡ kept.staged
    by_cases None needs = refl
    by_cases (Some i) None = refl
    by_cases (Some i) (Some needs) = refl

pub install_takes : (laws : Laws) (installs : Installs) (name_of : List ℕ → List ℕ) (s : State) (lane : ℕ) (old now : Kept) (known known_now : KnownStamps) (shelf : OnShelf) (dir : DirState) (mark : ℕ)
    → StandsFor name_of s old shelf known dir → has_opened old lane ≡ true → now ≡ effect.installed old lane → option_map (λ open_import. open_import.mark) old.import ≡ Some mark → known_now ≡ stamps_installed known known.import
    → Takes name_of s lane given.Install outcome.Done (outcome.At mark) dir now shelf known_now dir
install_takes laws installs name_of s lane old now known known_now shelf dir mark stands opened is at stamps =
    let own = own_import old.import lane mark opened at in
    let opened_by = sym (ap (λ (k : Kept). k.import) stands.keeps.is) ∙ own.is_open in
    subst (λ (m : ℕ). Takes name_of s lane given.Install outcome.Done (outcome.At m) dir now shelf known_now dir) own.at
    (subst (λ (k : KnownStamps). Takes name_of s lane given.Install outcome.Done (outcome.At own.open_import.mark) dir now shelf k dir) (sym stamps)
    (look_takes laws name_of s lane given.Install outcome.Done (outcome.At own.open_import.mark) (calls.install_mark s lane own.open_import.mark).plain.state old (effect.installed old lane) now known (stamps_installed known known.import) shelf dir dir stands
    (record { moves = refl; slots = refl }) (record { publications = refl; pending = refl; records = refl }) (installed_staged old lane) (installs name_of s lane old own.open_import stands.keeps own.is_open own.own) is
    (installed_knows name_of s lane own.open_import known dir.moves opened_by stands.knows)))
