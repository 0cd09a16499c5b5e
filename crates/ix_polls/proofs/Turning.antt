-- Each turn does what is said of it.
use Rattle.std.proofs.Common.{◌≡◌, ◌⊎◌, inl, inr, ℕ, suc, ◌==◌, eq-eqb, Bool, true, false, not, cond, List, filter, length, Option, Some, None, IfSome, refl, sym, ap, subst, ◌∙◌}
use Rattle.std.specs.Option.{is_some, option_and_then, option_map}
use Rattle.std.proofs.lemmas.Option.{same_Some}
use Rattle.ix_record.specs.declared.value.RecordValue.{RecordValue}
use Rattle.ix_unit.specs.declared.batch.Scan.{Scan}
use Rattle.ix_dir.specs.State.{DirState}
use Rattle.ix_shelf.specs.Shelf.{OnShelf}
use Rattle.ix_model.specs.Units.{Units, needs}
use Rattle.ix_answers.specs.Batches.{LeadsTo, HaveOneValue}
use Rattle.ix_machine.specs.declared.event.Outcome.{Outcome}
use Rattle.ix_machine.specs.declared.event.Outcome.TheVariants.{Done, At}
use Rattle.ix_machine.specs.declared.event.Purpose.TheVariants as purpose
use Rattle.ix_machine.specs.Given as given
use Rattle.ix_machine.specs.Needs.{has_name, seen_at, visible}
use Rattle.ix_machine.specs.Run.{MayLoad}
use Rattle.ix_machine.specs.Sound.{RecordsStand}
use Rattle.ix_machine.specs.State as state
use Rattle.ix_machine.specs.State.{State}
use Rattle.ix_machine.specs.Step.{Row, Stepped, ended, flagged, holding, unopened, install_import, install_mark}
use Rattle.ix_machine.specs.Step as calls
use Rattle.ix_ledger.specs.Kept.{Kept}
use Rattle.ix_looks.specs.Values.{HasValue}
use Rattle.ix_library.specs.declared.known.KnownStamps.{KnownStamps}
use Rattle.ix_library.specs.Endings.{flag_for}
use Rattle.ix_library.specs.StandsFor.{StandsFor, Takes}
use Rattle.ix_outline.specs.Known.{AreTables, Known}
use Rattle.ix_outline.specs.Outline.{outline_of}
use Rattle.ix_tables.specs.declared.tables.Version.{Version}
use Rattle.ix_import.specs.Importing.{Opened, Importing as Importer, next_of, begun, abandoned, took}
use Rattle.ix_import.specs.Leading.{LeadsFrom}
use Rattle.ix_lanes.specs.declared.doing.Doing.{Doing}
use Rattle.ix_lanes.specs.declared.doing.Doing.TheVariants.{Begun, Putting, Staged, Importing}
use Rattle.ix_lanes.specs.declared.doing.Kind.TheVariants as kind
use Rattle.ix_lanes.specs.Calls.{next_turn, next_call, call_for, import_call, load_or_install}
use Rattle.ix_lanes.specs.Calls as turn
use Rattle.ix_lanes.specs.Progress.{Progress, over, taken_up, scanned, imported, poll_told, adopted, told, told_by}
use Rattle.ix_lanes.specs.Tasks.{kind_of}
use Rattle.ix_turns.specs.Looks.{look_failed}
use Rattle.ix_polls.specs.Following.{IsImporting, IsOwnImport, IsUnderWay}
use Rattle.ix_polls.specs.Polling.{Polls, followed, loaded_into}
use Rattle.ix_polls.proofs.Endings.{EndsAs, ends_as}
use Rattle.ix_polls.specs.Given.{Laws}
use Rattle.ix_polls.proofs.Follows.{scanned_state, scan_follows, scan_own, closes, load_follows, load_own, next_as, number_is, leads_from, install_follows, adopt_follows}
use Rattle.ix_polls.proofs.Turns.{NoImport, IsImport, scans, imports, adopts, poll_is_told, failed_over, held_still}

no_way : false ≡ true → ⊥
no_way e = cc

failed_so : (b : Bool) → false ≡ not b → b ≡ true
failed_so true e = refl
failed_so false e = absurd (no_way e)

abbrev mark_in : Outcome → ℕ
mark_in (At mark) = mark
mark_in _ = 0

no_state : {next : State} → ◌≡◌ {A = Option State} None (Some next) → ⊥
no_state e = cc

module _ (laws : Laws) (name_of : List ℕ → List ℕ) (s : State) (lane : ℕ) (p : Progress) (importer : Importer) (follows : IsImporting s importer)
    (before : DirState) (kept : Kept) (shelf : OnShelf) (known : KnownStamps) (dir : DirState) (outcome : Outcome) where
  -- a poll is over whose call failed
  module _ (now : Importer) (is : now ≡ abandoned importer) (next : State) (at : unopened s ≡ next) (failed : look_failed outcome ≡ true) (poll : kind_of p.tasks ≡ kind.Poll) where
    over_now : told outcome p ≡ over p
    over_now = poll_is_told p outcome poll ∙ failed_over p outcome failed

    closed_now : IsImporting next now
    closed_now = subst (λ (i : Importer). IsImporting next i) (sym is) (subst (λ (t : State). IsImporting t (abandoned importer)) at (closes laws s importer follows))

    none_now : IsUnderWay next lane (told outcome p).doing now
    none_now = subst (λ (q : Progress). IsUnderWay next lane q.doing now) (sym over_now) tt

    held_now : (told outcome p).held ≡ p.held
    held_now = ap (λ (q : Progress). q.held) over_now

  -- ---- scans

  module _ (takes : Takes name_of s lane given.Scan (flag_for outcome) outcome before kept shelf known dir) (turned : next_turn p ≡ Some turn.Scan) (stand : RecordsStand name_of s.records (visible s)) where
    abbrev all : ℕ
    all = length s.publications

    scan_way : (scan : Scan) (doing : Doing) → IsUnderWay (scanned_state s lane) lane (scanned all doing p).doing (begun scan importer)
    scan_way scan Begun = scan_own laws s importer follows lane scan
    scan_way scan (Putting files) = tt
    scan_way scan Staged = tt
    scan_way scan (Importing mark records) = tt

    scan_call : next_call (seen_at s) s.current p ≡ Some given.Scan
    scan_call = ap (λ t. option_and_then (λ u. call_for (seen_at s) s.current p u) t) turned

    found_scan : (scan : Scan) → At all ≡ outcome → scanned_state s lane ≡ takes.next → outcome ≡ At scan.mark
        → LeadsTo scan.batch.puts scan.batch.gone (seen_at s s.current) (seen_at s scan.mark)
        → scan.fresh ≡ filter (λ name. not (has_name name (needs (seen_at s s.current)))) (needs (seen_at s scan.mark)) → HaveOneValue (seen_at s s.current) (seen_at s scan.mark)
        → Polls name_of s lane p given.Scan outcome None before kept shelf known dir (begun scan importer)
    found_scan scan ends at marked leads fresh one =
        let way = scans p turned in
        let mark : scan.mark ≡ all = sym (ap mark_in (ends ∙ marked)) in
        let after : told outcome p ≡ scanned all p.doing p = poll_is_told p outcome way.0 ∙ ap (λ o. poll_told o p) (sym ends) in
        record {
          next = scan_call;
          takes = takes;
          imports = subst (λ (t : State). IsImporting t (begun scan importer)) at (scan_follows laws s importer follows name_of stand lane scan mark leads fresh one);
          under_way = subst (λ (q : Progress). IsUnderWay takes.next lane q.doing (begun scan importer)) (sym after)
              (subst (λ (t : State). IsUnderWay t lane (scanned all p.doing p).doing (begun scan importer)) at (scan_way scan p.doing));
          holds = ap (λ (q : Progress). q.held) after ∙ held_still p.doing all p way.1;
        }

    by_plain : (scan : Option Scan) → is_some scan ≡ not (look_failed outcome) → IfSome scan (λ found. outcome ≡ At found.mark)
        → IfSome scan (λ found. LeadsTo found.batch.puts found.batch.gone (seen_at s s.current) (seen_at s found.mark))
        → IfSome scan (λ found. found.fresh ≡ filter (λ name. not (has_name name (needs (seen_at s s.current)))) (needs (seen_at s found.mark)))
        → IfSome scan (λ found. HaveOneValue (seen_at s s.current) (seen_at s found.mark))
        → (calls.scan s lane).plain ≡ ended outcome takes.next → Polls name_of s lane p given.Scan outcome None before kept shelf known dir (followed scan importer)
    by_plain None found marked leads fresh one e = absurd (no_way (found ∙ ap (λ o. not (look_failed o)) (sym (ap (λ (t : Stepped). t.outcome) e))))
    by_plain (Some scan) found marked leads fresh one e = found_scan scan (ap (λ (t : Stepped). t.outcome) e) (ap (λ (t : Stepped). t.state) e) marked leads fresh one

    by_fault : (scan : Option Scan) → is_some scan ≡ not (look_failed outcome) → look_failed outcome ≡ true → unopened s ≡ takes.next
        → Polls name_of s lane p given.Scan outcome None before kept shelf known dir (followed scan importer)
    by_fault None found failed at =
        let way = scans p turned in
        record {
          next = scan_call;
          takes = takes;
          imports = closed_now (abandoned importer) refl takes.next at failed way.0;
          under_way = none_now (abandoned importer) refl takes.next at failed way.0;
          holds = held_now (abandoned importer) refl takes.next at failed way.0;
        }
    by_fault (Some scan) found failed at = absurd (no_way (sym (found ∙ ap not failed)))

    pub scan_polls : (scan : Option Scan) → is_some scan ≡ not (look_failed outcome) → IfSome scan (λ found. outcome ≡ At found.mark)
        → IfSome scan (λ found. LeadsTo found.batch.puts found.batch.gone (seen_at s s.current) (seen_at s found.mark))
        → IfSome scan (λ found. found.fresh ≡ filter (λ name. not (has_name name (needs (seen_at s s.current)))) (needs (seen_at s found.mark)))
        → IfSome scan (λ found. HaveOneValue (seen_at s s.current) (seen_at s found.mark))
        → Polls name_of s lane p given.Scan outcome None before kept shelf known dir (followed scan importer)
    scan_polls scan found marked leads fresh one = go (ends_as (calls.scan s lane) outcome takes.next takes.taken)
      where
        go : EndsAs (calls.scan s lane) outcome takes.next → Polls name_of s lane p given.Scan outcome None before kept shelf known dir (followed scan importer)
        go (inl e) = by_plain scan found marked leads fresh one e
        go (inr (inl e)) = by_fault scan found e.0 (same_Some (unopened s) takes.next e.1)
        go (inr (inr e)) = absurd (no_state e)

  -- ---- imports

  module _ (turned : next_turn p ≡ Some turn.Import) (way : IsUnderWay s lane p.doing importer) where
    abbrev doing : IsImport p.doing
    doing = (imports p turned).1

    own : IsOwnImport s lane doing.mark doing.records importer
    own = subst (λ (d : Doing). IsUnderWay s lane d importer) doing.is way

    import_now : next_call (seen_at s) s.current p ≡ Some (load_or_install (next_of importer))
    import_now =
        ap (λ t. option_and_then (λ u. call_for (seen_at s) s.current p u) t) turned
        ∙ (ap (λ (d : Doing). import_call (seen_at s) s.current d) doing.is
        ∙ ap (λ o. Some (load_or_install o)) (sym (next_as laws s importer follows lane doing.mark doing.records own)))

    module _ (name : List ℕ) (next : next_of importer ≡ Some name) (takes : Takes name_of s lane (given.Load name purpose.Import) (flag_for outcome) outcome before kept shelf known dir) where
      load_call : next_call (seen_at s) s.current p ≡ Some (given.Load name purpose.Import)
      load_call = import_now ∙ ap (λ o. Some (load_or_install o)) next

      taken_one : (value : RecordValue) → Done ≡ outcome → s ≡ takes.next → IfSome s.import (λ (j : state.Import). RecordsStand name_of s.records (seen_at s j.mark))
          → ((j : state.Import) → s.import ≡ Some j → HasValue (seen_at s j.mark) name value)
          → Polls name_of s lane p (given.Load name purpose.Import) outcome None before kept shelf known dir (took name (outline_of value) importer)
      taken_one value ends at stand has =
          let after : told outcome p ≡ record p { doing = Importing doing.mark (suc doing.records) } =
          poll_is_told p outcome (imports p turned).0 ∙ (ap (λ o. poll_told o p) (sym ends) ∙ ap (λ (d : Doing). imported d p) doing.is) in
          record {
            next = load_call;
            takes = takes;
            imports = subst (λ (t : State). IsImporting t (took name (outline_of value) importer)) at (load_follows laws s importer follows name value name_of stand has);
            under_way = subst (λ (q : Progress). IsUnderWay takes.next lane q.doing (took name (outline_of value) importer)) (sym after)
                (subst (λ (t : State). IsOwnImport t lane doing.mark (suc doing.records) (took name (outline_of value) importer)) at (load_own laws s importer follows name (outline_of value) lane doing.mark doing.records next own));
            holds = ap (λ (q : Progress). q.held) after;
          }

      made_it : (value : RecordValue) → outcome ≡ Done → IfSome s.import (λ (j : state.Import). RecordsStand name_of s.records (seen_at s j.mark))
          → ((j : state.Import) → s.import ≡ Some j → HasValue (seen_at s j.mark) name value)
          → Polls name_of s lane p (given.Load name purpose.Import) outcome None before kept shelf known dir (took name (outline_of value) importer)
      made_it value done stand has = go (ends_as (calls.load s name purpose.Import) outcome takes.next takes.taken)
        where
          go : EndsAs (calls.load s name purpose.Import) outcome takes.next → Polls name_of s lane p (given.Load name purpose.Import) outcome None before kept shelf known dir (took name (outline_of value) importer)
          go (inl e) = taken_one value (sym done) (ap (λ (t : Stepped). t.state) e) stand has
          go (inr (inl e)) = absurd (no_way (ap look_failed (sym done) ∙ e.0))
          go (inr (inr e)) = absurd (no_state e)

      stops : look_failed outcome ≡ true → Polls name_of s lane p (given.Load name purpose.Import) outcome None before kept shelf known dir (abandoned importer)
      stops failed = go (ends_as (calls.load s name purpose.Import) outcome takes.next takes.taken)
        where
          go : EndsAs (calls.load s name purpose.Import) outcome takes.next → Polls name_of s lane p (given.Load name purpose.Import) outcome None before kept shelf known dir (abandoned importer)
          go (inl e) = absurd (no_way (ap look_failed (ap (λ (t : Stepped). t.outcome) e) ∙ failed))
          go (inr (inl e)) =
              let at = same_Some (unopened s) takes.next e.1 in
              record {
                next = load_call;
                takes = takes;
                imports = closed_now (abandoned importer) refl takes.next at failed (imports p turned).0;
                under_way = none_now (abandoned importer) refl takes.next at failed (imports p turned).0;
                holds = held_now (abandoned importer) refl takes.next at failed (imports p turned).0;
              }
          go (inr (inr e)) = absurd (no_state e)

      pub load_polls : {A : Type 0} (body : Option A) (value_of : A → RecordValue) → is_some body ≡ not (look_failed outcome) → IfSome body (λ b. outcome ≡ Done)
          → IfSome s.import (λ (j : state.Import). RecordsStand name_of s.records (seen_at s j.mark))
          → ((j : state.Import) → s.import ≡ Some j → IfSome body (λ b. HasValue (seen_at s j.mark) name (value_of b)))
          → Polls name_of s lane p (given.Load name purpose.Import) outcome None before kept shelf known dir (loaded_into name (option_map value_of body) importer)
      load_polls None value_of found done stand has = stops (failed_so (look_failed outcome) found)
      load_polls (Some b) value_of found done stand has = made_it (value_of b) done stand has

    module _ (next : next_of importer ≡ None) (takes : Takes name_of s lane given.Install (flag_for outcome) outcome before kept shelf known dir) where
      abbrev mark : ℕ
      mark = doing.mark

      its_row : calls.install s lane ≡ Some (install_mark s lane mark)
      its_row = ap (install_import s lane) own.own ∙ ap (λ (b : Bool). cond b (Some (install_mark s lane mark)) None) (eq-eqb lane lane refl)

      its_step : flagged (install_mark s lane mark) (flag_for outcome) ≡ Some (ended outcome takes.next)
      its_step = sym (ap (λ (o : Option Row). option_and_then (λ (r : Row). flagged r (flag_for outcome)) o) its_row) ∙ takes.taken

      abbrev installed : State
      installed = holding (record s { import = None; current = mark }) lane (Some mark)

      module _ (version : Version) (now : Importer) (numbered : IfSome importer.import (λ (opened : Opened). version.number ≡ opened.mark)) (number : version.number ≡ now.number)
          (knows : version.tables ≡ now.known) (closed : now.import ≡ None) (leads : (units later : Units) → LeadsFrom units later importer → AreTables later version.tables) where
        tables : AreTables (seen_at s mark) version.tables
        tables = leads (seen_at s s.current) (seen_at s mark) (leads_from laws s importer follows lane mark doing.records own.own)

        number_at : version.number ≡ mark
        number_at = number_is laws s importer follows lane mark doing.records own.own version.number numbered

        install_one : At mark ≡ outcome → installed ≡ takes.next → Polls name_of s lane p given.Install outcome (Some version) before kept shelf known dir now
        install_one ends at =
            let after : told outcome p ≡ over (taken_up mark p) =
            poll_is_told p outcome (imports p turned).0 ∙ (ap (λ o. poll_told o p) (sym ends) ∙ ap (λ (d : Doing). scanned mark d p) doing.is) in
            record {
              next = import_now ∙ ap (λ o. Some (load_or_install o)) next;
              takes = takes;
              imports = subst (λ (t : State). IsImporting t now) at (install_follows laws s importer follows lane mark doing.records own.own version.number version.tables now numbered number knows tables closed);
              under_way = subst (λ (q : Progress). IsUnderWay takes.next lane q.doing now) (sym after) tt;
              holds = (
                ap (λ (q : Progress). q.held) after ∙ ap (λ (n : ℕ). Some n) (sym number_at),
                subst (λ (t : State). AreTables (seen_at t version.number) version.tables) at (subst (λ (n : ℕ). AreTables (seen_at s n) version.tables) (sym number_at) tables),
              );
            }

        pub install_polls : Polls name_of s lane p given.Install outcome (Some version) before kept shelf known dir now
        install_polls = go (ends_as (install_mark s lane mark) outcome takes.next its_step)
          where
            go : EndsAs (install_mark s lane mark) outcome takes.next → Polls name_of s lane p given.Install outcome (Some version) before kept shelf known dir now
            go (inl e) = install_one (ap (λ (t : Stepped). t.outcome) e) (ap (λ (t : Stepped). t.state) e)
            go (inr (inl e)) = absurd (no_state e.1)
            go (inr (inr e)) = absurd (no_state e)

  -- ---- refreshes

  module _ (turned : next_turn p ≡ Some turn.Adopt) (takes : Takes name_of s lane given.Adopt (flag_for outcome) outcome before kept shelf known dir)
      (version : Version) (number : version.number ≡ importer.number) (tables : version.tables ≡ importer.known) where
    adopt_one : At s.current ≡ outcome → holding s lane (Some s.current) ≡ takes.next → Polls name_of s lane p given.Adopt outcome (Some version) before kept shelf known dir importer
    adopt_one ends at =
        let after : told outcome p ≡ over (taken_up s.current p) = ap (λ k. told_by k outcome p) (adopts p turned) ∙ ap (λ o. over (adopted o p)) (sym ends) in
        let here : version.number ≡ s.current = number ∙ follows.number in
        record {
          next = ap (λ t. option_and_then (λ u. call_for (seen_at s) s.current p u) t) turned;
          takes = takes;
          imports = subst (λ (t : State). IsImporting t importer) at (adopt_follows laws s importer follows lane);
          under_way = subst (λ (q : Progress). IsUnderWay takes.next lane q.doing importer) (sym after) tt;
          holds = (
            ap (λ (q : Progress). q.held) after ∙ ap (λ (n : ℕ). Some n) (sym here),
            subst (λ (t : State). AreTables (seen_at t version.number) version.tables) at
                (subst (λ (n : ℕ). AreTables (seen_at s n) version.tables) (sym here) (subst (λ (k : Known). AreTables (seen_at s s.current) k) (sym tables) follows.tables)),
          );
        }

    pub adopt_polls : Polls name_of s lane p given.Adopt outcome (Some version) before kept shelf known dir importer
    adopt_polls = go (ends_as (calls.adopt s lane) outcome takes.next takes.taken)
      where
        go : EndsAs (calls.adopt s lane) outcome takes.next → Polls name_of s lane p given.Adopt outcome (Some version) before kept shelf known dir importer
        go (inl e) = adopt_one (ap (λ (t : Stepped). t.outcome) e) (ap (λ (t : Stepped). t.state) e)
        go (inr (inl e)) = absurd (no_state e.1)
        go (inr (inr e)) = absurd (no_state e)
