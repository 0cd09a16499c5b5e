-- A load for an ask, which leaves the state as it is.
use Rattle.std.proofs.Common.{◌≡◌, inl, inr, ℕ, Bool, true, false, if◌then◌else◌, List, [], ◌∷◌, ◌++◌, Option, Some, None, IfSome, option_map, option_and_then, slice_get, refl, sym, ap, subst, ◌∙◌}
use Rattle.std.specs.declared.alloc.Global.{Global}
use Rattle.std.specs.declared.sync.Arc.{Arc}
use Rattle.ix_types.specs.declared.row.Query.{Query}
use Rattle.ix_dir.specs.State.{DirState}
use Rattle.ix_shelf.specs.Shelf.{OnShelf}
use Rattle.ix_record.specs.declared.value.RecordValue.{RecordValue}
use Rattle.ix_unit.specs.declared.value.RecordDep.{RecordDep}
use Rattle.ix_model.specs.Units.{Units}
use Rattle.ix_answers.specs.Meanings.{IsRecord}
use Rattle.ix_answers.specs.Needs.{next_need}
use Rattle.ix_machine.specs.declared.event.Call.TheVariants as call
use Rattle.ix_machine.specs.declared.event.Event.{Event}
use Rattle.ix_machine.specs.declared.event.Outcome.{Outcome}
use Rattle.ix_machine.specs.declared.event.Outcome.TheVariants.{Done, Written, Shared, Clash, Synced, Unsynced, NoUnit, At, Removed, Nothing, Fault, Lost, Damaged}
use Rattle.ix_machine.specs.declared.event.Purpose.TheVariants as purpose
use Rattle.ix_machine.specs.Given as given
use Rattle.ix_machine.specs.Needs.{seen_at}
use Rattle.ix_machine.specs.Sound.{RecordsStand}
use Rattle.ix_machine.specs.State.{Files, State, held_by}
use Rattle.ix_machine.specs.Step.{Stepped}
use Rattle.ix_ledger.specs.Kept.{Kept}
use Rattle.ix_looks.specs.Values.{HasValue}
use Rattle.ix_library.specs.declared.known.KnownStamps.{KnownStamps}
use Rattle.ix_ledger.specs.Books.{event}
use Rattle.ix_library.specs.StandsFor.{StandsFor}
use Rattle.ix_lanes.specs.declared.doing.Kind.{Kind}
use Rattle.ix_lanes.specs.declared.doing.Kind.TheVariants as kind
use Rattle.ix_lanes.specs.Calls as turn
use Rattle.ix_lanes.specs.Calls.{call_for, next_call, next_turn, task_turn}
use Rattle.ix_lanes.specs.Progress.{Progress, ask_told, is_ask, is_asking, noted, told, told_by, with_loaded}
use Rattle.ix_machine.specs.Outcomes.{is_done}
use Rattle.ix_lanes.specs.declared.doing.Doing.{Doing}
use Rattle.ix_lanes.specs.Tasks as task
use Rattle.ix_lanes.specs.Tasks.{Task, kind_of}
use Rattle.ix_seats.specs.declared.made.Made.TheVariants.{Ended, Loaded}
use Rattle.ix_seats.specs.Made.{IsGiven}
use Rattle.ix_seats.specs.Seated.{asked_by}
use Rattle.ix_seats.specs.Seats.{lacks}
use Rattle.ix_turns.specs.Looks.{look_failed}
use Rattle.ix_calls.specs.Calling.{event_of, is_importing}
use Rattle.ix_calls.proofs.Beside.{WasMade, WasTaken, flagged}
use Rattle.ix_calls.proofs.Turning.{build_kind, kind_for, kind_is, poll_kind, some_is}

-- ---- a load that failed

ask_held : (how : Outcome) (p : Progress) → (ask_told how p).held ≡ p.held
ask_held Done p = refl
ask_held Written p = refl
ask_held Shared p = refl
ask_held Clash p = refl
ask_held Synced p = refl
ask_held Unsynced p = refl
ask_held NoUnit p = refl
ask_held (At mark) p = refl
ask_held (Removed name) p = refl
ask_held Nothing p = refl
ask_held Fault p = refl
ask_held (Lost name) p = refl
ask_held (Damaged name) p = refl

record Failed (how : Outcome) (p : Progress) : Type 0 where
  undone : is_done how ≡ false
  doing : is_importing (ask_told how p).doing ≡ false

failed : (how : Outcome) (p : Progress) → look_failed how ≡ true → Failed how p
failed Done p is = absurd (cc)
failed Written p is = absurd (cc)
failed Shared p is = absurd (cc)
failed Clash p is = absurd (cc)
failed Synced p is = absurd (cc)
failed Unsynced p is = absurd (cc)
failed NoUnit p is = absurd (cc)
failed (At mark) p is = absurd (cc)
failed (Removed name) p is = absurd (cc)
failed Nothing p is = absurd (cc)
failed Fault p is = record { undone = refl; doing = refl }
failed (Lost name) p is = record { undone = refl; doing = refl }
failed (Damaged name) p is = record { undone = refl; doing = refl }

-- ---- the load that an ask makes next

same_ask : {a b : Query} → turn.Ask a ≡ turn.Ask b → a ≡ b
same_ask is = cc

asked_at : (doing : Doing) (tasks : List Task) (query : Query) → option_map (task_turn doing) (slice_get tasks 0) ≡ Some (turn.Ask query) → asked_by tasks ≡ Some query
asked_at doing [] query is = absurd (cc)
asked_at doing (task.Build job ∷ tasks) query is = let off : kind.Build ≡ kind.Ask = build_kind job doing ∙ ap kind_for (some_is is) in absurd (cc)
asked_at doing (task.Remove output ∷ tasks) query is = let off : kind.Remove ≡ kind.Ask = ap kind_for (some_is is) in absurd (cc)
asked_at doing (task.Poll ∷ tasks) query is = let off : kind.Poll ≡ kind.Ask = poll_kind doing ∙ ap kind_for (some_is is) in absurd (cc)
asked_at doing (task.Refresh ∷ tasks) query is = let off : kind.Refresh ≡ kind.Ask = ap kind_for (some_is is) in absurd (cc)
asked_at doing (task.Ask q ∷ tasks) query is = ap Some (same_ask (some_is is))
asked_at doing (task.Release ∷ tasks) query is = let off : kind.Release ≡ kind.Ask = ap kind_for (some_is is) in absurd (cc)
asked_at doing (task.Collect ∷ tasks) query is = let off : kind.Collect ≡ kind.Ask = ap kind_for (some_is is) in absurd (cc)

load_of : (f : ℕ → Option (List ℕ)) (o : Option ℕ) (name : List ℕ) → Some name ≡ option_and_then f o → option_and_then (λ mark. option_map (λ n. given.Load n purpose.Ask) (f mark)) o ≡ Some (given.Load name purpose.Ask)
load_of f None name is = absurd (cc)
load_of f (Some mark) name is = ap (option_map (λ n. given.Load n purpose.Ask)) (sym is)

-- the record that the ask lacks is the one that the lane loads next
asked_call : (seen : ℕ → Units) (current : ℕ) (p : Progress) (query : Query) (name : List ℕ) → next_turn p ≡ Some (turn.Ask query) → Some name ≡ lacks seen p → next_call seen current p ≡ Some (given.Load name purpose.Ask)
asked_call seen current p query name at lacking =
    ap (option_and_then (call_for seen current p)) at
    ∙ load_of (λ mark. next_need query (seen mark) p.loaded) p.held name
    (lacking ∙ ap (λ (o : Option Query). option_and_then (λ q. option_and_then (λ mark. next_need q (seen mark) p.loaded) p.held) o) (asked_at p.doing p.tasks query at))

-- records of one name that stand have one value
abbrev pub Alone : Type 0
Alone = (name_of : List ℕ → List ℕ) (records : Files) (units : Units) (name : List ℕ) (value other : RecordValue) → RecordsStand name_of records units → HasValue units name value → HasValue units name other → value ≡ other

module _ (alone : Alone) (name_of : List ℕ → List ℕ) (s : State) (lane : ℕ) (p : Progress) (earlier events : List Event) (before : DirState) (kept : Kept) (shelf : OnShelf) (known : KnownStamps) (dir : DirState)
    (old_kept : Kept) (old_shelf : OnShelf) (old_known : KnownStamps) (stands : StandsFor name_of s old_kept old_shelf old_known before)
    (name : List ℕ) (query : Query) (at : next_turn p ≡ Some (turn.Ask query)) (lacking : Some name ≡ lacks (seen_at s) p) (holds : held_by s lane ≡ p.held) where
  abbrev Taken : Outcome → Type 0
  Taken how = WasTaken name_of s lane p earlier events before kept shelf known dir (given.Load name purpose.Ask) how

  kind_ask : kind_of p.tasks ≡ kind.Ask
  kind_ask = kind_is p (turn.Ask query) at

  asks : is_asking p ≡ true
  asks = ap is_ask kind_ask

  values : (body : Arc RecordValue Global) (o : Option ℕ) → held_by s lane ≡ o → ((mark : ℕ) → held_by s lane ≡ Some mark → HasValue (seen_at s mark) name body.value)
      → IfSome o (λ mark. (dep : RecordDep) (other : RecordValue) → IsRecord (seen_at s mark) dep other → dep.name ≡ name → other ≡ body.value)
  values body None is has = tt
  values body (Some mark) is has =
      λ dep other of named. alone name_of s.records (seen_at s mark) name other body.value (subst (λ (o : Option ℕ). IfSome o (λ m. RecordsStand name_of s.records (seen_at s m))) is (stands.keeps.sound.needed.held lane))
      (record { dep = dep; of_units = of; has_name = named }) (has mark is)

  pub loaded_made : (body : Arc RecordValue Global) (how : Outcome) → Taken how → how ≡ Done → ((mark : ℕ) → held_by s lane ≡ Some mark → HasValue (seen_at s mark) name body.value)
      → events ≡ earlier ++ event lane (call.Load name) how ∷ [] → WasMade name_of s lane p earlier events before kept shelf known dir (Loaded name body)
  loaded_made body how taken is has noted_so =
      let done : Taken Done = subst (λ (h : Outcome). Taken h) is taken in
      let same : s ≡ done.next = ap (λ (stepped : Stepped). stepped.state) (some_is done.taken) in
      record {
        is = record {
          given = given.Load name purpose.Ask;
          call = asked_call (seen_at s) s.current p query name at lacking;
          takes = done;
          event = noted_so ∙ ap (λ (h : Outcome). earlier ++ event lane (call.Load name) h ∷ []) is;
          gives = subst (λ (t : State). IsGiven (seen_at t) p (Loaded name body)) same (asks, values body p.held holds has);
          tells = sym (ap (λ (b : Bool). told Done (if b then (with_loaded name p) else p)) asks ∙ ap (λ (k : Kind). told_by k Done (with_loaded name p)) kind_ask);
        };
        beside = refl;
        doing = inl refl;
      }

  pub failed_made : (how : Outcome) → Taken how → look_failed how ≡ true → events ≡ earlier ++ event lane (call.Load name) how ∷ [] → WasMade name_of s lane p earlier events before kept shelf known dir (Ended how)
  failed_made how taken is noted_so =
      let facts = failed how p is in
      let unloaded : noted (event_of lane (call.Load name) (Ended how)) p ≡ p =
      ap (λ (b : Bool). if b then (if is_done how then (with_loaded name p) else p) else p) asks ∙ ap (λ (b : Bool). if b then (with_loaded name p) else p) facts.undone in
      record {
        is = record {
          given = given.Load name purpose.Ask;
          call = asked_call (seen_at s) s.current p query name at lacking;
          takes = flagged name_of s lane p earlier events before kept shelf known dir (given.Load name purpose.Ask) how taken;
          event = noted_so;
          gives = ap (λ (k : Kind). (told_by k how p).held) kind_ask ∙ ask_held how p;
          tells = ap (told how) (sym unloaded);
        };
        beside = refl;
        doing = inr (ap (λ (k : Kind). is_importing (told_by k how p).doing) kind_ask ∙ facts.doing);
      }
