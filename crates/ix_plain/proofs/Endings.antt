-- Which ending a run has, and what it leaves.
use Rattle.std.proofs.Common.{◌≡◌, ◌≢◌, ◌⊎◌, inl, inr, ℕ, ◌≤◌, ◌||◌, List, [], ◌∷◌, length, filter, Bool, true, false, if◌then◌else◌, Option, Some, None, IfSome, IfOk, Result, Ok, refl, sym, ap, subst, ◌∙◌, arith}
use Rattle.std.specs.List.{AllByRecursion, list_any}
use Rattle.ix_types.specs.Count.{CountsWhere, Rose}
use Rattle.ix_types.specs.Name.{sha_name}
use Rattle.ix_dir.specs.declared.moves.Move.{Move}
use Rattle.ix_dir.specs.Crash.{standing}
use Rattle.ix_machine.specs.declared.event.Event.{Event}
use Rattle.ix_opening.specs.Found.{opening_of}
use Rattle.ix_plan.specs.declared.plan.Script.{Script}
use Rattle.ix_replay.specs.Left.{IsLeft}
use Rattle.ix_replay.specs.declared.replaying.ReplayError.{ReplayError}
use Rattle.ix_replays.specs.declared.transcript.Transcript.{Transcript}
use Rattle.ix_replays.specs.Run.{IsReplay}
use Rattle.ix_turns.specs.Ended.{is_missed}
use Rattle.ix_counts.specs.Counting.{RoseBy, failures, is_failure}
use Rattle.ix_plain.specs.declared.ending.Ending.{Ending}
use Rattle.ix_plain.specs.declared.ending.Ending.TheVariants.{Done, BadScript, DirFault, WriteFault, Memory, TooLarge, OpenFault, StoreDamaged}
use Rattle.ix_plain.specs.Ending.{MayRun, Stayed, after_events, is_whole, is_write_fault}
use Rattle.ix_plain.specs.Output.{LeavesOf}

abbrev OnlyTrue : Bool → Type 0
OnlyTrue true = Unit {0}
OnlyTrue false = ⊥

-- ---- what is left

abbrev LeftBy : Script → List Move → Option (List Move) → Transcript → Type 0
LeftBy script before later transcript = (replay : IsReplay sha_name script (opening_of sha_name (standing before)) transcript) × (now : List Move) × (later ≡ Some now) × IsLeft sha_name before replay.run now

leaves : (script : Script) (before : List Move) (later : Option (List Move)) (transcript : Transcript) → LeftBy script before later transcript → LeavesOf script before transcript later
leaves script before later transcript (replay, now, told, left) = record { replay = replay; now = now; told = told; left = left }

pub leaves_in : (script : Script) (moves : Option (List Move)) (shown : Option Transcript) (transcript : Transcript) (result : Result Transcript ReplayError) (later mid : Option (List Move))
    → shown ≡ Some transcript → later ≡ mid → result ≡ Ok transcript
    → IfSome moves (λ before. IfOk result (LeftBy script before mid)) → IfSome moves (λ before. IfSome shown (λ t. LeavesOf script before t later))
leaves_in script None shown transcript result later mid some same ok left = tt
leaves_in script (Some before) shown transcript result later mid some same ok left =
    subst (λ (o : Option Transcript). IfSome o (λ t. LeavesOf script before t later)) (sym some)
    (leaves script before later transcript
    (subst (λ (o : Option (List Move)). LeftBy script before o transcript) (sym same)
    (subst (λ (r : Result Transcript ReplayError). IfOk r (LeftBy script before mid)) ok left)))

-- ---- lost and damaged

none_missed : (events : List Event) → AllByRecursion (λ (event : Event). is_missed event.outcome ≡ false) events → list_any (λ (event : Event). is_missed event.outcome) events ≡ false
none_missed [] all = refl
none_missed (event ∷ events) all = ap (λ (b : Bool). b || list_any (λ (e : Event). is_missed e.outcome) events) all.0 ∙ none_missed events all.1

abbrev IsDamaged : Ending → Type 0
IsDamaged Done = ⊥
IsDamaged (BadScript refusal) = ⊥
IsDamaged DirFault = ⊥
IsDamaged WriteFault = ⊥
IsDamaged Memory = ⊥
IsDamaged TooLarge = ⊥
IsDamaged OpenFault = ⊥
IsDamaged StoreDamaged = Unit {0}

not_damaged : (missed failed : Bool) → missed ≡ false → StoreDamaged ≡ (if missed then StoreDamaged else if failed then DirFault else Done) → ⊥
not_damaged true failed clear is = absurd (subst OnlyTrue clear tt)
not_damaged false true clear is = subst IsDamaged is tt
not_damaged false false clear is = subst IsDamaged is tt

pub never_damaged : (moves : Option (List Move)) (transcript : Transcript) (result : Result Transcript ReplayError) (ending : Ending) → result ≡ Ok transcript
    → (is_whole ending ≡ true → ending ≡ after_events transcript.events)
    → IfSome moves (λ before. IfOk result (λ (t : Transcript). AllByRecursion (λ (event : Event). is_missed event.outcome ≡ false) t.events)) → IfSome moves (λ before. ending ≢ StoreDamaged)
never_damaged None transcript result ending ok told all = tt
never_damaged (Some before) transcript result ending ok told all = λ is.
    not_damaged (list_any (λ (e : Event). is_missed e.outcome) transcript.events) (list_any (λ (e : Event). is_failure e.outcome) transcript.events)
    (none_missed transcript.events (subst (λ (r : Result Transcript ReplayError). IfOk r (λ (t : Transcript). AllByRecursion (λ (event : Event). is_missed event.outcome ≡ false) t.events)) ok all))
    (sym is ∙ told (ap is_whole is))

-- ---- nothing failed

one_of : (here rest : Bool) (event : Event) (more : List Event) → (rest ≡ true → 1 ≤ length more) → (here || rest) ≡ true → 1 ≤ length (if here then event ∷ more else more)
one_of true rest event more f is = omega arith
one_of false rest event more f is = f is

one_fails : (events : List Event) → list_any (λ (e : Event). is_failure e.outcome) events ≡ true → 1 ≤ failures events
one_fails [] is = absurd (subst OnlyTrue (sym is) tt)
one_fails (event ∷ events) is = one_of (is_failure event.outcome) (list_any (λ (e : Event). is_failure e.outcome) events) event (filter (λ (e : Event). is_failure e.outcome) events) (one_fails events) is

abbrev IsDirFault : Ending → Type 0
IsDirFault Done = ⊥
IsDirFault (BadScript refusal) = ⊥
IsDirFault DirFault = Unit {0}
IsDirFault WriteFault = ⊥
IsDirFault Memory = ⊥
IsDirFault TooLarge = ⊥
IsDirFault OpenFault = ⊥
IsDirFault StoreDamaged = ⊥

dir_fault : (missed failed : Bool) → DirFault ≡ (if missed then StoreDamaged else if failed then DirFault else Done) → failed ≡ true
dir_fault true failed is = absurd (subst IsDirFault is tt)
dir_fault false true is = refl
dir_fault false false is = absurd (subst IsDirFault is tt)

quiet : (n before now : ℕ) → 1 ≤ n → RoseBy n before now → Stayed before now → ⊥
quiet n before now some rose stayed = omega (arith, some, rose, stayed.same, stayed.less)

unfailed : (before now : ℕ) → Rose before now → Stayed before now → ⊥
unfailed before now (inl less) stayed = omega (arith, less, stayed.same)
unfailed before now (inr most) stayed = omega (arith, most, stayed.less)

pub ends_quietly : (ending : Ending) (events : List Event) (before now taken given : ℕ) → MayRun ending true → CountsWhere (is_write_fault ending) taken given
    → (is_whole ending ≡ true → ending ≡ after_events events) → RoseBy (failures events) before now → Stayed before now → Stayed taken given
    → (ending ≡ Done) ⊎ (ending ≡ Memory) ⊎ (ending ≡ StoreDamaged)
ends_quietly Done events before now taken given ran counts told rose stayed kept = inl refl
ends_quietly (BadScript refusal) events before now taken given ran counts told rose stayed kept = absurd (subst OnlyTrue ran tt)
ends_quietly DirFault events before now taken given ran counts told rose stayed kept =
    absurd (quiet (failures events) before now (one_fails events (dir_fault (list_any (λ (e : Event). is_missed e.outcome) events) (list_any (λ (e : Event). is_failure e.outcome) events) (told refl))) rose stayed)
ends_quietly WriteFault events before now taken given ran counts told rose stayed kept = absurd (unfailed taken given counts.1 kept)
ends_quietly Memory events before now taken given ran counts told rose stayed kept = inr (inl refl)
ends_quietly TooLarge events before now taken given ran counts told rose stayed kept = absurd (subst OnlyTrue ran tt)
ends_quietly OpenFault events before now taken given ran counts told rose stayed kept = absurd (subst OnlyTrue ran tt)
ends_quietly StoreDamaged events before now taken given ran counts told rose stayed kept = inr (inr refl)

pub rose_to : (transcript : Transcript) (result : Result Transcript ReplayError) (before now mid : ℕ) → result ≡ Ok transcript → now ≡ mid
    → IfOk result (λ (t : Transcript). RoseBy (failures t.events) before mid) → RoseBy (failures transcript.events) before now
rose_to transcript result before now mid ok same rose =
    subst (λ (n : ℕ). RoseBy (failures transcript.events) before n) (sym same)
    (subst (λ (r : Result Transcript ReplayError). IfOk r (λ (t : Transcript). RoseBy (failures t.events) before mid)) ok rose)
