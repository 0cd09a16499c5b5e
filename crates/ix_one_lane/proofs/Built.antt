-- A build, call after call: its files stand under their names, and its publish makes its unit visible with the values that they spell.
use Rattle.std.proofs.Common.{◌≡◌, ◌≢◌, ◌⊎◌, inl, inr, ℕ, zero, suc, ◌||◌, if◌then◌else◌, true, false, List, [], ◌∷◌, ◌++◌, length, map, take, Option, Some, None, IfSome, unwrap_or, option_map, option_and_then, slice_get, refl, sym, ap, ◌∙◌, subst}
use Rattle.std.specs.List.{AllByRecursion, AllZip, list_any}
use Rattle.std.specs.Map.{lookup}
use Rattle.std.specs.BTreeMap.{is_at}
use Rattle.std.specs.Str.{bytes_eq}
use Rattle.std.proofs.lemmas.List.{length-append}
use Rattle.std.proofs.lemmas.Slice.Eq.{bytes_eq-Decides}
use Rattle.ix_types.specs.Row.{text_cmp}
use Rattle.ix_record.specs.declared.body.Body.{Body}
use Rattle.ix_record.specs.declared.value.RecordValue.{RecordValue}
use Rattle.ix_record.specs.Spelling.{RecordSpelling}
use Rattle.ix_unit.specs.declared.value.RecordDep.{RecordDep}
use Rattle.ix_unit.specs.declared.value.UnitValue.{UnitValue}
use Rattle.ix_model.specs.declared.publication.Publication.{Publication}
use Rattle.ix_model.specs.declared.publication.Publication.TheVariants as model
use Rattle.ix_model.specs.declared.publication.StoredUnit.{StoredUnit}
use Rattle.ix_model.specs.Units.{unit_named, units_at}
use Rattle.ix_jobs.specs.Made.{Made}
use Rattle.ix_jobs.specs.Laws.{IsWrittenIn}
use Rattle.ix_machine.specs.declared.event.Call.{Call}
use Rattle.ix_machine.specs.declared.event.Call.TheVariants as call
use Rattle.ix_machine.specs.declared.event.Outcome.{Outcome}
use Rattle.ix_machine.specs.declared.event.Outcome.TheVariants.{Done, Written, Shared, Clash, Synced}
use Rattle.ix_machine.specs.Given.{Given}
use Rattle.ix_machine.specs.Given as given
use Rattle.ix_machine.specs.Listed.{Lists}
use Rattle.ix_machine.specs.Needs.{is_guarded, seen_at, visible}
use Rattle.ix_machine.specs.Sound.{IsSound, ValuesStand}
use Rattle.ix_machine.specs.State as state
use Rattle.ix_machine.specs.State.{State, Files, lease_of}
use Rattle.ix_machine.specs.Step.{Stepped, change, dropped, flagged, may_fault, noted, publish_over, publish_unit, put_over, staged_by, step, stored_unit, sure, write}
use Rattle.ix_lanes.specs.declared.doing.Doing.{Doing}
use Rattle.ix_lanes.specs.declared.doing.Doing.TheVariants.{Begun, Putting, Staged, Importing}
use Rattle.ix_lanes.specs.declared.answered.Answered.{Answered}
use Rattle.ix_lanes.specs.Tasks.{Task}
use Rattle.ix_lanes.specs.Tasks as task
use Rattle.ix_lanes.specs.Calls.{call_for, next_call, put_or_stage}
use Rattle.ix_lanes.specs.Progress.{Progress, after_event, settled}
use Rattle.ix_replays.specs.Run.{call_of}
use Rattle.ix_allowed.specs.Agree.{names_put}
use Rattle.ix_one_lane.specs.Below.{Below}
use Rattle.ix_one_lane.specs.Sees.{HaveBuilt, IsSpelledIn}
use Rattle.ix_one_lane.proofs.Goes.{at}

some_same : {A : Type 0} (a b : A) → Some a ≡ Some b → a ≡ b
some_same a b p = cc

-- ---- files that stand

-- under the name stands one of the files, which has it
pub record StandsFrom (records : Files) (files : List Body) (name : List ℕ) : Type 0 where
  pub body : Body
  pub listed : Lists files body
  pub named : body.name ≡ name
  pub there : lookup (is_at (text_cmp name)) records ≡ Some body.bytes

abbrev pub Stand : Files → List Body → List (List ℕ) → Type 0
Stand records files names = AllByRecursion (StandsFrom records files) names

module _ (files : List Body) where
  listed_at : (bodies : List Body) (n : ℕ) (body : Body) → slice_get bodies n ≡ Some body → Lists bodies body
  listed_at [] n body e = absurd (cc)
  listed_at (b ∷ bodies) zero body e = inl (some_same b body e)
  listed_at (b ∷ bodies) (suc n) body e = inr (listed_at bodies n body e)

  -- one file more
  module _ (before after : Files) (body : Body) (listed : Lists files body) (new : lookup (is_at (text_cmp body.name)) after ≡ Some body.bytes)
      (others : (other : List ℕ) → body.name ≢ other → lookup (is_at (text_cmp other)) after ≡ lookup (is_at (text_cmp other)) before) where
    the_new : StandsFrom after files body.name
    the_new = record { body = body; listed = listed; named = refl; there = new }

    each_still : (name : List ℕ) → StandsFrom before files name → StandsFrom after files name
    each_still name f =
        (elim (bytes_eq body.name name) as (λ b. bytes_eq body.name name ≡ b → StandsFrom after files name) [
          | true ↦ λ e. subst (StandsFrom after files) ((bytes_eq-Decides body.name name).0 e) the_new
          | false ↦ λ e. record { body = f.body; listed = f.listed; named = f.named; there = others name (apart e) ∙ f.there }
        ]) refl
      where
        apart : bytes_eq body.name name ≡ false → body.name ≢ name
        apart e same = let t = (bytes_eq-Decides body.name name).1 same in cc

    all_still : (names : List (List ℕ)) → Stand before files names → Stand after files (names ++ body.name ∷ [])
    all_still [] all = (the_new, tt)
    all_still (name ∷ names) all = (each_still name all.0, all_still names all.1)

  -- the file of a dependency
  module _ (records : Files) (dep : RecordDep) where
    stands_at : (bodies : List Body) → Stand records files (map (λ (body : Body). body.name) bodies) → list_any (λ body. bytes_eq body.name dep.name) bodies ≡ true → StandsFrom records files dep.name
    stands_at [] all e = absurd (cc)
    stands_at (b ∷ bodies) all e =
        (elim (bytes_eq b.name dep.name) as (λ r. bytes_eq b.name dep.name ≡ r → r || list_any (λ body. bytes_eq body.name dep.name) bodies ≡ true → StandsFrom records files dep.name) [
          | true ↦ λ is rest. subst (StandsFrom records files) ((bytes_eq-Decides b.name dep.name).0 is) all.0
          | false ↦ λ is rest. stands_at bodies all.1 rest
        ]) refl e

    spelled_one : (name_of : List ℕ → List ℕ) (value : RecordValue) → StandsFrom records files dep.name → ValuesStand name_of records (dep ∷ []) (value ∷ []) → IsSpelledIn files dep value
    spelled_one name_of value f v =
        record { body = f.body; listed = f.listed; named = f.named; spelled = subst (λ (bytes : List ℕ). RecordSpelling bytes value) (some_same v.0.bytes f.body.bytes (sym v.0.stands ∙ f.there)) v.0.spelled }

  module _ (name_of : List ℕ → List ℕ) (records : Files) (all : Stand records files (map (λ (body : Body). body.name) files)) where
    all_spelled : (deps : List RecordDep) (values : List RecordValue) → AllByRecursion (IsWrittenIn files) deps → ValuesStand name_of records deps values → AllZip (IsSpelledIn files) deps values
    all_spelled [] [] w v = tt
    all_spelled [] (value ∷ values) w v = v
    all_spelled (dep ∷ deps) [] w v = v
    all_spelled (dep ∷ deps) (value ∷ values) w v = (spelled_one records dep name_of value (stands_at records dep files all w.0) (v.0, tt), all_spelled deps values w.1 v.1)

-- ---- the files that are put

one_more_put : (bodies : List Body) (n : ℕ) (body : Body) → slice_get bodies n ≡ Some body
    → map (λ (b : Body). b.name) (take n bodies) ++ body.name ∷ [] ≡ map (λ (b : Body). b.name) (take (suc n) bodies)
one_more_put [] n body e = absurd (cc)
one_more_put (b ∷ bodies) zero body e = let same : b ≡ body = cc in ap (λ (x : Body). x.name ∷ []) (sym same)
one_more_put (b ∷ bodies) (suc n) body e = ap (λ (names : List (List ℕ)). b.name ∷ names) (one_more_put bodies n body e)

all_put : (bodies : List Body) (n : ℕ) → slice_get bodies n ≡ None → map (λ (b : Body). b.name) (take n bodies) ≡ map (λ (b : Body). b.name) bodies
all_put [] zero e = refl
all_put [] (suc n) e = refl
all_put (b ∷ bodies) zero e = absurd (cc)
all_put (b ∷ bodies) (suc n) e = ap (λ (names : List (List ℕ)). b.name ∷ names) (all_put bodies n e)

-- ---- how a put and a publish end where nothing fails

abbrev IsPut : Stepped → Type 0
IsPut t = (t.outcome ≡ Written) ⊎ ((t.outcome ≡ Shared) ⊎ (t.outcome ≡ Clash))

abbrev IsPublished : Stepped → Type 0
IsPublished t = (t.outcome ≡ Synced) ⊎ (t.outcome ≡ Clash)

module _ (s : State) where
  puts : (body : Body) (o : Option (List ℕ)) → IsPut (put_over s 0 body o).plain
  puts body None = inl refl
  puts body (Some bytes) =
      elim (bytes_eq bytes body.bytes) as (λ b. IsPut (if b then may_fault Shared (noted s 0 body.name) (dropped s 0) else (if is_guarded s 0 body.name then may_fault Clash (dropped s 0) (dropped s 0) else write s 0 body)).plain) [
        | true ↦ inr (inl refl)
        | false ↦ elim (is_guarded s 0 body.name) as (λ b. IsPut (if b then may_fault Clash (dropped s 0) (dropped s 0) else write s 0 body).plain) [
          | true ↦ inr (inr refl)
          | false ↦ inl refl
        ]
      ]

  publishes_over : (name : List ℕ) (unit : UnitValue) (o : Option StoredUnit) → IsPublished (publish_over s 0 name unit o).plain
  publishes_over name unit None = inl refl
  publishes_over name unit (Some other) =
      elim (bytes_eq other.unit.output unit.output) as (λ b. IsPublished (if b then change (dropped s 0) (dropped s 0) (model.Put name (stored_unit s unit)) else sure Clash (dropped s 0)).plain) [
        | true ↦ inl refl
        | false ↦ inr refl
      ]

  publishes : (name_of : List ℕ → List ℕ) (o : Option UnitValue) → IfSome (option_and_then (λ r. flagged r Done) (option_map (λ unit. publish_unit s 0 (name_of unit.output) unit) o)) IsPublished
  publishes name_of None = tt
  publishes name_of (Some unit) = publishes_over (name_of unit.output) unit (unit_named (name_of unit.output) (visible s))

-- ---- a build

module _ (below : Below) (name_of : List ℕ → List ℕ) (job : Made) (rest : List Task) where
  abbrev pub building : Doing → Option ℕ → List (List ℕ) → List Answered → Progress
  building doing held loaded answers = at (task.Build job ∷ rest) doing held loaded answers

  -- the files that are put so far stand
  abbrev pub FilesStand : Files → Doing → Type 0
  FilesStand records Begun = Unit {0}
  FilesStand records (Putting n) = Stand records job.bodies (names_put job n)
  FilesStand records Staged = Stand records job.bodies (map (λ (body : Body). body.name) job.bodies)
  FilesStand records (Importing mark many) = ⊥

  pub record Building (s : State) (p : Progress) : Type 0 where
    pub so_far : Doing
    pub holds : Option ℕ
    pub has : List (List ℕ)
    pub told_so : List Answered
    pub is : p ≡ building so_far holds has told_so
    pub stand : FilesStand s.records so_far

  -- the build is over: it clashed, or its publish was synced and its unit is visible. The asks in front of what is left are answered, as far as they can be
  pub record IsOver (shown : Call) (t : State) (outcome : Outcome) (q : Progress) : Type 0 where
    pub holds : Option ℕ
    pub has : List (List ℕ)
    pub told_so : List Answered
    pub left : q ≡ settled (seen_at t) (at rest Begun holds has told_so)
    pub why : (outcome ≡ Clash) ⊎ ((shown ≡ call.Publish (name_of job.unit.output)) × (outcome ≡ Synced) × HaveBuilt name_of job (visible t))

  abbrev pub Goes : State → Progress → Given → State → Outcome → Type 0
  Goes s p g t outcome =
      let q = after_event (seen_at t) p (record { lane = 0; call = call_of name_of s 0 g; outcome = outcome }) in
      Building t q ⊎ IsOver (call_of name_of s 0 g) t outcome q

  abbrev pub Next : State → Progress → Given → Stepped → Type 0
  Next s p g t = Goes s p g t.state t.outcome

  abbrev pub On : State → Progress → Type 0
  On s p = (g : Given) (t : Stepped) → next_call (seen_at s) s.current p ≡ Some g → step name_of s 0 g Done ≡ Some t → Next s p g t

  -- by the call and what it leaves
  computed : (s : State) (p : Progress) → IfSome (next_call (seen_at s) s.current p) (λ g. (t : Stepped) → step name_of s 0 g Done ≡ Some t → Next s p g t) → On s p
  computed s p f g t calls taken = (subst (λ (o : Option Given). IfSome o (λ h. (x : Stepped) → step name_of s 0 h Done ≡ Some x → Next s p h x)) calls f) t taken

  by_step : (s : State) (p : Progress) (g : Given) → IfSome (step name_of s 0 g Done) (λ t. Next s p g t) → (t : Stepped) → step name_of s 0 g Done ≡ Some t → Next s p g t
  by_step s p g f t taken = subst (λ (o : Option Stepped). IfSome o (λ x. Next s p g x)) taken f

  module _ (s : State) (holds : Option ℕ) (has : List (List ℕ)) (told_so : List Answered) where
    over_by : (so_far : Doing) (t : State) (g : Given) → FilesStand s.records so_far → Goes s (building so_far holds has told_so) g t Clash
    over_by Begun t g stand = inr (record { holds = holds; has = has; told_so = told_so; left = refl; why = inl refl })
    over_by (Putting n) t g stand = inr (record { holds = holds; has = has; told_so = told_so; left = refl; why = inl refl })
    over_by Staged t g stand = inr (record { holds = holds; has = has; told_so = told_so; left = refl; why = inl refl })
    over_by (Importing mark many) t g stand = absurd stand

    begun_on : On s (building Begun holds has told_so)
    begun_on = computed s (building Begun holds has told_so) (by_step s (building Begun holds has told_so) (given.Lease job.names)
        (inl (record { so_far = Putting 0; holds = holds; has = has; told_so = told_so; is = refl; stand = tt })))

    module _ (n : ℕ) (stand : FilesStand s.records (Putting n)) where
      abbrev putting : Progress
      putting = building (Putting n) holds has told_so

      stage_on : slice_get job.bodies n ≡ None → (t : Stepped) → step name_of s 0 (given.Stage job.unit) Done ≡ Some t → Next s putting (given.Stage job.unit) t
      stage_on none = by_step s putting (given.Stage job.unit)
          (inl (record { so_far = Staged; holds = holds; has = has; told_so = told_so; is = refl; stand = subst (Stand s.records job.bodies) (all_put job.bodies n none) stand }))

      module _ (body : Body) (is : slice_get job.bodies n ≡ Some body) (t : Stepped) (taken : step name_of s 0 (given.Put body) Done ≡ Some t) where
        one_put : t.outcome ≢ Clash → Stand t.state.records job.bodies (names_put job (suc n))
        one_put apart =
            subst (Stand t.state.records job.bodies) (one_more_put job.bodies n body is)
            (all_still job.bodies s.records t.state.records body (listed_at job.bodies job.bodies n body is) (below.put_stands name_of s 0 body t taken apart)
            (λ other differs. below.put_others name_of s 0 body Done t other taken differs) (names_put job n) stand)

        no_clash : (o : Outcome) → t.outcome ≡ o → o ≢ Clash → t.outcome ≢ Clash
        no_clash o e apart c = apart (sym e ∙ c)

        written_apart : Written ≢ Clash
        written_apart e = absurd (cc)

        shared_apart : Shared ≢ Clash
        shared_apart e = absurd (cc)

        put_next : IsPut t → Next s putting (given.Put body) t
        put_next (inl e) = subst (Goes s putting (given.Put body) t.state) (sym e)
            (inl (record { so_far = Putting (suc n); holds = holds; has = has; told_so = told_so; is = refl; stand = one_put (no_clash Written e written_apart) }))
        put_next (inr (inl e)) = subst (Goes s putting (given.Put body) t.state) (sym e)
            (inl (record { so_far = Putting (suc n); holds = holds; has = has; told_so = told_so; is = refl; stand = one_put (no_clash Shared e shared_apart) }))
        put_next (inr (inr e)) = subst (Goes s putting (given.Put body) t.state) (sym e) (over_by (Putting n) t.state (given.Put body) stand)

        put_on : Next s putting (given.Put body) t
        put_on = put_next (subst (λ (o : Option Stepped). IfSome o IsPut) taken (puts s body (lookup (is_at (text_cmp body.name)) s.records)))

      putting_on : On s putting
      putting_on = computed s putting
          ((elim (slice_get job.bodies n) as (λ o. slice_get job.bodies n ≡ o → IfSome (call_for (seen_at s) s.current putting (put_or_stage job o)) (λ g. (t : Stepped) → step name_of s 0 g Done ≡ Some t → Next s putting g t)) [
            | None ↦ λ none. stage_on none
            | Some body ↦ λ is t taken. put_on body is t taken
          ]) refl)

  -- what is known of a lane that has staged its job's unit
  pub record HasStaged (s : State) : Type 0 where
    pub sound : IsSound name_of s
    pub lease : state.Lease
    pub leased : lease_of s 0 ≡ Some lease
    pub is_staged : lease.staged ≡ Some job.unit

  module _ (s : State) (stand : FilesStand s.records Staged) (written : AllByRecursion (IsWrittenIn job.bodies) job.unit.records) (known : HasStaged s) where
    pub has_built : (t : Stepped) → step name_of s 0 given.Publish Done ≡ Some t → t.outcome ≢ Clash → HaveBuilt name_of job (visible t.state)
    has_built t taken apart =
        let name = name_of job.unit.output in
        let made = below.published name_of s 0 known.lease job.unit t known.sound known.leased known.is_staged taken apart in
        let stored : StoredUnit = record { unit = job.unit; values = made.0 } in
        let all : List Publication = s.publications ++ model.Put name stored ∷ [] in
        record {
          values = made.0;
          stands = ap (λ (ps : List Publication). unit_named name (units_at ps (length ps))) made.1
              ∙ (ap (λ (k : ℕ). unit_named name (units_at all k)) (length-append s.publications (model.Put name stored ∷ [])) ∙ below.latest s.publications name stored);
          spelled = all_spelled job.bodies name_of s.records stand job.unit.records made.0 written made.2;
        }

    -- the publish shows the unit's name
    shows : call_of name_of s 0 given.Publish ≡ call.Publish (name_of job.unit.output)
    shows =
        ap (λ (o : Option state.Lease). call.Publish (unwrap_or (option_map (λ (unit : UnitValue). name_of unit.output) (option_and_then (λ (l : state.Lease). l.staged) o)) [])) known.leased
        ∙ ap (λ (o : Option UnitValue). call.Publish (unwrap_or (option_map (λ (unit : UnitValue). name_of unit.output) o) [])) known.is_staged

    synced_apart : Synced ≢ Clash
    synced_apart e = absurd (cc)

    module _ (holds : Option ℕ) (has : List (List ℕ)) (told_so : List Answered) where
      abbrev staged : Progress
      staged = building Staged holds has told_so

      publish_next : (t : Stepped) → step name_of s 0 given.Publish Done ≡ Some t → IsPublished t → Next s staged given.Publish t
      publish_next t taken (inl e) = subst (Goes s staged given.Publish t.state) (sym e)
          (inr (record { holds = holds; has = has; told_so = told_so; left = refl; why = inr (shows, refl, has_built t taken (λ c. synced_apart (sym e ∙ c))) }))
      publish_next t taken (inr e) = subst (Goes s staged given.Publish t.state) (sym e) (over_by s holds has told_so Staged t.state given.Publish stand)

      staged_on : On s staged
      staged_on = computed s staged (λ t taken. publish_next t taken (subst (λ (o : Option Stepped). IfSome o IsPublished) taken (publishes s name_of (staged_by s 0))))

  -- wherever a build is
  module _ (s : State) (written : AllByRecursion (IsWrittenIn job.bodies) job.unit.records) (holds : Option ℕ) (has : List (List ℕ)) (told_so : List Answered) where
    on_at : (so_far : Doing) → FilesStand s.records so_far → (so_far ≡ Staged → HasStaged s) → On s (building so_far holds has told_so)
    on_at Begun stand known = begun_on s holds has told_so
    on_at (Putting n) stand known = putting_on s holds has told_so n stand
    on_at Staged stand known = staged_on s stand written (known refl) holds has told_so
    on_at (Importing mark many) stand known = absurd stand

  pub builds_on : (s : State) (p : Progress) → AllByRecursion (IsWrittenIn job.bodies) job.unit.records → (b : Building s p) → (b.so_far ≡ Staged → HasStaged s) → On s p
  builds_on s p written b known = subst (On s) (sym b.is) (on_at s written b.holds b.has b.told_so b.so_far b.stand known)
