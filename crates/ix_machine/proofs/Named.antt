-- The units stand under the names of their output paths, and a removal finds the one of its path.
use Rattle.std.proofs.Common.{◌≡◌, ◌≢◌, ℕ, zero, suc, Bool, true, false, cond, ◌↔◌, ◌⊎◌, inl, inr, List, [], ◌∷◌, ◌++◌, take, length, map, fold, Option, Some, None, Ok, Err, option_map, refl, sym, ap, subst, ◌∙◌}
use Rattle.std.specs.Result.{result_ok}
use Rattle.std.specs.List.{AllByRecursion, find, filter_map, cons_option}
use Rattle.std.specs.List.Sorted.{IsStrictlySortedBy}
use Rattle.std.specs.Map.{keys_of, remove_entry}
use Rattle.std.specs.BTreeMap.{insert_entry, is_at}
use Rattle.std.specs.Ordering.{match_ordering, is_eq}
use Rattle.std.specs.declared.cmp.Ordering.TheVariants.{Less, Equal, Greater}
use Rattle.std.specs.Str.{bytes_eq}
use Rattle.std.proofs.lemmas.Cmp.{nat_list_eq_equiv}
use Rattle.std.proofs.lemmas.Map.Entries.{lookup_tail}
use Rattle.ix_types.specs.Row.{text_cmp}
use Rattle.ix_wire.specs.Spelling.{IsBytes}
use Rattle.ix_unit.specs.declared.value.UnitValue.{UnitValue}
use Rattle.ix_model.specs.declared.publication.StoredUnit.{StoredUnit}
use Rattle.ix_model.specs.declared.publication.Publication.{Publication}
use Rattle.ix_model.specs.declared.publication.Publication.TheVariants as model
use Rattle.ix_model.specs.Units.{Units, changed, units_at, unit_named, KeepsOtherNames, NamesRise}
use Rattle.ix_machine.specs.declared.event.Outcome.TheVariants.{NoUnit, Synced, Clash}
use Rattle.ix_machine.specs.declared.event.Purpose.{Purpose}
use Rattle.ix_machine.specs.declared.event.Purpose.TheVariants as purposes
use Rattle.ix_machine.specs.Given.{Given, Lease, Put, Stage, Publish, Remove, Scan, Load, Install, Adopt, Release, Collect}
use Rattle.ix_machine.specs.Laws.{IsWithout, AreNamed, IsOnlyPath}
use Rattle.ix_machine.specs.Needs.{visible, loose}
use Rattle.ix_machine.specs.Opening.{AreFiles, judged, sound_at, opening}
use Rattle.ix_machine.specs.Run.{begun, Turn, Leads}
use Rattle.ix_machine.specs.State.{Files, State}
use Rattle.ix_machine.specs.Step.{Stepped, Row, row, step, ended, sure, stored_unit, change, dropped, publish_unit, publish_over, staged_by, name_with_output, remove_named, collect_first}
use Rattle.ix_machine.specs.Step as calls
use Rattle.ix_machine.proofs.Cases.{some_row, put_cases, remove_cases, install_cases}
use Rattle.ix_machine.proofs.Judged.{judged_is_sound}
use Rattle.ix_machine.proofs.Lists.{All-pushed, text_cmp-same, at_itself, same_bytes, lookup-removed_apart, inserted-rises, removed-rises, same_or_apart}
use Rattle.ix_machine.proofs.Publishing.{last_changes}
use Rattle.ix_machine.proofs.Rows.{Each, each_stepped}

-- ---- publications under the names of their output paths

module _ (name_of : List ℕ → List ℕ) where
  abbrev pub IsNamedPut : Publication → Type 0
  IsNamedPut (model.Put name stored) = name ≡ name_of stored.unit.output
  IsNamedPut (model.Gone name) = Unit {0}

  abbrev pub PutsAreNamed : State → Type 0
  PutsAreNamed s = AllByRecursion IsNamedPut s.publications

  abbrev Named : List ℕ × StoredUnit → Type 0
  Named entry = entry.0 ≡ name_of entry.1.unit.output

  inserted-named : (k : List ℕ) (v : StoredUnit) (es : Units) → k ≡ name_of v.unit.output → AreNamed name_of es → AreNamed name_of (insert_entry text_cmp es k v)
  inserted-named k v [] p all = (p, tt)
  inserted-named k v (e ∷ es) p all =
      (elim (text_cmp k e.0) as (λ r. text_cmp k e.0 ≡ r → AreNamed name_of (match_ordering r ((k, v) ∷ e ∷ es) ((e.0, v) ∷ es) (e ∷ insert_entry text_cmp es k v))) [
        | Less ↦ λ c. (p, all)
        | Equal ↦ λ c. (sym (text_cmp-same k e.0 c) ∙ p, all.1)
        | Greater ↦ λ c. (all.0, inserted-named k v es p all.1)
      ]) refl

  removed-kept : (P : List ℕ × StoredUnit → Type 0) (test : List ℕ → Bool) (es : Units) → AllByRecursion P es → AllByRecursion P (remove_entry test es)
  removed-kept P test [] all = tt
  removed-kept P test (e ∷ es) all =
      elim (test e.0) as (λ b. AllByRecursion P (cond b es (e ∷ remove_entry test es))) [
        | true ↦ all.1
        | false ↦ (all.0, removed-kept P test es all.1)
      ]

  changed-named : (units : Units) (p : Publication) → IsNamedPut p → AreNamed name_of units → AreNamed name_of (changed units p)
  changed-named units (model.Put name stored) p all = inserted-named name stored units p all
  changed-named units (model.Gone name) p all = removed-kept Named (is_at (text_cmp name)) units all

  folded-named : (n : ℕ) (ps : List Publication) (units : Units) → AllByRecursion IsNamedPut ps → AreNamed name_of units → AreNamed name_of (fold changed units (take n ps))
  folded-named zero [] units puts all = all
  folded-named (suc n) [] units puts all = all
  folded-named zero (p ∷ ps) units puts all = all
  folded-named (suc n) (p ∷ ps) units puts all = folded-named n ps (changed units p) puts.1 (changed-named units p puts.0 all)

  pub seen-named : (s : State) (mark : ℕ) → PutsAreNamed s → AreNamed name_of (units_at s.publications mark)
  seen-named s mark puts = folded-named mark s.publications [] puts tt

  -- ---- each call keeps them so

  module _ (s : State) (puts : PutsAreNamed s) (lane : ℕ) where
    abbrev Keeps : Row → Type 0
    Keeps = Each PutsAreNamed

    more : (p : Publication) → IsNamedPut p → AllByRecursion IsNamedPut (s.publications ++ p ∷ [])
    more p named = All-pushed IsNamedPut s.publications p puts named

    published : (unit : UnitValue) (o : Option StoredUnit) → Keeps (publish_over s lane (name_of unit.output) unit o)
    published unit None = let all = more (model.Put (name_of unit.output) (stored_unit s unit)) refl in record { plain = all; faulted = puts; unsynced = all }
    published unit (Some other) =
        let all = more (model.Put (name_of unit.output) (stored_unit s unit)) refl in
        elim (bytes_eq other.unit.output unit.output) as (λ b. Keeps (cond b (change (dropped s lane) (dropped s lane) (model.Put (name_of unit.output) (stored_unit s unit))) (sure Clash (dropped s lane)))) [
          | true ↦ record { plain = all; faulted = puts; unsynced = all }
          | false ↦ record { plain = puts; faulted = tt; unsynced = tt }
        ]

    by_staged : (o : Option UnitValue) (r : Row) → option_map (λ unit. publish_unit s lane (name_of unit.output) unit) o ≡ Some r → Keeps r
    by_staged None r e = absurd (cc)
    by_staged (Some unit) r e = some_row Keeps s lane _ r e (published unit (unit_named (name_of unit.output) (visible s)))

    load-keeps : (name : List ℕ) (purpose : Purpose) → Keeps (calls.load s name purpose)
    load-keeps name purposes.Import = record { plain = puts; faulted = puts; unsynced = tt }
    load-keeps name purposes.Ask = record { plain = puts; faulted = puts; unsynced = tt }

    collected-keeps : (names : List (List ℕ)) → PutsAreNamed (collect_first s names).state
    collected-keeps [] = puts
    collected-keeps (name ∷ names) = puts

    keeps : (given : Given) (r : Row) → row name_of s lane given ≡ Some r → Keeps r
    keeps (Lease names) r e = some_row Keeps s lane _ r e (record { plain = puts; faulted = tt; unsynced = tt })
    keeps (Put body) r e = some_row Keeps s lane _ r e (put_cases Keeps s lane body
        (record { plain = puts; faulted = puts; unsynced = tt }) (record { plain = puts; faulted = puts; unsynced = tt }) (record { plain = puts; faulted = puts; unsynced = tt }))
    keeps (Stage unit) r e = some_row Keeps s lane _ r e (record { plain = puts; faulted = puts; unsynced = tt })
    keeps Publish r e = by_staged (staged_by s lane) r e
    keeps (Remove output) r e = some_row Keeps s lane _ r e (remove_cases Keeps s lane (record { plain = puts; faulted = tt; unsynced = tt })
        (λ name. let all = more (model.Gone name) tt in record { plain = all; faulted = puts; unsynced = all }) output)
    keeps Scan r e = some_row Keeps s lane _ r e (record { plain = puts; faulted = puts; unsynced = tt })
    keeps (Load name purpose) r e = some_row Keeps s lane _ r e (load-keeps name purpose)
    keeps Install r e = install_cases Keeps s lane (λ i is. record { plain = puts; faulted = tt; unsynced = tt }) r e
    keeps Adopt r e = some_row Keeps s lane _ r e (record { plain = puts; faulted = tt; unsynced = tt })
    keeps Release r e = some_row Keeps s lane _ r e (record { plain = puts; faulted = tt; unsynced = tt })
    keeps Collect r e = some_row Keeps s lane _ r e (record { plain = collected-keeps (loose s); faulted = puts; unsynced = tt })

  pub led-named : (turns : List Turn) (s end : State) → PutsAreNamed s → Leads name_of s turns end → PutsAreNamed end
  led-named [] s end puts leads = subst PutsAreNamed leads puts
  led-named (turn ∷ turns) s end puts leads =
      led-named turns leads.0.state end (each_stepped PutsAreNamed name_of s turn.lane turn.given turn.flag leads.0 (keeps s puts turn.lane turn.given) leads.1.taken) leads.2

  -- ---- where a run begins

  module _ (records : Files) (record_bytes : AllByRecursion (λ file. IsBytes file.1) records) where
    abbrev put_of : List ℕ × StoredUnit → Publication
    put_of entry = model.Put entry.0 entry.1

    found-named : (units : Files) → AllByRecursion (λ file. IsBytes file.1) units → AllByRecursion IsNamedPut (map put_of (filter_map (sound_at name_of records) units))
    found-named [] fits = tt
    found-named (file ∷ units) fits =
        (elim (judged name_of records file.0 file.1) as (λ r. judged name_of records file.0 file.1 ≡ r
        → AllByRecursion IsNamedPut (map put_of (cons_option (option_map (λ unit. (file.0, unit)) (result_ok r)) (filter_map (sound_at name_of records) units)))) [
          | Ok found ↦ λ e. ((judged_is_sound name_of records file.0 file.1 found record_bytes fits.0 e).named, found-named units fits.1)
          | Err fault ↦ λ e. found-named units fits.1
        ]) refl

  pub run-named : (units records : Files) (lanes : ℕ) (turns : List Turn) (s : State) → AreFiles units → AreFiles records
      → Leads name_of (begun (opening name_of units records) lanes) turns s → PutsAreNamed s
  run-named units records lanes turns s unit_files record_files leads = led-named turns _ s (found-named records record_files.bytes units unit_files.bytes) leads

-- ---- the unit of an output path

-- what holds of the unit that is found, or that there is none
pub none-with : (output : List ℕ) (units : Units) → name_with_output output units ≡ None → IsWithout output units
none-with output [] e = tt
none-with output (entry ∷ units) e =
    (elim (bytes_eq entry.1.unit.output output) as (λ b. bytes_eq entry.1.unit.output output ≡ b
    → option_map (λ (found : List ℕ × StoredUnit). found.0) (cond b (Some entry) (find (λ entry. bytes_eq entry.1.unit.output output) units)) ≡ None → IsWithout output (entry ∷ units)) [
      | true ↦ λ is e. absurd (cc)
      | false ↦ λ is e. (λ same. apart same is, none-with output units e)
    ]) refl e
  where
    apart : entry.1.unit.output ≡ output → bytes_eq entry.1.unit.output output ≡ false → ⊥
    apart same is = let yes : bytes_eq entry.1.unit.output output ≡ true = ap (bytes_eq entry.1.unit.output) (sym same) ∙ nat_list_eq_equiv.refl entry.1.unit.output in cc

pub without-none : (output : List ℕ) (units : Units) → IsWithout output units → name_with_output output units ≡ None
without-none output [] all = refl
without-none output (entry ∷ units) all =
    (elim (bytes_eq entry.1.unit.output output) as (λ b. bytes_eq entry.1.unit.output output ≡ b
    → option_map (λ (found : List ℕ × StoredUnit). found.0) (cond b (Some entry) (find (λ entry. bytes_eq entry.1.unit.output output) units)) ≡ None) [
      | true ↦ λ is. absurd (all.0 (same_bytes entry.1.unit.output output is))
      | false ↦ λ is. without-none output units all.1
    ]) refl

-- the unit that is found stands under the name of the path
pub found-under : (name_of : List ℕ → List ℕ) (output name : List ℕ) (units : Units) → AreNamed name_of units → name_with_output output units ≡ Some name → name ≡ name_of output
found-under name_of output name [] all e = absurd (cc)
found-under name_of output name (entry ∷ units) all e =
    (elim (bytes_eq entry.1.unit.output output) as (λ b. bytes_eq entry.1.unit.output output ≡ b
    → option_map (λ (found : List ℕ × StoredUnit). found.0) (cond b (Some entry) (find (λ entry. bytes_eq entry.1.unit.output output) units)) ≡ Some name → name ≡ name_of output) [
      | true ↦ λ is e. let own : entry.0 ≡ name = cc in sym own ∙ (all.0 ∙ ap name_of (same_bytes entry.1.unit.output output is))
      | false ↦ λ is e. found-under name_of output name units all.1 e
    ]) refl e

-- ---- what a removal answers

pub answers_no_unit : (s : State) (output : List ℕ) (stepped : Stepped) → Some (calls.remove s output).plain ≡ Some stepped → (stepped.outcome ≡ NoUnit) ↔ IsWithout output (visible s)
answers_no_unit s output stepped e = by_name (name_with_output output (visible s)) refl e
  where
    by_name : (o : Option (List ℕ)) → name_with_output output (visible s) ≡ o → Some (remove_named s o).plain ≡ Some stepped → (stepped.outcome ≡ NoUnit) ↔ IsWithout output (visible s)
    by_name None is e =
        let same : ended NoUnit s ≡ stepped = cc in
        (λ x. none-with output (visible s) is, λ all. ap (λ (t : Stepped). t.outcome) (sym same))
    by_name (Some name) is e =
        let same : (change s s (model.Gone name)).plain ≡ stepped = cc in
        let synced : stepped.outcome ≡ Synced = ap (λ (t : Stepped). t.outcome) (sym same) in
        (λ x. absurd (apart (sym synced ∙ x)), λ all. absurd (no_name (sym (without-none output (visible s) all) ∙ is)))
      where
        apart : Synced ≡ NoUnit → ⊥
        apart e = cc

        no_name : None ≡ Some name → ⊥
        no_name e = cc

-- ---- what stands under the name of the path

module _ (name_of : List ℕ → List ℕ) (output : List ℕ) where
  pub none-under : IsOnlyPath name_of output → (units : Units) → AreNamed name_of units → IsWithout output units → unit_named (name_of output) units ≡ None
  none-under only [] named all = refl
  none-under only (entry ∷ units) named all = by_name (same_or_apart entry.0 (name_of output)) (none-under only units named.1 all.1)
    where
      by_name : (entry.0 ≡ name_of output) ⊎ (is_at (text_cmp (name_of output)) entry.0 ≡ false) → unit_named (name_of output) units ≡ None → unit_named (name_of output) (entry ∷ units) ≡ None
      by_name (inl e) rest = absurd (all.0 (only entry.1.unit.output (sym named.0 ∙ e)))
      by_name (inr e) rest = lookup_tail (is_at (text_cmp (name_of output))) entry units e ∙ rest

  -- behind the name of the path, no unit has the path
  without-behind : (units : Units) → AllByRecursion (λ z. text_cmp (name_of output) z ≡ Less) (keys_of units) → AreNamed name_of units → IsWithout output units
  without-behind [] greater named = tt
  without-behind (entry ∷ units) greater named = (λ e. apart (named.0 ∙ ap name_of e) greater.0, without-behind units greater.1 named.1)
    where
      apart : entry.0 ≡ name_of output → text_cmp (name_of output) entry.0 ≡ Less → ⊥
      apart e less = let same = at_itself (name_of output) in let there : is_eq (text_cmp (name_of output) entry.0) ≡ true = ap (λ (z : List ℕ). is_eq (text_cmp (name_of output) z)) e ∙ same in cc

  pub removed-without : (units : Units) → NamesRise units → AreNamed name_of units → IsWithout output (remove_entry (is_at (text_cmp (name_of output))) units)
  unfolding IsStrictlySortedBy
  removed-without [] rises named = tt
  removed-without (entry ∷ units) rises named = by_name (same_or_apart entry.0 (name_of output)) (removed-without units rises.1 named.1)
    where
      by_name : (entry.0 ≡ name_of output) ⊎ (is_at (text_cmp (name_of output)) entry.0 ≡ false) → IsWithout output (remove_entry (is_at (text_cmp (name_of output))) units)
          → IsWithout output (remove_entry (is_at (text_cmp (name_of output))) (entry ∷ units))
      by_name (inl e) rest =
          let there : is_at (text_cmp (name_of output)) entry.0 ≡ true = ap (is_at (text_cmp (name_of output))) e ∙ at_itself (name_of output) in
          subst (λ (b : Bool). IsWithout output (cond b units (entry ∷ remove_entry (is_at (text_cmp (name_of output))) units))) (sym there)
          (without-behind units (subst (λ (k : List ℕ). AllByRecursion (λ z. text_cmp k z ≡ Less) (keys_of units)) e rises.0) named.1)
      by_name (inr e) rest =
          subst (λ (b : Bool). IsWithout output (cond b units (entry ∷ remove_entry (is_at (text_cmp (name_of output))) units))) (sym e)
          (λ same. other (named.0 ∙ ap name_of same), rest)
        where
          other : entry.0 ≡ name_of output → ⊥
          other same = let there : is_at (text_cmp (name_of output)) entry.0 ≡ true = ap (is_at (text_cmp (name_of output))) same ∙ at_itself (name_of output) in cc

  pub removed-others : (units : Units) → KeepsOtherNames (name_of output) units (remove_entry (is_at (text_cmp (name_of output))) units)
  removed-others units other apart = by_name (same_or_apart (name_of output) other)
    where
      by_name : (name_of output ≡ other) ⊎ (is_at (text_cmp other) (name_of output) ≡ false) → unit_named other (remove_entry (is_at (text_cmp (name_of output))) units) ≡ unit_named other units
      by_name (inl e) = absurd (apart e)
      by_name (inr e) = lookup-removed_apart (name_of output) other e units

-- the names rise at each mark
folded-rises : (ps : List Publication) (units : Units) → NamesRise units → NamesRise (fold changed units ps)
folded-rises [] units rises = rises
folded-rises (model.Put name stored ∷ ps) units rises = folded-rises ps (changed units (model.Put name stored)) (inserted-rises name stored units rises)
folded-rises (model.Gone name ∷ ps) units rises = folded-rises ps (changed units (model.Gone name)) (removed-rises (is_at (text_cmp name)) units rises)

none_rise : NamesRise []
unfolding IsStrictlySortedBy
none_rise = tt

-- the unit of the path is gone, and each other name has what it had
pub record TakesUnitAway (name_of : List ℕ → List ℕ) (output : List ℕ) (before after : Units) : Type 0 where
  pub gone : IsWithout output after
  pub others : KeepsOtherNames (name_of output) before after

pub takes_unit_away : (name_of : List ℕ → List ℕ) (s : State) (output : List ℕ) (stepped : Stepped) → PutsAreNamed name_of s → Some (calls.remove s output).plain ≡ Some stepped → stepped.outcome ≢ NoUnit
    → TakesUnitAway name_of output (visible s) (visible stepped.state)
takes_unit_away name_of s output stepped puts e made = by_name (name_with_output output (visible s)) refl e
  where
    by_name : (o : Option (List ℕ)) → name_with_output output (visible s) ≡ o → Some (remove_named s o).plain ≡ Some stepped → TakesUnitAway name_of output (visible s) (visible stepped.state)
    by_name None is e = let same : ended NoUnit s ≡ stepped = cc in absurd (made (ap (λ (t : Stepped). t.outcome) (sym same)))
    by_name (Some name) is e =
        let named = seen-named name_of s (length s.publications) puts in
        let under : name ≡ name_of output = found-under name_of output name (visible s) named is in
        let same : (change s s (model.Gone name)).plain ≡ stepped = cc in
        let after : visible stepped.state ≡ remove_entry (is_at (text_cmp (name_of output))) (visible s) =
        ap (λ (t : Stepped). visible t.state) (sym same) ∙ (last_changes s.publications (model.Gone name) ∙ ap (λ (k : List ℕ). remove_entry (is_at (text_cmp k)) (visible s)) under) in
        subst (TakesUnitAway name_of output (visible s)) (sym after)
        (record { gone = removed-without name_of output (visible s) (folded-rises (take (length s.publications) s.publications) [] none_rise) named; others = removed-others name_of output (visible s) })
