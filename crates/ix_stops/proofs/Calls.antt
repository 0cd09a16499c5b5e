-- What single calls of a directory leave on disk.
use Rattle.std.proofs.Common.{◌≡◌, ◌≢◌, ◌⊎◌, inl, inr, ℕ, suc, ◌+◌, ◌≤◌, Bool, true, false, cond, ◌&&◌, ◌||◌, List, [], ◌∷◌, ◌++◌, length, fold, refl, sym, ap, subst, ◌∙◌, Option, Some, None, is_some, Contains, arith}
use Rattle.std.specs.declared.cmp.Ordering.TheVariants.{Less, Equal, Greater}
use Rattle.std.specs.List.{AllByRecursion, list_any}
use Rattle.std.specs.Map.{remove_entry}
use Rattle.std.specs.BTreeMap.{insert_entry, is_at}
use Rattle.std.specs.Option.{option_map}
use Rattle.std.specs.Ordering.{match_ordering}
use Rattle.std.specs.Cmp.Lexicographic.{same_text}
use Rattle.std.proofs.lemmas.Cmp.{nat_list_eq_equiv}
use Rattle.std.specs.FinMap.{entries, get, get-entries}
use Rattle.std.proofs.lemmas.List.{length-append}
use Rattle.std.proofs.lemmas.List.Sums.{fold-append}
use Rattle.std.proofs.Math.Seq.{take-length}
use Rattle.ix_types.specs.Row.{text_cmp}
use Rattle.ix_dir.specs.declared.area.Area.{Area}
use Rattle.ix_dir.specs.declared.area.Area.TheVariants.{Units, Records}
use Rattle.ix_dir.specs.declared.moves.Move.{Move}
use Rattle.ix_dir.specs.declared.moves.Move.TheVariants.{Renamed, Removed, Synced}
use Rattle.ix_dir.specs.Calls.{moves_removed}
use Rattle.ix_dir.specs.Crash.{IsSettledIn, standing}
use Rattle.ix_dir.specs.Files.{File, Contents, bytes_at}
use Rattle.ix_dir.specs.Images.{Value, IsImageIn, values_of}
use Rattle.ix_dir.specs.Moves.{area_after, same_area, same_name}
use Rattle.ix_dir.specs.WhatAChangeLeaves.{LeavesAt}
use Rattle.ix_unit.specs.Spelling.{UnitSpelling}
use Rattle.ix_model.specs.declared.publication.Publication.{Publication}
use Rattle.ix_model.specs.declared.publication.Publication.TheVariants.{Put, Gone}
use Rattle.ix_model.specs.declared.publication.StoredUnit.{StoredUnit}
use Rattle.ix_model.specs.Units as model
use Rattle.ix_model.specs.Units.{changed, units_at, units_after, unit_named}
use Rattle.ix_machine.specs.Needs.{units_need}
use Rattle.ix_machine.specs.Sound.{ValuesStand, RecordsStand}
use Rattle.ix_machine.specs.State as machine
use Rattle.ix_stops.specs.Changes.{waiting_step, waiting}
use Rattle.ix_stops.specs.OnDisk.{HaveOneValue, AreKept, OnePends, IsOnDisk}
use Rattle.ix_stops.specs.UnitFiles.{IsSpelledUnder, Spell}
use Rattle.ix_stops.proofs.ByName.{lookup_is_find}
use Rattle.ix_stops.proofs.FoundWhole.{Stays, records_on, has, right_or}
use Rattle.ix_stops.specs.Given.{Laws}

-- ---- publications

one_publication : (publications : List Publication) (p : Publication) → units_after (publications ++ p ∷ []) ≡ changed (units_after publications) p
one_publication publications p =
    ap (fold changed []) (take-length (publications ++ p ∷ []))
    ∙ fold-append changed [] publications (p ∷ [])
    ∙ ap (λ (ps : List Publication). changed (fold changed [] ps) p) (sym (take-length publications))

all_inserted : (P : List ℕ × StoredUnit → Type 0) (name : List ℕ) (stored : StoredUnit) (units : model.Units) → ((n : List ℕ) → P (n, stored)) → AllByRecursion P units → AllByRecursion P (insert_entry text_cmp units name stored)
all_inserted P name stored [] here all = (here name, tt)
all_inserted P name stored (e ∷ units) here all =
    elim (text_cmp name e.0) as (λ o. AllByRecursion P (match_ordering o ((name, stored) ∷ e ∷ units) ((e.0, stored) ∷ units) (e ∷ insert_entry text_cmp units name stored))) [
      | Less ↦ (here name, all)
      | Equal ↦ (here e.0, all.1)
      | Greater ↦ (all.0, all_inserted P name stored units here all.1)
    ]

all_removed : (P : List ℕ × StoredUnit → Type 0) (test : List ℕ → Bool) (units : model.Units) → AllByRecursion P units → AllByRecursion P (remove_entry test units)
all_removed P test [] all = tt
all_removed P test (e ∷ units) all =
    elim (test e.0) as (λ b. AllByRecursion P (cond b units (e ∷ remove_entry test units))) [
      | true ↦ all.1
      | false ↦ (all.0, all_removed P test units all.1)
    ]

or_on : (own a b : Bool) → (a ≡ true → b ≡ true) → (own || a) ≡ true → (own || b) ≡ true
or_on true a b on h = refl
or_on false a b on h = on h

needed_before : (n : List ℕ) (test : List ℕ → Bool) (units : model.Units) → units_need n (remove_entry test units) ≡ true → units_need n units ≡ true
needed_before n test [] needed = needed
needed_before n test (e ∷ units) needed =
    (elim (test e.0) as (λ b. units_need n (cond b units (e ∷ remove_entry test units)) ≡ true → units_need n (e ∷ units) ≡ true) [
      | true ↦ λ needed. right_or (list_any (has n) e.1.unit.records) (units_need n units) needed
      | false ↦ λ needed. or_on (list_any (has n) e.1.unit.records) (units_need n (remove_entry test units)) (units_need n units) (needed_before n test units) needed
    ]) needed

-- ---- what stays

-- a crash leaves of the units area what it left, and as many changes wait
record SameUnits (before after : List Move) : Type 0 where
  bytes : (name : List ℕ) → bytes_at (area_after after Units) name ≡ bytes_at (area_after before Units) name
  values : (name : List ℕ) → values_of after Units name ≡ values_of before Units name
  waits : waiting after ≡ waiting before

-- the record file of the name stays as it was, and where it had one value it has one
record SameRecord (before after : List Move) (name : List ℕ) : Type 0 where
  bytes : bytes_at (area_after after Records) name ≡ bytes_at (area_after before Records) name
  alone : values_of before Records name ≡ bytes_at (area_after before Records) name ∷ [] → values_of after Records name ≡ bytes_at (area_after after Records) name ∷ []

value_stays : (before after : List Move) (area : Area) (name : List ℕ) → bytes_at (area_after after area) name ≡ bytes_at (area_after before area) name → values_of after area name ≡ values_of before area name
    → values_of before area name ≡ bytes_at (area_after before area) name ∷ [] → values_of after area name ≡ bytes_at (area_after after area) name ∷ []
value_stays before after area name bytes values alone = values ∙ alone ∙ ap (λ v. v ∷ []) (sym bytes)

module _ (laws : Laws) (name_of : List ℕ → List ℕ) where
  same_spell : (before after : List Move) (units : model.Units) → ((name : List ℕ) → bytes_at (area_after after Units) name ≡ bytes_at (area_after before Units) name)
      → Spell name_of (standing before Units) units → Spell name_of (standing after Units) units
  same_spell before after units bytes spell q =
      subst (λ v. IsSpelledUnder name_of q v (unit_named q units)) (laws.contents (area_after before Units) q ∙ sym (bytes q) ∙ sym (laws.contents (area_after after Units) q)) (spell q)

  record_stays : (before after : List Move) (name : List ℕ) → bytes_at (area_after after Records) name ≡ bytes_at (area_after before Records) name → Stays (entries (standing before Records)) (entries (standing after Records)) name
  record_stays before after name bytes =
      lookup_is_find name (entries (standing after Records)) ∙ sym (get-entries (standing after Records) name)
      ∙ laws.contents (area_after after Records) name ∙ bytes ∙ sym (laws.contents (area_after before Records) name)
      ∙ get-entries (standing before Records) name ∙ sym (lookup_is_find name (entries (standing before Records)))

  kept_on : (before after : List Move) (units : model.Units) → ((name : List ℕ) → units_need name units ≡ true → SameRecord before after name) → AreKept name_of before units → AreKept name_of after units
  kept_on before after units same kept = record {
    stand = records_on name_of (entries (standing before Records)) (entries (standing after Records)) units (λ name needed. record_stays before after name (same name needed).bytes) kept.stand;
    alone = λ name needed. (same name needed).alone (kept.alone name needed);
  }

  settled_on : (before after : List Move) → SameUnits before after → IsSettledIn Units before → IsSettledIn Units after
  settled_on before after same settled name = value_stays before after Units name (same.bytes name) (same.values name) (settled name)

  image_back : (before after : List Move) (contents : Contents) → SameUnits before after → IsImageIn Units after contents → IsImageIn Units before contents
  image_back before after contents same left name = subst (λ vs. Contains vs (get contents name)) (same.values name) (left name)

  pends_on : (publications : List Publication) (before after : List Move) (pending : Option ℕ) → SameUnits before after
      → ((mark : ℕ) → pending ≡ Some mark → AreKept name_of before (units_at publications mark) → AreKept name_of after (units_at publications mark))
      → OnePends name_of pending publications before → OnePends name_of pending publications after
  pends_on publications before after None same keep settled = settled_on before after same settled
  pends_on publications before after (Some mark) same keep (inl settled) = inl (settled_on before after same settled)
  pends_on publications before after (Some mark) same keep (inr behind) = inr (record {
    last = behind.last;
    waits = subst (λ n. 1 ≤ n) (sym same.waits) behind.waits;
    kept = keep mark refl behind.kept;
    left = λ contents left. behind.left contents (image_back before after contents same left);
  })

  disk_on : (publications : List Publication) (before after : List Move) (pending : Option ℕ) → SameUnits before after
      → (AreKept name_of before (units_after publications) → AreKept name_of after (units_after publications))
      → ((mark : ℕ) → pending ≡ Some mark → AreKept name_of before (units_at publications mark) → AreKept name_of after (units_at publications mark))
      → IsOnDisk name_of pending publications before → IsOnDisk name_of pending publications after
  disk_on publications before after pending same keep keep_before disk = record {
    unit_files = same_spell before after (units_after publications) same.bytes disk.unit_files;
    image_records = keep disk.image_records;
    one_pending = pends_on publications before after pending same keep_before disk.one_pending;
  }

  -- ---- syncs

  synced_bytes : (moves : List Move) (area a : Area) (name : List ℕ) → bytes_at (area_after (moves ++ Synced area ∷ []) a) name ≡ bytes_at (area_after moves a) name
  synced_bytes moves area a name = ap (λ files. bytes_at files name) (laws.sync_areas moves area a)

  pub records_synced : (publications : List Publication) (moves : List Move) (pending : Option ℕ) → IsOnDisk name_of pending publications moves → IsOnDisk name_of pending publications (moves ++ Synced Records ∷ [])
  records_synced publications moves pending disk =
      let now = moves ++ Synced Records ∷ [] in
      let same : SameUnits moves now = record {
        bytes = synced_bytes moves Records Units;
        values = λ name. laws.other_synced moves Records Units name refl;
        waits = fold-append waiting_step 0 moves (Synced Records ∷ []);
      } in
      let one : (name : List ℕ) → SameRecord moves now name = λ name. record { bytes = synced_bytes moves Records Records name; alone = λ _. laws.sync_settled moves Records name } in
      disk_on publications moves now pending same (kept_on moves now (units_after publications) (λ name _. one name)) (λ mark _. kept_on moves now (units_at publications mark) (λ name _. one name)) disk

  pub settled_beside : (moves : List Move) (area a : Area) → same_area a area ≡ false → IsSettledIn a moves → IsSettledIn a (moves ++ Synced area ∷ [])
  settled_beside moves area a other settled name = value_stays moves (moves ++ Synced area ∷ []) a name (synced_bytes moves area a name) (laws.other_synced moves area a name other) (settled name)

  settled_pends : (publications : List Publication) (moves : List Move) (pending : Option ℕ) → IsSettledIn Units moves → OnePends name_of pending publications moves
  settled_pends publications moves None settled = settled
  settled_pends publications moves (Some mark) settled = inl settled

  pub units_synced : (publications : List Publication) (moves : List Move) (pending other : Option ℕ) → IsOnDisk name_of pending publications moves → IsOnDisk name_of other publications (moves ++ Synced Units ∷ [])
  units_synced publications moves pending other disk =
      let now = moves ++ Synced Units ∷ [] in
      let one : (name : List ℕ) → SameRecord moves now name = λ name. record {
        bytes = synced_bytes moves Units Records name;
        alone = value_stays moves now Records name (synced_bytes moves Units Records name) (laws.other_synced moves Units Records name refl);
      } in
      record {
        unit_files = same_spell moves now (units_after publications) (synced_bytes moves Units Units) disk.unit_files;
        image_records = kept_on moves now (units_after publications) (λ name _. one name) disk.image_records;
        one_pending = settled_pends publications now other (laws.sync_settled moves Units);
      }

  -- where nothing waits, any change may be said to pend
  pub settled_disk : (publications : List Publication) (moves : List Move) (pending other : Option ℕ) → IsSettledIn Units moves → IsOnDisk name_of pending publications moves → IsOnDisk name_of other publications moves
  settled_disk publications moves pending other settled disk = record { unit_files = disk.unit_files; image_records = disk.image_records; one_pending = settled_pends publications moves other settled }

  -- ---- a change of a record

  left_bytes : (before after : List Move) (area a : Area) (name n : List ℕ) (value : Value) → LeavesAt area name value before after → (same_area a area && same_name name n) ≡ false → bytes_at (area_after after a) n ≡ bytes_at (area_after before a) n
  left_bytes before after area a name n value left other = ap (option_map (λ f. f.bytes)) (left.others a n other)

  not_needed : (name n : List ℕ) (units : model.Units) → units_need name units ≡ false → units_need n units ≡ true → same_name name n ≡ false
  not_needed name n units free needed = (elim (same_name name n) as (λ b. b ≡ same_name name n → b ≡ false) [
    | true ↦ λ is.
        let same : name ≡ n = same_text name n is in
        let no : true ≡ false = sym needed ∙ ap (λ x. units_need x units) (sym same) ∙ free in
        absurd (cc)
    | false ↦ λ is. refl
  ]) refl

  module _ (publications : List Publication) (before after : List Move) (pending : Option ℕ) (name : List ℕ) (value : Value) (left : LeavesAt Records name value before after)
      (values : (a : Area) (n : List ℕ) → (same_area a Records && same_name name n) ≡ false → values_of after a n ≡ values_of before a n) (waits : waiting after ≡ waiting before) where
    other_record : (n : List ℕ) → same_name name n ≡ false → SameRecord before after n
    other_record n other = record {
      bytes = left_bytes before after Records Records name n value left other;
      alone = value_stays before after Records n (left_bytes before after Records Records name n value left other) (values Records n other);
    }

    same_units : SameUnits before after
    same_units = record { bytes = λ n. left_bytes before after Records Units name n value left refl; values = λ n. values Units n refl; waits = waits }

    kept_free : (units : model.Units) → units_need name units ≡ false → AreKept name_of before units → AreKept name_of after units
    kept_free units free = kept_on before after units (λ n needed. other_record n (not_needed name n units free needed))

    pub record_changed : units_need name (units_after publications) ≡ false → ((mark : ℕ) → pending ≡ Some mark → units_need name (units_at publications mark) ≡ false)
        → IsOnDisk name_of pending publications before → IsOnDisk name_of pending publications after
    record_changed free free_before disk =
        disk_on publications before after pending same_units (kept_free (units_after publications) free) (λ mark is. kept_free (units_at publications mark) (free_before mark is)) disk

    pub settled_units : IsSettledIn Units before → IsSettledIn Units after
    settled_units = settled_on before after same_units

  pub record_renamed : (publications : List Publication) (moves : List Move) (pending : Option ℕ) (name bytes : List ℕ) (stamp : ℕ)
      → units_need name (units_after publications) ≡ false → ((mark : ℕ) → pending ≡ Some mark → units_need name (units_at publications mark) ≡ false)
      → IsOnDisk name_of pending publications moves → IsOnDisk name_of pending publications (moves ++ Renamed Records name bytes stamp ∷ [])
  record_renamed publications moves pending name bytes stamp =
      record_changed publications moves (moves ++ Renamed Records name bytes stamp ∷ []) pending name (Some bytes) (laws.rename moves Records name bytes stamp)
      (λ a n other. laws.other_renamed moves Records name bytes stamp a n other) (fold-append waiting_step 0 moves (Renamed Records name bytes stamp ∷ []))

  waits_on : (moves : List Move) (name : List ℕ) (b : Bool) → waiting (cond b (moves ++ Removed Records name ∷ []) moves) ≡ waiting moves
  waits_on moves name true = fold-append waiting_step 0 moves (Removed Records name ∷ [])
  waits_on moves name false = refl

  pub record_removed : (publications : List Publication) (moves : List Move) (pending : Option ℕ) (name : List ℕ)
      → units_need name (units_after publications) ≡ false → ((mark : ℕ) → pending ≡ Some mark → units_need name (units_at publications mark) ≡ false)
      → IsOnDisk name_of pending publications moves → IsOnDisk name_of pending publications (moves_removed Records name moves)
  record_removed publications moves pending name =
      record_changed publications moves (moves_removed Records name moves) pending name None (laws.removal moves Records name)
      (λ a n other. laws.other_removed moves Records name a n other) (waits_on moves name (is_some (get (area_after moves Records) name)))

  -- ---- a change of a unit

  module _ (publications : List Publication) (before after : List Move) (p : Publication) (name : List ℕ) (value : Value) (left : LeavesAt Units name value before after)
      (values : (a : Area) (n : List ℕ) → (same_area a Units && same_name name n) ≡ false → values_of after a n ≡ values_of before a n) (waits : 1 ≤ waiting after)
      (images : (contents : Contents) → IsImageIn Units after contents → (contents ≡ standing before Units) ⊎ (contents ≡ standing after Units))
      (own : IsSpelledUnder name_of name value (unit_named name (units_after (publications ++ p ∷ []))))
      (others : (other : List ℕ) → name ≢ other → unit_named other (units_after (publications ++ p ∷ [])) ≡ unit_named other (units_after publications)) where
    abbrev more : List Publication
    more = publications ++ p ∷ []

    count : length more ≡ length publications + 1
    count = length-append publications (p ∷ [])

    as_before : units_at more (length publications) ≡ units_after publications
    as_before = laws.prefix publications (p ∷ []) (length publications) (omega arith)

    same_record : (n : List ℕ) → SameRecord before after n
    same_record n = record {
      bytes = left_bytes before after Units Records name n value left refl;
      alone = value_stays before after Records n (left_bytes before after Units Records name n value left refl) (values Records n refl);
    }

    new_files : Spell name_of (standing before Units) (units_after publications) → Spell name_of (standing after Units) (units_after more)
    new_files spell q =
        (elim (same_name name q) as (λ b. b ≡ same_name name q → IsSpelledUnder name_of q (get (standing after Units) q) (unit_named q (units_after more))) [
          | true ↦ λ is.
              let here : value ≡ get (standing after Units) name = sym left.here ∙ sym (laws.contents (area_after after Units) name) in
              subst (λ x. IsSpelledUnder name_of x (get (standing after Units) x) (unit_named x (units_after more))) (same_text name q is)
              (subst (λ v. IsSpelledUnder name_of name v (unit_named name (units_after more))) here own)
          | false ↦ λ is.
              let apart : name ≢ q = λ same. let no : true ≡ false = sym (nat_list_eq_equiv.refl q) ∙ ap (λ x. same_name x q) (sym same) ∙ sym is in absurd (cc) in
              let file : get (standing before Units) q ≡ get (standing after Units) q =
              laws.contents (area_after before Units) q ∙ sym (left_bytes before after Units Units name q value left (sym is)) ∙ sym (laws.contents (area_after after Units) q) in
              subst (λ v. IsSpelledUnder name_of q v (unit_named q (units_after more))) file
              (subst (λ o. IsSpelledUnder name_of q (get (standing before Units) q) o) (sym (others q apart)) (spell q))
        ]) refl

    two : Spell name_of (standing before Units) (units_after publications) → (contents : Contents) → (contents ≡ standing before Units) ⊎ (contents ≡ standing after Units)
        → Spell name_of contents (units_after more) ⊎ Spell name_of contents (units_at more (length publications))
    two spell contents (inl is) = inr (subst (Spell name_of contents) (sym as_before) (subst (λ c. Spell name_of c (units_after publications)) (sym is) spell))
    two spell contents (inr is) = inl (subst (λ c. Spell name_of c (units_after more)) (sym is) (new_files spell))

    pub unit_changed : AreKept name_of before (units_after more) → (pending : Option ℕ) → IsOnDisk name_of pending publications before → IsOnDisk name_of (Some (length publications)) more after
    unit_changed kept pending disk = record {
      unit_files = new_files disk.unit_files;
      image_records = kept_on before after (units_after more) (λ n _. same_record n) kept;
      one_pending = inr (record {
        last = omega (arith, count);
        waits = waits;
        kept = subst (AreKept name_of after) (sym as_before) (kept_on before after (units_after publications) (λ n _. same_record n) disk.image_records);
        left = λ contents image. two disk.unit_files contents (images contents image);
      });
    }

  -- the records of the units stand that are visible after a publication more
  stand_more : (records : machine.Files) (publications : List Publication) (name : List ℕ) (stored : StoredUnit) → ValuesStand name_of records stored.unit.records stored.values → RecordsStand name_of records (units_after publications)
      → RecordsStand name_of records (units_after (publications ++ Put name stored ∷ []))
  stand_more records publications name stored values stand =
      subst (RecordsStand name_of records) (sym (one_publication publications (Put name stored)))
      (all_inserted (λ entry. ValuesStand name_of records entry.1.unit.records entry.1.values) name stored (units_after publications) (λ _. values) stand)

  stand_less : (records : machine.Files) (publications : List Publication) (name : List ℕ) → RecordsStand name_of records (units_after publications) → RecordsStand name_of records (units_after (publications ++ Gone name ∷ []))
  stand_less records publications name stand =
      subst (RecordsStand name_of records) (sym (one_publication publications (Gone name)))
      (all_removed (λ entry. ValuesStand name_of records entry.1.unit.records entry.1.values) (is_at (text_cmp name)) (units_after publications) stand)

  alone_less : (publications : List Publication) (moves : List Move) (name : List ℕ) → HaveOneValue moves (units_after publications) → HaveOneValue moves (units_after (publications ++ Gone name ∷ []))
  alone_less publications moves name alone n needed =
      alone n (needed_before n (is_at (text_cmp name)) (units_after publications) (ap (units_need n) (sym (one_publication publications (Gone name))) ∙ needed))

  last_one : (publications : List Publication) (p : Publication) → units_at (publications ++ p ∷ []) (length publications + 1) ≡ units_after (publications ++ p ∷ [])
  last_one publications p = ap (units_at (publications ++ p ∷ [])) (sym (length-append publications (p ∷ [])))

  pub unit_renamed : (publications : List Publication) (moves : List Move) (pending : Option ℕ) (name bytes : List ℕ) (stamp : ℕ) (stored : StoredUnit)
      → IsSettledIn Units moves → IsSettledIn Records moves → UnitSpelling bytes stored.unit → name ≡ name_of stored.unit.output
      → ValuesStand name_of (entries (standing moves Records)) stored.unit.records stored.values
      → IsOnDisk name_of pending publications moves → IsOnDisk name_of (Some (length publications)) (publications ++ Put name stored ∷ []) (moves ++ Renamed Units name bytes stamp ∷ [])
  unit_renamed publications moves pending name bytes stamp stored units records spelled named values disk =
      let p = Put name stored in
      let now = moves ++ Renamed Units name bytes stamp ∷ [] in
      let waits : waiting now ≡ suc (waiting moves) = fold-append waiting_step 0 moves (Renamed Units name bytes stamp ∷ []) in
      let own : unit_named name (units_after (publications ++ p ∷ [])) ≡ Some stored = ap (unit_named name) (sym (last_one publications p)) ∙ laws.put publications name stored in
      unit_changed publications moves now p name (Some bytes) (laws.rename moves Units name bytes stamp) (λ a n other. laws.other_renamed moves Units name bytes stamp a n other) (omega (arith, waits))
      (λ contents image. (laws.one_renamed moves Units name bytes stamp contents units).0 image)
      (subst (IsSpelledUnder name_of name (Some bytes)) (sym own) (spelled, named))
      (λ other apart. ap (unit_named other) (sym (last_one publications p)) ∙ laws.others publications p other apart)
      (record { stand = stand_more (entries (standing moves Records)) publications name stored values disk.image_records.stand; alone = λ n _. records n }) pending disk

  is_there : (moves : List Move) (name : List ℕ) (value : Value) (stored : StoredUnit) → bytes_at (area_after moves Units) name ≡ value → IsSpelledUnder name_of name value (Some stored) → is_some (get (area_after moves Units) name) ≡ true
  is_there moves name None stored is spelled = absurd spelled
  is_there moves name (Some bytes) stored is spelled = same_some (get (area_after moves Units) name) bytes is
    where
      same_some : (o : Option File) (b : List ℕ) → option_map (λ (f : File). f.bytes) o ≡ Some b → is_some o ≡ true
      same_some None b e = absurd (cc)
      same_some (Some f) b e = refl

  pub stands_there : (publications : List Publication) (moves : List Move) (pending : Option ℕ) (name : List ℕ) (stored : StoredUnit) → unit_named name (units_after publications) ≡ Some stored
      → IsOnDisk name_of pending publications moves → moves_removed Units name moves ≡ moves ++ Removed Units name ∷ []
  stands_there publications moves pending name stored is disk =
      let spelled = subst (λ o. IsSpelledUnder name_of name (get (standing moves Units) name) o) is (disk.unit_files name) in
      ap (λ b. cond b (moves ++ Removed Units name ∷ []) moves) (is_there moves name (get (standing moves Units) name) stored (sym (laws.contents (area_after moves Units) name)) spelled)

  pub unit_removed : (publications : List Publication) (moves : List Move) (pending : Option ℕ) (name : List ℕ) (stored : StoredUnit)
      → IsSettledIn Units moves → unit_named name (units_after publications) ≡ Some stored
      → IsOnDisk name_of pending publications moves → IsOnDisk name_of (Some (length publications)) (publications ++ Gone name ∷ []) (moves ++ Removed Units name ∷ [])
  unit_removed publications moves pending name stored units is disk =
      let p = Gone name in
      let now = moves ++ Removed Units name ∷ [] in
      let made = stands_there publications moves pending name stored is disk in
      let waits : waiting now ≡ suc (waiting moves) = fold-append waiting_step 0 moves (Removed Units name ∷ []) in
      let own : unit_named name (units_after (publications ++ p ∷ [])) ≡ None = ap (unit_named name) (sym (last_one publications p)) ∙ laws.gone publications name in
      unit_changed publications moves now p name None
      (subst (LeavesAt Units name None moves) made (laws.removal moves Units name))
      (λ a n other. ap (λ ms. values_of ms a n) (sym made) ∙ laws.other_removed moves Units name a n other) (omega (arith, waits))
      (λ contents image. subst (λ ms. (contents ≡ standing moves Units) ⊎ (contents ≡ standing ms Units)) made ((laws.one_removed moves Units name contents units).0 (subst (λ ms. IsImageIn Units ms contents) (sym made) image)))
      (subst (IsSpelledUnder name_of name None) (sym own) tt)
      (λ other apart. ap (unit_named other) (sym (last_one publications p)) ∙ laws.others publications p other apart)
      (record { stand = stand_less (entries (standing moves Records)) publications name disk.image_records.stand; alone = alone_less publications moves name disk.image_records.alone }) pending disk
