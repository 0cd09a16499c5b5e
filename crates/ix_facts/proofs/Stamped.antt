-- Stamps that are known are those with which moves put the spellings of units.
use Rattle.std.proofs.Common.{◌≡◌, ◌⊎◌, inl, inr, ℕ, true, false, cond, List, [], ◌∷◌, ◌++◌, take, drop, fold, Option, Some, None, option_map, is_some, refl, sym, ap, subst, ◌∙◌, Contains}
use Rattle.std.specs.Cmp.Lexicographic.{nat_list_cmp_total, same_text, texts_ties}
use Rattle.std.specs.FinMap.{empty, get, get-empty, get-insert, get-remove, insert, remove}
use Rattle.std.specs.Ordering.{eq_by_cmp}
use Rattle.std.proofs.lemmas.List.{take-append-drop}
use Rattle.std.proofs.lemmas.List.Elements.{Contains-append_left}
use Rattle.std.proofs.lemmas.Option.{same_Some}
use Rattle.ix_types.specs.Row.{text_cmp}
use Rattle.ix_dir.specs.declared.area.Area.TheVariants.{Units, Records}
use Rattle.ix_dir.specs.declared.moves.Move.{Move}
use Rattle.ix_dir.specs.declared.moves.Move.TheVariants.{Renamed, Removed, Synced, Placed}
use Rattle.ix_dir.specs.Files.{File, Files, bytes_at, file}
use Rattle.ix_dir.specs.Moves.{area_after, area_step}
use Rattle.ix_unit.specs.Spelling.{UnitSpelling}
use Rattle.ix_cabinet.specs.Scan.{StampMap}
use Rattle.ix_model.specs.declared.publication.StoredUnit.{StoredUnit}
use Rattle.ix_model.specs.Units as model
use Rattle.ix_model.specs.Units.{unit_named, units_at}
use Rattle.ix_machine.specs.State.{Import, State}
use Rattle.ix_stops.specs.UnitFiles.{IsSpelledUnder}
use Rattle.ix_changes.specs.Stamps.{AreStampsOf}
use Rattle.ix_library.specs.declared.known.KnownStamps.{KnownStamps}
use Rattle.ix_library.specs.KnownUnits.{AreStampsOfImport, KnowsUnits}
use Rattle.ix_facts.specs.Given.{DiskLaws}
use Rattle.ix_facts.proofs.Disk.{IsUnitOf, unit_there}
use Rattle.ix_facts.proofs.Entries.{at_front, behind}

-- ---- which move put a file

-- one of the moves put the file at the name
abbrev WasPut : List Move → List ℕ → List ℕ → ℕ → Type 0
WasPut moves name bytes stamp = Contains moves (Renamed Units name bytes stamp) ⊎ Contains moves (Placed Units name bytes stamp)

module _ (q : List ℕ) (f : File) where
  abbrev Came : Files → List Move → Type 0
  Came files moves = (get files q ≡ Some f) ⊎ WasPut moves q f.bytes f.stamp

  further : (m : Move) (moves : List Move) → WasPut moves q f.bytes f.stamp → WasPut (m ∷ moves) q f.bytes f.stamp
  further m moves (inl put) = inl (behind m moves (Renamed Units q f.bytes f.stamp) put)
  further m moves (inr put) = inr (behind m moves (Placed Units q f.bytes f.stamp) put)

  here : (n : List ℕ) → eq_by_cmp text_cmp q n ≡ true → q ≡ n
  here n tied = same_text q n (sym (texts_ties q n ∙ tied))

  inserted : (files : Files) (n bytes : List ℕ) (stamp : ℕ) → get (insert files n (file bytes stamp)) q ≡ Some f → (get files q ≡ Some f) ⊎ ((q ≡ n) × (bytes ≡ f.bytes) × (stamp ≡ f.stamp))
  inserted files n bytes stamp is =
      (elim (eq_by_cmp text_cmp q n) as (λ b. eq_by_cmp text_cmp q n ≡ b → cond b (Some (file bytes stamp)) (get files q) ≡ Some f → (get files q ≡ Some f) ⊎ ((q ≡ n) × (bytes ≡ f.bytes) × (stamp ≡ f.stamp))) [
        | true ↦ λ tied h. let same : file bytes stamp ≡ f = same_Some (file bytes stamp) f h in inr (here n tied, ap (λ (g : File). g.bytes) same, ap (λ (g : File). g.stamp) same)
        | false ↦ λ tied h. inl h
      ]) refl (sym (get-insert nat_list_cmp_total files n (file bytes stamp) q) ∙ is)

  removed : (files : Files) (n : List ℕ) → get (remove files n) q ≡ Some f → get files q ≡ Some f
  removed files n is =
      (elim (eq_by_cmp text_cmp q n) as (λ b. cond b None (get files q) ≡ Some f → get files q ≡ Some f) [
        | true ↦ λ h. absurd (cc)
        | false ↦ λ h. h
      ]) (sym (get-remove nat_list_cmp_total files n q) ∙ is)

  first : (files : Files) (m : Move) (moves : List Move) → get (area_step Units files m) q ≡ Some f → Came files (m ∷ moves)
  first files (Renamed Units n bytes stamp) moves is = elim (inserted files n bytes stamp is) as (λ _. Came files (Renamed Units n bytes stamp ∷ moves)) [
    | inl old ↦ inl old
    | inr put ↦ inr (inl (subst (λ (x : Move). Contains (Renamed Units n bytes stamp ∷ moves) x) (λ i. Renamed Units (sym put.0 i) (put.1 i) (put.2 i)) (at_front (Renamed Units n bytes stamp) moves)))
  ]
  first files (Renamed Records n bytes stamp) moves is = inl is
  first files (Removed Units n) moves is = inl (removed files n is)
  first files (Removed Records n) moves is = inl is
  first files (Synced area) moves is = inl is
  first files (Placed Units n bytes stamp) moves is = elim (inserted files n bytes stamp is) as (λ _. Came files (Placed Units n bytes stamp ∷ moves)) [
    | inl old ↦ inl old
    | inr put ↦ inr (inr (subst (λ (x : Move). Contains (Placed Units n bytes stamp ∷ moves) x) (λ i. Placed Units (sym put.0 i) (put.1 i) (put.2 i)) (at_front (Placed Units n bytes stamp) moves)))
  ]
  first files (Placed Records n bytes stamp) moves is = inl is

  came : (files : Files) (moves : List Move) → get (fold (area_step Units) files moves) q ≡ Some f → Came files moves
  came files [] is = inl is
  came files (m ∷ moves) is = elim (came (area_step Units files m) moves is) as (λ _. Came files (m ∷ moves)) [
    | inl old ↦ first files m moves old
    | inr put ↦ inr (further m moves put)
  ]

  pub was_put : (moves : List Move) → get (area_after moves Units) q ≡ Some f → WasPut moves q f.bytes f.stamp
  was_put moves is = elim (came empty moves is) as (λ _. WasPut moves q f.bytes f.stamp) [
    | inl old ↦ absurd (let none = get-empty {X = File} text_cmp q in cc)
    | inr put ↦ put
  ]

  pub put_later : (moves : List Move) (n : ℕ) → WasPut (take n moves) q f.bytes f.stamp → WasPut moves q f.bytes f.stamp
  put_later moves n put = subst (λ (ms : List Move). WasPut ms q f.bytes f.stamp) (take-append-drop n moves) (longer put)
    where
      longer : WasPut (take n moves) q f.bytes f.stamp → WasPut (take n moves ++ drop n moves) q f.bytes f.stamp
      longer (inl there) = inl (Contains-append_left (take n moves) (drop n moves) (Renamed Units q f.bytes f.stamp) there)
      longer (inr there) = inr (Contains-append_left (take n moves) (drop n moves) (Placed Units q f.bytes f.stamp) there)

-- ---- stamps of some units

-- what the stamps say of the units
abbrev pub KnowsFiles : model.Units → StampMap → List Move → Type 0
KnowsFiles units stamps moves =
    ((name : List ℕ) (stored : StoredUnit) → unit_named name units ≡ Some stored → (stamp : ℕ) × (get stamps name ≡ Some stamp))
    × ((name : List ℕ) (stamp : ℕ) → get stamps name ≡ Some stamp → (stored : StoredUnit) × (bytes : List ℕ) × (unit_named name units ≡ Some stored) × UnitSpelling bytes stored.unit
    × (Contains moves (Renamed Units name bytes stamp) ⊎ Contains moves (Placed Units name bytes stamp)))

module _ (laws : DiskLaws) (name_of : List ℕ → List ℕ) (units : model.Units) (stamps : StampMap) (moves : List Move) (known : AreStampsOf name_of units stamps moves) where
  files : Files
  files = area_after (take known.moment moves) Units

  stamp_is : (name : List ℕ) → get stamps name ≡ option_map (λ (g : File). g.stamp) (get files name)
  unfolding files
  stamp_is name = ap (λ (m : StampMap). get m name) known.stamped ∙ laws.stamps files name

  spelled : (name : List ℕ) → IsSpelledUnder name_of name (bytes_at files name) (unit_named name units)
  unfolding files
  spelled name = subst (λ v. IsSpelledUnder name_of name v (unit_named name units)) (laws.contents files name) (known.spelled name)

  stamped : (name : List ℕ) (stored : StoredUnit) (o : Option File) → get files name ≡ o → IsSpelledUnder name_of name (option_map (λ (g : File). g.bytes) o) (unit_named name units) → unit_named name units ≡ Some stored
      → (stamp : ℕ) × (get stamps name ≡ Some stamp)
  stamped name stored None is sp found = absurd (subst (λ (u : Option StoredUnit). IsSpelledUnder name_of name None u) found sp)
  stamped name stored (Some g) is sp found = (g.stamp, stamp_is name ∙ ap (option_map (λ (h : File). h.stamp)) is)

  origin : (name : List ℕ) (stamp : ℕ) (o : Option File) → get files name ≡ o → IsSpelledUnder name_of name (option_map (λ (g : File). g.bytes) o) (unit_named name units) → option_map (λ (g : File). g.stamp) o ≡ Some stamp
      → (stored : StoredUnit) × (bytes : List ℕ) × (unit_named name units ≡ Some stored) × UnitSpelling bytes stored.unit × WasPut moves name bytes stamp
  unfolding files
  origin name stamp None is sp at = absurd (cc)
  origin name stamp (Some g) is sp at =
      let unit : IsUnitOf laws name_of name g.bytes (unit_named name units) = unit_there laws name_of name g.bytes (Some g.bytes) (unit_named name units) sp refl in
      let put = put_later name g moves known.moment (was_put name g (take known.moment moves) is) in
      (unit.0, g.bytes, unit.1, unit.3, subst (λ n. WasPut moves name g.bytes n) (same_Some g.stamp stamp at) put)

  pub knows_files : KnowsFiles units stamps moves
  knows_files = (
    λ name stored found. stamped name stored (get files name) refl (spelled name) found,
    λ name stamp at. origin name stamp (get files name) refl (spelled name) (sym (stamp_is name) ∙ at),
  )

-- ---- of a store

module _ (laws : DiskLaws) (name_of : List ℕ → List ℕ) (s : State) (known : KnownStamps) (moves : List Move) (knows : KnowsUnits name_of s known moves) where
  current_files : (mark : ℕ) (stamps : StampMap) → mark ≡ s.current → stamps ≡ known.current → KnowsFiles (units_at s.publications mark) stamps moves
  current_files mark stamps at are =
      subst (λ (m : ℕ). KnowsFiles (units_at s.publications m) stamps moves) (sym at)
      (subst (λ (t : StampMap). KnowsFiles (units_at s.publications s.current) t moves) (sym are) (knows_files laws name_of (units_at s.publications s.current) known.current moves knows.current))

  imported_files : (mark : ℕ) (stamps : StampMap) (open_import : Import) → s.import ≡ Some open_import → mark ≡ open_import.mark → known.import ≡ Some stamps → KnowsFiles (units_at s.publications mark) stamps moves
  imported_files mark stamps open_import is at are =
      let there : AreStampsOfImport name_of s (Some open_import) (Some stamps) moves =
      subst (λ (o : Option StampMap). AreStampsOfImport name_of s (Some open_import) o moves) are (subst (λ (i : Option Import). AreStampsOfImport name_of s i known.import moves) is knows.import) in
      subst (λ (m : ℕ). KnowsFiles (units_at s.publications m) stamps moves) (sym at) (knows_files laws name_of (units_at s.publications open_import.mark) stamps moves there)

  pub known_files : (mark : ℕ) (stamps : StampMap) → ((mark ≡ s.current) × (stamps ≡ known.current)) ⊎ ((open_import : Import) × (s.import ≡ Some open_import) × (mark ≡ open_import.mark) × (known.import ≡ Some stamps))
      → KnowsFiles (units_at s.publications mark) stamps moves
  known_files mark stamps (inl one) = current_files mark stamps one.0 one.1
  known_files mark stamps (inr other) = imported_files mark stamps other.0 other.1 other.2 other.3

  alike : (i : Option Import) (o : Option StampMap) → AreStampsOfImport name_of s i o moves → is_some o ≡ is_some i
  alike None None are = refl
  alike None (Some stamps) are = absurd are
  alike (Some open_import) None are = absurd are
  alike (Some open_import) (Some stamps) are = refl

  pub import_known : is_some known.import ≡ is_some s.import
  import_known = alike s.import known.import knows.import

-- the stamps at a mark are of one moment
pub stamps_at : (name_of : List ℕ → List ℕ) (s : State) (known : KnownStamps) (moves : List Move) → KnowsUnits name_of s known moves → (mark : ℕ) (stamps : StampMap)
    → ((mark ≡ s.current) × (stamps ≡ known.current)) ⊎ ((open_import : Import) × (s.import ≡ Some open_import) × (mark ≡ open_import.mark) × (known.import ≡ Some stamps)) → AreStampsOf name_of (units_at s.publications mark) stamps moves
stamps_at name_of s known moves knows mark stamps (inl one) =
    subst (λ (m : ℕ). AreStampsOf name_of (units_at s.publications m) stamps moves) (sym one.0) (subst (λ (t : StampMap). AreStampsOf name_of (units_at s.publications s.current) t moves) (sym one.1) knows.current)
stamps_at name_of s known moves knows mark stamps (inr other) =
    let there : AreStampsOfImport name_of s (Some other.0) (Some stamps) moves =
    subst (λ (o : Option StampMap). AreStampsOfImport name_of s (Some other.0) o moves) other.3 (subst (λ (i : Option Import). AreStampsOfImport name_of s i known.import moves) other.1 knows.import) in
    subst (λ (m : ℕ). AreStampsOf name_of (units_at s.publications m) stamps moves) (sym other.2) there
