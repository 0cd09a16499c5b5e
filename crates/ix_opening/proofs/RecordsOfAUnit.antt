-- The records of a unit, by what is known of them.
use Rattle.std.proofs.Common.{◌≡◌, ◌≢◌, ◌⊎◌, inl, inr, ℕ, zero, suc, ◌+◌, ◌<◌, ◌≤◌, List, [], ◌∷◌, ◌++◌, take, drop, length, get_or, Bool, true, false, cond, refl, sym, ap, subst, ◌∙◌, Some, None, Result, Ok, Err, append_assoc, arith}
use Rattle.std.specs.List.{AllByRecursion}
use Rattle.std.specs.Map.{lookup}
use Rattle.std.specs.BTreeMap.{is_at}
use Rattle.std.specs.Str.{bytes_eq}
use Rattle.std.proofs.lemmas.Cmp.{nat_list_eq_equiv}
use Rattle.std.proofs.lemmas.List.{take_more, take-append-drop}
use Rattle.ix_types.specs.Row.{text_cmp}
use Rattle.ix_wire.specs.Input.{start}
use Rattle.ix_record.specs.declared.fault.RecordError.{RecordError}
use Rattle.ix_record.specs.declared.fault.RecordError.TheVariants.{Memory}
use Rattle.ix_record.specs.declared.value.RecordValue.{RecordValue}
use Rattle.ix_record.specs.Reading.{Read, record_at, record_fault, fault_of}
use Rattle.ix_record.proofs.Door.{spelled_is_read}
use Rattle.ix_unit.specs.declared.value.RecordDep.{RecordDep}
use Rattle.ix_machine.specs.declared.opened.UnitFault.{UnitFault}
use Rattle.ix_machine.specs.declared.opened.UnitFault.TheVariants.{RecordMissing, RecordDamaged}
use Rattle.ix_machine.specs.Opening.{value_or_damaged, value_in, first_and_rest, values_in, whole_value}
use Rattle.ix_machine.specs.Sound.{StandsAs, ValuesStand}
use Rattle.ix_machine.specs.State.{Files}
use Rattle.ix_machine.specs.Step.{read_value, value_of}
use Rattle.ix_opening.specs.declared.records.RecordState.{RecordState}
use Rattle.ix_opening.specs.declared.records.RecordState.TheVariants.{Whole, Missing, Damaged}
use Rattle.ix_opening.specs.Known.{Agrees, Keeps, state_of}

-- ---- one record file

-- bytes with a fault give no value
pub no_value : (bytes : List ℕ) (error : RecordError) → record_fault bytes ≡ Some error → value_of bytes ≡ None
unfolding record_fault
no_value bytes error fault = by_read (record_at (start bytes)) fault
  where
    by_read : (r : Read RecordValue) → fault_of r ≡ Some error → read_value r ≡ None
    by_read (Ok v) is = absurd (cc)
    by_read (Err e) is = refl

pub not_whole : (name_of : List ℕ → List ℕ) (name bytes : List ℕ) → value_of bytes ≡ None → whole_value name_of name bytes ≡ None
not_whole name_of name bytes none =
    elim (bytes_eq name (name_of bytes)) as (λ b. cond b (value_of bytes) None ≡ None) [
      | true ↦ none
      | false ↦ refl
    ]

pub other_name : (name_of : List ℕ → List ℕ) (name bytes : List ℕ) → bytes_eq name (name_of bytes) ≡ false → whole_value name_of name bytes ≡ None
other_name name_of name bytes other = ap (λ b. cond b (value_of bytes) None) other

-- ---- those of a unit

-- the record is known to be whole
abbrev pub IsKnownWhole : List (List ℕ × RecordState) → RecordDep → Type 0
IsKnownWhole known dep = state_of known dep.name ≡ Some Whole

pub still_whole : (before now : List (List ℕ × RecordState)) → Keeps before now → (deps : List RecordDep) → AllByRecursion (IsKnownWhole before) deps → AllByRecursion (IsKnownWhole now) deps
still_whole before now keeps [] all = tt
still_whole before now keeps (dep ∷ deps) all = (keeps dep.name Whole all.0, still_whole before now keeps deps all.1)

pub all_push : {A : Type 0} (P : A → Type 0) (xs : List A) (x : A) → AllByRecursion P xs → P x → AllByRecursion P (xs ++ x ∷ [])
all_push P [] x all is = (is, tt)
all_push P (y ∷ xs) x all is = (all.0, all_push P xs x all.1 is)

one_more : {A : Type 0} (xs : List A) (i : ℕ) (x : A) → i < length xs → x ≡ get_or xs i x → take (i + 1) xs ≡ take i xs ++ x ∷ []
one_more xs i x small is = take_more xs i x small ∙ ap (λ y. take i xs ++ y ∷ []) (sym is)

-- one whole record more
pub whole_more : (known : List (List ℕ × RecordState)) (deps : List RecordDep) (i : ℕ) (dep : RecordDep) → i < length deps → dep ≡ get_or deps i dep
    → AllByRecursion (IsKnownWhole known) (take i deps) → state_of known dep.name ≡ Some Whole → AllByRecursion (IsKnownWhole known) (take (i + 1) deps)
whole_more known deps i dep small is all whole = subst (AllByRecursion (IsKnownWhole known)) (sym (one_more deps i dep small is)) (all_push (IsKnownWhole known) (take i deps) dep all whole)

module _ (name_of : List ℕ → List ℕ) (known : List (List ℕ × RecordState)) (files : Files) (agrees : Agrees name_of known files) where
  stands : (name : List ℕ) → state_of known name ≡ Some Whole → (value : RecordValue) × StandsAs name_of files name value
  stands name is = let h = agrees name Whole is in (h.value, record { bytes = h.bytes; stands = h.there; named = h.named; spelled = h.spelled })

  pub all_stand : (deps : List RecordDep) → AllByRecursion (IsKnownWhole known) deps → (values : List RecordValue) × ValuesStand name_of files deps values
  all_stand [] all = ([], tt)
  all_stand (dep ∷ deps) all =
      let first = stands dep.name all.0 in
      let others = all_stand deps all.1 in
      (first.0 ∷ others.0, (first.1, others.1))

  whole_in : (name : List ℕ) → state_of known name ≡ Some Whole → (value : RecordValue) × (value_in name_of name (lookup (is_at (text_cmp name)) files) ≡ Ok value)
  whole_in name is =
      let h = agrees name Whole is in
      let named : bytes_eq name (name_of h.bytes) ≡ true = ap (bytes_eq name) (sym h.named) ∙ nat_list_eq_equiv.refl name in
      let read : value_of h.bytes ≡ Some h.value = ap read_value (spelled_is_read h.bytes h.value h.spelled).1 in (
        h.value,
        ap (value_in name_of name) h.there
            ∙ (ap (λ (b : Bool). value_or_damaged name (cond b (value_of h.bytes) None)) named
            ∙ ap (value_or_damaged name) read),
      )

  pub missing_in : (name : List ℕ) → state_of known name ≡ Some Missing → value_in name_of name (lookup (is_at (text_cmp name)) files) ≡ Err (RecordMissing name)
  missing_in name is = ap (value_in name_of name) (agrees name Missing is)

  pub damaged_in : (name : List ℕ) → state_of known name ≡ Some Damaged → value_in name_of name (lookup (is_at (text_cmp name)) files) ≡ Err (RecordDamaged name)
  damaged_in name is = let h = agrees name Damaged is in ap (value_in name_of name) h.there ∙ ap (value_or_damaged name) h.none

  first_fault : (front : List RecordDep) (bad : RecordDep) (behind : List RecordDep) (fault : UnitFault) → AllByRecursion (IsKnownWhole known) front
      → value_in name_of bad.name (lookup (is_at (text_cmp bad.name)) files) ≡ Err fault → values_in name_of files (front ++ bad ∷ behind) ≡ Err fault
  first_fault [] bad behind fault all is = ap (λ (r : Result RecordValue UnitFault). first_and_rest r (values_in name_of files behind)) is
  first_fault (dep ∷ front) bad behind fault all is =
      let first = whole_in dep.name all.0 in
      ap (λ (r : Result RecordValue UnitFault). first_and_rest r (values_in name_of files (front ++ bad ∷ behind))) first.1
      ∙ ap (first_and_rest (Ok first.0)) (first_fault front bad behind fault all.1 is)

  -- the record at a place is bad, and those before it stand whole
  pub fault_at : (deps : List RecordDep) (i : ℕ) (bad : RecordDep) (fault : UnitFault) → i < length deps → bad ≡ get_or deps i bad → AllByRecursion (IsKnownWhole known) (take i deps)
      → value_in name_of bad.name (lookup (is_at (text_cmp bad.name)) files) ≡ Err fault → values_in name_of files deps ≡ Err fault
  fault_at deps i bad fault small at all is =
      let parts : (take i deps ++ bad ∷ []) ++ drop (i + 1) deps ≡ deps = ap (λ (xs : List RecordDep). xs ++ drop (i + 1) deps) (sym (one_more deps i bad small at)) ∙ take-append-drop (i + 1) deps in
      ap (values_in name_of files) (sym (sym (append_assoc (take i deps) (bad ∷ []) (drop (i + 1) deps)) ∙ parts)) ∙ first_fault (take i deps) bad (drop (i + 1) deps) fault all is

pub take_full : {A : Type 0} (xs : List A) (n : ℕ) → length xs ≤ n → take n xs ≡ xs
take_full [] zero h = refl
take_full [] (suc n) h = refl
take_full (x ∷ xs) zero h = absurd (omega arith)
take_full (x ∷ xs) (suc n) h = ap (λ rest. x ∷ rest) (take_full xs n (omega arith))

pub no_value_of : (bytes : List ℕ) (error : RecordError) → error ≢ Memory → (error ≡ Memory) ⊎ (record_fault bytes ≡ Some error) → value_of bytes ≡ None
no_value_of bytes error other (inl is) = absurd (other is)
no_value_of bytes error other (inr is) = no_value bytes error is
