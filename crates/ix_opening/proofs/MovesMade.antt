-- The moves that an opening made are the first of those that it makes.
use Rattle.std.proofs.Common.{◌≡◌, ◌⊎◌, inl, inr, ℕ, zero, suc, Bool, true, false, cond, List, [], ◌∷◌, ◌++◌, length, map, take, drop, refl, sym, ap, subst, ◌∙◌, Option, Some, None, option_map, is_some, IfSome, All, append_assoc, Result, Ok, Err, IfOk, OnOk}
use Rattle.std.specs.declared.cmp.Ordering.TheVariants.{Less}
use Rattle.std.specs.List.{AllByRecursion}
use Rattle.std.specs.List.Sorted.{IsStrictlySortedBy}
use Rattle.std.specs.Ordering.{is_eq, ordering_reverse, eq_by_cmp}
use Rattle.std.specs.Cmp.Lexicographic.{nat_list_cmp_total}
use Rattle.std.specs.FinMap.{entries, entries_sorted, get, get-remove}
use Rattle.std.proofs.lemmas.List.{map-append, take-append-drop}
use Rattle.std.proofs.lemmas.Option.{same_Some}
use Rattle.ix_types.specs.Row.{text_cmp}
use Rattle.ix_dir.specs.declared.area.Area.{Area}
use Rattle.ix_dir.specs.declared.area.Area.TheVariants.{Units, Records}
use Rattle.ix_dir.specs.declared.moves.Move.{Move}
use Rattle.ix_dir.specs.declared.moves.Move.TheVariants.{Removed, Synced}
use Rattle.ix_dir.specs.Calls.{with_move, moves_removed}
use Rattle.ix_dir.specs.Crash.{standing}
use Rattle.ix_dir.specs.Files as dir
use Rattle.ix_dir.specs.Files.{File, bytes_at, contents_of}
use Rattle.ix_dir.specs.Moves.{area_after}
use Rattle.ix_dir.specs.WhatAChangeLeaves.{AddsTo, IfTold}
use Rattle.ix_dir.proofs.Door.{holds}
use Rattle.ix_unit.specs.declared.batch.UnitPut.{UnitPut}
use Rattle.ix_cabinet.specs.Scan.{IsUnitAt}
use Rattle.ix_machine.specs.declared.opened.Refused.{Refused}
use Rattle.ix_machine.specs.Opening.{judged, refusal, opening}
use Rattle.ix_opening.specs.declared.looking.Found.{Found}
use Rattle.ix_opening.specs.AfterOpening.{names_of, removals, opening_moves, synced_both, without, cleaned, IsCleanedInPart, IsFront, MakesFront}
use Rattle.ix_opening.specs.Found.{opening_of, Tells, IsFound}
use Rattle.ix_opening.proofs.AllFound.{kept_rise, own_refusal}
use Rattle.ix_opening.proofs.FilesByName.{rising_keys}
use Rattle.ix_opening.proofs.MovesOfOpening.{DirLaws, append_nothing, IsRefused, refused_names, all_refused}

-- ---- removals, one by one

front_length : {A : Type 0} (xs ys : List A) → take (length xs) (xs ++ ys) ≡ xs
front_length [] [] = refl
front_length [] (y ∷ ys) = refl
front_length (x ∷ xs) ys = ap (λ rest. x ∷ rest) (front_length xs ys)

module _ (laws : DirLaws) where
  Stands : List Move → List ℕ → Type 0
  Stands moves name = is_some (get (area_after moves Units) name) ≡ true

  one_removed : (moves : List Move) (name : List ℕ) → Stands moves name → moves_removed Units name moves ≡ moves ++ Removed Units name ∷ []
  unfolding Stands
  one_removed moves name stands = ap (λ (b : Bool). cond b (moves ++ Removed Units name ∷ []) moves) stands

  still_there : (moves : List Move) (name q : List ℕ) → text_cmp name q ≡ Less → Stands moves q → Stands (moves ++ Removed Units name ∷ []) q
  unfolding Stands
  still_there moves name q less stands =
      let apart : eq_by_cmp text_cmp q name ≡ false = ap is_eq (nat_list_cmp_total.antisymm q name ∙ ap ordering_reverse less) in
      ap (λ (files : dir.Files). is_some (get files q)) (laws.area_one moves (Removed Units name) Units)
      ∙ (ap is_some (get-remove nat_list_cmp_total (area_after moves Units) name q)
      ∙ (ap (λ (b : Bool). is_some (cond b None (get (area_after moves Units) q))) apart ∙ stands))

  others_there : (moves : List Move) (name : List ℕ) (names : List (List ℕ)) → AllByRecursion (λ q. text_cmp name q ≡ Less) names → AllByRecursion (Stands moves) names → AllByRecursion (Stands (moves ++ Removed Units name ∷ [])) names
  others_there moves name [] less all = tt
  others_there moves name (q ∷ names) less all = (still_there moves name q less.0 all.0, others_there moves name names less.1 all.1)

  without_is : (names : List (List ℕ)) (moves : List Move) → IsStrictlySortedBy text_cmp names → AllByRecursion (Stands moves) names → without names moves ≡ moves ++ map (Removed Units) names
  unfolding IsStrictlySortedBy
  without_is [] moves rise all = sym (append_nothing moves)
  without_is (name ∷ names) moves rise all =
      ap (without names) (one_removed moves name all.0)
      ∙ (without_is names (moves ++ Removed Units name ∷ []) rise.1 (others_there moves name names rise.0 all.1)
      ∙ append_assoc moves (Removed Units name ∷ []) (map (Removed Units) names))

  cleaned_is : (names : List (List ℕ)) (moves : List Move) → IsStrictlySortedBy text_cmp names → AllByRecursion (Stands moves) names → cleaned names moves ≡ moves ++ removals names
  cleaned_is [] moves rise all = sym (append_nothing moves)
  cleaned_is (name ∷ names) moves rise all =
      ap (λ (ms : List Move). ms ++ Synced Units ∷ []) (without_is (name ∷ names) moves rise all) ∙ append_assoc moves (map (Removed Units) (name ∷ names)) (Synced Units ∷ [])

  -- ---- what opening refuses

  module _ (name_of : List ℕ → List ℕ) (before : List Move) where
    abbrev names : List (List ℕ)
    names = refused_names laws name_of before

    names_rise : IsStrictlySortedBy text_cmp names
    names_rise =
        kept_rise (λ r. r.name) (λ file. refusal file.0 (judged name_of (entries (standing before Records)) file.0 file.1))
        (λ file x e. own_refusal file.0 (judged name_of (entries (standing before Records)) file.0 file.1) x e) (entries (standing before Units))
        (rising_keys (entries (standing before Units)) (holds _ (entries_sorted (standing before Units))))

    is_there : (o : Option File) (bytes : List ℕ) → option_map (λ (f : File). f.bytes) o ≡ Some bytes → is_some o ≡ true
    is_there None bytes e = cc
    is_there (Some f) bytes e = refl

    area_same : (area : Area) → area_after (synced_both before) area ≡ area_after before area
    area_same area = laws.area_one (before ++ Synced Records ∷ []) (Synced Units) area ∙ laws.area_one before (Synced Records) area

    stand_all : (qs : List (List ℕ)) → AllByRecursion (IsRefused laws name_of before) qs → AllByRecursion (Stands (synced_both before)) qs
    unfolding Stands
    stand_all [] all = tt
    stand_all (q ∷ qs) all = (
      ap (λ (files : dir.Files). is_some (get files q)) (area_same Units) ∙ is_there (get (area_after before Units) q) all.0.bytes all.0.stands,
      stand_all qs all.1,
    )

    same_image : opening_of name_of (standing (synced_both before)) ≡ opening_of name_of (standing before)
    same_image =
        ap (λ (files : dir.Files). opening name_of (entries (contents_of files)) (entries (standing (synced_both before) Records))) (area_same Units)
        ∙ ap (λ (files : dir.Files). opening name_of (entries (standing before Units)) (entries (contents_of files))) (area_same Records)

    ends : (more : List Move) → synced_both before ++ more ≡ before ++ Synced Records ∷ Synced Units ∷ more
    ends more = append_assoc (before ++ Synced Records ∷ []) (Synced Units ∷ []) more ∙ append_assoc before (Synced Records ∷ []) (Synced Units ∷ more)

    all_made : cleaned names (synced_both before) ≡ before ++ opening_moves name_of before
    all_made = cleaned_is names (synced_both before) names_rise (stand_all names (all_refused laws name_of before)) ∙ ends (removals names)

    front_rise : (qs : List (List ℕ)) (n : ℕ) → IsStrictlySortedBy text_cmp qs → IsStrictlySortedBy text_cmp (take n qs)
    unfolding IsStrictlySortedBy
    front_rise [] zero rise = tt
    front_rise [] (suc n) rise = tt
    front_rise (q ∷ qs) zero rise = tt
    front_rise (q ∷ qs) (suc n) rise = (front_all qs n rise.0, front_rise qs n rise.1)
      where
        front_all : (xs : List (List ℕ)) (k : ℕ) → AllByRecursion (λ y. text_cmp q y ≡ Less) xs → AllByRecursion (λ y. text_cmp q y ≡ Less) (take k xs)
        front_all [] zero all = tt
        front_all [] (suc k) all = tt
        front_all (x ∷ xs) zero all = tt
        front_all (x ∷ xs) (suc k) all = (all.0, front_all xs k all.1)

    front_refused : (qs : List (List ℕ)) (n : ℕ) → AllByRecursion (IsRefused laws name_of before) qs → AllByRecursion (IsRefused laws name_of before) (take n qs)
    front_refused [] zero all = tt
    front_refused [] (suc n) all = tt
    front_refused (q ∷ qs) zero all = tt
    front_refused (q ∷ qs) (suc n) all = (all.0, front_refused qs n all.1)

    -- the first of the removals
    parts_of : (qs : List (List ℕ)) (n : ℕ) → (k : ℕ) × (take k (removals qs) ≡ map (Removed Units) (take n qs))
    parts_of [] zero = (0, refl)
    parts_of [] (suc n) = (0, refl)
    parts_of (q ∷ qs) n =
        let front = map (Removed Units) (take n (q ∷ qs)) in
        let back = map (Removed Units) (drop n (q ∷ qs)) ++ Synced Units ∷ [] in
        let all : removals (q ∷ qs) ≡ front ++ back =
        ap (λ xs. map (Removed Units) xs ++ Synced Units ∷ []) (sym (take-append-drop n (q ∷ qs)))
        ∙ (ap (λ (ms : List Move). ms ++ Synced Units ∷ []) (map-append (Removed Units) (take n (q ∷ qs)) (drop n (q ∷ qs)))
        ∙ append_assoc front (map (Removed Units) (drop n (q ∷ qs))) (Synced Units ∷ [])) in
        (length front, ap (take (length front)) all ∙ front_length front back)

    some_made : (n : ℕ) (now : List Move) → now ≡ without (take n names) (synced_both before) → IsFront name_of before now
    some_made n now made =
        let part = parts_of names n in
        record {
          count = suc (suc part.0);
          made =
              made ∙ (without_is (take n names) (synced_both before) (front_rise names n names_rise) (stand_all (take n names) (front_refused names n (all_refused laws name_of before)))
              ∙ (ends (map (Removed Units) (take n names)) ∙ ap (λ (ms : List Move). before ++ Synced Records ∷ Synced Units ∷ ms) (sym part.1)));
        }

    take_names : (refused : List Refused) (n : ℕ) → names_of (take n refused) ≡ take n (names_of refused)
    take_names [] zero = refl
    take_names [] (suc n) = refl
    take_names (r ∷ refused) zero = refl
    take_names (r ∷ refused) (suc n) = ap (λ rest. r.name ∷ rest) (take_names refused n)

    same_refused : (found : Found) → Tells found (opening_of name_of (standing (synced_both before))) → found.refused ≡ (opening_of name_of (standing before)).refused
    same_refused found tells = tells.refused ∙ ap (λ o. o.refused) same_image

  -- ---- where the directory tells its moves

  module _ (name_of : List ℕ → List ℕ) where
    abbrev Mid : Option (List Move) → Option (List Move)
    Mid before = with_move (with_move before (Synced Records)) (Synced Units)

    pub made_none : (before now : Option (List Move)) → now ≡ before → MakesFront name_of before now
    made_none None None e = tt
    made_none None (Some n) e = cc
    made_none (Some b) None e = cc
    made_none (Some b) (Some n) e = record { count = 0; made = same_Some n b e ∙ sym (append_nothing b) }

    pub made_first : (before now : Option (List Move)) → (now ≡ before) ⊎ (now ≡ with_move before (Synced Records)) → MakesFront name_of before now
    made_first before now (inl e) = made_none before now e
    made_first None None (inr e) = tt
    made_first None (Some n) (inr e) = cc
    made_first (Some b) None (inr e) = cc
    made_first (Some b) (Some n) (inr e) = record { count = 1; made = same_Some n _ e }

    pub made_both : (before now : Option (List Move)) → now ≡ Mid before → MakesFront name_of before now
    made_both None None e = tt
    made_both None (Some n) e = cc
    made_both (Some b) None e = cc
    made_both (Some b) (Some n) e = record { count = 2; made = same_Some n _ e ∙ append_assoc b (Synced Records ∷ []) (Synced Units ∷ []) }

    pub made_part : (before mid now : Option (List Move)) (refused : List Refused) (found : Found) → mid ≡ Mid before → refused ≡ found.refused
        → IfSome mid (λ m. Tells found (opening_of name_of (standing m))) → IsCleanedInPart refused mid now → MakesFront name_of before now
    made_part None mid None refused found is same tells part = tt
    made_part None mid (Some n) refused found is same tells part =
        let no : Some n ≡ None = part.removed ∙ ap (option_map (without (names_of (take part.count refused)))) is in cc
    made_part (Some b) mid None refused found is same tells part =
        let no : None ≡ Some (without (names_of (take part.count refused)) (synced_both b)) = part.removed ∙ ap (option_map (without (names_of (take part.count refused)))) is in cc
    made_part (Some b) mid (Some n) refused found is same tells part =
        let said : Tells found (opening_of name_of (standing (synced_both b))) = subst (λ o. IfSome o (λ m. Tells found (opening_of name_of (standing m)))) is tells in
        let made : n ≡ without (names_of (take part.count refused)) (synced_both b) = same_Some n _ (part.removed ∙ ap (option_map (without (names_of (take part.count refused)))) is) in
        let listed : names_of (take part.count refused) ≡ take part.count (names name_of b) = ap (λ rs. names_of (take part.count rs)) (same ∙ same_refused name_of b found said) ∙ take_names name_of b _ part.count in
        some_made name_of b part.count n (made ∙ ap (λ qs. without qs (synced_both b)) listed)

    pub made_all : (before mid now : Option (List Move)) (refused : List Refused) (found : Found) → mid ≡ Mid before → refused ≡ found.refused
        → IfSome mid (λ m. Tells found (opening_of name_of (standing m))) → now ≡ option_map (cleaned (names_of refused)) mid → IfTold before now (λ b n. n ≡ b ++ opening_moves name_of b)
    made_all None mid now refused found is same tells made = tt
    made_all (Some b) mid None refused found is same tells made = tt
    made_all (Some b) mid (Some n) refused found is same tells made =
        let said : Tells found (opening_of name_of (standing (synced_both b))) = subst (λ o. IfSome o (λ m. Tells found (opening_of name_of (standing m)))) is tells in
        let is_made : n ≡ cleaned (names_of refused) (synced_both b) = same_Some n _ (made ∙ ap (option_map (cleaned (names_of refused))) is) in
        is_made ∙ (ap (λ rs. cleaned (names_of rs) (synced_both b)) (same ∙ same_refused name_of b found said) ∙ all_made name_of b)

    pub told_as_before : (before now : Option (List Move)) (r : List Refused) (mid : Option (List Move)) → mid ≡ Mid before → now ≡ option_map (cleaned (names_of r)) mid → is_some now ≡ is_some before
    told_as_before None now r mid is made = ap is_some (made ∙ ap (option_map (cleaned (names_of r))) is)
    told_as_before (Some b) now r mid is made = ap is_some (made ∙ ap (option_map (cleaned (names_of r))) is)

    full_take : {A : Type 0} (xs : List A) → take (length xs) xs ≡ xs
    full_take [] = refl
    full_take (x ∷ xs) = ap (λ rest. x ∷ rest) (full_take xs)

    pub all_is_front : (before now : Option (List Move)) → is_some now ≡ is_some before → IfTold before now (λ b n. n ≡ b ++ opening_moves name_of b) → MakesFront name_of before now
    all_is_front None None e made = tt
    all_is_front None (Some n) e made = cc
    all_is_front (Some b) None e made = cc
    all_is_front (Some b) (Some n) e made = record { count = length (opening_moves name_of b); made = made ∙ ap (λ (ms : List Move). b ++ ms) (sym (full_take (opening_moves name_of b))) }

    -- what was found after both syncs is what is found before them
    pub found_before : (before mid : Option (List Move)) (found : Found) → mid ≡ Mid before → IsFound name_of mid found → IsFound name_of before found
    found_before None mid found is f = record { units = f.units; records = f.records; tells = f.tells; sound = f.sound; rising = f.rising; stand = tt }
    found_before (Some b) mid found is f =
        let stand = subst (λ o. IfSome o (λ m. (f.units ≡ entries (standing m Units)) × (f.records ≡ entries (standing m Records)))) is f.stand in
        record {
          units = f.units;
          records = f.records;
          tells = f.tells;
          sound = f.sound;
          rising = f.rising;
          stand = (
            stand.0 ∙ ap (λ (files : dir.Files). entries (contents_of files)) (area_same name_of b Units),
            stand.1 ∙ ap (λ (files : dir.Files). entries (contents_of files)) (area_same name_of b Records),
          );
        }

    pub at_before : (before mid : Option (List Move)) (puts : List UnitPut) → mid ≡ Mid before → IfSome mid (λ m. All (IsUnitAt (area_after m Units)) puts) → IfSome before (λ m. All (IsUnitAt (area_after m Units)) puts)
    at_before None mid puts is at = tt
    at_before (Some b) mid puts is at = subst (λ (files : dir.Files). All (IsUnitAt files) puts) (area_same name_of b Units) (subst (λ o. IfSome o (λ m. All (IsUnitAt (area_after m Units)) puts)) is at)

-- ---- facts on told moves

pub front_told : (name_of : List ℕ → List ℕ) (P : List Move → List Move → Type 0) → ((b n : List Move) → IsFront name_of b n → P b n) → (before now : Option (List Move)) → MakesFront name_of before now → IfTold before now P
front_told name_of P f None now front = tt
front_told name_of P f (Some b) None front = tt
front_told name_of P f (Some b) (Some n) front = f b n front

pub told_map : (P Q : List Move → List Move → Type 0) → ((b n : List Move) → P b n → Q b n) → (before now : Option (List Move)) → IfTold before now P → IfTold before now Q
told_map P Q f None now h = tt
told_map P Q f (Some b) None h = tt
told_map P Q f (Some b) (Some n) h = f b n h

pub on_ok : {T E : Type 0} (r : Result T E) (P Q : Type 0) → (P → Q) → OnOk r P → OnOk r Q
on_ok (Ok x) P Q f h = f h
on_ok (Err e) P Q f h = tt

pub if_ok : {T E : Type 0} (r : Result T E) (P Q : T → Type 0) → ((x : T) → P x → Q x) → IfOk r P → IfOk r Q
if_ok (Ok x) P Q f h = f x h
if_ok (Err e) P Q f h = tt

pub on_ok_of : {T E : Type 0} (r : Result T E) (P : T → Type 0) (Q : Type 0) → ((x : T) → P x → Q) → IfOk r P → OnOk r Q
on_ok_of (Ok x) P Q f h = f x h
on_ok_of (Err e) P Q f h = tt

-- no move, and both syncs alone, leave both areas
pub still_areas : ((moves : List Move) (synced area : Area) → area_after (moves ++ Synced synced ∷ []) area ≡ area_after moves area) → (before now : Option (List Move))
    → (now ≡ before) ⊎ (now ≡ with_move (with_move before (Synced Records)) (Synced Units)) → IfTold before now (λ b n. (area : Area) → area_after n area ≡ area_after b area)
still_areas stay None now how = tt
still_areas stay (Some b) None how = tt
still_areas stay (Some b) (Some n) (inl is) = λ area. ap (λ (ms : List Move). area_after ms area) (same_Some n b is)
still_areas stay (Some b) (Some n) (inr is) = λ area. ap (λ (ms : List Move). area_after ms area) (same_Some n _ is) ∙ (stay (b ++ Synced Records ∷ []) Units area ∙ stay b Records area)

-- moves are only added
pub front_adds : (name_of : List ℕ → List ℕ) (before now : Option (List Move)) → MakesFront name_of before now → AddsTo before now
front_adds name_of None None front = tt
front_adds name_of None (Some n) front = front
front_adds name_of (Some b) None front = front
front_adds name_of (Some b) (Some n) front = record { more = take front.count (opening_moves name_of b); added = front.made }
