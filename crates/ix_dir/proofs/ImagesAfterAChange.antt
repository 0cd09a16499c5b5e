-- Which images a sync and one change more leave.
use Rattle.std.proofs.Common.{◌≡◌, ◌⊎◌, inl, inr, ℕ, true, false, cond, ◌&&◌, List, [], ◌∷◌, ◌++◌, ◌↔◌, refl, sym, ap, ◌∙◌, subst, Some, None, is_some, Contains, arith}
use Rattle.std.specs.Cmp.Lexicographic.{nat_list_cmp_total, same_text}
use Rattle.std.specs.FinMap.{get, same_map, slice_cmp-IsAntisymmetric, nat_cmp-IsAntisymmetric}
use Rattle.std.specs.Option.{option_map}
use Rattle.std.proofs.lemmas.Bool.{cond-true, cond-false}
use Rattle.std.proofs.lemmas.List.Elements.{Contains-append_left}
use Rattle.ix_dir.specs.declared.area.Area.{Area}
use Rattle.ix_dir.specs.declared.area.Area.TheVariants.{Units, Records}
use Rattle.ix_dir.specs.Calls.{moves_removed}
use Rattle.ix_dir.specs.Crash.{IsSettledIn, standing}
use Rattle.ix_dir.specs.Files.{Contents, bytes_at}
use Rattle.ix_dir.specs.Images.{Value, Image, IsImage, IsImageIn, values_of}
use Rattle.ix_dir.specs.Moves.{Move, Renamed, Removed, Synced, area_after, same_area, same_name}
use Rattle.ix_dir.specs.WhatAChangeLeaves.{LeavesAt}
use Rattle.ix_dir.proofs.PickIsAnImage.{get-contents_of}
use Rattle.ix_dir.proofs.ValuesAfterAMove.{values_of-append}
use Rattle.ix_dir.proofs.ValuesAfterAChange.{other_synced, other_renamed, own_renamed, only_one}
use Rattle.ix_dir.proofs.ValuesStood.{last_stands, standing_image, contains_more}
use Rattle.ix_dir.proofs.ValuesThatStoodStay.{standing_is_there}
use Rattle.ix_dir.proofs.WhatACrashLeaves.{same_area_itself}
use Rattle.ix_dir.proofs.WhatAChangeLeaves.{renamed, taken_away, itself}

pub same_area_same : (a b : Area) → same_area a b ≡ true → a ≡ b
same_area_same Units Units e = refl
same_area_same Units Records e = cc
same_area_same Records Units e = cc
same_area_same Records Records e = refl

-- a list of one value has that value
alone : (x v : Value) → v ≡ x → Contains (x ∷ []) v
alone x v is = (0, omega arith, sym is)

-- ---- a sync

module _ (moves : List Move) (area : Area) (a : Area) (name : List ℕ) where
  synced_values : same_area a area ≡ true → values_of (moves ++ Synced area ∷ []) a name ≡ bytes_at (area_after moves a) name ∷ []
  synced_values own = values_of-append moves (Synced area) a name ∙ cond-true _ _ _ own ∙ last_stands moves a name

  -- a value after the sync was one before it
  was_before : (v : Value) → Contains (values_of (moves ++ Synced area ∷ []) a name) v → Contains (values_of moves a name) v
  was_before v there =
      elim (same_area a area) as (λ b. same_area a area ≡ b → Contains (values_of moves a name) v) [
        | true ↦ λ own.
            let is = only_one _ v (subst (λ vs. Contains vs v) (synced_values own) there) in
            subst (Contains (values_of moves a name)) (sym is) (standing_is_there moves a name)
        | false ↦ λ other. subst (λ vs. Contains vs v) (other_synced moves area a name other) there
      ] refl

pub synced_image : (moves : List Move) (area : Area) (image : Image) → IsImage (moves ++ Synced area ∷ []) image → IsImage moves image
synced_image moves area image left a name = was_before moves area a name (get (image a) name) (left a name)

pub synced_stand : (moves : List Move) (area : Area) (image : Image) (name : List ℕ) → IsImage (moves ++ Synced area ∷ []) image → get (image area) name ≡ bytes_at (area_after moves area) name
synced_stand moves area image name left = only_one _ _ (subst (λ vs. Contains vs (get (image area) name)) (synced_values moves area area name (same_area_itself area)) (left area name))

-- an image that has what stands in the area is left
pub kept_image : (moves : List Move) (area : Area) (image : Image) → IsImage moves image → ((name : List ℕ) → get (image area) name ≡ bytes_at (area_after moves area) name)
    → IsImage (moves ++ Synced area ∷ []) image
kept_image moves area image left stands a name =
    elim (same_area a area) as (λ b. same_area a area ≡ b → Contains (values_of (moves ++ Synced area ∷ []) a name) (get (image a) name)) [
      | true ↦ λ own.
          let same : a ≡ area = same_area_same a area own in
          let here : get (image a) name ≡ bytes_at (area_after moves a) name = subst (λ x. get (image x) name ≡ bytes_at (area_after moves x) name) (sym same) (stands name) in
          subst (λ vs. Contains vs (get (image a) name)) (sym (synced_values moves area a name own)) (alone _ _ here)
      | false ↦ λ other. subst (λ vs. Contains vs (get (image a) name)) (sym (other_synced moves area a name other)) (left a name)
    ] refl

-- ---- one change more, from a settled area

same_contents : (c d : Contents) → ((q : List ℕ) → get c q ≡ get d q) → c ≡ d
same_contents c d is = same_map nat_list_cmp_total (slice_cmp-IsAntisymmetric nat_cmp-IsAntisymmetric) c d is

in_standing : (moves : List Move) (area : Area) (q : List ℕ) → get (standing moves area) q ≡ bytes_at (area_after moves area) q
in_standing moves area q = get-contents_of (area_after moves area) q

module _ (moves now : List Move) (area : Area) (name : List ℕ) (v : Value) (settled : IsSettledIn area moves) (left : LeavesAt area name v moves now)
    (own : values_of now area name ≡ values_of moves area name ++ v ∷ [])
    (others : (q : List ℕ) → same_name name q ≡ false → values_of now area q ≡ values_of moves area q) where
  -- what a crash leaves of another name
  at_other : (contents : Contents) → IsImageIn area now contents → (q : List ℕ) → same_name name q ≡ false → get contents q ≡ bytes_at (area_after moves area) q
  at_other contents image q other = only_one _ _ (subst (λ vs. Contains vs (get contents q)) (others q other ∙ settled q) (image q))

  now_other : (q : List ℕ) → same_name name q ≡ false → bytes_at (area_after now area) q ≡ bytes_at (area_after moves area) q
  now_other q other = ap (option_map (λ f. f.bytes)) (left.others area q (ap (λ b. b && same_name name q) (same_area_itself area) ∙ other))

  -- two areas' contents that agree at the name and at all others
  each_name : (c d : Contents) → get c name ≡ get d name → ((q : List ℕ) → same_name name q ≡ false → get c q ≡ get d q) → c ≡ d
  each_name c d here other = same_contents c d (λ q. elim (same_name name q) as (λ b. b ≡ same_name name q → get c q ≡ get d q) [
    | true ↦ λ is. subst (λ x. get c x ≡ get d x) (same_text name q is) here
    | false ↦ λ is. other q (sym is)
  ] refl)

  pub one_of_two : (contents : Contents) → IsImageIn area now contents → (contents ≡ standing moves area) ⊎ (contents ≡ standing now area)
  one_of_two contents image =
      elim (contains_more (values_of moves area name) v (get contents name) (subst (λ vs. Contains vs (get contents name)) own (image name))) [
        | inl old ↦
            let here = only_one _ _ (subst (λ vs. Contains vs (get contents name)) (settled name) old) in
            inl (each_name contents (standing moves area) (here ∙ sym (in_standing moves area name)) (λ q other. at_other contents image q other ∙ sym (in_standing moves area q)))
        | inr new ↦
            inr (each_name contents (standing now area) (sym new ∙ sym left.here ∙ sym (in_standing now area name))
            (λ q other. at_other contents image q other ∙ sym (now_other q other) ∙ sym (in_standing now area q)))
      ]

  before_is_left : IsImageIn area now (standing moves area)
  before_is_left q =
      let stood = standing_image moves area q in
      elim (same_name name q) as (λ b. b ≡ same_name name q → Contains (values_of now area q) (get (standing moves area) q)) [
        | true ↦ λ is.
            subst (λ x. Contains (values_of now area x) (get (standing moves area) x)) (same_text name q is)
            (subst (λ vs. Contains vs (get (standing moves area) name)) (sym own) (Contains-append_left (values_of moves area name) (v ∷ []) (get (standing moves area) name) (standing_image moves area name)))
        | false ↦ λ is. subst (λ vs. Contains vs (get (standing moves area) q)) (sym (others q (sym is))) stood
      ] refl

  pub two_are_left : (contents : Contents) → (contents ≡ standing moves area) ⊎ (contents ≡ standing now area) → IsImageIn area now contents
  two_are_left contents (inl is) = subst (IsImageIn area now) (sym is) before_is_left
  two_are_left contents (inr is) = subst (IsImageIn area now) (sym is) (standing_image now area)

-- an area that is settled has one image
pub settled_image : (moves : List Move) (area : Area) (contents : Contents) → IsSettledIn area moves → IsImageIn area moves contents → contents ≡ standing moves area
settled_image moves area contents settled image =
    same_contents contents (standing moves area) (λ q. only_one _ _ (subst (λ vs. Contains vs (get contents q)) (settled q) (image q)) ∙ sym (in_standing moves area q))

-- the contents are those before the change, or those after it
abbrev pub IsOneOfTwo : Area → List Move → List Move → Contents → Type 0
IsOneOfTwo area before now contents = (contents ≡ standing before area) ⊎ (contents ≡ standing now area)

module _ (moves : List Move) (area : Area) (name : List ℕ) (contents : Contents) (settled : IsSettledIn area moves) where
  off : (q : List ℕ) → same_name name q ≡ false → (same_area area area && same_name name q) ≡ false
  off q other = ap (λ b. b && same_name name q) (same_area_itself area) ∙ other

  pub renamed_images : (bytes : List ℕ) (stamp : ℕ) → IsImageIn area (moves ++ Renamed area name bytes stamp ∷ []) contents ↔ IsOneOfTwo area moves (moves ++ Renamed area name bytes stamp ∷ []) contents
  renamed_images bytes stamp =
      let now = moves ++ Renamed area name bytes stamp ∷ [] in
      let left = renamed moves area name bytes stamp in
      let own = own_renamed moves area name bytes stamp in
      let others = λ (q : List ℕ) (other : same_name name q ≡ false). other_renamed moves area name bytes stamp area q (off q other) in
      (one_of_two moves now area name (Some bytes) settled left own others contents, two_are_left moves now area name (Some bytes) settled left own others contents)

  pub removed_images : IsImageIn area (moves_removed area name moves) contents ↔ IsOneOfTwo area moves (moves_removed area name moves) contents
  removed_images =
      elim (is_some (get (area_after moves area) name)) as (λ b. IsImageIn area (cond b (moves ++ Removed area name ∷ []) moves) contents ↔ IsOneOfTwo area moves (cond b (moves ++ Removed area name ∷ []) moves) contents) [
        | true ↦
            let now = moves ++ Removed area name ∷ [] in
            let left = taken_away moves area name in
            let own = values_of-append moves (Removed area name) area name ∙ cond-true _ _ _ (itself area name) in
            let others = λ (q : List ℕ) (other : same_name name q ≡ false). values_of-append moves (Removed area name) area q ∙ cond-false _ _ _ (off q other) in
            (one_of_two moves now area name None settled left own others contents, two_are_left moves now area name None settled left own others contents)
        | false ↦
            (λ image. inl (settled_image moves area contents settled image), elim [ inl is ↦ stays is | inr is ↦ stays is ])
      ] where
        stays : contents ≡ standing moves area → IsImageIn area moves contents
        stays is = subst (IsImageIn area moves) (sym is) (standing_image moves area)
