-- A list of recounts, made in one walk.
use Rattle.std.proofs.Common.{◌≡◌, ◌≢◌, ℕ, ◌+◌, ◌-◌, ◌==◌, Bool, true, false, List, [], ◌∷◌, ◌++◌, Option, Some, None, unwrap_or, if◌then◌else◌, refl, sym, ap, subst, ◌∙◌, append_assoc}
use Rattle.std.specs.List.{AllByRecursion}
use Rattle.std.specs.Option.{option_map, option_to_list}
use Rattle.std.specs.declared.cmp.Ordering.{Ordering}
use Rattle.std.specs.declared.cmp.Ordering.TheVariants.{Less, Greater}
use Rattle.std.specs.Ordering.{is_eq, match_ordering}
use Rattle.std.specs.Cmp.{IsTotalOrder}
use Rattle.std.proofs.lemmas.Bool.{eqb-true}
use Rattle.std.proofs.lemmas.Cmp.{tied_itself}
use Rattle.std.proofs.lemmas.List.{append-nil}
use Rattle.ix_pages.specs.Pairs.{IsRising, look_up, with_pair, without_key}
use Rattle.ix_index.specs.declared.revisions.Recount.{Recount}
use Rattle.ix_index.specs.Counted.{count_in}
use Rattle.ix_index.specs.Parting.{IsPartedAt}
use Rattle.ix_index.specs.Recounting.{with_count, recounted, all_recounted, AreRecounts}
use Rattle.ix_index.proofs.Sorted.{all_append, all_follow, less_back, greater_back, is_itself, rising_right, with_pair_right, with_pair_front, without_key_right, without_key_front, look_up_right, look_up_front}

-- a value with its count, or nothing where that is 0
abbrev pub own : {V : Type 0} → V → ℕ → List (V × ℕ)
own value n = if n == 0 then [] else (value, n) ∷ []

own_none : {V : Type 0} (value : V) (n : ℕ) → n ≡ 0 → own value n ≡ []
own_none value n none = ap (own value) none

own_some : {V : Type 0} (value : V) (n : ℕ) → n ≢ 0 → own value n ≡ (value, n) ∷ []
own_some {V} value n some = cases (n == 0) refl
  where
    cases : (b : Bool) → (n == 0) ≡ b → if◌then◌else◌ {A = List (V × ℕ)} b [] ((value, n) ∷ []) ≡ (value, n) ∷ []
    cases true none = absurd (some (eqb-true n 0 none))
    cases false other = refl

module _ {V : Type 0} (cmp : V → V → Ordering) where
  with_count_right : (v : V) (n : ℕ) (xs ys : List (V × ℕ)) → AllByRecursion (λ x. cmp v x.0 ≡ Greater) xs → with_count cmp (xs ++ ys) v n ≡ xs ++ with_count cmp ys v n
  with_count_right v n xs ys lesser = cases (n == 0)
    where
      cases : (b : Bool) → (if b then without_key cmp (xs ++ ys) v else with_pair cmp (xs ++ ys) (v, n)) ≡ xs ++ (if b then without_key cmp ys v else with_pair cmp ys (v, n))
      cases true = without_key_right cmp v xs ys lesser
      cases false = with_pair_right cmp (v, n) xs ys lesser

  recounted_right : (r : Recount V) (xs ys : List (V × ℕ)) → AllByRecursion (λ x. cmp r.value x.0 ≡ Greater) xs → recounted cmp (xs ++ ys) r ≡ xs ++ recounted cmp ys r
  recounted_right r xs ys lesser =
      ap (λ n. with_count cmp (xs ++ ys) r.value (n + r.gained - r.lost)) (ap (λ (c : Option ℕ). unwrap_or c 0) (look_up_right cmp r.value xs ys lesser))
      ∙ with_count_right r.value (count_in cmp ys r.value + r.gained - r.lost) xs ys lesser

  pub all_recounted_right : (rs : List (Recount V)) (xs ys : List (V × ℕ)) → AllByRecursion (λ r. AllByRecursion (λ x. cmp r.value x.0 ≡ Greater) xs) rs
      → all_recounted cmp (xs ++ ys) rs ≡ xs ++ all_recounted cmp ys rs
  all_recounted_right [] xs ys lesser = refl
  all_recounted_right (r ∷ rs) xs ys lesser =
      ap (λ zs. all_recounted cmp zs rs) (recounted_right r xs ys lesser.0) ∙ all_recounted_right rs xs (recounted cmp ys r) lesser.1

  pub recounts_right : (xs ys : List (Recount V)) → AreRecounts cmp (xs ++ ys) → AreRecounts cmp ys
  recounts_right [] ys rise = rise
  recounts_right (x ∷ xs) ys rise = recounts_right xs ys rise.1

module _ {V : Type 0} {cmp : V → V → Ordering} (o : IsTotalOrder cmp) where
  -- what stands at a value, and what is behind it
  here_and_behind : (v : V) (n : ℕ) (count : Option ℕ) (greater : List (V × ℕ)) → AllByRecursion (λ y. cmp v y.0 ≡ Less) greater
      → with_count cmp (option_to_list (option_map (λ m. (v, m)) count) ++ greater) v n ≡ own v n ++ greater
  here_and_behind v n None greater above = cases (n == 0)
    where
      cases : (b : Bool) → (if b then without_key cmp greater v else with_pair cmp greater (v, n)) ≡ (if b then [] else (v, n) ∷ []) ++ greater
      cases true = without_key_front cmp v greater above
      cases false = with_pair_front cmp (v, n) greater above
  here_and_behind v n (Some m) greater above = cases (n == 0)
    where
      cases : (b : Bool) → (if b then without_key cmp ((v, m) ∷ greater) v else with_pair cmp ((v, m) ∷ greater) (v, n)) ≡ (if b then [] else (v, n) ∷ []) ++ greater
      cases true = ap (λ c. if is_eq c then greater else (v, m) ∷ without_key cmp greater v) (tied_itself o v)
      cases false = ap (λ c. match_ordering c ((v, n) ∷ (v, m) ∷ greater) ((v, n) ∷ greater) ((v, m) ∷ with_pair cmp greater (v, n))) (tied_itself o v)

  count_there : (v : V) (count : Option ℕ) (greater : List (V × ℕ)) → AllByRecursion (λ y. cmp v y.0 ≡ Less) greater
      → count_in cmp (option_to_list (option_map (λ m. (v, m)) count) ++ greater) v ≡ unwrap_or count 0
  count_there v None greater above = ap (λ (c : Option ℕ). unwrap_or c 0) (look_up_front cmp v greater above)
  count_there v (Some m) greater above = ap (λ b. unwrap_or (if b then Some m else look_up cmp greater v) 0) (is_itself o v)

  module _ (value : V) (ps lesser : List (V × ℕ)) (count : Option ℕ) (greater : List (V × ℕ)) (parted : IsPartedAt cmp value ps lesser count greater) where
    pub count_parted : count_in cmp ps value ≡ unwrap_or count 0
    count_parted =
        ap (λ qs. count_in cmp qs value) parted.all
        ∙ ap (λ (c : Option ℕ). unwrap_or c 0) (look_up_right cmp value lesser (option_to_list (option_map (λ m. (value, m)) count) ++ greater) parted.are_lesser)
        ∙ count_there value count greater parted.are_greater

    recounted_parted : (r : Recount V) (n : ℕ) → r.value ≡ value → n ≡ unwrap_or count 0 + r.gained - r.lost → recounted cmp ps r ≡ (lesser ++ own value n) ++ greater
    recounted_parted r n at is =
        ap (λ v. with_count cmp ps v (count_in cmp ps v + r.gained - r.lost)) at
        ∙ ap (λ m. with_count cmp ps value (m + r.gained - r.lost)) count_parted
        ∙ ap (λ m. with_count cmp ps value m) (sym is)
        ∙ ap (λ qs. with_count cmp qs value n) parted.all
        ∙ with_count_right cmp value n lesser (option_to_list (option_map (λ m. (value, m)) count) ++ greater) parted.are_lesser
        ∙ ap (λ qs. lesser ++ qs) (here_and_behind value n count greater parted.are_greater)
        ∙ sym (append_assoc lesser (own value n) greater)

    own_below : (n : ℕ) (v : V) → cmp value v ≡ Less → AllByRecursion (λ x. cmp v x.0 ≡ Greater) (own value n)
    own_below n v less = cases (n == 0)
      where
        cases : (b : Bool) → AllByRecursion (λ (x : V × ℕ). cmp v x.0 ≡ Greater) (if b then [] else (value, n) ∷ [])
        cases true = tt
        cases false = (less_back o value v less, tt)

    -- a later value is greater than all that is in front
    front_below : (n : ℕ) (v : V) → cmp value v ≡ Less → AllByRecursion (λ x. cmp v x.0 ≡ Greater) (lesser ++ own value n)
    front_below n v less = all_append (λ x. cmp v x.0 ≡ Greater) lesser (own value n)
        (all_follow (λ x. cmp value x.0 ≡ Greater) (λ x. cmp v x.0 ≡ Greater) (λ x below. less_back o x.0 v (o.trans x.0 value v (greater_back o value x.0 below) less)) lesser parted.are_lesser)
        (own_below n v less)

    merged : (r : Recount V) (n : ℕ) (before after : List (V × ℕ)) → r.value ≡ value → n ≡ unwrap_or count 0 + r.gained - r.lost → after ≡ (before ++ lesser) ++ own value n
        → (later : List (Recount V)) → AllByRecursion (λ next. cmp r.value next.value ≡ Less) later → after ++ all_recounted cmp greater later ≡ before ++ all_recounted cmp ps (r ∷ later)
    merged r n before after at is made later above =
        ap (λ zs. zs ++ all_recounted cmp greater later) (made ∙ append_assoc before lesser (own value n))
        ∙ append_assoc before (lesser ++ own value n) (all_recounted cmp greater later)
        ∙ ap (λ zs. before ++ zs) (sym (
        ap (λ zs. all_recounted cmp zs later) (recounted_parted r n at is)
        ∙ all_recounted_right cmp later (lesser ++ own value n) greater (all_follow (λ next. cmp r.value next.value ≡ Less) (λ next. AllByRecursion (λ x. cmp next.value x.0 ≡ Greater) (lesser ++ own value n))
        (λ next less. front_below n next.value (subst (λ v. cmp v next.value ≡ Less) at less)) later above)
        ))

    pub greater_rises : IsRising cmp ps → IsRising cmp greater
    greater_rises rising = rising_right cmp (option_to_list (option_map (λ m. (value, m)) count)) greater (rising_right cmp lesser (option_to_list (option_map (λ m. (value, m)) count) ++ greater) (subst (IsRising cmp) parted.all rising))

    -- the value is left out, or stands behind the lesser ones
    pub merged_none : (r : Recount V) (n : ℕ) (before after : List (V × ℕ)) → r.value ≡ value → n ≡ unwrap_or count 0 + r.gained - r.lost → n ≡ 0 → after ≡ before ++ lesser
        → (later : List (Recount V)) → AllByRecursion (λ next. cmp r.value next.value ≡ Less) later → after ++ all_recounted cmp greater later ≡ before ++ all_recounted cmp ps (r ∷ later)
    merged_none r n before after at is none made = merged r n before after at is (made ∙ sym (append-nil (before ++ lesser)) ∙ ap (λ zs. (before ++ lesser) ++ zs) (sym (own_none value n none)))

    pub merged_some : (r : Recount V) (n : ℕ) (before between after : List (V × ℕ)) → r.value ≡ value → n ≡ unwrap_or count 0 + r.gained - r.lost → n ≢ 0
        → between ≡ before ++ lesser → after ≡ between ++ (value, n) ∷ []
        → (later : List (Recount V)) → AllByRecursion (λ next. cmp r.value next.value ≡ Less) later → after ++ all_recounted cmp greater later ≡ before ++ all_recounted cmp ps (r ∷ later)
    merged_some r n before between after at is some made pushed =
        merged r n before after at is (pushed ∙ ap (λ zs. zs ++ (value, n) ∷ []) made ∙ ap (λ zs. (before ++ lesser) ++ zs) (sym (own_some value n some)))

-- ---- the walk

module _ {V : Type 0} (cmp : V → V → Ordering) where
  -- what is made so far, whatever comes behind the recounts so far
  abbrev pub IsMerged : List (V × ℕ) → List (Recount V) → List (V × ℕ) → List (V × ℕ) → Type 0
  IsMerged before done rest after = (later : List (Recount V)) → AreRecounts cmp (done ++ later) → after ++ all_recounted cmp rest later ≡ all_recounted cmp before (done ++ later)

  recounts_rise_behind : (xs : List (Recount V)) (y : Recount V) (ys : List (Recount V)) → AreRecounts cmp (xs ++ y ∷ ys) → AllByRecursion (λ next. cmp y.value next.value ≡ Less) ys
  recounts_rise_behind [] y ys rise = rise.0
  recounts_rise_behind (x ∷ xs) y ys rise = recounts_rise_behind xs y ys rise.1

  pub walk_step : (before : List (V × ℕ)) (done : List (Recount V)) (r : Recount V) (rest left after now : List (V × ℕ)) → IsMerged before done rest after
      → ((later : List (Recount V)) → AllByRecursion (λ next. cmp r.value next.value ≡ Less) later → now ++ all_recounted cmp left later ≡ after ++ all_recounted cmp rest (r ∷ later))
      → IsMerged before (done ++ r ∷ []) left now
  walk_step before done r rest left after now so_far step later rise =
      let whole : AreRecounts cmp (done ++ r ∷ later) = subst (AreRecounts cmp) (append_assoc done (r ∷ []) later) rise in
      step later (recounts_rise_behind done r later whole) ∙ so_far (r ∷ later) whole ∙ ap (all_recounted cmp before) (sym (append_assoc done (r ∷ []) later))

  pub walk_end : (before : List (V × ℕ)) (done : List (Recount V)) (rest after now : List (V × ℕ)) → IsMerged before done rest after → now ≡ after ++ rest → AreRecounts cmp done → now ≡ all_recounted cmp before done
  walk_end before done rest after now so_far made rise =
      made ∙ so_far [] (subst (AreRecounts cmp) (sym (append-nil done)) rise) ∙ ap (all_recounted cmp before) (append-nil done)
