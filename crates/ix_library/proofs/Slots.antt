-- What the lanes have staged, and the slots in which it stands.
use Rattle.std.proofs.Common.{◌≡◌, ℕ, zero, suc, Bool, true, false, List, [], ◌∷◌, refl, sym, ap, subst, ◌∙◌, Option, Some, None, is_some, IsSome, unwrap_or, Result, Ok, Err, OnOk, OnErr, slice_set, slice_index_or, nat_eq}
use Rattle.std.specs.Prelude.{replicate}
use Rattle.std.proofs.lemmas.Bool.{eqb-true, eq-eqb}
use Rattle.ix_dir.specs.State.{DirState, is_staged, staged_bytes}
use Rattle.ix_unit.specs.declared.value.UnitValue.{UnitValue}
use Rattle.ix_unit.specs.Spelling.{UnitSpelling}
use Rattle.ix_ledger.specs.Books.{Books}
use Rattle.ix_ledger.specs.Kept.{Kept, staged_in}
use Rattle.ix_library.specs.StandsFor.{HasSlots, HasStaged}

-- ---- what the lanes have staged

less_at : (xs : List (Option UnitValue)) (i j : ℕ) (unit : UnitValue) → slice_index_or (slice_set xs i None) j None ≡ Some unit → slice_index_or xs j None ≡ Some unit
less_at [] i j unit is = is
less_at (x ∷ xs) zero zero unit is = absurd (cc)
less_at (x ∷ xs) zero (suc j) unit is = is
less_at (x ∷ xs) (suc i) zero unit is = is
less_at (x ∷ xs) (suc i) (suc j) unit is = less_at xs i j unit is

pub none_there : (xs : List (Option UnitValue)) (i : ℕ) → slice_index_or (slice_set xs i None) i None ≡ None
none_there [] i = refl
none_there (x ∷ xs) zero = refl
none_there (x ∷ xs) (suc i) = none_there xs i

pub unit_of : (o : Option UnitValue) → IsSome o → (unit : UnitValue) × (o ≡ Some unit)
unit_of None some = absurd (cc)
unit_of (Some unit) some = (unit, refl)

-- each lane that has staged a unit had staged it before
abbrev pub StagesLess : Kept → Kept → Type 0
StagesLess kept after = (lane : ℕ) (unit : UnitValue) → staged_in after lane ≡ Some unit → staged_in kept lane ≡ Some unit

-- a lane that stages nothing any more
pub less_staged : (kept after : Kept) (lane : ℕ) → after.staged ≡ slice_set kept.staged lane None → StagesLess kept after
less_staged kept after lane is other unit staged = less_at kept.staged lane other unit (ap (λ (xs : List (Option UnitValue)). slice_index_or xs other None) (sym is) ∙ staged)

pub same_staged : (kept after : Kept) → after.staged ≡ kept.staged → StagesLess kept after
same_staged kept after is other unit staged = ap (λ (xs : List (Option UnitValue)). slice_index_or xs other None) (sym is) ∙ staged

pub staged_less : (kept after : Kept) (dir : DirState) → StagesLess kept after → HasStaged kept dir → HasStaged after dir
staged_less kept after dir less has lane unit staged = has lane unit (less lane unit staged)

pub slots_less : (kept after : Kept) (dir : DirState) → StagesLess kept after → HasSlots kept dir → HasSlots after dir
slots_less kept after dir less has lane some = let found = unit_of (staged_in after lane) some in has lane (ap is_some (less lane found.0 found.1))

none_at : (n j : ℕ) (unit : UnitValue) → slice_index_or (replicate n None) j None ≡ Some unit → {X : Type 0} → X
none_at zero j unit is = absurd (cc)
none_at (suc n) zero unit is = absurd (cc)
none_at (suc n) (suc j) unit is = none_at n j unit is

-- at first no lane has staged a unit
pub none_staged : (lanes : ℕ) (kept : Kept) (dir : DirState) → kept.staged ≡ replicate lanes None → HasStaged kept dir
none_staged lanes kept dir is lane unit staged = none_at lanes lane unit (ap (λ (xs : List (Option UnitValue)). slice_index_or xs lane None) (sym is) ∙ staged)

pub none_ready : (lanes : ℕ) (kept : Kept) (dir : DirState) → kept.staged ≡ replicate lanes None → HasSlots kept dir
none_ready lanes kept dir is lane some = let found = unit_of (staged_in kept lane) some in (none_staged lanes kept dir is lane found.0 found.1).0

-- ---- slots of other lanes

abbrev pub SlotsApart : ℕ → DirState → DirState → Type 0
SlotsApart lane before after = (other : ℕ) → nat_eq lane other ≡ false → after.slots other ≡ before.slots other

-- what stands in a slot
abbrev Stands : UnitValue → Option (List ℕ) → Type 0
Stands unit slot = (is_some slot ≡ true) × UnitSpelling (unwrap_or slot []) unit

-- the lane has staged nothing now, and the slots of the others are as before
module _ (old kept : Kept) (lane : ℕ) (before after : DirState) (less : StagesLess old kept) (none : staged_in kept lane ≡ None) (apart : SlotsApart lane before after) where
  not_here : (other : ℕ) (unit : UnitValue) → nat_eq lane other ≡ true → staged_in kept other ≡ Some unit → ⊥
  not_here other unit here staged = let no : None ≡ Some unit = sym none ∙ (ap (staged_in kept) (eqb-true lane other here) ∙ staged) in absurd (cc)

  pub staged_apart : HasStaged old before → HasStaged kept after
  staged_apart has other unit staged =
      (elim (nat_eq lane other) as (λ b. nat_eq lane other ≡ b → Stands unit (after.slots other)) [
        | true ↦ λ is. absurd (not_here other unit is staged)
        | false ↦ λ is. subst (Stands unit) (sym (apart other is)) (has other unit (less other unit staged))
      ]) refl

  pub slots_apart : HasSlots old before → HasSlots kept after
  slots_apart has other some =
      let found = unit_of (staged_in kept other) some in
      (elim (nat_eq lane other) as (λ b. nat_eq lane other ≡ b → is_some (after.slots other) ≡ true) [
        | true ↦ λ is. absurd (not_here other found.0 is found.1)
        | false ↦ λ is. subst (λ (slot : Option (List ℕ)). is_some slot ≡ true) (sym (apart other is)) (has other (ap is_some (less other found.0 found.1)))
      ]) refl

-- all slots are as before
module _ (old kept : Kept) (before after : DirState) (less : StagesLess old kept) (same : after.slots ≡ before.slots) where
  pub staged_same : HasStaged old before → HasStaged kept after
  staged_same has lane unit staged = subst (λ (slots : ℕ → Option (List ℕ)). Stands unit (slots lane)) (sym same) (has lane unit (less lane unit staged))

  pub slots_same : HasSlots old before → HasSlots kept after
  slots_same has lane some = let found = unit_of (staged_in kept lane) some in subst (λ (slots : ℕ → Option (List ℕ)). is_some (slots lane) ≡ true) (sym same) (has lane (ap is_some (less lane found.0 found.1)))

-- ---- a lane that stages a unit

set_here : (xs : List (Option UnitValue)) (i : ℕ) (unit other : UnitValue) → slice_index_or (slice_set xs i (Some unit)) i None ≡ Some other → unit ≡ other
set_here [] i unit other is = absurd (cc)
set_here (x ∷ xs) zero unit other is = cc
set_here (x ∷ xs) (suc i) unit other is = set_here xs i unit other is

set_other : (xs : List (Option UnitValue)) (i j : ℕ) (unit : UnitValue) → (i ≡ j → ⊥) → slice_index_or (slice_set xs i (Some unit)) j None ≡ slice_index_or xs j None
set_other [] i j unit apart = refl
set_other (x ∷ xs) zero zero unit apart = absurd (apart refl)
set_other (x ∷ xs) zero (suc j) unit apart = refl
set_other (x ∷ xs) (suc i) zero unit apart = refl
set_other (x ∷ xs) (suc i) (suc j) unit apart = set_other xs i j unit (λ e. apart (ap suc e))

not_same : (i j : ℕ) → nat_eq i j ≡ false → i ≡ j → ⊥
not_same i j is same = let no : true ≡ false = sym (eq-eqb i j same) ∙ is in absurd (cc)

module _ (old kept : Kept) (lane : ℕ) (unit : UnitValue) (is : kept.staged ≡ slice_set old.staged lane (Some unit)) (before after : DirState) (apart : SlotsApart lane before after) where
  at : (other : ℕ) → staged_in kept other ≡ slice_index_or (slice_set old.staged lane (Some unit)) other None
  at other = ap (λ (xs : List (Option UnitValue)). slice_index_or xs other None) is

  earlier : (other : ℕ) → nat_eq lane other ≡ false → staged_in kept other ≡ staged_in old other
  earlier other away = at other ∙ set_other old.staged lane other unit (not_same lane other away)

  pub staged_more : Stands unit (after.slots lane) → HasStaged old before → HasStaged kept after
  staged_more here has other found staged =
      (elim (nat_eq lane other) as (λ b. nat_eq lane other ≡ b → Stands found (after.slots other)) [
        | true ↦ λ e. let same = eqb-true lane other e in subst (λ (n : ℕ). Stands found (after.slots n)) same
            (subst (λ (u : UnitValue). Stands u (after.slots lane)) (set_here old.staged lane unit found (sym (at lane) ∙ (ap (staged_in kept) same ∙ staged))) here)
        | false ↦ λ e. subst (Stands found) (sym (apart other e)) (has other found (sym (earlier other e) ∙ staged))
      ]) refl

  pub slots_more : is_some (after.slots lane) ≡ true → HasSlots old before → HasSlots kept after
  slots_more here has other some =
      (elim (nat_eq lane other) as (λ b. nat_eq lane other ≡ b → is_some (after.slots other) ≡ true) [
        | true ↦ λ e. subst (λ (n : ℕ). is_some (after.slots n) ≡ true) (eqb-true lane other e) here
        | false ↦ λ e. subst (λ (slot : Option (List ℕ)). is_some slot ≡ true) (sym (apart other e)) (has other (subst IsSome (earlier other e) some))
      ]) refl

-- ---- steps that call no directory

-- where nothing failed the lanes have staged no more than before, and else what is kept is the same
pub ready_still : {E U : Type 0} (r : Result U E) (old kept now : Kept) (dir : DirState) → StagesLess old kept → OnOk r (now ≡ kept) → OnErr r (now ≡ old) → HasSlots old dir → HasSlots now dir
ready_still (Ok x) old kept now dir less made same has = slots_less old now dir (λ lane unit staged. less lane unit (ap (λ (k : Kept). staged_in k lane) (sym made) ∙ staged)) has
ready_still (Err e) old kept now dir less made same has = slots_less old now dir (λ lane unit staged. ap (λ (k : Kept). staged_in k lane) (sym same) ∙ staged) has

-- an equation of books where nothing failed is one of what is kept
pub kept_where_ok : {E U : Type 0} (r : Result U E) (new books : Books) → OnOk r (new ≡ books) → OnOk r (new.kept ≡ books.kept)
kept_where_ok (Ok x) new books is = ap (λ (b : Books). b.kept) is
kept_where_ok (Err e) new books is = tt

pub kept_where_err : {E U : Type 0} (r : Result U E) (new books : Books) → OnErr r (new ≡ books) → OnErr r (new.kept ≡ books.kept)
kept_where_err (Ok x) new books is = tt
kept_where_err (Err e) new books is = ap (λ (b : Books). b.kept) is
