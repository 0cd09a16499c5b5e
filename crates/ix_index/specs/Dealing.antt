-- Steps in parts, cut at keys: those of lesser keys to the left. Each part makes revisions of its own.
use Rattle.std.specs.Prelude.{◌≡◌, ℕ, ◌+◌, ◌-◌, Bool, true, false, List, [], ◌∷◌, ◌++◌, if◌then◌else◌}
use Rattle.std.specs.List.{AllByRecursion}
use Rattle.std.specs.declared.cmp.Ordering.{Ordering}
use Rattle.std.specs.Ordering.{is_lt}
use Rattle.ix_index.specs.declared.parts.Parts.{Parts, Part, Cut'}
use Rattle.ix_index.specs.declared.revisions.Revision.{Revision}
use Rattle.ix_index.specs.declared.steps.Step.{Step}
use Rattle.ix_index.specs.Recounting.{gained_in, lost_in, AreRevisions}
use Rattle.ix_index.specs.Stepping.{gains_of, losses_of}

-- the steps of a part, or two sides of a key
pub data Dealt (K V : Type 0) : Type 0 where
  Here : List (Step K V) → Dealt K V
  Sides : Dealt K V → K → Dealt K V → Dealt K V

module _ {K V : Type 0} where
  abbrev pub dealt_of : Parts K V → Dealt K V
  dealt_of (Part steps) = Here steps.items
  dealt_of (Cut' p left key q right) = Sides (dealt_of left) key (dealt_of right)

  -- all steps, from left to right
  abbrev pub steps_of : Dealt K V → List (Step K V)
  steps_of (Here steps) = steps
  steps_of (Sides left key right) = steps_of left ++ steps_of right

  -- no part has a step
  abbrev pub AreNone : Dealt K V → Type 0
  AreNone (Here steps) = steps ≡ []
  AreNone (Sides left key right) = AreNone left × AreNone right

module _ {K V : Type 0} (kcmp : K → K → Ordering) where
  -- one step more, in the part of its key
  abbrev pub with_dealt : Dealt K V → Step K V → Dealt K V
  with_dealt (Here steps) step = Here (steps ++ step ∷ [])
  with_dealt (Sides left key right) step =
      if is_lt (kcmp step.key key) then Sides (with_dealt left step) key right else Sides left key (with_dealt right step)

  -- steps of lesser keys stand to the left of each key, and no others
  abbrev pub AreApart : Dealt K V → Type 0
  AreApart (Here steps) = Unit {0}
  AreApart (Sides left key right) =
      AllByRecursion (λ step. is_lt (kcmp step.key key) ≡ true) (steps_of left) × AllByRecursion (λ step. is_lt (kcmp step.key key) ≡ false) (steps_of right)
      × AreApart left × AreApart right

module _ {K V : Type 0} (kcmp : K → K → Ordering) (vcmp : V → V → Ordering) where
  -- revisions that change each count as the steps do, under keys of the steps alone
  pub record AreNetOf (steps : List (Step K V)) (revisions : List (Revision K V)) : Type 0 where
    pub rise : AreRevisions kcmp vcmp revisions
    pub nets : (before : ℕ) (key : K) (value : V) → before + gained_in kcmp vcmp revisions key value - lost_in kcmp vcmp revisions key value
        ≡ before + gains_of kcmp vcmp steps key value - losses_of kcmp vcmp steps key value
    pub within : (p : K → Bool) (b : Bool) → AllByRecursion (λ step. p step.key ≡ b) steps → AllByRecursion (λ revision. p revision.key ≡ b) revisions

  -- such revisions stand behind others
  pub record AreNetBehind (steps : List (Step K V)) (before after : List (Revision K V)) : Type 0 where
    pub more : List (Revision K V)
    pub is : after ≡ before ++ more
    pub nets : AreNetOf steps more
