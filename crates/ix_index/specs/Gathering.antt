-- How single steps become revisions: sorted, gathered by key and value, and those that change nothing left out.
use Rattle.std.specs.Prelude.{◌+◌, ◌==◌, not, Bool, List, [], ◌∷◌, filter, if◌then◌else◌}
use Rattle.std.specs.List.{flat_map}
use Rattle.std.specs.declared.cmp.Ordering.{Ordering}
use Rattle.std.specs.Ordering.{ordering_then, is_eq}
use Rattle.ix_index.specs.declared.revisions.Recount.{Recount}
use Rattle.ix_index.specs.declared.revisions.Revision.{Revision}
use Rattle.ix_index.specs.declared.steps.Step.{Step}

module _ {V : Type 0} where
  -- a value that gains once, or loses once
  abbrev pub once : V → Bool → Recount V
  once value gains = record { value = value; gained = (if gains then 1 else 0); lost = (if gains then 0 else 1) }

  -- once more
  abbrev pub once_more : Recount V → Bool → Recount V
  once_more recount gains = record recount { gained = recount.gained + (if gains then 1 else 0); lost = recount.lost + (if gains then 0 else 1) }

  -- a recount that changes something
  abbrev pub is_change : Recount V → Bool
  is_change recount = not (recount.gained == recount.lost)

module _ {V : Type 0} (vcmp : V → V → Ordering) where
  -- one step more of the last value, or of a new one behind it
  abbrev pub with_turn : List (Recount V) → V → Bool → List (Recount V)
  with_turn [] value gains = once value gains ∷ []
  with_turn (recount ∷ []) value gains = if is_eq (vcmp value recount.value) then once_more recount gains ∷ [] else recount ∷ once value gains ∷ []
  with_turn (recount ∷ next ∷ recounts) value gains = recount ∷ with_turn (next ∷ recounts) value gains

module _ {K V : Type 0} where
  -- the revision of one step
  abbrev pub first_of : Step K V → Revision K V
  first_of step = record { key = step.key; recounts = once step.value step.gains ∷ [] }

  -- the revision without what changes nothing, if something is left
  abbrev pub if_some : K → List (Recount V) → List (Revision K V)
  if_some key [] = []
  if_some key (recount ∷ recounts) = record { key = key; recounts = recount ∷ recounts } ∷ []

  abbrev pub settled : Revision K V → List (Revision K V)
  settled revision = if_some revision.key (filter is_change revision.recounts)

  abbrev pub all_settled : List (Revision K V) → List (Revision K V)
  all_settled revisions = flat_map settled revisions

module _ {K V : Type 0} (kcmp : K → K → Ordering) (vcmp : V → V → Ordering) where
  -- the order of steps: by key, and then by value
  abbrev pub step_cmp : Step K V → Step K V → Ordering
  step_cmp a b = ordering_then (kcmp a.key b.key) (vcmp a.value b.value)

  -- one step more of the last key, or of a new one behind it
  abbrev pub with_step : List (Revision K V) → Step K V → List (Revision K V)
  with_step [] step = first_of step ∷ []
  with_step (revision ∷ []) step =
      if is_eq (kcmp step.key revision.key) then record revision { recounts = with_turn vcmp revision.recounts step.value step.gains } ∷ []
      else revision ∷ first_of step ∷ []
  with_step (revision ∷ next ∷ revisions) step = revision ∷ with_step (next ∷ revisions) step

  abbrev pub gathered : List (Revision K V) → List (Step K V) → List (Revision K V)
  gathered revisions [] = revisions
  gathered revisions (step ∷ steps) = gathered (with_step revisions step) steps
