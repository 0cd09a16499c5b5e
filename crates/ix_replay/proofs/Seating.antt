-- Lanes in seats of their own, one after the other.
use Rattle.std.proofs.Common.{◌≡◌, ◌∙◌, List, [], ◌∷◌, ◌++◌, map, ap, sym, subst}
use Rattle.std.specs.List.{AllByRecursion}
use Rattle.std.proofs.lemmas.List.{map-append}
use Rattle.ix_lanes.specs.Views.{Under}
use Rattle.ix_seats.specs.Seated.{Seated}
use Rattle.ix_replay.proofs.Lists.{all_push, all_front, all_last}

-- one seat more is that of one lane more
pub lanes_more : (before after : List Seated) (lanes : List Under) (lane : Under) (seat : Seated) → after ≡ before ++ seat ∷ [] → seat.lane ≡ lane
    → map (λ (s : Seated). s.lane) before ≡ lanes → map (λ (s : Seated). s.lane) after ≡ lanes ++ lane ∷ []
lanes_more before after lanes lane seat pushed same so =
    ap (map (λ (s : Seated). s.lane)) pushed ∙ map-append (λ (s : Seated). s.lane) before (seat ∷ []) ∙ (λ i. so i ++ same i ∷ [])

-- where each lane so far holds nothing each seat fits, and so it is with one more
pub seats_more : (Fits : Seated → Type 0) (Idle : Under → Type 0) (before after : List Seated) (lanes : List Under) (lane : Under) (seat : Seated) → after ≡ before ++ seat ∷ []
    → (Idle lane → Fits seat) → (AllByRecursion Idle lanes → AllByRecursion Fits before) → AllByRecursion Idle (lanes ++ lane ∷ []) → AllByRecursion Fits after
seats_more Fits Idle before after lanes lane seat pushed fits so idle =
    subst (AllByRecursion Fits) (sym pushed) (all_push Fits before seat (so (all_front Idle lanes lane idle)) (fits (all_last Idle lanes lane idle)))
