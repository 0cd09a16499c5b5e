-- The answers of lanes, seat after seat.
use Rattle.std.proofs.Common.{◌≡◌, ◌∙◌, ℕ, List, [], ◌∷◌, ◌++◌, map, sym}
use Rattle.std.specs.List.{AllByRecursion}
use Rattle.std.proofs.lemmas.List.{map-append}
use Rattle.ix_model.specs.Units.{Units}
use Rattle.ix_lanes.specs.declared.answered.Answered.{Answered}
use Rattle.ix_lanes.specs.Progress.{settled}
use Rattle.ix_seats.specs.Seated.{Seated}
use Rattle.ix_seats.specs.Seats.{IsSeat}
use Rattle.ix_replay.proofs.Lists.{all_front, all_last}

-- one seat more gives its answers
pub answers_more : (seen : ℕ → Units) (seats : List Seated) (seat : Seated) (answers more : List (List Answered)) (own : List Answered)
    → (IsSeat seen seat → own ≡ (settled seen seat.lane.progress).answers) → more ≡ answers ++ own ∷ []
    → (AllByRecursion (IsSeat seen) seats → answers ≡ map (λ (s : Seated). (settled seen s.lane.progress).answers) seats) → AllByRecursion (IsSeat seen) (seats ++ seat ∷ [])
    → more ≡ map (λ (s : Seated). (settled seen s.lane.progress).answers) (seats ++ seat ∷ [])
answers_more seen seats seat answers more own gives pushed so sit =
    let first : answers ≡ map (λ (s : Seated). (settled seen s.lane.progress).answers) seats = so (all_front (IsSeat seen) seats seat sit) in
    let last : own ≡ (settled seen seat.lane.progress).answers = gives (all_last (IsSeat seen) seats seat sit) in
    pushed ∙ ((λ i. first i ++ last i ∷ []) ∙ sym (map-append (λ (s : Seated). (settled seen s.lane.progress).answers) seats (seat ∷ [])))
