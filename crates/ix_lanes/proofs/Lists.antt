-- Lists that are dropped from the front, and their lengths.
use Rattle.std.proofs.Common.{◌≡◌, ℕ, ◌+◌, ◌-◌, ◌<◌, true, List, [], ◌∷◌, length, map, drop, refl, sym, ap, ◌∙◌, arith}
use Rattle.std.proofs.lemmas.List.{drop-drop, drop-map}
use Rattle.ix_lanes.specs.Tasks.{Task, kind_of}
use Rattle.ix_lanes.specs.Progress.{is_ask}

pub one_less : {A B : Type 0} (f : A → B) (k : ℕ) (xs : List A) → map f (drop (k + 1) xs) ≡ drop 1 (map f (drop k xs))
one_less f k xs = ap (map f) (sym (drop-drop 1 k xs)) ∙ sym (drop-map f 1 (drop k xs))

pub asking_has_one : (tasks : List Task) → is_ask (kind_of tasks) ≡ true → 0 < length tasks
asking_has_one [] e = absurd (cc)
asking_has_one (task ∷ tasks) e = omega arith

pub dropped_length : {A : Type 0} (xs : List A) → length (drop 1 xs) ≡ length xs - 1
dropped_length [] = refl
dropped_length (x ∷ xs) = omega arith
