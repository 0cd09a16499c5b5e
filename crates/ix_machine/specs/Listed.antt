-- What a list has.
use Rattle.std.specs.Prelude.{◌≡◌, ◌⊎◌, List, [], ◌∷◌}

-- the value is one of the list
abbrev pub Lists : {X : Type 0} → List X → X → Type 0
Lists [] x = ⊥
Lists (y ∷ ys) x = (y ≡ x) ⊎ Lists ys x
