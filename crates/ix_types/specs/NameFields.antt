-- The fields of a name, from its digits.
use Rattle.std.specs.Prelude.{◌≡◌, ℕ, ◌≤◌, List, length, take}
use Rattle.std.proofs.Common.{ap, ◌∙◌, arith}
use Rattle.std.proofs.lemmas.List.{length-take-le, take-append-drop}
use Rattle.ix_types.specs.declared.name.FileName.TheInside.{Inside}
use Rattle.ix_types.specs.Name.{IsNamed, cells_of}

abbrev pub fields : List ℕ → ℕ → Inside
fields cells len = record { cells = cells; len = len }

-- the fields of a name
abbrev pub fields_of : List ℕ → Inside
fields_of name = fields (cells_of name) (length name)

-- the name in the cells gives the cells back
pub cells_of-take : (cells : List ℕ) (len : ℕ) → IsNamed cells len → cells_of (take len cells) ≡ cells
cells_of-take cells len named =
    let fits : len ≤ length cells = omega (arith, named.fits, named.all) in
    rw (length-take-le len cells fits, ← named.zeros) (take-append-drop len cells)

pub fields_of-take : (a : Inside) → IsNamed a.cells a.len → fields_of (take a.len a.cells) ≡ a
fields_of-take a named =
    let fits : a.len ≤ length a.cells = omega (arith, named.fits, named.all) in
    ap (λ cells. fields cells (length (take a.len a.cells))) (cells_of-take a.cells a.len named)
    ∙ ap (fields a.cells) (length-take-le a.len a.cells fits)
