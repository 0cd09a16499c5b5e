-- Which symbol names a pattern matches.
use Rattle.std.specs.Prelude.{ℕ, ◌+◌, ◌&&◌, ◌||◌, nat_le, nat_eq, if◌then◌else◌, Bool, List, [], ◌∷◌, map}
use Rattle.std.specs.List.{starts_with, ends_with}
use Rattle.std.specs.Str.{bytes_eq}

-- A to Z as a to z, every other byte as it is
abbrev pub folded_byte : ℕ → ℕ
folded_byte byte = if nat_le 65 byte && nat_le byte 90 then byte + 32 else byte

-- a text as it is compared: with A to Z as a to z where letters are folded
abbrev pub folded : Bool → List ℕ → List ℕ
folded fold text = if fold then map folded_byte text else text

-- whether a text stands somewhere in a name
abbrev pub stands_in : List ℕ → List ℕ → Bool
stands_in text [] = starts_with nat_eq [] text
stands_in text (byte ∷ rest) = starts_with nat_eq (byte ∷ rest) text || stands_in text rest

-- whether a text stands in a name: at its start, at its end, with both as all of it
abbrev pub stands_at : Bool → Bool → List ℕ → List ℕ → Bool
stands_at start end text name =
    if start then (if end then bytes_eq name text else starts_with nat_eq name text)
    else (if end then ends_with nat_eq name text else stands_in text name)

-- whether a name matches a pattern: its text, whether it stands at the start and at the end, and whether letters are folded
abbrev pub matches : List ℕ → Bool → Bool → Bool → List ℕ → Bool
matches text start end fold name = stands_at start end (folded fold text) (folded fold name)
