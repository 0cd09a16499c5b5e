-- Folding is of each byte.
use Rattle.std.proofs.Common.{◌≡◌, ℕ, zero, suc, List, [], ◌∷◌, length, map, Some, refl, ap}
use Rattle.std.specs.List.{slice_get}
use Rattle.ix_answers.specs.Pattern.{folded_byte}

pub folded-length : (text : List ℕ) → length (map folded_byte text) ≡ length text
folded-length [] = refl
folded-length (byte ∷ rest) = ap suc (folded-length rest)

pub folded-each : (text : List ℕ) (place byte : ℕ) → slice_get text place ≡ Some byte → slice_get (map folded_byte text) place ≡ Some (folded_byte byte)
folded-each [] place byte e = absurd (cc)
folded-each (first ∷ rest) zero byte e = let p : first ≡ byte = cc in ap (λ (b : ℕ). Some (folded_byte b)) p
folded-each (first ∷ rest) (suc k) byte e = folded-each rest k byte e
