-- An input that was read whole is what the source held.
use Rattle.std.proofs.Common.{◌≡◌, ℕ, List, [], Bool, true, false, Option, Some, None, IfSome, if◌then◌else◌, ap, subst}
use Rattle.ix_io.specs.declared.transfer.Intake.{Intake}
use Rattle.ix_io.specs.declared.transfer.Intake.TheVariants.{All, TooLarge}
use Rattle.ix_io.specs.Transfer.{intake_of}
use Rattle.ix_plain.specs.Ending.{max_input}
use Rattle.ix_main.specs.Input.{OfInput}

abbrev bytes_of : Intake → List ℕ
bytes_of (All bytes) = bytes
bytes_of TooLarge = []

abbrev IsAll : Intake → Type 0
IsAll (All bytes) = Unit {0}
IsAll TooLarge = ⊥

read_whole : (held bytes : List ℕ) (fits : Bool) → All bytes ≡ (if fits then All held else TooLarge) → bytes ≡ held
read_whole held bytes true is = ap bytes_of is
read_whole held bytes false is = absurd (subst IsAll is tt)

-- the bytes are what the source told
abbrev pub WasRead : Option (List ℕ) → List ℕ → Type 0
WasRead told bytes = IfSome told (λ all. All bytes ≡ intake_of max_input all)

-- what holds of the bytes that were read holds of those that were told
held : (P : List ℕ → Type 0) (told : Option (List ℕ)) (bytes : List ℕ) → WasRead told bytes → P bytes → IfSome told P
held P None bytes read is = tt
held P (Some all) bytes read is = subst P (read_whole all bytes _ read) is

of_input : (P : List ℕ → Type 0) (told : Option (List ℕ)) (bytes : List ℕ) → WasRead told bytes → P bytes → OfInput told P
of_input P None bytes read is = (bytes, is)
of_input P (Some all) bytes read is = subst P (read_whole all bytes _ read) is

pub of_input_both : {A B : Type 0} (P : List ℕ → A → B → Type 0) (known : Option A) (shown : Option B) (told : Option (List ℕ)) (bytes : List ℕ) → WasRead told bytes
    → IfSome known (λ a. IfSome shown (P bytes a)) → IfSome known (λ a. IfSome shown (λ t. OfInput told (λ b. P b a t)))
of_input_both P None shown told bytes read is = tt
of_input_both P (Some a) None told bytes read is = tt
of_input_both P (Some a) (Some t) told bytes read is = of_input (λ b. P b a t) told bytes read is

-- what follows of their being so, whatever else is known
pub held_beside : (Known Rest : Type 0) (Is : List ℕ → Type 0) (told : Option (List ℕ)) (bytes : List ℕ) → WasRead told bytes → (Is bytes → Rest) → IfSome told (λ b. Is b → Known → Rest)
held_beside Known Rest Is told bytes read is = held (λ b. Is b → Known → Rest) told bytes read (λ so known. is so)

pub held_beside_in : {A : Type 0} (Known Rest : Type 0) (Is : List ℕ → Type 0) (moves : Option A) (told : Option (List ℕ)) (bytes : List ℕ) → WasRead told bytes
    → IfSome moves (λ a. Is bytes → Rest) → IfSome moves (λ a. IfSome told (λ b. Is b → Known → Rest))
held_beside_in Known Rest Is None told bytes read is = tt
held_beside_in Known Rest Is (Some a) told bytes read is = held_beside Known Rest Is told bytes read is
