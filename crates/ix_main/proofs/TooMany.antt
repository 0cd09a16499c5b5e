-- Too many bytes are no script.
use Rattle.std.proofs.Common.{◌≡◌, ◌⊎◌, inl, inr, ℕ, suc, ◌<◌, ◌≤◌, nat_le, nat_lt, Bool, true, false, if◌then◌else◌, List, length, Option, Some, None, IfSome, refl, sym, subst, ◌∙◌, arith}
use Rattle.std.proofs.lemmas.Bool.Decides.{leb_tells}
use Rattle.ix_io.specs.declared.transfer.Intake.{Intake}
use Rattle.ix_io.specs.declared.transfer.Intake.TheVariants as intake
use Rattle.ix_io.specs.Transfer.{intake_of}
use Rattle.ix_plan.specs.declared.refusal.ScriptRefusal.{ScriptRefusal}
use Rattle.ix_plain.specs.declared.ending.Ending.{Ending}
use Rattle.ix_plain.specs.declared.ending.Ending.TheVariants.{Done, BadScript, DirFault, WriteFault, Memory, TooLarge, OpenFault, StoreDamaged}
use Rattle.ix_plain.specs.Ending.{ending_for, max_input}

abbrev IsTooLarge : Ending → Type 0
IsTooLarge Done = ⊥
IsTooLarge (BadScript refusal) = ⊥
IsTooLarge DirFault = ⊥
IsTooLarge WriteFault = ⊥
IsTooLarge Memory = ⊥
IsTooLarge TooLarge = Unit {0}
IsTooLarge OpenFault = ⊥
IsTooLarge StoreDamaged = ⊥

abbrev IsAll : Intake → Type 0
IsAll (intake.All bytes) = Unit {0}
IsAll intake.TooLarge = ⊥

abbrev IsTrue : Bool → Type 0
IsTrue true = Unit {0}
IsTrue false = ⊥

over_limit : (limit count : ℕ) → ((nat_le count limit ≡ true) × (count ≤ limit)) ⊎ ((nat_le count limit ≡ false) × (limit < count))
    → ((nat_lt limit count ≡ true) × (suc limit ≤ count)) ⊎ ((nat_lt limit count ≡ false) × (count < suc limit)) → nat_le count limit ≡ false → nat_lt limit count ≡ true
over_limit limit count (inl (fits, few)) over most = absurd (subst IsTrue (sym fits ∙ most) tt)
over_limit limit count (inr (other, many)) (inl (is, more)) most = is
over_limit limit count (inr (other, many)) (inr (lies, few)) most = absurd (omega (arith, many, few))

by_tests : (fits over : Bool) (whole : Intake) (script : Ending) → IsAll whole → (fits ≡ false → over ≡ true) → intake.TooLarge ≡ (if fits then whole else intake.TooLarge)
    → (if over then TooLarge else script) ≡ TooLarge
by_tests true over whole script all decided is = absurd (subst IsAll (sym is) all)
by_tests false true whole script all decided is = refl
by_tests false false whole script all decided is = absurd (subst IsTrue (sym (decided refl)) tt)

-- told bytes of which more than the limit were read are too many
pub are_too_many : (told : Option (List ℕ)) → IfSome told (λ bytes. intake.TooLarge ≡ intake_of max_input bytes) → IfSome told (λ bytes. ending_for bytes ≡ TooLarge)
are_too_many None read = tt
are_too_many (Some bytes) read =
    by_tests (nat_le (length bytes) max_input) (nat_lt max_input (length bytes)) (intake.All bytes) _ tt
    (over_limit max_input (length bytes) (leb_tells (length bytes) max_input) (leb_tells (suc max_input) (length bytes))) read

-- of told bytes that are too many, all follows from their being a script
pub too_many : (P : List ℕ → Type 0) (told : Option (List ℕ)) → IfSome told (λ bytes. ending_for bytes ≡ TooLarge) → IfSome told (λ bytes. ending_for bytes ≡ Done → P bytes)
too_many P None are = tt
too_many P (Some bytes) are = λ done. absurd (subst IsTooLarge (sym are ∙ done) tt)

pub whatever : {A : Type 0} {Q : Type 0} (known : Option A) → Q → IfSome known (λ a. Q)
whatever None is = tt
whatever (Some a) is = is
