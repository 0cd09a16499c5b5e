-- The masks that lists of words give.
use Rattle.std.proofs.Common.{◌≡◌, ℕ, ◌<◌, ◌≤◌, ◌^◌, ◌+◌, ◌*◌, ◌-◌, leb, Bool, true, false, bit_and, bit_or, eqb, cond, refl, sym, ap, arith, ◌∙◌}
use Rattle.std.specs.Fmt.{decimal}
use Rattle.std.proofs.lemmas.Bool.{leb-true}
use Rattle.std.proofs.lemmas.Nat.{or_lt, le_or_r, or_block, and_block, and_mask, pow_pos, pow-add}
use Rattle.std.proofs.Math.Nat.{mod-eq_of_lt}
use Rattle.std.proofs.Math.Pow.{pow-lt}
use Rattle.serde_json.specs.Data.{Data, Items, no_items, item}
use Rattle.ix_types.specs.Codes.{code_of_name, roles, props, relation_bits}
use Rattle.ix_plan.specs.declared.refusal.What.TheVariants.{Words}
use Rattle.ix_plan.specs.Read.{Read, within, allowed, bad_value}
use Rattle.ix_plan.specs.Json.{items_count, in_order}
use Rattle.ix_plan.specs.Values.{tested, string_of, with_bit, bits_from, bits_of, some_bits_from, some_bits_of, role_of, relation_of, prop_of}
use Rattle.ix_plan.specs.Keeps.{AreRoles, AreRelations}
use Rattle.ix_plan.proofs.Lengths.{Keeps, then_keeps, within_keeps, anything}
use Rattle.ix_plan.proofs.Keeping.{weaker, allowed_keeps, tested_keeps, order_keeps, items_keep}
use Rattle.ix_plan.proofs.Rows.{role_below, prop_below, bit_below}

-- each word adds a bit to masks of a kind
abbrev Adds : (ℕ → Type 0) → (Data → Read ℕ) → Type 0
Adds I word = (mask : ℕ) (d : Data) → I mask → Keeps (λ bit. I (with_bit mask bit)) (word d)

bits_keep : (I : ℕ → Type 0) (word : Data → Read ℕ) → Adds I word → I 0 → (d : Data) → Keeps I (bits_of word d)
bits_keep I word adds zero_is d = items_keep I Words 64 (bits_from word) d (λ ds. order_keeps I (λ mask. word) with_bit adds 0 0 ds zero_is)

abbrev IsSome : (ℕ → Type 0) → ℕ → Type 0
IsSome I mask = (0 < mask) × I mask

with_bit_some : (mask bit : ℕ) → 0 < with_bit mask bit
with_bit_some mask bit = omega (arith, pow_pos bit, le_or_r mask (2 ^ bit))

some_more : (I : ℕ → Type 0) (word : Data → Read ℕ) → Adds I word → (mask : ℕ) (d : Data) → I mask → Keeps (λ bit. IsSome I (with_bit mask bit)) (word d)
some_more I word adds mask d is = weaker (λ bit. I (with_bit mask bit)) (λ bit. IsSome I (with_bit mask bit)) (word d) (adds mask d is) (λ bit more. (with_bit_some mask bit, more))

count_some : (n : ℕ) → eqb (n + 1) 0 ≡ false
count_some n = grind arith

chosen : (b : Bool) (P : ℕ → Type 0) (x y : Read ℕ) → b ≡ false → Keeps P y → Keeps P (cond b x y)
chosen true P x y h k = cc
chosen false P x y h k = k

some_from : (I : ℕ → Type 0) (word : Data → Read ℕ) → Adds I word → I 0 → (ds : Items) → Keeps (IsSome I) (some_bits_from word ds)
some_from I word adds zero_is no_items = tt
some_from I word adds zero_is (item d ds) =
    chosen (eqb (items_count ds + 1) 0) (IsSome I) bad_value (bits_from word (item d ds)) (count_some (items_count ds))
    (then_keeps (λ bit. IsSome I (with_bit 0 bit)) (IsSome I) (within (decimal 0) (word d)) (λ bit. in_order (λ mask. word) with_bit (with_bit 0 bit) (0 + 1) ds)
    (within_keeps (λ bit. IsSome I (with_bit 0 bit)) (decimal 0) (word d) (some_more I word adds 0 d zero_is))
    (λ bit is. order_keeps (IsSome I) (λ mask. word) with_bit (λ mask e some. some_more I word adds mask e some.1) (with_bit 0 bit) (0 + 1) ds is))

some_keep : (I : ℕ → Type 0) (word : Data → Read ℕ) → Adds I word → I 0 → (d : Data) → Keeps (IsSome I) (some_bits_of word d)
some_keep I word adds zero_is d = items_keep (IsSome I) Words 64 (some_bits_from word) d (some_from I word adds zero_is)

abbrev IsBelow : ℕ → ℕ → Type 0
IsBelow limit n = n < limit

role_keeps : (d : Data) → Keeps (IsBelow 19) (role_of d)
role_keeps d = then_keeps (λ _. Unit {0}) (IsBelow 19) (string_of d) (λ s. allowed (code_of_name roles s)) (anything (string_of d)) (λ s _. allowed_keeps (IsBelow 19) (code_of_name roles s) (role_below s))

prop_keeps : (d : Data) → Keeps (IsBelow 9) (prop_of d)
prop_keeps d = then_keeps (λ _. Unit {0}) (IsBelow 9) (string_of d) (λ s. allowed (code_of_name props s)) (anything (string_of d)) (λ s _. allowed_keeps (IsBelow 9) (code_of_name props s) (prop_below s))

abbrev IsWide : ℕ → ℕ → Type 0
IsWide width mask = mask < 2 ^ width

role_adds : Adds (IsWide 19) role_of
role_adds mask d small = weaker (IsBelow 19) (λ bit. IsWide 19 (with_bit mask bit)) (role_of d) (role_keeps d) (λ bit low. bit_below 19 mask bit small low)

prop_adds : Adds (IsWide 9) prop_of
prop_adds mask d small = weaker (IsBelow 9) (λ bit. IsWide 9 (with_bit mask bit)) (prop_of d) (prop_keeps d) (λ bit low. bit_below 9 mask bit small low)

pub props_keep : (d : Data) → Keeps (IsWide 9) (bits_of prop_of d)
props_keep = bits_keep (IsWide 9) prop_of prop_adds (omega arith)

pub roles_keep : (d : Data) → Keeps AreRoles (some_bits_of role_of d)
roles_keep = some_keep (IsWide 19) role_of role_adds (omega arith)

-- relation bits alone: a number of ten bits, nine places up
record IsUp (mask : ℕ) : Type 0 where
  above : ℕ
  small : above < 2 ^ 10
  is : mask ≡ above * 2 ^ 9

abbrev IsRelationBit : ℕ → Type 0
IsRelationBit bit = (9 ≤ bit) × (bit < 19)

relation_keeps : (d : Data) → Keeps IsRelationBit (relation_of d)
relation_keeps d = then_keeps (IsBelow 19) IsRelationBit (role_of d) (λ bit. tested (leb 9 bit) bit) (role_keeps d) (λ bit low. tested_keeps IsRelationBit (leb 9 bit) bit (λ h. (leb-true 9 bit h, low)))

joined : (a b : ℕ) → bit_or (a * 2 ^ 9) (b * 2 ^ 9) ≡ bit_or a b * 2 ^ 9
joined a b =
    let left : a * 2 ^ 9 ≡ a * 2 ^ 9 + 0 = omega arith in
    let right : b * 2 ^ 9 ≡ b * 2 ^ 9 + 0 = omega arith in
    let all : bit_or a b * 2 ^ 9 + 0 ≡ bit_or a b * 2 ^ 9 = omega arith in
    ap (λ x. bit_or x (b * 2 ^ 9)) left ∙ ap (λ y. bit_or (a * 2 ^ 9 + 0) y) right ∙ or_block 9 a b 0 0 (omega arith) (omega arith) ∙ all

up_more : (mask bit : ℕ) → IsUp mask → IsRelationBit bit → IsUp (with_bit mask bit)
up_more mask bit up low =
    let j : ℕ = bit - 9 in
    let at : j + 9 ≡ bit = omega (arith, low.0) in
    let lower : j < 10 = omega (arith, low.0, low.1) in
    let raised : 2 ^ bit ≡ 2 ^ j * 2 ^ 9 = ap (λ k. 2 ^ k) (sym at) ∙ pow-add 2 j 9 in
    record {
      above = bit_or up.above (2 ^ j);
      small = or_lt 10 up.above (2 ^ j) up.small (pow-lt lower);
      is = ap (λ m. bit_or m (2 ^ bit)) up.is ∙ ap (λ m. bit_or (up.above * 2 ^ 9) m) raised ∙ joined up.above (2 ^ j);
    }

up_none : IsUp 0
up_none = record { above = 0; small = omega arith; is = refl }

relation_adds : Adds IsUp relation_of
relation_adds mask d up = weaker IsRelationBit (λ bit. IsUp (with_bit mask bit)) (relation_of d) (relation_keeps d) (λ bit low. up_more mask bit up low)

alone : (mask : ℕ) → IsUp mask → bit_and mask relation_bits ≡ mask
alone mask up =
    let left : up.above * 2 ^ 9 ≡ up.above * 2 ^ 9 + 0 = omega arith in
    let all : bit_and up.above 1023 ≡ up.above = and_mask up.above 10 ∙ mod-eq_of_lt up.small in
    let back : up.above * 2 ^ 9 + 0 ≡ up.above * 2 ^ 9 = omega arith in
    ap (λ m. bit_and m relation_bits) (up.is ∙ left) ∙ and_block 9 up.above 1023 0 0 (omega arith) (omega arith) ∙ ap (λ a. a * 2 ^ 9 + 0) all ∙ back ∙ sym up.is

pub relations_keep : (d : Data) → Keeps AreRelations (some_bits_of relation_of d)
relations_keep d = weaker (IsSome IsUp) AreRelations (some_bits_of relation_of d) (some_keep IsUp relation_of relation_adds up_none d) (λ mask some. (some.0, alone mask some.1))
