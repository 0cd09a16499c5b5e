-- Lists of numbers, each greater than the one before.
use Rattle.std.proofs.Common.{◌≡◌, ℕ, suc, ◌-◌, ◌^◌, ◌<◌, ◌≤◌, false, None, Err, ap, arith}
use Rattle.std.specs.List.{flat_map}
use Rattle.std.specs.Ordering.{nat_cmp, is_lt}
use Rattle.std.proofs.lemmas.Cmp.{nat_cmp_total}
use Rattle.std.proofs.lemmas.List.Elements.{All-from_recursion, recursion_from_All}
use Rattle.ix_wire.specs.declared.fault.WireError.{WireError}
use Rattle.ix_wire.specs.Grammar.{items_at}
use Rattle.ix_wire.specs.Laws.{AreRising, RisingNumbersAreRead, FallenNumberIsRefused}
use Rattle.ix_wire.specs.Reading.{u32_at}
use Rattle.ix_wire.specs.Spelling.{u32_bytes}
use Rattle.ix_wire.proofs.Fields.{u32_where_spelled}
use Rattle.ix_wire.proofs.Items.{IsItems, items_reader}
use Rattle.ix_wire.proofs.Readers.{IsReader}
use Rattle.ix_wire.proofs.Steps.{passes_split}

abbrev IsNumber : ℕ → Type 0
IsNumber n = n < 2 ^ 32

u32_reader : IsReader u32_at u32_bytes IsNumber
u32_reader = record { is_read = u32_where_spelled.is_read; was_spelled = u32_where_spelled.was_spelled }

numbers_reader : (out_of_order : ℕ → WireError) (count : ℕ) → IsReader (items_at out_of_order u32_at nat_cmp count None) (flat_map u32_bytes) (IsItems IsNumber nat_cmp count)
numbers_reader out_of_order count = items_reader out_of_order u32_at u32_bytes IsNumber nat_cmp u32_reader nat_cmp_total count

pub rising_numbers_are_read : RisingNumbersAreRead
rising_numbers_are_read = record {
  is_read = λ out_of_order count from to ns are passes.
      let items : IsItems IsNumber nat_cmp count ns = record { counted = are.counted; valid = recursion_from_All IsNumber ns are.small; rising = are.rising } in
      (numbers_reader out_of_order count).is_read from to ns items passes;
  was_spelled = λ out_of_order count from to ns bytes e.
      let h = (numbers_reader out_of_order count).was_spelled from to ns bytes e in
      let are : AreRising count ns = record { counted = h.0.counted; small = All-from_recursion IsNumber ns h.0.valid; rising = h.0.rising } in
      (are, h.1);
}

not_above : (m n : ℕ) → n ≤ m → is_lt (nat_cmp m n) ≡ false
not_above m n le = grind arith

pub a_fallen_number_is_refused : FallenNumberIsRefused
unfolding items_at u32_bytes
a_fallen_number_is_refused out_of_order count m n from to two small le passes =
    let parts = passes_split from to (u32_bytes m) (u32_bytes n) passes in
    let first = u32_where_spelled.is_read from parts.0 m small parts.1 in
    let second = u32_where_spelled.is_read parts.0 to n (omega (arith, small, le)) parts.2 in
    let k : count ≡ suc (suc (count - 2)) = omega (arith, two) in
    rw (k, first, second, not_above m n le) (ap (λ at. Err (out_of_order at)) parts.1.moved)
