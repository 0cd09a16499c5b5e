-- What holds of the spellings and of reading them.
use Rattle.std.specs.Prelude.{◌≡◌, ℕ, ◌+◌, ◌^◌, ◌<◌, ◌≤◌, List, ◌++◌, length, All, Bool, IsTrue, None, Ok, Err}
use Rattle.std.specs.List.{flat_map}
use Rattle.std.specs.List.Sorted.{IsStrictlySortedBy}
use Rattle.std.specs.Ordering.{nat_cmp}
use Rattle.ix_wire.specs.declared.fault.WireError.{WireError}
use Rattle.ix_wire.specs.Input.{Input, Passes}
use Rattle.ix_wire.specs.Read.{Read}
use Rattle.ix_wire.specs.Grammar.{items_at}
use Rattle.ix_wire.specs.Spelling.{IsBytes, u32_bytes, text_bytes}
use Rattle.ix_wire.specs.Reading.{is_text, u32_at, text_at}

-- A number below the limit is read where its spelling stands, whatever follows. Of bytes, what is read was
-- spelled there.
pub record IsReadWhereSpelled (read : Input → Read WireError ℕ) (spelling : ℕ → List ℕ) (limit : ℕ) : Type 0 where
  pub is_read : (from to : Input) (n : ℕ) → n < limit → Passes from (spelling n) to → read from ≡ Ok (n, to)
  pub was_spelled : (from to : Input) (n : ℕ) → IsBytes from.rest → read from ≡ Ok (n, to) → (n < limit) × Passes from (spelling n) to

-- the same of a text
pub record TextIsReadWhereSpelled : Type 0 where
  pub is_read : (may_be_empty : Bool) (from to : Input) (text : List ℕ) → IsTrue (is_text may_be_empty text) → Passes from (text_bytes text) to → text_at may_be_empty from ≡ Ok (text, to)
  pub was_spelled : (may_be_empty : Bool) (from to : Input) (text : List ℕ) → IsBytes from.rest → text_at may_be_empty from ≡ Ok (text, to) → IsTrue (is_text may_be_empty text) × Passes from (text_bytes text) to

-- no spelling of a number below the limit begins another
abbrev pub BeginsNoOther : (ℕ → List ℕ) → ℕ → Type 0
BeginsNoOther spelling limit =
    (m n : ℕ) (x y : List ℕ) → m < limit → n < limit → spelling m ++ x ≡ spelling n ++ y → (m ≡ n) × (x ≡ y)

-- no spelling of a text begins another
abbrev pub TextBeginsNoOther : Type 0
TextBeginsNoOther =
    (a b : Bool) (s t x y : List ℕ) → IsTrue (is_text a s) → IsTrue (is_text b t) → text_bytes s ++ x ≡ text_bytes t ++ y → (s ≡ t) × (x ≡ y)

-- what stands between two places, and what then stands up to a third
abbrev pub PassesJoin : Type 0
PassesJoin = (from mid to : Input) (a b : List ℕ) → Passes from a mid → Passes mid b to → Passes from (a ++ b) to

-- between the parts of what stands there is a place
abbrev pub PassesSplit : Type 0
PassesSplit = (from to : Input) (a b : List ℕ) → Passes from (a ++ b) to → (mid : Input) × Passes from a mid × Passes mid b to

-- what is left of bytes is bytes
abbrev pub PassesBytes : Type 0
PassesBytes = (from to : Input) (a : List ℕ) → IsBytes from.rest → Passes from a to → IsBytes to.rest

-- so many numbers that rise strictly
pub record AreRising (count : ℕ) (ns : List ℕ) : Type 0 where
  pub counted : length ns ≡ count
  pub small : All (λ n. n < 2 ^ 32) ns
  pub rising : IsStrictlySortedBy nat_cmp ns

-- A list of items, here of numbers, is read where its items stand one after the other and rise strictly. Of bytes, what is
-- read was spelled there so.
pub record RisingNumbersAreRead : Type 0 where
  pub is_read : (out_of_order : ℕ → WireError) (count : ℕ) (from to : Input) (ns : List ℕ) → AreRising count ns → Passes from (flat_map u32_bytes ns) to → items_at out_of_order u32_at nat_cmp count None from ≡ Ok (ns, to)
  pub was_spelled : (out_of_order : ℕ → WireError) (count : ℕ) (from to : Input) (ns : List ℕ) → IsBytes from.rest → items_at out_of_order u32_at nat_cmp count None from ≡ Ok (ns, to) → AreRising count ns × Passes from (flat_map u32_bytes ns) to

-- a second item that isn't greater than the first is a fault at its start, whatever follows
abbrev pub FallenNumberIsRefused : Type 0
FallenNumberIsRefused =
    (out_of_order : ℕ → WireError) (count m n : ℕ) (from to : Input) → 2 ≤ count → m < 2 ^ 32 → n ≤ m → Passes from (u32_bytes m ++ u32_bytes n) to → items_at out_of_order u32_at nat_cmp count None from ≡ Err (out_of_order (from.at + 4))
