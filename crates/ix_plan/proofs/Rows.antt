-- Codes found by their words, in any table.
use Rattle.std.proofs.Common.{◌≡◌, ℕ, ◌<◌, ◌||◌, ◌&&◌, ltb, Bool, true, false, List, [], ◌∷◌, Option, Some, cond, bytes_eq, nat_eq, refl, sym, subst, arith}
use Rattle.std.specs.List.{list_all}
use Rattle.std.proofs.Common.{◌^◌, ◌≤◌, bit_or}
use Rattle.std.proofs.lemmas.Nat.{or_lt}
use Rattle.std.proofs.Math.Pow.{pow-lt}
use Rattle.ix_plan.specs.declared.values.WordSort.{WordSort}
use Rattle.ix_plan.specs.declared.values.WordSort.TheVariants.{Role, Relation, Prop}
use Rattle.ix_plan.specs.Values.{with_bit, width}
use Rattle.ix_types.specs.Codes.{Table, code_of_name, has_code, kinds, langs, roles, props}

first_or_later : (b : Bool) (first code : ℕ) (rest : Option ℕ) (later : Bool)
    → cond b (Some first) rest ≡ Some code → (rest ≡ Some code → later ≡ true) → (nat_eq first code || later) ≡ true
first_or_later true first code rest later h k = grind arith
first_or_later false first code rest later h k = let t : later ≡ true = k h in grind arith

pub code_of_row : (table : Table) (name : List ℕ) (code : ℕ) → code_of_name table name ≡ Some code → has_code table code ≡ true
code_of_row [] name code h = cc
code_of_row (row ∷ rows) name code h =
    first_or_later (bytes_eq row.1 name) row.0 code (code_of_name rows name) (has_code rows code) h (code_of_row rows name code)

pub kind_of_word : (name : List ℕ) (code : ℕ) → code_of_name kinds name ≡ Some code → has_code kinds code ≡ true
kind_of_word = code_of_row kinds

pub lang_of_word : (name : List ℕ) (code : ℕ) → code_of_name langs name ≡ Some code → has_code langs code ≡ true
lang_of_word = code_of_row langs

below_first : (b t : Bool) (first code limit : ℕ) (rest : Option ℕ) → (ltb first limit && t) ≡ true
    → cond b (Some first) rest ≡ Some code → (t ≡ true → rest ≡ Some code → code < limit) → code < limit
below_first true t first code limit rest all h k = grind arith
below_first false true first code limit rest all h k = k refl h
below_first false false first code limit rest all h k = grind arith

code_below : (limit : ℕ) (table : Table) → list_all (λ row. ltb row.0 limit) table ≡ true
    → (name : List ℕ) (code : ℕ) → code_of_name table name ≡ Some code → code < limit
code_below limit [] all name code h = cc
code_below limit (row ∷ rows) all name code h =
    below_first (bytes_eq row.1 name) (list_all (λ row. ltb row.0 limit) rows) row.0 code limit (code_of_name rows name) all h (λ below. code_below limit rows below name code)

pub role_below : (name : List ℕ) (code : ℕ) → code_of_name roles name ≡ Some code → code < 19
role_below = code_below 19 roles refl

pub prop_below : (name : List ℕ) (code : ℕ) → code_of_name props name ≡ Some code → code < 9
prop_below = code_below 9 props refl

pub bit_below : (width mask bit : ℕ) → mask < 2 ^ width → bit < width → bit_or mask (2 ^ bit) < 2 ^ width
bit_below width mask bit small low = or_lt width mask (2 ^ bit) small (pow-lt low)

-- a mask stays as wide as its sort
pub with_bit_below : (sort : WordSort) (mask bit more : ℕ) → more ≡ with_bit mask bit → mask < 2 ^ width sort → bit < width sort → more < 2 ^ width sort
with_bit_below sort mask bit more is small low = subst (λ n. n < 2 ^ width sort) (sym is) (bit_below (width sort) mask bit small low)

pub width_at_most : (sort : WordSort) → width sort ≤ 19
width_at_most Role = omega arith
width_at_most Relation = omega arith
width_at_most Prop = omega arith

-- bits of any sort are roles
pub roles_fit : (sort : WordSort) (mask : ℕ) → mask < 2 ^ width sort → mask < 2 ^ 19
roles_fit Role mask small = small
roles_fit Relation mask small = small
roles_fit Prop mask small = omega (arith, small)
