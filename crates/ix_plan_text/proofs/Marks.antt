-- Words that were printed read back as their codes and bits.
use Rattle.std.proofs.Common.{◌≡◌, ℕ, suc, ◌≤◌, ◌<◌, ◌+◌, ◌*◌, ◌^◌, ◌%◌, ◌/◌, ◌-◌, ◌≢◌, ◌⊎◌, inl, inr, ◌&&◌, ◌||◌, leb, ltb, nat_eq, eqb, Bool, true, false, List, [], ◌∷◌, length, map, min, Option, Some, None, unwrap_or, Ok, Err, refl, sym, ap, ◌∙◌, subst, cond, arith, le-leb, le-ltb, eqb-true, bytes_eq, bit_or, bit_and, codes}
use Rattle.std.specs.Int.{bit_at}
use Rattle.std.specs.Fmt.{decimal}
use Rattle.std.specs.List.{AllByRecursion, filter, list_all}
use Rattle.std.proofs.lemmas.Nat.{mod-pow-add, or_shifted, or_comm, pow_pos, and_mod, and_le_r}
use Rattle.std.proofs.lemmas.Bool.{cases_lt}
use Rattle.std.proofs.Math.Pow.{mod-mod-pow}
use Rattle.std.proofs.lemmas.Nat.Bits.{bit_at-lt, bit_at_and}
use Rattle.std.proofs.Math.Nat.{mod-eq_of_lt, zero-mod}
use Rattle.serde_json.specs.Data.{Data, string, Items, no_items, item}
use Rattle.serde_json.specs.View.{items_of}
use Rattle.ix_types.specs.Codes.{Table, code_of_name, name_of_code, has_code, kinds, langs, roles, props, relation_bits}
use Rattle.ix_plan.specs.declared.refusal.What.TheVariants.{Words}
use Rattle.ix_plan.specs.Read.{Read, ◌>>=◌, within, allowed}
use Rattle.ix_plan.specs.Json.{in_order, items_count}
use Rattle.ix_plan.specs.Values.{word_of, role_of, relation_of, prop_of, with_bit, bits_from, bits_of, some_bits_from, some_bits_of, tested}
use Rattle.ix_plan.specs.Keeps.{AreRoles, AreRelations}
use Rattle.ix_plan_text.specs.Printed.{word_data, row_data, words_data}
use Rattle.ix_plan_text.proofs.Basics.{then_ok, counted}

-- ---- codes

abbrev is_code : Option ℕ → ℕ → Bool
is_code None n = false
is_code (Some m) n = nat_eq m n

code_is : (o : Option ℕ) (n : ℕ) → is_code o n ≡ true → o ≡ Some n
code_is None n h = cc
code_is (Some m) n h = ap Some (eqb-true m n h)

abbrev finds : Table → ℕ × List ℕ → Bool
finds table row = is_code (code_of_name table row.1) row.0

found_here : (table : Table) (b : Bool) (code first : ℕ) (name : List ℕ) (rest : Option (List ℕ)) (later all : Bool) → nat_eq first code ≡ b
    → (is_code (code_of_name table name) first && all) ≡ true → (b || later) ≡ true
    → (all ≡ true → later ≡ true → code_of_name table (unwrap_or rest []) ≡ Some code)
    → code_of_name table (unwrap_or (cond b (Some name) rest) []) ≡ Some code
found_here table true code first name rest later all same each some next =
    let own : is_code (code_of_name table name) first ≡ true = front (is_code (code_of_name table name) first) all each in
    code_is (code_of_name table name) first own ∙ ap Some (eqb-true first code same)
  where
    front : (a b : Bool) → (a && b) ≡ true → a ≡ true
    front true b h = refl
    front false b h = h
found_here table false code first name rest later all same each some next = next (back (is_code (code_of_name table name) first) all each) some
  where
    back : (a b : Bool) → (a && b) ≡ true → b ≡ true
    back true b h = h
    back false b h = cc

named : (table rows : Table) (code : ℕ) → list_all (finds table) rows ≡ true → has_code rows code ≡ true → code_of_name table (unwrap_or (name_of_code rows code) []) ≡ Some code
named table [] code each some = cc
named table (row ∷ rows) code each some =
    found_here table (nat_eq row.0 code) code row.0 row.1 (name_of_code rows code) (has_code rows code) (list_all (finds table) rows) refl each some (named table rows code)

word_back : (table : Table) (code : ℕ) → list_all (finds table) table ≡ true → has_code table code ≡ true → word_of table (word_data table code) ≡ Ok code
word_back table code each some = ap allowed (named table table code each some)

pub kind_back : (code : ℕ) → has_code kinds code ≡ true → word_of kinds (word_data kinds code) ≡ Ok code
kind_back code = word_back kinds code refl

pub lang_back : (code : ℕ) → has_code langs code ≡ true → word_of langs (word_data langs code) ≡ Ok code
lang_back code = word_back langs code refl

-- ---- bits

-- the rows have the numbers from k on
abbrev counts_from : ℕ → Table → Bool
counts_from k [] = true
counts_from k (row ∷ rows) = nat_eq row.0 k && counts_from (k + 1) rows

-- the word of a row whose bit is set reads as the row's number
abbrev ReadsRow : (Data → Read ℕ) → ℕ → ℕ × List ℕ → Type 0
ReadsRow word mask row = eqb (bit_at mask row.0) 1 ≡ true → word (string row.1) ≡ Ok row.0

abbrev is_set : ℕ → ℕ × List ℕ → Bool
is_set mask row = eqb (bit_at mask row.0) 1

-- the bits below one more
more_set : (mask k : ℕ) → bit_at mask k ≡ 1 → with_bit (mask % 2 ^ k) k ≡ mask % 2 ^ (k + 1)
more_set mask k set =
    let low : mask % 2 ^ k < 2 ^ k = omega (arith, pow_pos k) in
    let shifted : bit_or (1 * 2 ^ k) (mask % 2 ^ k) ≡ 1 * 2 ^ k + mask % 2 ^ k = or_shifted 1 k (mask % 2 ^ k) low in
    let one : 1 * 2 ^ k ≡ 2 ^ k = omega arith in
    let order : k + 1 ≡ 1 + k = omega arith in
    or_comm (mask % 2 ^ k) (2 ^ k) ∙ ap (λ n. bit_or n (mask % 2 ^ k)) (sym one) ∙ shifted ∙ ap (λ b. b * 2 ^ k + mask % 2 ^ k) (sym set) ∙ sym (mod-pow-add mask 1 k) ∙ ap (λ n. mask % 2 ^ n) (sym order)

more_clear : (mask k : ℕ) → bit_at mask k ≡ 0 → mask % 2 ^ k ≡ mask % 2 ^ (k + 1)
more_clear mask k clear =
    let order : k + 1 ≡ 1 + k = omega arith in
    let none : 0 * 2 ^ k + mask % 2 ^ k ≡ mask % 2 ^ k = omega arith in
    sym none ∙ ap (λ b. b * 2 ^ k + mask % 2 ^ k) (sym clear) ∙ sym (mod-pow-add mask 1 k) ∙ ap (λ n. mask % 2 ^ n) (sym order)

both_true : (a b : Bool) → (a && b) ≡ true → (a ≡ true) × (b ≡ true)
both_true true b h = (refl, h)
both_true false b h = cc

clear_bit : (mask k : ℕ) → eqb (bit_at mask k) 1 ≡ false → bit_at mask k ≡ 0
clear_bit mask k h = omega (arith, bit_at-lt mask k, ne_one (bit_at mask k) h)
  where
    ne_one : (n : ℕ) → eqb n 1 ≡ false → n ≢ 1
    ne_one n h e = let t : eqb n 1 ≡ true = ap (λ m. eqb m 1) e in cc

abbrev rest_of : (Data → Read ℕ) → ℕ → ℕ → ℕ → List (ℕ × List ℕ) → Read ℕ
rest_of word mask k i rows = in_order (λ m. word) with_bit (mask % 2 ^ k) i (items_of (map row_data rows))

row_back : (word : Data → Read ℕ) (mask : ℕ) (row : ℕ × List ℕ) (rows : List (ℕ × List ℕ)) (k i : ℕ) (b : Bool) (r : Read ℕ) → is_set mask row ≡ b → row.0 ≡ k → ReadsRow word mask row
    → ((j : ℕ) → rest_of word mask (k + 1) j rows ≡ r) → rest_of word mask k i (cond b (row ∷ rows) rows) ≡ r
row_back word mask row rows k i true r set same reads next =
    let own : word (string row.1) ≡ Ok row.0 = reads set in
    let bit : bit_at mask k ≡ 1 = subst (λ n. bit_at mask n ≡ 1) same (eqb-true (bit_at mask row.0) 1 set) in
    let mark : with_bit (mask % 2 ^ k) row.0 ≡ mask % 2 ^ (k + 1) = ap (with_bit (mask % 2 ^ k)) same ∙ more_set mask k bit in
    ap (λ found. within (decimal i) found >>= λ n. in_order (λ m. word) with_bit (with_bit (mask % 2 ^ k) n) (i + 1) (items_of (map row_data rows))) own
    ∙ ap (λ n. in_order (λ m. word) with_bit n (i + 1) (items_of (map row_data rows))) mark
    ∙ next (i + 1)
row_back word mask row rows k i false r set same reads next =
    let bit : bit_at mask k ≡ 0 = clear_bit mask k (subst (λ n. eqb (bit_at mask n) 1 ≡ false) same set) in
    ap (λ n. in_order (λ m. word) with_bit n i (items_of (map row_data rows))) (more_clear mask k bit) ∙ next i

rows_back : (word : Data → Read ℕ) (mask : ℕ) (rows : Table) (k i : ℕ) → counts_from k rows ≡ true → AllByRecursion (ReadsRow word mask) rows
    → rest_of word mask k i (filter (is_set mask) rows) ≡ Ok (mask % 2 ^ (k + length rows))
rows_back word mask [] k i counts reads = let e : k ≡ k + length {A = ℕ × List ℕ} [] = omega arith in ap (λ n. Ok (mask % 2 ^ n)) e
rows_back word mask (row ∷ rows) k i counts reads =
    let own : (nat_eq row.0 k ≡ true) × (counts_from (k + 1) rows ≡ true) = both_true (nat_eq row.0 k) (counts_from (k + 1) rows) counts in
    let e : k + 1 + length rows ≡ k + length (row ∷ rows) = omega arith in
    row_back word mask row (filter (is_set mask) rows) k i (is_set mask row) (Ok (mask % 2 ^ (k + length (row ∷ rows)))) refl (eqb-true row.0 k own.0) reads.0
    (λ j. rows_back word mask rows (k + 1) j own.1 reads.1 ∙ ap (λ n. Ok (mask % 2 ^ n)) e)

-- all bits of a mask
marks_back : (word : Data → Read ℕ) (mask : ℕ) (table : Table) → counts_from 0 table ≡ true → AllByRecursion (ReadsRow word mask) table → mask < 2 ^ length table
    → bits_from word (items_of (map row_data (filter (is_set mask) table))) ≡ Ok mask
marks_back word mask table counts reads small =
    let none : 0 ≡ mask % 2 ^ 0 = omega arith in
    let all : 0 + length table ≡ length table = omega arith in
    ap (λ n. in_order (λ m. word) with_bit n 0 (items_of (map row_data (filter (is_set mask) table)))) none
    ∙ rows_back word mask table 0 0 counts reads ∙ ap (λ n. Ok (mask % 2 ^ n)) all ∙ ap Ok (mod-eq_of_lt small)

filter_shorter : (mask : ℕ) (rows : List (ℕ × List ℕ)) → length (filter (is_set mask) rows) ≤ length rows
filter_shorter mask [] = omega arith
filter_shorter mask (row ∷ rows) = shorter (is_set mask row) row (filter (is_set mask) rows) rows (filter_shorter mask rows)
  where
    shorter : (b : Bool) (row : ℕ × List ℕ) (some rows : List (ℕ × List ℕ)) → length some ≤ length rows → length (cond b (row ∷ some) some) ≤ length (row ∷ rows)
    shorter true row some rows le = omega (arith, le)
    shorter false row some rows le = omega (arith, le)

few_marks : (mask : ℕ) (table : Table) → length table ≤ 64 → items_count (items_of (map row_data (filter (is_set mask) table))) ≤ 64
few_marks mask table few = omega (arith, counted row_data (filter (is_set mask) table), filter_shorter mask table)

all_marks : (word : Data → Read ℕ) (mask : ℕ) (table : Table) → length table ≤ 64 → counts_from 0 table ≡ true → AllByRecursion (ReadsRow word mask) table → mask < 2 ^ length table
    → bits_of word (words_data table mask) ≡ Ok mask
all_marks word mask table few counts reads small = rw (le-ltb 64 (items_count (items_of (map row_data (filter (is_set mask) table)))) (few_marks mask table few)) (marks_back word mask table counts reads small)

count_some : (n : ℕ) → eqb (n + 1) 0 ≡ false
count_some n = grind arith

some_from : (word : Data → Read ℕ) (mask : ℕ) (ds : Items) → 0 < mask → bits_from word ds ≡ Ok mask → some_bits_from word ds ≡ Ok mask
some_from word mask no_items some is = let none : 0 ≡ mask = cc in absurd (omega (arith, none))
some_from word mask (item d ds) some is = rw (count_some (items_count ds)) is

some_marks : (word : Data → Read ℕ) (mask : ℕ) (table : Table) → length table ≤ 64 → counts_from 0 table ≡ true → AllByRecursion (ReadsRow word mask) table → mask < 2 ^ length table → 0 < mask
    → some_bits_of word (words_data table mask) ≡ Ok mask
some_marks word mask table few counts reads small some =
    rw (le-ltb 64 (items_count (items_of (map row_data (filter (is_set mask) table)))) (few_marks mask table few))
    (some_from word mask (items_of (map row_data (filter (is_set mask) table))) some (marks_back word mask table counts reads small))

-- each word of a table reads as its row's number
each_reads : (table rows : Table) (mask : ℕ) → list_all (finds table) rows ≡ true → AllByRecursion (ReadsRow (word_of table) mask) rows
each_reads table [] mask each = tt
each_reads table (row ∷ rows) mask each =
    let own : (finds table row ≡ true) × (list_all (finds table) rows ≡ true) = both_true (finds table row) (list_all (finds table) rows) each in
    (λ set. ap allowed (code_is (code_of_name table row.1) row.0 own.0), each_reads table rows mask own.1)

pub props_back : (mask : ℕ) → mask < 2 ^ 9 → bits_of prop_of (words_data props mask) ≡ Ok mask
props_back mask small = all_marks prop_of mask props (omega arith) refl (each_reads props props mask refl) small

pub roles_back : (mask : ℕ) → AreRoles mask → some_bits_of role_of (words_data roles mask) ≡ Ok mask
roles_back mask are = some_marks role_of mask roles (omega arith) refl (each_reads roles roles mask refl) are.1 are.0

-- a mask of relations alone has none of the nine low bits
low_none : (mask : ℕ) → bit_and mask relation_bits ≡ mask → mask % 2 ^ 9 ≡ 0
low_none mask only = ap (λ n. n % 2 ^ 9) (sym only) ∙ and_mod mask relation_bits 9 ∙ none (mask % 2 ^ 9)
  where
    none : (n : ℕ) → bit_and n 0 ≡ 0
    none n = omega (arith, and_le_r n 0)

relation_bit : (mask k : ℕ) → bit_and mask relation_bits ≡ mask → bit_at mask k ≡ 1 → 9 ≤ k
relation_bit mask k only set = high (cases_lt k 9)
  where
    low_bit : k < 9 → 9 ≤ k
    low_bit low =
        let over : ℕ = 8 - k in
        let nine : over + (1 + k) ≡ 9 = omega (arith, low) in
        let gone : mask % 2 ^ (1 + k) ≡ 0 =
        sym (mod-mod-pow mask over (1 + k)) ∙ ap (λ n. mask % 2 ^ n % 2 ^ (1 + k)) nine ∙ ap (λ n. n % 2 ^ (1 + k)) (low_none mask only) ∙ zero-mod (2 ^ (1 + k)) in
        let split : mask % 2 ^ (1 + k) ≡ bit_at mask k * 2 ^ k + mask % 2 ^ k = mod-pow-add mask 1 k in
        let one : bit_at mask k * 2 ^ k ≡ 1 * 2 ^ k = ap (λ b. b * 2 ^ k) set in
        absurd (omega (arith, gone, split, one, pow_pos k))

    high : (k < 9) ⊎ (9 ≤ k) → 9 ≤ k
    high (inl low) = low_bit low
    high (inr le) = le

each_relation : (rows : Table) (mask : ℕ) → bit_and mask relation_bits ≡ mask → list_all (finds roles) rows ≡ true → AllByRecursion (ReadsRow relation_of mask) rows
each_relation [] mask only each = tt
each_relation (row ∷ rows) mask only each =
    let own : (finds roles row ≡ true) × (list_all (finds roles) rows ≡ true) = both_true (finds roles row) (list_all (finds roles) rows) each in
    (λ set. read row.1 row.0 (ap allowed (code_is (code_of_name roles row.1) row.0 own.0)) (relation_bit mask row.0 only (eqb-true (bit_at mask row.0) 1 set)), each_relation rows mask only own.1)
  where
    read : (name : List ℕ) (bit : ℕ) → role_of (string name) ≡ Ok bit → 9 ≤ bit → relation_of (string name) ≡ Ok bit
    read name bit is high = rw (is, le-leb 9 bit high) refl

pub relations_back : (mask : ℕ) → AreRelations mask → some_bits_of relation_of (words_data roles mask) ≡ Ok mask
relations_back mask are = some_marks relation_of mask roles (omega arith) refl (each_relation roles mask are.1 refl) (small mask are.1) are.0
  where
    small : (mask : ℕ) → bit_and mask relation_bits ≡ mask → mask < 2 ^ 19
    small mask only = omega (arith, and_le_r mask relation_bits, only)
