-- The values of fields: texts, numbers, truth values, words and USRs.
use Rattle.std.specs.Prelude.{ℕ, ◌^◌, ◌==◌, ◌&&◌, nat_le, if◌then◌else◌, List, Bool, Ok, is_none, option_and_then, bit_or}
use Rattle.serde_json.specs.Data.{Data, Items}
use Rattle.serde_json.specs.Find.{as_str, as_number, as_bool, as_u64}
use Rattle.ix_types.specs.Text.{refusal, refusal_or_empty}
use Rattle.ix_types.specs.Codes.{Table, code_of_name, roles, props}
use Rattle.ix_plan.specs.declared.refusal.What.TheVariants.{Words}
use Rattle.ix_plan.specs.declared.values.WordSort.{WordSort}
use Rattle.ix_plan.specs.declared.values.WordSort.TheVariants.{Role, Relation, Prop}
use Rattle.ix_plan.specs.Read.{Read, ◌>>=◌, bad_value, allowed}
use Rattle.ix_plan.specs.Json.{items_of, items_count, in_order}

-- a value, where a test holds
abbrev pub tested : {A : Type 0} → Bool → A → Read A
tested b a = if b then Ok a else bad_value

-- a string, and one that is a text, or a text or empty
abbrev pub string_of : Data → Read (List ℕ)
string_of d = allowed (as_str d)

abbrev pub text_of : Data → Read (List ℕ)
text_of d = string_of d >>= λ s. tested (is_none (refusal s)) s

abbrev pub text_or_empty_of : Data → Read (List ℕ)
text_or_empty_of d = string_of d >>= λ s. tested (is_none (refusal_or_empty s)) s

abbrev pub flag_of : Data → Read Bool
flag_of d = allowed (as_bool d)

-- a whole number spelled with neither point nor exponent
abbrev pub number_of : Data → Read ℕ
number_of d = allowed (option_and_then as_u64 (as_number d))

-- limit: one from 1 to the greatest
abbrev pub count_of : ℕ → Data → Read ℕ
count_of most d = number_of d >>= λ n. tested (nat_le 1 n && nat_le n most) n

-- the greatest line and column
abbrev pub max_coordinate : ℕ
max_coordinate = 4294967295

-- the code of a word of a table
abbrev pub word_of : Table → Data → Read ℕ
word_of table d = string_of d >>= λ s. allowed (code_of_name table s)

-- the number of a role's or a relation's bit, of a relation's alone, of a property's
abbrev pub role_of : Data → Read ℕ
role_of = word_of roles

abbrev pub relation_of : Data → Read ℕ
relation_of d = role_of d >>= λ bit. tested (nat_le 9 bit) bit

abbrev pub prop_of : Data → Read ℕ
prop_of = word_of props

-- a mask with a bit more
abbrev pub with_bit : ℕ → ℕ → ℕ
with_bit mask bit = bit_or mask (2 ^ bit)

-- the bits of the words of a list
abbrev pub bits_from : (Data → Read ℕ) → Items → Read ℕ
bits_from word ds = in_order (λ mask. word) with_bit 0 0 ds

-- limit: those of a list of at most 64 words
abbrev pub bits_of : (Data → Read ℕ) → Data → Read ℕ
bits_of word d = items_of Words 64 d >>= bits_from word

-- limit, and the rule of empty lists: those of a list of 1 to 64 words; an empty one is refused at its place, before any item
abbrev pub some_bits_from : (Data → Read ℕ) → Items → Read ℕ
some_bits_from word ds = if items_count ds == 0 then bad_value else bits_from word ds

abbrev pub some_bits_of : (Data → Read ℕ) → Data → Read ℕ
some_bits_of word d = items_of Words 64 d >>= some_bits_from word

-- rule of USRs: one that no symbol before has, and one that some symbol has; each is judged as its field is read
abbrev pub new_usr_of : (List ℕ → Bool) → Data → Read (List ℕ)
new_usr_of taken d = text_of d >>= λ usr. if taken usr then bad_value else Ok usr

abbrev pub known_usr_of : (List ℕ → Bool) → Data → Read (List ℕ)
known_usr_of known d = text_of d >>= λ usr. tested (known usr) usr

-- the word of each sort of list
abbrev pub bit_of : WordSort → Data → Read ℕ
bit_of Role = role_of
bit_of Relation = relation_of
bit_of Prop = prop_of

-- how many bits there are
abbrev pub width : WordSort → ℕ
width Role = 19
width Relation = 19
width Prop = 9
