-- The JSON value of some bytes, and the rules of reading order for its objects and lists.
use Rattle.std.specs.Prelude.{ℕ, ◌+◌, ◌&&◌, nat_lt, if◌then◌else◌, List, [], ◌∷◌, ◌++◌, length, Bool, true, Option, Some, None, Ok, Err, ⊤}
use Rattle.std.specs.List.{list_any}
use Rattle.std.specs.Fmt.{decimal}
use Rattle.std.specs.Str.Lossy.{utf8_valid_len}
use Rattle.std.specs.Str.{bytes_eq}
use Rattle.serde_json.specs.Data.{Data, Items, no_items, item, Members, no_members, member}
use Rattle.serde_json.specs.Read.{read}
use Rattle.serde_json.specs.Find.{get, as_array, as_object}
use Rattle.ix_plan.specs.declared.refusal.What.{What}
use Rattle.ix_plan.specs.declared.refusal.ScriptRefusal.TheVariants.{NotJson, BadField, TooMany}
use Rattle.ix_plan.specs.Read.{Read, ◌>>=◌, within, allowed}

-- the value of bytes that are UTF-8 and JSON
abbrev pub json_option : List ℕ → Option Data
json_option bytes = if nat_lt (utf8_valid_len bytes) (length bytes) then None else read bytes

abbrev known_json : Option Data → Read Data
known_json None = Err NotJson
known_json (Some d) = Ok d

abbrev pub json_of : List ℕ → Read Data
json_of bytes = known_json (json_option bytes)

-- whether each key is one of the names
abbrev pub keys_among : List (List ℕ) → Members → Bool
keys_among names no_members = true
keys_among names (member key value rest) = list_any (λ name. bytes_eq name key) names && keys_among names rest

-- rule of objects, first: a value that isn't an object is refused at its place
abbrev pub object_of : Data → Read Members
object_of d = allowed (as_object d)

-- rule of objects, second: a field that isn't in the object's table is refused at the object's place
abbrev pub known_fields : List (List ℕ) → Members → Read ⊤
known_fields names members = if keys_among names members then Ok tt else Err (BadField [])

-- an object of these fields alone
abbrev pub with_fields : List (List ℕ) → Data → Read ⊤
with_fields names d = object_of d >>= known_fields names

-- rule of objects, third, for each field of the table in turn: a required one that is absent is refused at the place that ends with its name
abbrev required : List ℕ → Option Data → Read Data
required name None = Err (BadField (47 ∷ name))
required name (Some d) = Ok d

abbrev pub member_of : List ℕ → Data → Read Data
member_of name d = required name (get name d)

-- a required field
abbrev pub field : {A : Type 0} → List ℕ → (Data → Read A) → Data → Read A
field name f d = member_of name d >>= λ value. within name (f value)

abbrev pub optional : {A : Type 0} → A → List ℕ → (Data → Read A) → Option Data → Read A
optional default name f None = Ok default
optional default name f (Some value) = within name (f value)

-- a field that has a default, which stands where the field is absent
abbrev pub field_or : {A : Type 0} → A → List ℕ → (Data → Read A) → Data → Read A
field_or default name f d = optional default name f (get name d)

abbrev pub items_count : Items → ℕ
items_count no_items = 0
items_count (item d ds) = items_count ds + 1

-- rule of lists, third: the items are read in order, each beside what is known so far; what is read of it adds to what is known
abbrev pub in_order : {S A : Type 0} → (S → Data → Read A) → (S → A → S) → S → ℕ → Items → Read S
in_order f add s i no_items = Ok s
in_order f add s i (item d ds) = within (decimal i) (f s d) >>= λ a. in_order f add (add s a) (i + 1) ds

-- rule of lists, first and second: a value that isn't a list is refused at its place, and a list that is too long before any item is read
abbrev pub at_most : What → ℕ → Items → Read Items
at_most what most ds = if nat_lt most (items_count ds) then Err (TooMany what) else Ok ds

abbrev pub items_of : What → ℕ → Data → Read Items
items_of what most d = allowed (as_array d) >>= at_most what most

-- what is read of the items, where they are at most so many
abbrev pub few_of : {A : Type 0} → What → ℕ → (Items → Read A) → Items → Read A
few_of what most f ds = at_most what most ds >>= f

-- a list with its limit, each item read beside those before it
abbrev pub one_more : {A : Type 0} → List A → A → List A
one_more before a = before ++ a ∷ []

abbrev pub list_of : {A : Type 0} → What → ℕ → (List A → Data → Read A) → Data → Read (List A)
list_of what most f d = items_of what most d >>= in_order f one_more [] 0
