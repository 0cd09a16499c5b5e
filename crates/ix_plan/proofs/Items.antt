-- A value's lists and members, beside those of the definitions.
use Rattle.std.proofs.Common.{◌≡◌, ℕ, ◌<◌, Bool, true, false, List, [], ◌∷◌, ◌++◌, length, map, codes, ◌+◌, ◌||◌, bytes_eq, Bor, refl, sym, ap, subst, ◌∙◌, arith, suc, add-one, drop, get_or, Result, Ok, Err}
use Rattle.std.specs.List.{list_any, list_all}
use Rattle.std.specs.Fmt.{decimal}
use Rattle.std.proofs.Math.Seq.{drop-cons}
use Rattle.std.proofs.lemmas.Bool.{le-ltb}
use Rattle.std.proofs.lemmas.Str.{utf8_valid_len-IsUtf8}
use Rattle.std.specs.Str.{IsUtf8}
use Rattle.serde_json.specs.Read.{read}
use Rattle.serde_json.specs.Data.{Data}
use Rattle.ix_plan.specs.View.{view, items_view, members_view}
use Rattle.ix_plan.specs.declared.refusal.ScriptError.{ScriptError}
use Rattle.ix_plan.specs.declared.refusal.ScriptError.TheVariants.{Memory, Refused}
use Rattle.ix_plan.specs.Read.{Read, Fails, Gives, ◌>>=◌, within}
use Rattle.ix_plan.specs.declared.value.Value.{Value}
use Rattle.ix_plan.specs.Texts.{text_at}
use Rattle.ix_plan.proofs.Members.{Member, keys_of_members}
use Rattle.ix_plan.specs.Json.{json_option, keys_among, items_count, in_order}

pub json_of_utf8 : (bytes : List ℕ) → IsUtf8 bytes → json_option bytes ≡ read bytes
json_of_utf8 bytes utf8 = rw (utf8_valid_len-IsUtf8 bytes utf8, le-ltb (length bytes) (length bytes) (omega arith)) refl

pub text_at_utf8 : (sort path : List ℕ) → IsUtf8 path → text_at sort path ≡ sort ++ (codes " at \"" ++ (path ++ codes "\""))
text_at_utf8 sort path utf8 = rw (utf8_valid_len-IsUtf8 path utf8, le-ltb (length path) (length path) (omega arith)) refl

pub items_count_items_view : (vs : List Value) → items_count (items_view vs) ≡ length vs
items_count_items_view [] = refl
items_count_items_view (v ∷ vs) = omega (arith, items_count_items_view vs)

abbrev pub is_name : List (Bor (List ℕ)) → List ℕ → Bool
is_name names key = list_any (λ name. bytes_eq name.now key) names

or-assoc : (a b c : Bool) → ((a || b) || c) ≡ (a || (b || c))
or-assoc true b c = refl
or-assoc false b c = refl

any_name : (names : List (Bor (List ℕ))) (key : List ℕ) → list_any (λ name. bytes_eq name key) (map (λ name. name.now) names) ≡ is_name names key
any_name [] key = refl
any_name (name ∷ names) key = ap (λ b. bytes_eq name.now key || b) (any_name names key)

abbrev plain : List (Bor (List ℕ)) → List (List ℕ)
plain names = map (λ name. name.now) names

any_of_both : (names more : List (Bor (List ℕ))) (key : List ℕ) → list_any (λ name. bytes_eq name key) (plain names ++ plain more) ≡ (is_name names key || is_name more key)
any_of_both [] more key = any_name more key
any_of_both (name ∷ names) more key = ap (λ b. bytes_eq name.now key || b) (any_of_both names more key) ∙ sym (or-assoc (bytes_eq name.now key) (is_name names key) (is_name more key))

pub keys_among_members : (names more : List (Bor (List ℕ))) (ms : List Member)
    → keys_among (map (λ name. name.now) names ++ map (λ name. name.now) more) (members_view ms) ≡ list_all (λ member. is_name names member.0.now || is_name more member.0.now) ms
keys_among_members names more ms = keys_of_members (plain names ++ plain more) (λ member. is_name names member.0.now || is_name more member.0.now) (λ member. any_of_both names more member.0.now) ms

-- one item is read, and those behind it are left
pub next_item : {S A : Type 0} (f : S → Data → Read A) (add : S → A → S) (s : S) (i : ℕ) (vs : List Value) (v : Value) (a : A)
    → i < length vs → v ≡ get_or vs i v → within (decimal i) (f s (view v)) ≡ Ok a
    → in_order f add s i (items_view (drop i vs)) ≡ in_order f add (add s a) (i + 1) (items_view (drop (i + 1) vs))
next_item f add s i vs v a lt is read =
    let front : drop i vs ≡ v ∷ drop (i + 1) vs = rw add-one (drop-cons vs i v lt ∙ ap (λ x. x ∷ drop (suc i) vs) (sym is)) in
    ap (λ xs. in_order f add s i (items_view xs)) front ∙ ap (λ r. r >>= (λ b. in_order f add (add s b) (i + 1) (items_view (drop (i + 1) vs)))) read

-- one item isn't read, and those behind it are left
pub failed_item : {S A : Type 0} (f : S → Data → Read A) (add : S → A → S) (s : S) (i : ℕ) (vs : List Value) (v : Value) (e : ScriptError)
    → i < length vs → v ≡ get_or vs i v → Fails e (within (decimal i) (f s (view v))) → Fails e (in_order f add s i (items_view (drop i vs)))
failed_item f add s i vs v Memory lt is failed = tt
failed_item f add s i vs v (Refused r) lt is failed =
    let front : drop i vs ≡ v ∷ drop (i + 1) vs = rw add-one (drop-cons vs i v lt ∙ ap (λ x. x ∷ drop (suc i) vs) (sym is)) in
    ap (λ xs. in_order f add s i (items_view xs)) front ∙ ap (λ r. r >>= (λ b. in_order f add (add s b) (i + 1) (items_view (drop (i + 1) vs)))) failed

pub not_given : {A : Type 0} {result : Result A ScriptError} {e : ScriptError} {read whole : Read A} → result ≡ Err e → read ≡ whole → Fails e read → Gives result whole
not_given {result = result} {e = e} {read = read} {whole = whole} is same failed = subst (λ r. Gives r whole) (sym is) (subst (λ r. Fails e r) same failed)
