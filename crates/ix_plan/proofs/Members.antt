-- Members put one after another: what one more is, how the last of a name is found, and which names there are.
use Rattle.std.proofs.Common.{◌≡◌, ℕ, ◌&&◌, List, [], ◌∷◌, ◌++◌, map, Some, Vec, Global, Ordering, Less, Equal, Greater, nat_cmp, is_eq, cond, Bool, true, false, bytes_eq, Bor, refl, sym, ap, ◌∙◌, rules}
use Rattle.std.proofs.lemmas.Map.Text.{is_eq-slice_cmp}
use Rattle.std.proofs.lemmas.Slice.Eq.{bytes_eq-Decides}
use Rattle.std.specs.Cmp.Lexicographic.{slice_cmp}
use Rattle.std.specs.List.{list_any, list_all}
use Rattle.std.specs.Ordering.{match_ordering}
use Rattle.serde_json.specs.Data.{Data, array, object, Members, no_members, member, put}
use Rattle.serde_json.specs.Find.{get_member}
use Rattle.serde_json.proofs.Views.{get_member-put, get_member-put_other}
use Rattle.ix_plan.specs.Json.{keys_among}
use Rattle.ix_plan.specs.View.{put_each, view, items_view, members_view}
use Rattle.ix_plan.specs.declared.value.Value.{Value, Array, Object, the_lemmas}

abbrev pub Member : Type 0
Member = Bor (List ℕ) × Value

pub view-Array : (v : Vec Value Global) → view (Array v) ≡ array (items_view v.items)
view-Array v = search (rules, the_lemmas)

pub view-Object : (v : Vec Member Global) → view (Object v) ≡ object (members_view v.items)
view-Object v = search (rules, the_lemmas)

put_one_more : (ms : List Member) (m : Member) (found : Members)
    → put_each (map (λ x. (x.0, view x.1)) (ms ++ m ∷ [])) found ≡ put m.0.now (view m.1) (put_each (map (λ x. (x.0, view x.1)) ms) found)
put_one_more [] m found = refl
put_one_more (first ∷ ms) m found = put_one_more ms m (put first.0.now (view first.1) found)

pub one_more_member : (ms : List Member) (m : Member) → members_view (ms ++ m ∷ []) ≡ put m.0.now (view m.1) (members_view ms)
one_more_member ms m = put_one_more ms m no_members

same_name : (k name : List ℕ) → bytes_eq k name ≡ true → k ≡ name
same_name k name e = (bytes_eq-Decides k name).0 e

differ : (name k : List ℕ) → bytes_eq k name ≡ false → name ≡ k → ⊥
differ name k e is = let t : bytes_eq k name ≡ true = (bytes_eq-Decides k name).1 (sym is) in cc

picked : (b : Bool) (name : List ℕ) (m : Member) (found : Members) → bytes_eq m.0.now name ≡ b
    → get_member name (put m.0.now (view m.1) found) ≡ cond b (Some (view m.1)) (get_member name found)
picked true name m found e = ap (λ k. get_member k (put m.0.now (view m.1) found)) (sym (same_name m.0.now name e)) ∙ get_member-put m.0.now (view m.1) found
picked false name m found e = get_member-put_other name m.0.now (view m.1) found (differ name m.0.now e)

-- the last member of the name is found
pub get_member-one_more : (name : List ℕ) (ms : List Member) (m : Member)
    → get_member name (members_view (ms ++ m ∷ [])) ≡ cond (bytes_eq m.0.now name) (Some (view m.1)) (get_member name (members_view ms))
get_member-one_more name ms m = ap (get_member name) (one_more_member ms m) ∙ picked (bytes_eq m.0.now name) name m (members_view ms) refl

-- ---- the names

abbrev pub is_among : List (List ℕ) → List ℕ → Bool
is_among names key = list_any (λ name. bytes_eq name key) names

swap : (a b c : Bool) → (a && (b && c)) ≡ (b && (a && c))
swap true b c = refl
swap false true c = refl
swap false false c = refl

twice : (a c : Bool) → (a && c) ≡ (a && (a && c))
twice true c = refl
twice false c = refl

turn : (a b c : Bool) → (a && (b && c)) ≡ ((b && a) && c)
turn true true c = refl
turn true false c = refl
turn false true c = refl
turn false false c = refl

no_more : (a : Bool) → (a && true) ≡ a
no_more true = refl
no_more false = refl

keys_of_put_at : (o : Ordering) (names : List (List ℕ)) (k l : List ℕ) (d e : Data) (ms : Members) → slice_cmp nat_cmp k l ≡ o
    → keys_among names (put k d ms) ≡ (is_among names k && keys_among names ms)
    → keys_among names (match_ordering o (member k d (member l e ms)) (member l d ms) (member l e (put k d ms))) ≡ (is_among names k && (is_among names l && keys_among names ms))
keys_of_put_at Less names k l d e ms is later = refl
keys_of_put_at Equal names k l d e ms is later =
    let same : k ≡ l = (bytes_eq-Decides k l).0 (sym (is_eq-slice_cmp k l) ∙ ap is_eq is) in
    twice (is_among names l) (keys_among names ms) ∙ ap (λ x. is_among names x && (is_among names l && keys_among names ms)) (sym same)
keys_of_put_at Greater names k l d e ms is later = ap (λ b. is_among names l && b) later ∙ swap (is_among names l) (is_among names k) (keys_among names ms)

keys_of_put : (names : List (List ℕ)) (k : List ℕ) (d : Data) (ms : Members) → keys_among names (put k d ms) ≡ (is_among names k && keys_among names ms)
keys_of_put names k d no_members = refl
keys_of_put names k d (member l e ms) = keys_of_put_at (slice_cmp nat_cmp k l) names k l d e ms refl (keys_of_put names k d ms)

keys_of_each : (names : List (List ℕ)) (f : Member → Bool) → ((m : Member) → is_among names m.0.now ≡ f m) → (ms : List Member) (found : Members)
    → keys_among names (put_each (map (λ x. (x.0, view x.1)) ms) found) ≡ (list_all f ms && keys_among names found)
keys_of_each names f is [] found = refl
keys_of_each names f is (m ∷ ms) found =
    keys_of_each names f is ms (put m.0.now (view m.1) found)
    ∙ ap (λ b. list_all f ms && b) (keys_of_put names m.0.now (view m.1) found ∙ ap (λ b. b && keys_among names found) (is m))
    ∙ turn (list_all f ms) (f m) (keys_among names found)

pub keys_of_members : (names : List (List ℕ)) (f : Member → Bool) → ((m : Member) → is_among names m.0.now ≡ f m) → (ms : List Member) → keys_among names (members_view ms) ≡ list_all f ms
keys_of_members names f is ms = keys_of_each names f is ms no_members ∙ no_more (list_all f ms)
