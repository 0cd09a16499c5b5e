-- The first name that isn't loaded, behind those that are.
use Rattle.std.proofs.Common.{Bor, ◌≡◌, ℕ, zero, suc, ◌+◌, ◌⊎◌, inl, inr, Bool, true, false, not, cond, List, [], ◌∷◌, ◌++◌, take, map, Option, Some, None, Contains, refl, sym, ap, ◌∙◌, subst}
use Rattle.std.specs.Cmp.Lexicographic.{nat_list_eq_equiv}
use Rattle.std.specs.List.{list_any, slice_get}
use Rattle.std.specs.Map.{keys_of}
use Rattle.std.specs.Option.{option_map, option_copied, is_some}
use Rattle.std.specs.Str.{bytes_eq}
use Rattle.std.proofs.lemmas.Map.Made.{is_some-lookup}
use Rattle.ix_record.specs.declared.value.RecordValue.{RecordValue}
use Rattle.ix_answers.specs.Lookups.{is_among}
use Rattle.ix_answers.specs.Needs.{lacking_of}
use Rattle.ix_answers.specs.Rising.{AreLoaded}
use Rattle.ix_answers.proofs.Members.{Has, has, contains, append-cases, among-in, among-out}
use Rattle.ix_lookups.specs.Loaded.{Loaded, body_named, loaded_names}

module _ (loaded : List (List ℕ)) where
  first_loaded : (name : List ℕ) (names : List (List ℕ)) → AreLoaded loaded (name ∷ names) → is_among loaded name ≡ true
  first_loaded name names all = among-in loaded name (has loaded name (all name (contains (name ∷ names) name (inl refl))))

  rest_loaded : (name : List ℕ) (names : List (List ℕ)) → AreLoaded loaded (name ∷ names) → AreLoaded loaded names
  rest_loaded name names all other c = all other (contains (name ∷ names) other (inr (has names other c)))

  pub lacking_at : (names : List (List ℕ)) (k : ℕ) → AreLoaded loaded (take k names) → ((name : List ℕ) → slice_get names k ≡ Some name → is_among loaded name ≡ false) → slice_get names k ≡ lacking_of loaded names
  lacking_at [] k all none = refl
  lacking_at (name ∷ names) zero all none = sym (ap (λ (b : Bool). cond (not b) (Some name) (lacking_of loaded names)) (none name refl))
  lacking_at (name ∷ names) (suc k) all none =
      lacking_at names k (rest_loaded name (take k names) all) none
      ∙ sym (ap (λ (b : Bool). cond (not b) (Some name) (lacking_of loaded names)) (first_loaded name (take k names) all))

  one_loaded : (front : List (List ℕ)) (name : List ℕ) → AreLoaded loaded front → is_among loaded name ≡ true → AreLoaded loaded (front ++ name ∷ [])
  one_loaded front name all t other c = by_part (append-cases front (name ∷ []) other (has (front ++ name ∷ []) other c))
    where
      by_part : Has front other ⊎ Has (name ∷ []) other → Contains loaded other
      by_part (inl h) = all other (contains front other h)
      by_part (inr (inl e)) = contains loaded other (subst (λ (n : List ℕ). Has loaded n) e (among-out loaded name t))
      by_part (inr (inr h)) = absurd h

  pub more_loaded : (names : List (List ℕ)) (k : ℕ) (name : List ℕ) → take (k + 1) names ≡ take k names ++ name ∷ [] → AreLoaded loaded (take k names) → is_among loaded name ≡ true → AreLoaded loaded (take (k + 1) names)
  more_loaded names k name e all t = subst (λ (ns : List (List ℕ)). AreLoaded loaded ns) (sym e) (one_loaded (take k names) name all t)

any_alike : (name : List ℕ) (names : List (List ℕ)) → list_any (bytes_eq name) names ≡ is_among names name
any_alike name [] = refl
any_alike name (other ∷ names) = let s = nat_list_eq_equiv.symm name other in let r = any_alike name names in cc

keys_alike : (es : List (List ℕ × RecordValue)) → keys_of es ≡ map (λ (entry : List ℕ × RecordValue). entry.0) es
keys_alike [] = refl
keys_alike (e ∷ es) = ap (λ (names : List (List ℕ)). e.0 ∷ names) (keys_alike es)

some_alike : {A B : Type 0} (f : A → B) (o : Option A) → is_some (option_map f o) ≡ is_some o
some_alike f None = refl
some_alike f (Some x) = refl

pub loaded-is : (name : List ℕ) (bodies : Loaded) → is_some (body_named name bodies) ≡ is_among (loaded_names bodies) name
loaded-is name bodies =
    is_some-lookup (bytes_eq name) bodies.entries ∙ (ap (list_any (bytes_eq name)) (keys_alike bodies.entries) ∙ any_alike name (loaded_names bodies))

pub viewed-some : {A B : Type 0} (f : A → B) (o : Option A) (p : Option B) → option_map f o ≡ p → is_some o ≡ is_some p
viewed-some f o p e = sym (some_alike f o) ∙ ap is_some e

pub copied-some : {T : Type 0} (o : Option (Bor T)) → is_some o ≡ is_some (option_copied o)
copied-some None = refl
copied-some (Some x) = refl
