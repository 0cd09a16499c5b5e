-- Names under which no body is loaded are those that aren't among the loaded ones.
use Rattle.std.proofs.Common.{◌≡◌, ℕ, Bool, true, false, not, ◌↔◌, List, Option, Some, None, is_none, Contains, IsSome, refl, sym, ap, ◌∙◌}
use Rattle.std.specs.List.{find}
use Rattle.ix_types.specs.Row.{text_cmp}
use Rattle.ix_model.specs.SortedSet.{sorted_set, IsSortedSetOf}
use Rattle.ix_answers.specs.Lookups.{is_among}
use Rattle.ix_answers.specs.Needs.{lacking_of}
use Rattle.ix_answers.proofs.Members.{has, contains, among-in, among-out}
use Rattle.ix_lookups.specs.Loaded.{Loaded, body_named, loaded_names}
use Rattle.ix_lanes.specs.Views.{rising_names}

none_is_some : (X : Type 0) → IsSome {T = X} None → ⊥
none_is_some X e = absurd (cc)

is_none_so : {X : Type 0} (o : Option X) (b : Bool) → (IsSome o → b ≡ true) → (b ≡ true → IsSome o) → is_none o ≡ not b
is_none_so {X} None true f g = absurd (none_is_some X (g refl))
is_none_so None false f g = refl
is_none_so (Some x) true f g = refl
is_none_so (Some x) false f g = absurd (let e = f refl in cc)

module _ (sorted : (texts : List (List ℕ)) → IsSortedSetOf text_cmp texts (sorted_set text_cmp texts))
    (law : (bodies : Loaded) (name : List ℕ) → Contains (loaded_names bodies) name ↔ IsSome (body_named name bodies)) where
  not_loaded : (bodies : Loaded) (name : List ℕ) → is_none (body_named name bodies) ≡ not (is_among (rising_names bodies) name)
  not_loaded bodies name =
      let names = loaded_names bodies in
      let set = sorted_set text_cmp names in
      is_none_so (body_named name bodies) (is_among set name)
      (λ some. among-in set name (has set name (((sorted names).same name).1 ((law bodies name).1 some))))
      (λ e. (law bodies name).0 (((sorted names).same name).0 (contains set name (among-out set name e))))

  pub lacking_first : (bodies : Loaded) (loaded needed : List (List ℕ)) → loaded ≡ rising_names bodies → find (λ (name : List ℕ). is_none (body_named name bodies)) needed ≡ lacking_of loaded needed
  lacking_first bodies loaded needed e =
      (λ i. find (λ (name : List ℕ). not_loaded bodies name i) needed) ∙ ap (λ (names : List (List ℕ)). lacking_of names needed) (sym e)
