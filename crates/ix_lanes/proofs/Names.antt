-- The names of loaded records, once one record more is loaded.
use Rattle.std.proofs.Common.{◌≡◌, ◌≢◌, ◌↔◌, ℕ, ◌⊎◌, inl, inr, true, false, List, [], ◌∷◌, ◌++◌, fold, Contains, Option, Some, IsSome, is_some, refl, sym, ap, ◌∙◌, subst}
use Rattle.std.specs.Str.{bytes_eq}
use Rattle.std.proofs.lemmas.Slice.Eq.{bytes_eq-Decides}
use Rattle.ix_types.specs.Row.{text_cmp}
use Rattle.ix_record.specs.declared.value.RecordValue.{RecordValue}
use Rattle.ix_model.specs.SortedSet.{add_once, sorted_set, IsSortedSetOf}
use Rattle.ix_answers.proofs.Members.{Has, has, contains, append-left, append-right, append-cases}
use Rattle.ix_lookups.specs.Loaded.{Loaded, body_named, loaded_names}
use Rattle.ix_lanes.specs.Views.{rising_names}
use Rattle.ix_lanes.specs.Tasks.{Task}
use Rattle.ix_lanes.specs.Progress.{Progress}
use Rattle.ix_lanes.specs.declared.doing.Doing.{Doing}
use Rattle.ix_lanes.specs.declared.answered.Answered.{Answered}

one_more : (xs set : List (List ℕ)) (x : List ℕ) → fold (λ set x. add_once text_cmp x set) set (xs ++ x ∷ []) ≡ add_once text_cmp x (fold (λ set x. add_once text_cmp x set) set xs)
one_more [] set x = refl
one_more (y ∷ ys) set x = one_more ys (add_once text_cmp y set) x

pub record Given : Type 0 where
  pub sorted : (texts : List (List ℕ)) → IsSortedSetOf text_cmp texts (sorted_set text_cmp texts)
  pub one : (texts first second : List (List ℕ)) → IsSortedSetOf text_cmp texts first → IsSortedSetOf text_cmp texts second → first ≡ second
  pub named : (bodies : Loaded) (name : List ℕ) → Contains (loaded_names bodies) name ↔ IsSome (body_named name bodies)

module _ (given : Given) (old new : Loaded) (name : List ℕ) (body : RecordValue) (added : body_named name new ≡ Some body) (others : (other : List ℕ) → other ≢ name → body_named other new ≡ body_named other old) where
  same_or_other : (x : List ℕ) → (x ≡ name) ⊎ (x ≢ name)
  same_or_other x =
      (elim (bytes_eq x name) as (λ b. bytes_eq x name ≡ b → (x ≡ name) ⊎ (x ≢ name)) [
        | true ↦ λ e. inl ((bytes_eq-Decides x name).0 e)
        | false ↦ λ e. inr (λ p. apart x p e)
      ]) refl
    where
      apart : (x : List ℕ) → x ≡ name → bytes_eq x name ≡ false → ⊥
      apart x p e = let t = (bytes_eq-Decides x name).1 p in cc

  some_new : IsSome (body_named name new)
  some_new = ap is_some added

  into : (x : List ℕ) → Has (loaded_names old ++ name ∷ []) x → Contains (loaded_names new) x
  into x h = by (append-cases (loaded_names old) (name ∷ []) x h)
    where
      at_name : (x : List ℕ) → name ≡ x → Contains (loaded_names new) x
      at_name x p = subst (λ (y : List ℕ). Contains (loaded_names new) y) p ((given.named new name).1 some_new)

      from_old : (x : List ℕ) → Has (loaded_names old) x → (x ≡ name) ⊎ (x ≢ name) → Contains (loaded_names new) x
      from_old x k (inl p) = at_name x (sym p)
      from_old x k (inr q) = (given.named new x).1 (subst (λ (o : Option RecordValue). IsSome o) (sym (others x q)) ((given.named old x).0 (contains (loaded_names old) x k)))

      by : Has (loaded_names old) x ⊎ Has (name ∷ []) x → Contains (loaded_names new) x
      by (inl k) = from_old x k (same_or_other x)
      by (inr (inl p)) = at_name x p
      by (inr (inr k)) = absurd k

  out : (x : List ℕ) → Contains (loaded_names new) x → Has (loaded_names old ++ name ∷ []) x
  out x c = by (same_or_other x)
    where
      by : (x ≡ name) ⊎ (x ≢ name) → Has (loaded_names old ++ name ∷ []) x
      by (inl p) = append-right (loaded_names old) (name ∷ []) x (inl (sym p))
      by (inr q) = append-left (loaded_names old) (name ∷ []) x
          (has (loaded_names old) x ((given.named old x).1 (subst (λ (o : Option RecordValue). IsSome o) (others x q) ((given.named new x).0 c))))

  pub one_name_more : rising_names new ≡ add_once text_cmp name (rising_names old)
  one_name_more =
      let longer = given.sorted (loaded_names old ++ name ∷ []) in
      given.one (loaded_names new) (rising_names new) (sorted_set text_cmp (loaded_names old ++ name ∷ [])) (given.sorted (loaded_names new))
      (record {
        rises = longer.rises;
        same = λ x. (
          λ c. into x (has (loaded_names old ++ name ∷ []) x ((longer.same x).0 c)),
          λ c. (longer.same x).1 (contains (loaded_names old ++ name ∷ []) x (out x c)),
        );
      })
      ∙ one_more (loaded_names old) [] name

-- a progress with other names loaded
pub more : (tasks : List Task) (doing : Doing) (held : Option ℕ) (answers : List Answered) {names others : List (List ℕ)} → names ≡ others
    → ◌≡◌ {A = Progress} (record { tasks = tasks; doing = doing; held = held; loaded = names; answers = answers }) (record { tasks = tasks; doing = doing; held = held; loaded = others; answers = answers })
more tasks doing held answers same = λ i. record { tasks = tasks; doing = doing; held = held; loaded = same i; answers = answers }
