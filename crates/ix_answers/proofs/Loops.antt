-- How loops over maps and over pairs of slices end.
use Rattle.std.proofs.Common.{◌≡◌, ◌⊎◌, inl, inr, List, [], ◌∷◌, ◌++◌, map, append-nil, append_assoc, refl, sym, ap, ◌∙◌}
use Rattle.std.specs.List.{flat_map, zip}
use Rattle.std.proofs.lemmas.List.Folds.{flat_map-map}

-- all items were seen, each by way of a view
pub all_seen : {A E Y : Type 0} (view : A → E) (says : E → List Y) (items : List A) (all : List E) (out : List Y) → out ≡ flat_map (λ x. says (view x)) items → map view items ≡ all → out ≡ flat_map says all
all_seen view says items all out e m = e ∙ (sym (flat_map-map says view items) ∙ ap (flat_map says) m)

no_pairs : {X Y : Type 0} (xs : List X) (ys : List Y) → (xs ≡ []) ⊎ (ys ≡ []) → zip xs ys ≡ []
no_pairs [] ys e = refl
no_pairs (x ∷ xs) [] e = refl
no_pairs (x ∷ xs) (y ∷ ys) (inl e) = absurd (cc)
no_pairs (x ∷ xs) (y ∷ ys) (inr e) = absurd (cc)

-- one of the two lists has come to its end
pub pairs_end : {X Y Z : Type 0} (says : X × Y → List Z) (xs : List X) (ys : List Y) (out all : List Z) → (xs ≡ []) ⊎ (ys ≡ []) → out ++ flat_map says (zip xs ys) ≡ all → out ≡ all
pairs_end says xs ys out all ended e = sym (append-nil out) ∙ (ap (λ pairs. out ++ flat_map says pairs) (sym (no_pairs xs ys ended)) ∙ e)

-- two appends, one after the other
pub joined : {X : Type 0} (start first second one two : List X) → one ≡ start ++ first → two ≡ one ++ second → two ≡ start ++ (first ++ second)
joined start first second one two p q = q ∙ (ap (λ xs. xs ++ second) p ∙ append_assoc start first second)
