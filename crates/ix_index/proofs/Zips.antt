-- Values beside their counts.
use Rattle.std.proofs.Common.{◌≡◌, ℕ, zero, suc, List, [], ◌∷◌, ◌++◌, length, take, drop, refl, ap, ◌∙◌, arith}
use Rattle.std.specs.List.{zip}
use Rattle.std.specs.Map.{keys_of}

module _ {V : Type 0} where
  pub zip_length : (vs : List V) (ns : List ℕ) → length ns ≡ length vs → length (zip vs ns) ≡ length vs
  zip_length [] ns same = refl
  zip_length (v ∷ vs) [] same = absurd (omega arith)
  zip_length (v ∷ vs) (n ∷ ns) same = ap suc (zip_length vs ns (omega arith))

  pub zip_keys : (vs : List V) (ns : List ℕ) → length ns ≡ length vs → keys_of (zip vs ns) ≡ vs
  zip_keys [] ns same = refl
  zip_keys (v ∷ vs) [] same = absurd (omega arith)
  zip_keys (v ∷ vs) (n ∷ ns) same = ap (λ zs. v ∷ zs) (zip_keys vs ns (omega arith))

  pub zip_append : (vs ws : List V) (ns ms : List ℕ) → length ns ≡ length vs → zip (vs ++ ws) (ns ++ ms) ≡ zip vs ns ++ zip ws ms
  zip_append [] ws [] ms same = refl
  zip_append [] ws (n ∷ ns) ms same = absurd (omega arith)
  zip_append (v ∷ vs) ws [] ms same = absurd (omega arith)
  zip_append (v ∷ vs) ws (n ∷ ns) ms same = ap (λ zs. (v, n) ∷ zs) (zip_append vs ws ns ms (omega arith))

  pub zip_take : (i : ℕ) (vs : List V) (ns : List ℕ) → zip (take i vs) (take i ns) ≡ take i (zip vs ns)
  zip_take zero vs ns = refl
  zip_take (suc i) [] ns = refl
  zip_take (suc i) (v ∷ vs) [] = refl
  zip_take (suc i) (v ∷ vs) (n ∷ ns) = ap (λ zs. (v, n) ∷ zs) (zip_take i vs ns)

  pub zip_drop : (i : ℕ) (vs : List V) (ns : List ℕ) → length ns ≡ length vs → zip (drop i vs) (drop i ns) ≡ drop i (zip vs ns)
  zip_drop zero vs ns same = refl
  zip_drop (suc i) [] [] same = refl
  zip_drop (suc i) [] (n ∷ ns) same = absurd (omega arith)
  zip_drop (suc i) (v ∷ vs) [] same = absurd (omega arith)
  zip_drop (suc i) (v ∷ vs) (n ∷ ns) same = zip_drop i vs ns (omega arith)

  pub zip_pushed : (vs ws : List V) (ns ms : List ℕ) (v : V) (n : ℕ) (ps : List (V × ℕ)) → length ns ≡ length vs → zip vs ns ≡ ps → ws ≡ vs ++ v ∷ [] → ms ≡ ns ++ n ∷ []
      → zip ws ms ≡ ps ++ (v, n) ∷ []
  zip_pushed vs ws ns ms v n ps same is values counts =
      ap (λ (xs : List V). zip xs ms) values ∙ ap (λ (xs : List ℕ). zip (vs ++ v ∷ []) xs) counts ∙ zip_append vs (v ∷ []) ns (n ∷ []) same ∙ ap (λ zs. zs ++ (v, n) ∷ []) is
