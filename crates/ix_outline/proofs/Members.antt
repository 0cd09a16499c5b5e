-- What the lists of the definitions contain: maps, filters, flat maps, and what a function gives of some elements.
use Rattle.std.proofs.Common.{◌≡◌, ℕ, zero, suc, ◌<◌, ◌⊎◌, inl, inr, Bool, true, false, cond, List, [], ◌∷◌, ◌++◌, length, map, filter, Option, Some, None, Contains, refl, sym, ap, ◌∙◌, subst, arith, slice_index_or}
use Rattle.std.specs.List.{flat_map, filter_map, cons_option}
use Rattle.std.specs.Str.{bytes_eq}
use Rattle.std.proofs.lemmas.Slice.Eq.{bytes_eq-Decides}

-- the list has the element, by cases on the list
abbrev pub Has : {X : Type 0} → List X → X → Type 0
Has [] x = ⊥
Has (y ∷ ys) x = (y ≡ x) ⊎ Has ys x

Has-at : {X : Type 0} (xs : List X) (x : X) (k : ℕ) → k < length xs → slice_index_or xs k x ≡ x → Has xs x
Has-at [] x k below is = absurd (omega arith)
Has-at (y ∷ ys) x zero below is = inl is
Has-at (y ∷ ys) x (suc k) below is = inr (Has-at ys x k (omega arith) is)

pub has : {X : Type 0} (xs : List X) (x : X) → Contains xs x → Has xs x
has xs x c = Has-at xs x c.0 c.1 c.2

later : {X : Type 0} (y : X) (ys : List X) (x : X) → Contains ys x → Contains (y ∷ ys) x
later y ys x c = (suc c.0, omega (arith, c.1), c.2)

pub contains : {X : Type 0} (xs : List X) (x : X) → Has xs x → Contains xs x
contains [] x h = absurd h
contains (y ∷ ys) x (inl e) = (zero, omega arith, e)
contains (y ∷ ys) x (inr h) = later y ys x (contains ys x h)

-- ---- two lists, one after the other

pub append-left : {X : Type 0} (xs ys : List X) (x : X) → Has xs x → Has (xs ++ ys) x
append-left [] ys x h = absurd h
append-left (z ∷ zs) ys x (inl e) = inl e
append-left (z ∷ zs) ys x (inr h) = inr (append-left zs ys x h)

pub append-right : {X : Type 0} (xs ys : List X) (x : X) → Has ys x → Has (xs ++ ys) x
append-right [] ys x h = h
append-right (z ∷ zs) ys x h = inr (append-right zs ys x h)

behind : {X : Type 0} (z : X) (zs ys : List X) (x : X) → Has zs x ⊎ Has ys x → ((z ≡ x) ⊎ Has zs x) ⊎ Has ys x
behind z zs ys x (inl h) = inl (inr h)
behind z zs ys x (inr h) = inr h

pub append-cases : {X : Type 0} (xs ys : List X) (x : X) → Has (xs ++ ys) x → Has xs x ⊎ Has ys x
append-cases [] ys x h = inr h
append-cases (z ∷ zs) ys x (inl e) = inl (inl e)
append-cases (z ∷ zs) ys x (inr h) = behind z zs ys x (append-cases zs ys x h)

-- ---- maps

module _ {X Y : Type 0} (f : X → Y) where
  pub map-in : (xs : List X) (x : X) (y : Y) → Has xs x → f x ≡ y → Has (map f xs) y
  map-in [] x y h e = absurd h
  map-in (z ∷ zs) x y (inl p) e = inl (ap f p ∙ e)
  map-in (z ∷ zs) x y (inr h) e = inr (map-in zs x y h e)

  pub map-out : (xs : List X) (y : Y) → Has (map f xs) y → (x : X) × Has xs x × (f x ≡ y)
  map-out [] y h = absurd h
  map-out (z ∷ zs) y (inl e) = (z, inl refl, e)
  map-out (z ∷ zs) y (inr h) = let r = map-out zs y h in (r.0, inr r.1, r.2)

module _ {X Y : Type 0} (f : X → List Y) where
  pub flat_map-in : (xs : List X) (x : X) (y : Y) → Has xs x → Has (f x) y → Has (flat_map f xs) y
  flat_map-in [] x y h k = absurd h
  flat_map-in (z ∷ zs) x y (inl e) k = append-left (f z) (flat_map f zs) y (subst (λ (w : X). Has (f w) y) (sym e) k)
  flat_map-in (z ∷ zs) x y (inr h) k = append-right (f z) (flat_map f zs) y (flat_map-in zs x y h k)

  flat_map-cases : (z : X) (zs : List X) (y : Y) → ((Has (flat_map f zs) y) → (x : X) × Has zs x × Has (f x) y) → Has (f z) y ⊎ Has (flat_map f zs) y → (x : X) × Has (z ∷ zs) x × Has (f x) y
  flat_map-cases z zs y rest (inl h) = (z, inl refl, h)
  flat_map-cases z zs y rest (inr h) = let r = rest h in (r.0, inr r.1, r.2)

  pub flat_map-out : (xs : List X) (y : Y) → Has (flat_map f xs) y → (x : X) × Has xs x × Has (f x) y
  flat_map-out [] y h = absurd h
  flat_map-out (z ∷ zs) y h = flat_map-cases z zs y (λ k. flat_map-out zs y k) (append-cases (f z) (flat_map f zs) y h)

-- ---- filters

module _ {X : Type 0} (p : X → Bool) where
  pub filter-out : (xs : List X) (x : X) → Has (filter p xs) x → Has xs x × (p x ≡ true)
  filter-out [] x h = absurd h
  filter-out (y ∷ ys) x h =
      (elim (p y) as (λ b. p y ≡ b → Has (cond b (y ∷ filter p ys) (filter p ys)) x → Has (y ∷ ys) x × (p x ≡ true)) [
        | true ↦ λ e h. first e (filter-out ys x) h
        | false ↦ λ e h. let r = filter-out ys x h in (inr r.0, r.1)
      ]) refl h
    where
      first : p y ≡ true → (Has (filter p ys) x → Has ys x × (p x ≡ true)) → (y ≡ x) ⊎ Has (filter p ys) x → Has (y ∷ ys) x × (p x ≡ true)
      first e f (inl q) = (inl q, ap p (sym q) ∙ e)
      first e f (inr k) = let r = f k in (inr r.0, r.1)

  pub filter-in : (xs : List X) (x : X) → Has xs x → p x ≡ true → Has (filter p xs) x
  filter-in [] x h t = absurd h
  filter-in (y ∷ ys) x h t =
      (elim (p y) as (λ b. p y ≡ b → Has (cond b (y ∷ filter p ys) (filter p ys)) x) [
        | true ↦ λ e. kept (λ k. filter-in ys x k t) h
        | false ↦ λ e. dropped e (λ k. filter-in ys x k t) h
      ]) refl
    where
      kept : (Has ys x → Has (filter p ys) x) → (y ≡ x) ⊎ Has ys x → (y ≡ x) ⊎ Has (filter p ys) x
      kept f (inl q) = inl q
      kept f (inr k) = inr (f k)

      dropped : p y ≡ false → (Has ys x → Has (filter p ys) x) → (y ≡ x) ⊎ Has ys x → Has (filter p ys) x
      dropped e f (inl q) = let passes : p y ≡ true = ap p q ∙ t in absurd (cc)
      dropped e f (inr k) = f k

-- ---- what a function gives of some elements

module _ {X Y : Type 0} (f : X → Option Y) where
  pub filter_map-in : (xs : List X) (x : X) (y : Y) → Has xs x → f x ≡ Some y → Has (filter_map f xs) y
  filter_map-in [] x y h e = absurd h
  filter_map-in (z ∷ zs) x y (inl p) e = subst (λ (o : Option Y). Has (cons_option o (filter_map f zs)) y) (sym (ap f p ∙ e)) (inl refl)
  filter_map-in (z ∷ zs) x y (inr h) e =
      let rest : Has (filter_map f zs) y = filter_map-in zs x y h e in
      elim (f z) as (λ o. Has (cons_option o (filter_map f zs)) y) [ None ↦ rest | Some w ↦ inr rest ]

  pub filter_map-out : (xs : List X) (y : Y) → Has (filter_map f xs) y → (x : X) × Has xs x × (f x ≡ Some y)
  filter_map-out [] y h = absurd h
  filter_map-out (z ∷ zs) y h =
      (elim (f z) as (λ o. f z ≡ o → Has (cons_option o (filter_map f zs)) y → (x : X) × Has (z ∷ zs) x × (f x ≡ Some y)) [
        | None ↦ λ e k. further (filter_map-out zs y k)
        | Some w ↦ λ e k. found w e (filter_map-out zs y) k
      ]) refl h
    where
      further : (x : X) × Has zs x × (f x ≡ Some y) → (x : X) × Has (z ∷ zs) x × (f x ≡ Some y)
      further r = (r.0, inr r.1, r.2)

      found : (w : Y) → f z ≡ Some w → (Has (filter_map f zs) y → (x : X) × Has zs x × (f x ≡ Some y)) → (w ≡ y) ⊎ Has (filter_map f zs) y → (x : X) × Has (z ∷ zs) x × (f x ≡ Some y)
      found w e rest (inl q) = (z, inl refl, e ∙ ap Some q)
      found w e rest (inr k) = let r = rest k in (r.0, inr r.1, r.2)

-- ---- texts

pub same : (a b : List ℕ) → bytes_eq a b ≡ true → a ≡ b
same a b e = (bytes_eq-Decides a b).0 e

pub equal : (a b : List ℕ) → a ≡ b → bytes_eq a b ≡ true
equal a b e = (bytes_eq-Decides a b).1 e
