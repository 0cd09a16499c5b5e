-- Heads keep the order of keys: a key that isn't greater hasn't the greater head.
use Rattle.std.proofs.Common.{◌≡◌, ℕ, zero, suc, ◌+◌, ◌-◌, ◌*◌, ◌^◌, ◌<◌, ◌≤◌, nat_lt, Bool, true, false, List, [], ◌∷◌, take, drop, if◌then◌else◌, refl, sym, ◌∙◌, ap, subst, arith}
use Rattle.std.specs.declared.cmp.Ordering.{Ordering}
use Rattle.std.specs.declared.cmp.Ordering.TheVariants.{Less, Equal, Greater}
use Rattle.std.specs.Ordering.{nat_cmp, is_le, ordering_then, match_ordering, MatchOrdering}
use Rattle.std.specs.Cmp.{IsTotalOrder}
use Rattle.std.specs.Cmp.Lexicographic.{slice_cmp, nat_list_cmp_total}
use Rattle.std.proofs.lemmas.Cmp.{ranked, by_ranked, alike_right}
use Rattle.std.proofs.lemmas.Nat.{mul-add-lt}
use Rattle.std.proofs.Math.Nat.{pow-suc, one-le-pow, mul_comm}
use Rattle.std.proofs.lemmas.Bool.{ltb-true, lt-ltb}
use Rattle.ix_pages.specs.Heads.{leading, leading_from}

pub number_leads : (a b : ℕ) → is_le (nat_cmp a b) ≡ true → a ≤ b
number_leads a b less =
    by_ranked (a < b) (a ≡ b) (b < a) {G = a ≤ b} (nat_cmp a b) (ranked a b (nat_cmp a b) refl)
    (λ e p. omega (arith, p)) (λ e p. omega (arith, p)) (λ e p. let no_ = sym less ∙ ap is_le e in absurd (cc))

-- a number of so many bytes
below : (n : ℕ) (bytes : List ℕ) → leading n bytes < 256 ^ n
below zero bytes = omega arith
below (suc n) [] = let some = one-le-pow (suc n) 256 (omega arith) in omega (arith, some)
below (suc n) (byte ∷ bytes) = cases (below n bytes) (nat_lt byte 256) refl
  where
    cases : leading n bytes < 256 ^ n → (b : Bool) → nat_lt byte 256 ≡ b → (if b then byte * 256 ^ n + leading n bytes else 256 ^ suc n - 1) < 256 ^ suc n
    cases rest true small =
        let fits = mul-add-lt byte (256 ^ n) (leading n bytes) 256 (ltb-true byte 256 small) rest in
        subst (λ m. byte * 256 ^ n + leading n bytes < m) (sym (pow-suc 256 n)) fits
    cases rest false large = let some = one-le-pow (suc n) 256 (omega arith) in omega (arith, some)

pub bytes_lead : (n : ℕ) (xs ys : List ℕ) → is_le (slice_cmp nat_cmp xs ys) ≡ true → leading n xs ≤ leading n ys
bytes_lead zero xs ys less = omega arith
bytes_lead (suc n) [] ys less = omega arith
bytes_lead (suc n) (x ∷ xs) [] less = absurd (cc)
bytes_lead (suc n) (x ∷ xs) (y ∷ ys) less = by_ranked (x < y) (x ≡ y) (y < x) {G = leading (suc n) (x ∷ xs) ≤ leading (suc n) (y ∷ ys)} (nat_cmp x y) (ranked x y (nat_cmp x y) refl) lesser (same (λ rest. bytes_lead n xs ys rest)) greater
  where
    lesser : nat_cmp x y ≡ Less → x < y → leading (suc n) (x ∷ xs) ≤ leading (suc n) (y ∷ ys)
    lesser e under = cases (nat_lt y 256) refl
      where
        cases : (b : Bool) → nat_lt y 256 ≡ b → leading (suc n) (x ∷ xs) ≤ (if b then y * 256 ^ n + leading n ys else 256 ^ suc n - 1)
        cases true small =
            let x_small : nat_lt x 256 ≡ true = lt-ltb x 256 (omega (arith, under, ltb-true y 256 small)) in
            let fits = mul-add-lt x (256 ^ n) (leading n xs) y under (below n xs) in
            rw x_small (omega (arith, fits, mul_comm (256 ^ n) y))
        cases false large = let bound = below (suc n) (x ∷ xs) in omega (arith, bound)

    same : (is_le (slice_cmp nat_cmp xs ys) ≡ true → leading n xs ≤ leading n ys) → nat_cmp x y ≡ Equal → x ≡ y → leading (suc n) (x ∷ xs) ≤ leading (suc n) (y ∷ ys)
    same next e is =
        let rest : is_le (slice_cmp nat_cmp xs ys) ≡ true = sym (ap (λ o. is_le (ordering_then o (slice_cmp nat_cmp xs ys))) e) ∙ less in
        let later = next rest in
        subst (λ z. leading (suc n) (x ∷ xs) ≤ leading (suc n) (z ∷ ys)) is (cases later (nat_lt x 256))
      where
        cases : leading n xs ≤ leading n ys → (b : Bool) → (if b then x * 256 ^ n + leading n xs else 256 ^ suc n - 1) ≤ (if b then x * 256 ^ n + leading n ys else 256 ^ suc n - 1)
        cases later true = omega (arith, later)
        cases later false = omega arith

    greater : nat_cmp x y ≡ Greater → y < x → leading (suc n) (x ∷ xs) ≤ leading (suc n) (y ∷ ys)
    greater e over = let no_ : false ≡ true = sym (ap (λ o. is_le (ordering_then o (slice_cmp nat_cmp xs ys))) e) ∙ less in absurd (cc)

-- lists are compared by their fronts, and then by what is behind these
in_front : (n : ℕ) (xs ys : List ℕ) → slice_cmp nat_cmp xs ys ≡ ordering_then (slice_cmp nat_cmp (take n xs) (take n ys)) (slice_cmp nat_cmp (drop n xs) (drop n ys))
in_front zero xs ys = refl
in_front (suc n) [] [] = refl
in_front (suc n) [] (y ∷ ys) = refl
in_front (suc n) (x ∷ xs) [] = refl
in_front (suc n) (x ∷ xs) (y ∷ ys) = ap (ordering_then (nat_cmp x y)) (in_front n xs ys) ∙ assoc (nat_cmp x y) (slice_cmp nat_cmp (take n xs) (take n ys)) (slice_cmp nat_cmp (drop n xs) (drop n ys))
  where
    assoc : (a b c : Ordering) → ordering_then a (ordering_then b c) ≡ ordering_then (ordering_then a b) c
    assoc Less b c = refl
    assoc Equal b c = refl
    assoc Greater b c = refl

abbrev cmp : List ℕ → List ℕ → Ordering
cmp = slice_cmp nat_cmp

-- how two fronts in order stand to a third one
apart : (p q b : List ℕ) (r s t : Ordering) → cmp p q ≡ r → cmp p b ≡ s → cmp q b ≡ t → (u v : ℕ) (most : ℕ) → (r ≡ Equal → u ≤ v) → (r ≡ Greater → ⊥) → u ≤ most
    → match_ordering s 0 u most ≤ match_ordering t 0 v most
apart p q b r Less t e f g u v most equal none bound = omega arith
apart p q b Greater Equal t e f g u v most equal none bound = absurd (none refl)
apart p q b Greater Greater t e f g u v most equal none bound = absurd (none refl)
apart p q b Equal Equal Equal e f g u v most equal none bound = equal refl
apart p q b Equal Equal Less e f g u v most equal none bound = let is = nat_list_cmp_total.congr p q b e in absurd (cc)
apart p q b Equal Equal Greater e f g u v most equal none bound = bound
apart p q b Equal Greater Greater e f g u v most equal none bound = omega arith
apart p q b Equal Greater Equal e f g u v most equal none bound = let is = nat_list_cmp_total.congr p q b e in absurd (cc)
apart p q b Equal Greater Less e f g u v most equal none bound = let is = nat_list_cmp_total.congr p q b e in absurd (cc)
apart p q b Less Equal Greater e f g u v most equal none bound = bound
apart p q b Less Greater Greater e f g u v most equal none bound = omega arith
apart p q b Less Equal Equal e f g u v most equal none bound =
    let back = alike_right nat_list_cmp_total q b p g in absurd (cc)
apart p q b Less Equal Less e f g u v most equal none bound = let under = nat_list_cmp_total.trans p q b e g in absurd (cc)
apart p q b Less Greater Less e f g u v most equal none bound = let under = nat_list_cmp_total.trans p q b e g in absurd (cc)
apart p q b Less Greater Equal e f g u v most equal none bound =
    let back = alike_right nat_list_cmp_total q b p g in absurd (cc)

pub bytes_lead_from : (base : List ℕ) (skip : ℕ) (xs ys : List ℕ) → is_le (slice_cmp nat_cmp xs ys) ≡ true → leading_from xs base skip ≤ leading_from ys base skip
bytes_lead_from base skip xs ys less =
    let whole : is_le (ordering_then (cmp (take skip xs) (take skip ys)) (cmp (drop skip xs) (drop skip ys))) ≡ true = sym (ap is_le (in_front skip xs ys)) ∙ less in
    apart (take skip xs) (take skip ys) (take skip base) (cmp (take skip xs) (take skip ys)) (cmp (take skip xs) (take skip base)) (cmp (take skip ys) (take skip base)) refl refl refl
    (leading 8 (drop skip xs)) (leading 8 (drop skip ys)) (256 ^ 8 - 1)
    (λ tied. bytes_lead 8 (drop skip xs) (drop skip ys) (sym (ap (λ o. is_le (ordering_then o (cmp (drop skip xs) (drop skip ys)))) tied) ∙ whole))
    (λ over. let no_ : false ≡ true = sym (ap (λ o. is_le (ordering_then o (cmp (drop skip xs) (drop skip ys)))) over) ∙ whole in absurd (cc))
    (let bound = below 8 (drop skip xs) in omega (arith, bound))
