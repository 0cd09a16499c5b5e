-- A record that the guard keeps has a reason, and each reason keeps it.
use Rattle.std.proofs.Common.{◌≡◌, ◌≢◌, ℕ, zero, suc, ◌+◌, Bool, true, false, ◌||◌, ◌⊎◌, inl, inr, List, [], ◌∷◌, ◌++◌, take, drop, Option, Some, None, slice_get, slice_index_or, refl, sym, ap, ◌∙◌, arith}
use Rattle.std.specs.List.{list_any}
use Rattle.std.specs.Map.{lookup, keys_of}
use Rattle.std.specs.BTreeMap.{is_at}
use Rattle.ix_types.specs.Row.{text_cmp}
use Rattle.ix_machine.specs.Needs.{option_any}
use Rattle.ix_guard.specs.Counts.{names_of}
use Rattle.ix_guard.specs.Guarding.{Guarding, Lease}
use Rattle.ix_guard.specs.Protection.{list_needs, is_needed, leases_name, is_leased, other_leases, has_put, was_put, is_guarded, is_protected}
use Rattle.ix_guard.specs.Reasons.{IsNeededBy, the_visible_units, the_units_before, the_open_import, the_current_version, a_hold, IsLeasedBy, IsLeasedBySome, IsPutBy, IsLeasedByAnother}
use Rattle.ix_guard.proofs.Leasing.{leases_key}
use Rattle.ix_guard.proofs.Naming.{or_left, or_right, has_there, there_has}

false≢true : false ≡ true → ⊥
false≢true e = cc

none≢some : {X : Type 0} {x : X} → None ≡ Some x → ⊥
none≢some e = cc

some_same : {X : Type 0} {x y : X} → Some x ≡ Some y → x ≡ y
some_same e = cc

suc≢zero : {n : ℕ} → suc n ≡ zero → ⊥
suc≢zero e = absurd (omega (arith, e))

suc_same : {m n : ℕ} → suc m ≡ suc n → m ≡ n
suc_same e = omega (arith, e)

-- ---- options and lists of which one passes a test

-- what is there, and passes
record IsThere {X : Type 0} (p : X → Bool) (o : Option X) : Type 0 where
  what : X
  is : o ≡ Some what
  passes : p what ≡ true

option_there : {X : Type 0} (p : X → Bool) (o : Option X) → option_any p o ≡ true → IsThere p o
option_there p None e = absurd (false≢true e)
option_there p (Some x) e = record { what = x; is = refl; passes = e }

there_option : {X : Type 0} (p : X → Bool) (o : Option X) (x : X) → o ≡ Some x → p x ≡ true → option_any p o ≡ true
there_option p o x is e = ap (option_any p) is ∙ e

-- an element that passes, with its place
record Found {X : Type 0} (p : X → Bool) (xs : List X) : Type 0 where
  place : ℕ
  what : X
  is : slice_get xs place ≡ Some what
  passes : p what ≡ true

-- the same at another place than one
record FoundApart {X : Type 0} (at : ℕ) (p : X → Bool) (xs : List X) : Type 0 where
  place : ℕ
  apart : place ≢ at
  what : X
  is : slice_get xs place ≡ Some what
  passes : p what ≡ true

module _ {X : Type 0} (p : X → Bool) where
  any_found : (xs : List X) → list_any p xs ≡ true → Found p xs
  any_found [] e = absurd (false≢true e)
  any_found (x ∷ xs) e = go (p x) refl e (any_found xs)
    where
      go : (b : Bool) → p x ≡ b → (b || list_any p xs) ≡ true → (list_any p xs ≡ true → Found p xs) → Found p (x ∷ xs)
      go true f e rest = record { place = zero; what = x; is = refl; passes = f }
      go false f e rest = let r : Found p xs = rest e in record { place = suc r.place; what = r.what; is = r.is; passes = r.passes }

  found_any : (xs : List X) (k : ℕ) (x : X) → slice_get xs k ≡ Some x → p x ≡ true → list_any p xs ≡ true
  found_any [] zero x is e = absurd (none≢some is)
  found_any [] (suc k) x is e = absurd (none≢some is)
  found_any (y ∷ ys) zero x is e = or_left (list_any p ys) (ap p (some_same is) ∙ e)
  found_any (y ∷ ys) (suc k) x is e = or_right (p y) (found_any ys k x is e)

  others_found : (xs : List X) (n : ℕ) → list_any p (take n xs ++ drop (suc n) xs) ≡ true → FoundApart n p xs
  others_found [] zero e = absurd (false≢true e)
  others_found [] (suc n) e = absurd (false≢true e)
  others_found (x ∷ xs) zero e = let r : Found p xs = any_found xs e in record { place = suc r.place; apart = λ q. suc≢zero q; what = r.what; is = r.is; passes = r.passes }
  others_found (x ∷ xs) (suc n) e = go (p x) refl e (others_found xs n)
    where
      go : (b : Bool) → p x ≡ b → (b || list_any p (take n xs ++ drop (suc n) xs)) ≡ true → (list_any p (take n xs ++ drop (suc n) xs) ≡ true → FoundApart n p xs) → FoundApart (suc n) p (x ∷ xs)
      go true f e rest = record { place = zero; apart = λ q. suc≢zero (sym q); what = x; is = refl; passes = f }
      go false f e rest = let r : FoundApart n p xs = rest e in record { place = suc r.place; apart = λ q. r.apart (suc_same q); what = r.what; is = r.is; passes = r.passes }

  apart_any : (xs : List X) (n k : ℕ) (x : X) → k ≢ n → slice_get xs k ≡ Some x → p x ≡ true → list_any p (take n xs ++ drop (suc n) xs) ≡ true
  apart_any [] n zero x ne is e = absurd (none≢some is)
  apart_any [] n (suc k) x ne is e = absurd (none≢some is)
  apart_any (y ∷ ys) zero zero x ne is e = absurd (ne refl)
  apart_any (y ∷ ys) zero (suc k) x ne is e = found_any ys k x is e
  apart_any (y ∷ ys) (suc n) zero x ne is e = or_left (list_any p (take n ys ++ drop (suc n) ys)) (ap p (some_same is) ∙ e)
  apart_any (y ∷ ys) (suc n) (suc k) x ne is e = or_right (p y) (apart_any ys n k x (λ q. ne (ap suc q)) is e)

-- ---- need lists

data OneOf (a b c d e : Bool) : Type 0 where
  first : a ≡ true → OneOf a b c d e
  second : b ≡ true → OneOf a b c d e
  third : c ≡ true → OneOf a b c d e
  fourth : d ≡ true → OneOf a b c d e
  fifth : e ≡ true → OneOf a b c d e

one_of : (a b c d e : Bool) → (a || b || c || d || e) ≡ true → OneOf a b c d e
one_of true b c d e h = first refl
one_of false true c d e h = second refl
one_of false false true d e h = third refl
one_of false false false true e h = fourth refl
one_of false false false false e h = fifth h

by_one : (a b c d e : Bool) → OneOf a b c d e → (a || b || c || d || e) ≡ true
by_one true b c d e o = refl
by_one false true c d e o = refl
by_one false false true d e o = refl
by_one false false false true e o = refl
by_one false false false false e (first h) = absurd (false≢true h)
by_one false false false false e (second h) = absurd (false≢true h)
by_one false false false false e (third h) = absurd (false≢true h)
by_one false false false false e (fourth h) = absurd (false≢true h)
by_one false false false false e (fifth h) = h

module _ (g : Guarding) (name : List ℕ) where
  abbrev OneNeeds : Type 0
  OneNeeds = OneOf (list_needs name g.visible) (option_any (list_needs name) g.unsynced) (option_any (list_needs name) g.import) (list_needs name g.current) (list_any (option_any (list_needs name)) g.held)

  reason_of : OneNeeds → IsNeededBy g name
  reason_of (first h) = the_visible_units (has_there name (names_of g.visible) h)
  reason_of (second h) = let t : IsThere (list_needs name) g.unsynced = option_there (list_needs name) g.unsynced h in the_units_before t.what t.is (has_there name (names_of t.what) t.passes)
  reason_of (third h) = let t : IsThere (list_needs name) g.import = option_there (list_needs name) g.import h in the_open_import t.what t.is (has_there name (names_of t.what) t.passes)
  reason_of (fourth h) = the_current_version (has_there name (names_of g.current) h)
  reason_of (fifth h) =
      let f : Found (option_any (list_needs name)) g.held = any_found (option_any (list_needs name)) g.held h in
      let t : IsThere (list_needs name) f.what = option_there (list_needs name) f.what f.passes in
      a_hold f.place t.what (f.is ∙ ap Some t.is) (has_there name (names_of t.what) t.passes)

  needs_by : IsNeededBy g name → OneNeeds
  needs_by (the_visible_units has) = first (there_has name (names_of g.visible) has)
  needs_by (the_units_before list is has) = second (there_option (list_needs name) g.unsynced list is (there_has name (names_of list) has))
  needs_by (the_open_import list is has) = third (there_option (list_needs name) g.import list is (there_has name (names_of list) has))
  needs_by (the_current_version has) = fourth (there_has name (names_of g.current) has)
  needs_by (a_hold lane list is has) = fifth (found_any (option_any (list_needs name)) g.held lane (Some list) is (there_has name (names_of list) has))

  needed_for : is_needed g name ≡ true → IsNeededBy g name
  needed_for h = reason_of (one_of (list_needs name g.visible) (option_any (list_needs name) g.unsynced) (option_any (list_needs name) g.import) (list_needs name g.current) (list_any (option_any (list_needs name)) g.held) h)

  for_needed : IsNeededBy g name → is_needed g name ≡ true
  for_needed r = by_one (list_needs name g.visible) (option_any (list_needs name) g.unsynced) (option_any (list_needs name) g.import) (list_needs name g.current) (list_any (option_any (list_needs name)) g.held) (needs_by r)

-- ---- leases

module _ (g : Guarding) (name : List ℕ) where
  lease_has : (lane : ℕ) (o : Option Lease) → slice_get g.leases lane ≡ Some o → option_any (leases_name name) o ≡ true → IsLeasedBy g lane name
  lease_has lane o is e =
      let t : IsThere (leases_name name) o = option_there (leases_name name) o e in
      record { lease = t.what; is = is ∙ ap Some t.is; has = has_there name (keys_of t.what) (sym (leases_key name t.what) ∙ t.passes) }

  has_lease : (lane : ℕ) (l : IsLeasedBy g lane name) → option_any (leases_name name) (Some l.lease) ≡ true
  has_lease lane l = leases_key name l.lease ∙ there_has name (keys_of l.lease) l.has

  leased_by : is_leased name g.leases ≡ true → IsLeasedBySome g name
  leased_by e =
      let f : Found (option_any (leases_name name)) g.leases = any_found (option_any (leases_name name)) g.leases e in
      record { lane = f.place; leased = lease_has f.place f.what f.is f.passes }

  by_leased : IsLeasedBySome g name → is_leased name g.leases ≡ true
  by_leased l = found_any (option_any (leases_name name)) g.leases l.lane (Some l.leased.lease) l.leased.is (has_lease l.lane l.leased)

  behind : (lane : ℕ) → is_leased name (other_leases g lane) ≡ list_any (option_any (leases_name name)) (take lane g.leases ++ drop (suc lane) g.leases)
  behind lane = let e : lane + 1 ≡ suc lane = omega arith in ap (λ (m : ℕ). list_any (option_any (leases_name name)) (take lane g.leases ++ drop m g.leases)) e

  leased_apart : (lane : ℕ) → is_leased name (other_leases g lane) ≡ true → IsLeasedByAnother g lane name
  leased_apart lane e =
      let f : FoundApart lane (option_any (leases_name name)) g.leases = others_found (option_any (leases_name name)) g.leases lane (sym (behind lane) ∙ e) in
      record { other = f.place; apart = f.apart; leased = lease_has f.place f.what f.is f.passes }

  apart_leased : (lane : ℕ) → IsLeasedByAnother g lane name → is_leased name (other_leases g lane) ≡ true
  apart_leased lane l = behind lane ∙ apart_any (option_any (leases_name name)) g.leases lane l.other (Some l.leased.lease) l.apart l.leased.is (has_lease l.other l.leased)

-- ---- what was put

noted_true : (o : Option Bool) → option_any (λ put. put) o ≡ true → o ≡ Some true
noted_true None e = absurd (false≢true e)
noted_true (Some put) e = ap Some e

at_lane : {X : Type 0} (p : X → Bool) (xs : List (Option X)) (lane : ℕ) → option_any p (slice_index_or xs lane None) ≡ true → (x : X) × ((slice_get xs lane ≡ Some (Some x)) × (p x ≡ true))
at_lane p [] zero e = absurd (false≢true e)
at_lane p [] (suc lane) e = absurd (false≢true e)
at_lane p (o ∷ xs) zero e = let t : IsThere p o = option_there p o e in (t.what, (ap Some t.is, t.passes))
at_lane p (o ∷ xs) (suc lane) e = at_lane p xs lane e

lane_at : {X : Type 0} (p : X → Bool) (xs : List (Option X)) (lane : ℕ) (x : X) → slice_get xs lane ≡ Some (Some x) → p x ≡ true → option_any p (slice_index_or xs lane None) ≡ true
lane_at p [] zero x is e = absurd (none≢some is)
lane_at p [] (suc lane) x is e = absurd (none≢some is)
lane_at p (o ∷ xs) zero x is e = ap (option_any p) (some_same is) ∙ e
lane_at p (o ∷ xs) (suc lane) x is e = lane_at p xs lane x is e

module _ (g : Guarding) (lane : ℕ) (name : List ℕ) where
  put_by : was_put g lane name ≡ true → IsPutBy g lane name
  put_by e = let t = at_lane (has_put name) g.leases lane e in record { lease = t.0; is = t.1.0; has = noted_true (lookup (is_at (text_cmp name)) t.0) t.1.1 }

  by_put : IsPutBy g lane name → was_put g lane name ≡ true
  by_put p = lane_at (has_put name) g.leases lane p.lease p.is (ap (option_any (λ put. put)) p.has)

-- ---- what is guarded, and what is protected

of_three : (a b c : Bool) → (a || b || c) ≡ true → (a ≡ true) ⊎ ((b ≡ true) ⊎ (c ≡ true))
of_three true b c h = inl refl
of_three false true c h = inr (inl refl)
of_three false false c h = inr (inr h)

by_three : (a b c : Bool) → (a ≡ true) ⊎ ((b ≡ true) ⊎ (c ≡ true)) → (a || b || c) ≡ true
by_three true b c o = refl
by_three false true c o = refl
by_three false false c (inl h) = absurd (false≢true h)
by_three false false c (inr (inl h)) = absurd (false≢true h)
by_three false false c (inr (inr h)) = h

of_two : (a b : Bool) → (a || b) ≡ true → (a ≡ true) ⊎ (b ≡ true)
of_two true b h = inl refl
of_two false b h = inr h

module _ (g : Guarding) (lane : ℕ) (name : List ℕ) where
  why : (is_needed g name ≡ true) ⊎ ((is_leased name (other_leases g lane) ≡ true) ⊎ (was_put g lane name ≡ true)) → IsNeededBy g name ⊎ (IsLeasedByAnother g lane name ⊎ IsPutBy g lane name)
  why (inl h) = inl (needed_for g name h)
  why (inr (inl h)) = inr (inl (leased_apart g name lane h))
  why (inr (inr h)) = inr (inr (put_by g lane name h))

  so : IsNeededBy g name ⊎ (IsLeasedByAnother g lane name ⊎ IsPutBy g lane name) → (is_needed g name ≡ true) ⊎ ((is_leased name (other_leases g lane) ≡ true) ⊎ (was_put g lane name ≡ true))
  so (inl r) = inl (for_needed g name r)
  so (inr (inl r)) = inr (inl (apart_leased g name lane r))
  so (inr (inr r)) = inr (inr (by_put g lane name r))

  pub guarded_for : is_guarded g lane name ≡ true → IsNeededBy g name ⊎ (IsLeasedByAnother g lane name ⊎ IsPutBy g lane name)
  guarded_for h = why (of_three (is_needed g name) (is_leased name (other_leases g lane)) (was_put g lane name) h)

  pub for_guarded : IsNeededBy g name ⊎ (IsLeasedByAnother g lane name ⊎ IsPutBy g lane name) → is_guarded g lane name ≡ true
  for_guarded r = by_three (is_needed g name) (is_leased name (other_leases g lane)) (was_put g lane name) (so r)

module _ (g : Guarding) (name : List ℕ) where
  why_spared : (is_needed g name ≡ true) ⊎ (is_leased name g.leases ≡ true) → IsNeededBy g name ⊎ IsLeasedBySome g name
  why_spared (inl h) = inl (needed_for g name h)
  why_spared (inr h) = inr (leased_by g name h)

  pub protected_for : is_protected g name ≡ true → IsNeededBy g name ⊎ IsLeasedBySome g name
  protected_for h = why_spared (of_two (is_needed g name) (is_leased name g.leases) h)

  pub for_protected : IsNeededBy g name ⊎ IsLeasedBySome g name → is_protected g name ≡ true
  for_protected (inl r) = or_left (is_leased name g.leases) (for_needed g name r)
  for_protected (inr r) = or_right (is_needed g name) (by_leased g name r)
