-- Where a pattern's text stands in a name.
use Rattle.std.proofs.Common.{◌≡◌, ℕ, ◌-◌, ◌<◌, ◌≤◌, ◌+◌, ◌⊎◌, inl, inr, Bool, true, false, ◌||◌, List, [], ◌∷◌, ◌++◌, length, get_or, take, drop, nat_eq, refl, sym, ap, ◌∙◌, subst, arith, append-nil}
use Rattle.std.specs.List.{starts_with, ends_with}
use Rattle.std.proofs.lemmas.List.{take-append-drop, take_at, drop_more, take_rest}
use Rattle.std.proofs.lemmas.List.Prefix.{end_rest}
use Rattle.ix_answers.specs.Pattern.{folded_byte, stands_in, stands_at}
use Rattle.ix_answers.specs.Meanings.{HasText}
use Rattle.ix_answers.proofs.Members.{same, equal, either-true, true-left, true-right}

-- a front of the name
front-out : (name text : List ℕ) → starts_with nat_eq name text ≡ true → name ≡ text ++ drop (length text) name
front-out name text e =
    sym (take-append-drop (length text) name) ∙ ap (λ (t : List ℕ). t ++ drop (length text) name) (sym (same text (take (length text) name) e))

front-in : (name text rest : List ℕ) → name ≡ text ++ rest → starts_with nat_eq name text ≡ true
front-in name text rest e = equal text (take (length text) name) (sym (ap (take (length text)) e ∙ take_at text rest (length text) refl))

-- an end of the name
end-out : (name text : List ℕ) → ends_with nat_eq name text ≡ true → name ≡ take (length name - length text) name ++ text
end-out name text e =
    sym (take-append-drop (length name - length text) name) ∙ ap (λ (t : List ℕ). take (length name - length text) name ++ t) (sym (same text (drop (length name - length text) name) e))

end-in : (name text front : List ℕ) → name ≡ front ++ text → ends_with nat_eq name text ≡ true
end-in name text front e = equal text (drop (length name - length text) name) (sym (end_rest name text front e))

-- somewhere in the name
record Around (text name : List ℕ) : Type 0 where
  front : List ℕ
  rest : List ℕ
  whole : name ≡ front ++ text ++ rest

inside-out : (text name : List ℕ) → stands_in text name ≡ true → Around text name
inside-out text [] e = record { front = []; rest = drop (length text) []; whole = front-out [] text e }
inside-out text (byte ∷ bytes) e = by_place (either-true (starts_with nat_eq (byte ∷ bytes) text) (stands_in text bytes) e) (λ k. inside-out text bytes k)
  where
    by_place : (starts_with nat_eq (byte ∷ bytes) text ≡ true) ⊎ (stands_in text bytes ≡ true) → (stands_in text bytes ≡ true → Around text bytes) → Around text (byte ∷ bytes)
    by_place (inl k) f = record { front = []; rest = drop (length text) (byte ∷ bytes); whole = front-out (byte ∷ bytes) text k }
    by_place (inr k) f = let a = f k in record { front = byte ∷ a.front; rest = a.rest; whole = ap (λ (t : List ℕ). byte ∷ t) a.whole }

at_front : (text name : List ℕ) → starts_with nat_eq name text ≡ true → stands_in text name ≡ true
at_front text [] e = e
at_front text (byte ∷ bytes) e = true-left (starts_with nat_eq (byte ∷ bytes) text) (stands_in text bytes) e

inside-in : (text front rest : List ℕ) → stands_in text (front ++ text ++ rest) ≡ true
inside-in text [] rest = at_front text (text ++ rest) (front-in (text ++ rest) text rest refl)
inside-in text (byte ∷ front) rest =
    true-right (starts_with nat_eq (byte ∷ (front ++ text ++ rest)) text) (stands_in text (front ++ text ++ rest)) (inside-in text front rest)

never : false ≡ true → {P : Type 0} → P
never e = absurd (cc)

pub has_text-out : (start end : Bool) (text name : List ℕ) → stands_at start end text name ≡ true → HasText text start end name
has_text-out true true text name e = record { front = []; rest = []; whole = same name text e ∙ sym (append-nil text); at_start = λ s. refl; at_end = λ s. refl }
has_text-out true false text name e = record { front = []; rest = drop (length text) name; whole = front-out name text e; at_start = λ s. refl; at_end = λ s. absurd (cc) }
has_text-out false true text name e = record { front = take (length name - length text) name; rest = []; whole = end-out name text e ∙ sym (append-nil (take (length name - length text) name ++ text)); at_start = λ s. absurd (cc); at_end = λ s. refl }
has_text-out false false text name e = let a = inside-out text name e in record { front = a.front; rest = a.rest; whole = a.whole; at_start = λ s. absurd (cc); at_end = λ s. absurd (cc) }

-- where the front and the rest are known to be empty
without_front : (front text rest : List ℕ) → front ≡ [] → front ++ text ++ rest ≡ text ++ rest
without_front front text rest e = ap (λ (f : List ℕ). f ++ text ++ rest) e

without_rest : (front text rest : List ℕ) → rest ≡ [] → front ++ text ++ rest ≡ front ++ text
without_rest front text rest e = ap (λ (r : List ℕ). front ++ text ++ r) e ∙ append-nil (front ++ text)

pub has_text-in : (start end : Bool) (text name : List ℕ) → HasText text start end name → stands_at start end text name ≡ true
has_text-in true true text name h =
    let with_rest : name ≡ text ++ h.rest = h.whole ∙ without_front h.front text h.rest (h.at_start refl) in
    equal name text (with_rest ∙ (ap (λ (r : List ℕ). text ++ r) (h.at_end refl) ∙ append-nil text))
has_text-in true false text name h = front-in name text h.rest (h.whole ∙ without_front h.front text h.rest (h.at_start refl))
has_text-in false true text name h = end-in name text h.front (h.whole ∙ without_rest h.front text h.rest (h.at_end refl))
has_text-in false false text name h = subst (λ (n : List ℕ). stands_in text n ≡ true) (sym h.whole) (inside-in text h.front h.rest)

-- ---- folding

pub folded-letter : (byte : ℕ) → 65 ≤ byte → byte ≤ 90 → folded_byte byte ≡ byte + 32
folded-letter byte low high = grind (arith, low, high)

pub folded-other : (byte : ℕ) → (byte < 65) ⊎ (90 < byte) → folded_byte byte ≡ byte
folded-other byte (inl low) = grind (arith, low)
folded-other byte (inr high) = grind (arith, high)

-- ---- a search from the front

no_left : (a b : Bool) → a ≡ false → (a || b) ≡ b
no_left true b e = absurd (cc)
no_left false b e = refl

-- where the text doesn't stand at a place, it stands behind it if at all
pub one_on : (text name : List ℕ) (at : ℕ) → at < length name → starts_with nat_eq (take (length name - at) (drop at name)) text ≡ false → stands_in text (drop at name) ≡ stands_in text name → stands_in text (drop (at + 1) name) ≡ stands_in text name
one_on text name at within none so_far =
    let split : drop at name ≡ get_or name at 0 ∷ drop (at + 1) name = drop_more name at 0 within in
    let front : starts_with nat_eq (get_or name at 0 ∷ drop (at + 1) name) text ≡ false = ap (λ (t : List ℕ). starts_with nat_eq t text) (sym split ∙ sym (take_rest name at)) ∙ none in
    sym (no_left (starts_with nat_eq (get_or name at 0 ∷ drop (at + 1) name) text) (stands_in text (drop (at + 1) name)) front) ∙ (sym (ap (stands_in text) split) ∙ so_far)
