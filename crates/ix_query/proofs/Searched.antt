-- Texts are UTF-8, folded too, and what std's search says of them.
use Rattle.std.proofs.Common.{◌≡◌, ℕ, zero, suc, ◌≤◌, Bool, true, false, cond, List, [], ◌∷◌, ◌++◌, length, take, map, Option, Some, None, MatchBool, ltb, refl, sym, ap, ◌∙◌, subst, arith, take_all, append_assoc}
use Rattle.std.proofs.lemmas.Bool.{ltb-false}
use Rattle.std.proofs.lemmas.Str.{IsUtf8-nil, IsUtf8-from_is_utf8, utf8_valid_len_le}
use Rattle.std.proofs.lemmas.Str.Pattern.{contains_text}
use Rattle.std.specs.Char.{to_ascii_lowercase}
use Rattle.std.specs.Str.{IsUtf8, is_utf8}
use Rattle.std.specs.Str.Lossy.{valid_len_up_to, utf8_valid_len}
use Rattle.std.specs.Str.Iter.{HasSubslice}
use Rattle.std.specs.Str.Pattern.{FindsText, HasMatch}
use Rattle.std_alloc.proofs.string.Cased.{lowered}
use Rattle.ix_types.specs.Text.{IsTextOrEmpty}
use Rattle.ix_types.specs.declared.text.TextError.{TextError}
use Rattle.ix_answers.specs.Meanings.{HasText}
use Rattle.ix_answers.specs.Pattern.{folded_byte, stands_in}
use Rattle.ix_answers.proofs.Texts.{has_text-in, has_text-out}

-- ---- what has no refusal is UTF-8

up_to : (b : Bool) (n k : ℕ) → k ≤ n → cond b (suc n) k ≤ suc n
up_to true n k le = omega arith
up_to false n k le = omega (arith, le)

valid_le : (bs : List ℕ) (n : ℕ) → valid_len_up_to bs n ≤ n
valid_le bs zero = omega arith
valid_le bs (suc n) = up_to (is_utf8 (take (suc n) bs)) n (valid_len_up_to bs n) (valid_le bs n)

all_or_less : (b : Bool) (n k : ℕ) → k ≤ n → cond b (suc n) k ≡ suc n → b ≡ true
all_or_less true n k le e = refl
all_or_less false n k le e = absurd (omega (arith, le, e))

whole_valid : (bs : List ℕ) (n : ℕ) → length bs ≡ n → valid_len_up_to bs n ≡ n → IsUtf8 bs
whole_valid [] n long e = IsUtf8-nil
whole_valid (b ∷ bs) zero long e = absurd (omega (arith, long))
whole_valid (b ∷ bs) (suc n) long e =
    let front : is_utf8 (take (suc n) (b ∷ bs)) ≡ true = all_or_less _ n (valid_len_up_to (b ∷ bs) n) (valid_le (b ∷ bs) n) e in
    let all : take (suc n) (b ∷ bs) ≡ b ∷ bs = take_all (suc n) (b ∷ bs) (omega (arith, long)) in
    IsUtf8-from_is_utf8 (b ∷ bs) (sym (ap is_utf8 all) ∙ front)

valid_is : (bs : List ℕ) → utf8_valid_len bs ≡ valid_len_up_to bs (length bs)
unfolding utf8_valid_len
valid_is bs = refl

no_refusal : (a b : Bool) (x y : TextError) (o : Option TextError) → cond a (Some x) (cond b (Some y) o) ≡ None → b ≡ false
no_refusal true b x y o e = absurd (cc)
no_refusal false true x y o e = absurd (cc)
no_refusal false false x y o e = refl

same_length : (a b : ℕ) → ltb a b ≡ false → a ≤ b → a ≡ b
same_length a b not_less within = omega (arith, ltb-false a b not_less, within)

pub text_is_utf8 : (bs : List ℕ) → IsTextOrEmpty bs → IsUtf8 bs
text_is_utf8 bs accepted =
    whole_valid bs (length bs) refl (sym (valid_is bs) ∙ same_length (utf8_valid_len bs) (length bs) (no_refusal _ _ _ _ _ accepted) (utf8_valid_len_le bs))

-- ---- and stays so where it is folded

folded_is : (byte : ℕ) → folded_byte byte ≡ to_ascii_lowercase byte
folded_is byte = grind arith

folded_all : (bs : List ℕ) → map to_ascii_lowercase bs ≡ map folded_byte bs
folded_all [] = refl
folded_all (b ∷ bs) = (λ i. sym (folded_is b) i ∷ folded_all bs i)

pub folded_utf8 : (bs : List ℕ) → IsUtf8 bs → IsUtf8 (map folded_byte bs)
folded_utf8 bs utf8 = subst IsUtf8 (folded_all bs) (lowered bs utf8)

pub text_stays : (text bytes : List ℕ) → IsTextOrEmpty text → bytes ≡ text → IsUtf8 bytes
text_stays text bytes accepted same = subst IsUtf8 (sym same) (text_is_utf8 text accepted)

pub text_folds : (text bytes into : List ℕ) → IsTextOrEmpty text → bytes ≡ text → into ≡ map folded_byte bytes → IsUtf8 into
text_folds text bytes into accepted same folds = subst IsUtf8 (sym folds) (folded_utf8 bytes (text_stays text bytes accepted same))

-- ---- std's search of a text

by_truth : (a b : Bool) → (a ≡ true → b ≡ true) → (b ≡ true → a ≡ true) → a ≡ b
by_truth true b f g = sym (f refl)
by_truth false true f g = g refl
by_truth false false f g = refl

never : false ≡ true → {P : Type 0} → P
never e = absurd (cc)

-- the two ways to write what lies around the text
in_front : (name front text rest : List ℕ) → name ≡ front ++ (text ++ rest) → name ≡ (front ++ text) ++ rest
in_front name front text rest e = let grouped = append_assoc front text rest in cc

behind : (name front text rest : List ℕ) → name ≡ (front ++ text) ++ rest → name ≡ front ++ (text ++ rest)
behind name front text rest e = let grouped = append_assoc front text rest in cc

around : (text name front rest : List ℕ) → name ≡ front ++ (text ++ rest) → HasText text false false name
around text name front rest e = record { front = front; rest = rest; whole = in_front name front text rest e; at_start = λ a. never a; at_end = λ a. never a }

found-in : (text name : List ℕ) → HasSubslice name text → stands_in text name ≡ true
found-in text name at = has_text-in false false text name (around text name at.0 at.1 at.2)

found-out : (text name : List ℕ) → stands_in text name ≡ true → HasSubslice name text
found-out text name t = let has = has_text-out false false text name t in (has.front, has.rest, behind name has.front text has.rest has.whole)

pub search_finds : (found : Bool) (text name : List ℕ) → MatchBool found (HasMatch (FindsText text) name) (FindsText text name None) → found ≡ stands_in text name
search_finds found text name is =
    by_truth found (stands_in text name) (λ t. found-in text name ((contains_text found text name is).0 t)) (λ t. (contains_text found text name is).1 (found-out text name t))
