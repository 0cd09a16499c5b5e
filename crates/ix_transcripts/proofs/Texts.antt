-- Texts of lists, one element further.
use Rattle.std.proofs.Common.{◌≡◌, ℕ, suc, ◌+◌, ◌<◌, List, [], ◌∷◌, ◌++◌, length, get_or, take, drop, refl, sym, ap, subst, ◌∙◌, append_assoc, arith, Option}
use Rattle.std.specs.List.{enumerate_from, flat_map}
use Rattle.std.proofs.lemmas.List.{take_more, length-take-le, append-nil, take-append-drop}
use Rattle.std.proofs.lemmas.List.Concat.{flat_map-append}
use Rattle.ix_lanes.specs.declared.answered.AskResult.{AskResult}
use Rattle.ix_lanes.specs.declared.answered.AskResult.TheVariants.{Rows, NoneHeld, Fault, Lost, Damaged}
use Rattle.ix_replays.specs.Text.{result_text, row_line, newline}
use Rattle.ix_transcripts.specs.Lines.{result_words, rows_text}
use Rattle.ix_transcripts.specs.Sending.{Sends, Stops, WritesFront}
use Rattle.ix_transcripts.proofs.Sending.{sends_then, stops_then, stops_before}
use Rattle.std.proofs.KnownBytes.{Appends-trans}

module _ {X : Type 0} where
  pub text_step : (f : X → List ℕ) (xs : List X) (i : ℕ) (d : X) → i < length xs → flat_map f (take (i + 1) xs) ≡ flat_map f (take i xs) ++ f (get_or xs i d)
  text_step f xs i d within =
      ap (flat_map f) (take_more xs i d within) ∙ flat_map-append f (take i xs) (get_or xs i d ∷ []) ∙ ap (λ last. flat_map f (take i xs) ++ last) (append-nil (f (get_or xs i d)))

  pub text_rest : (f : X → List ℕ) (xs : List X) (k : ℕ) → flat_map f xs ≡ flat_map f (take k xs) ++ flat_map f (drop k xs)
  text_rest f xs k = ap (flat_map f) (sym (take-append-drop k xs)) ∙ flat_map-append f (take k xs) (drop k xs)

  enumerate_from-append : (n : ℕ) (xs ys : List X) → enumerate_from n (xs ++ ys) ≡ enumerate_from n xs ++ enumerate_from (n + length xs) ys
  enumerate_from-append n [] ys = let e : n ≡ n + 0 = omega arith in ap (λ k. enumerate_from k ys) e
  enumerate_from-append n (x ∷ xs) ys =
      let e : n + 1 + length xs ≡ n + suc (length xs) = omega arith in
      ap (λ rest. (n, x) ∷ rest) (enumerate_from-append (n + 1) xs ys ∙ ap (λ k. enumerate_from (n + 1) xs ++ enumerate_from k ys) e)

  -- counted from 0, the text of so many elements is a front
  pub counted_rest : (f : ℕ × X → List ℕ) (xs : List X) (k : ℕ) → flat_map f (enumerate_from 0 xs) ≡ flat_map f (enumerate_from 0 (take k xs)) ++ flat_map f (enumerate_from (0 + length (take k xs)) (drop k xs))
  counted_rest f xs k =
      ap (λ l. flat_map f (enumerate_from 0 l)) (sym (take-append-drop k xs)) ∙ ap (flat_map f) (enumerate_from-append 0 (take k xs) (drop k xs))
      ∙ flat_map-append f (enumerate_from 0 (take k xs)) (enumerate_from (0 + length (take k xs)) (drop k xs))

  pub counted_step : (f : ℕ × X → List ℕ) (xs : List X) (i : ℕ) (d : X) → i < length xs → flat_map f (enumerate_from 0 (take (i + 1) xs)) ≡ flat_map f (enumerate_from 0 (take i xs)) ++ f (i, get_or xs i d)
  counted_step f xs i d within =
      let e : 0 + length (take i xs) ≡ i = omega (arith, length-take-le i xs (omega arith)) in
      ap (λ l. flat_map f (enumerate_from 0 l)) (take_more xs i d within)
      ∙ ap (flat_map f) (enumerate_from-append 0 (take i xs) (get_or xs i d ∷ []))
      ∙ flat_map-append f (enumerate_from 0 (take i xs)) (enumerate_from (0 + length (take i xs)) (get_or xs i d ∷ []))
      ∙ ap (λ k. flat_map f (enumerate_from 0 (take i xs)) ++ (f (k, get_or xs i d) ++ [])) e
      ∙ ap (λ last. flat_map f (enumerate_from 0 (take i xs)) ++ last) (append-nil (f (i, get_or xs i d)))

pub sends_more : (a b c : Option (List ℕ)) (u v w done next more : List ℕ) → more ≡ done ++ next → Sends a u b v done → Sends b v c w next → Sends a u c w more
sends_more a b c u v w done next more is first second = subst (λ text. Sends a u c w text) (sym is) (sends_then a b c u v w done next first second)

pub stops_more : (a b c : Option (List ℕ)) (u v done next more rest whole : List ℕ) → more ≡ done ++ next → whole ≡ more ++ rest → Sends a u b v done → Stops b v c next → Stops a u c whole
stops_more a b c u v done next more rest whole is all first second =
    subst (λ text. Stops a u c text) (sym all) (subst (λ text. Stops a u c (text ++ rest)) (sym is) (stops_before a c u (done ++ next) rest (stops_then a b c u v done next first second)))

-- the line of an ask, and then its rows
pub answer_is : (before : List ℕ) (ended : AskResult) → before ++ result_text ended ≡ (before ++ result_words ended) ++ rows_text ended
answer_is before (Rows rows) = sym (append_assoc before (result_words (Rows rows)) (flat_map row_line rows))
answer_is before NoneHeld = sym (append-nil (before ++ result_words NoneHeld))
answer_is before Fault = sym (append-nil (before ++ result_words Fault))
answer_is before Lost = sym (append-nil (before ++ result_words Lost))
answer_is before Damaged = sym (append-nil (before ++ result_words Damaged))

-- what waits goes out in part
pub front_then : (a b c : Option (List ℕ)) (waits text : List ℕ) → Sends a [] b waits text → WritesFront b c waits → WritesFront a c text
front_then a b c waits text sends front =
    record {
      front = sends.sent ++ front.front;
      rest = front.rest;
      grown = Appends-trans a b c sends.sent front.front sends.grown front.grown;
      all = sends.all ∙ ap (λ l. sends.sent ++ l) front.all ∙ sym (append_assoc sends.sent front.front front.rest);
    }
