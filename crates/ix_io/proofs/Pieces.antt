-- Lists of bytes that were moved in pieces.
use Rattle.std.proofs.Common.{◌≡◌, ℕ, ◌+◌, ◌-◌, ◌<◌, ◌≤◌, List, ◌++◌, length, take, drop, sym, ap, subst, ◌∙◌, arith, append_assoc}
use Rattle.std.proofs.Common.{Result, Ok, Err, OnErr, Option}
use Rattle.std.proofs.Math.Seq.{take-append_seam}
use Rattle.std.proofs.lemmas.List.{take-append-drop, drop-drop, length-take-le, length-append, take_rest}
use Rattle.std.proofs.KnownBytes.{Appends-kept, Consumes-trans}
use Rattle.std.specs.Io.KnownBytes.{Appends, Consumes, Keeps}
use Rattle.ix_io.specs.Transfer.{AppendsPart, TakesAtMost}

-- what holds anyway holds at an error
pub on_err : {T E P : Type 0} (r : Result T E) → P → OnErr r P
on_err (Ok x) p = tt
on_err (Err e) p = p

-- a front of what is left that was put before others, and what is left then, are what was left
pub front_and_rest : (xs left front behind : List ℕ) (at n : ℕ) → left ≡ take (length xs - at) (drop at xs)
    → n ≤ length left → front ≡ take n left → drop at xs ≡ take n (front ++ behind) ++ drop (at + n) xs
front_and_rest xs left front behind at n is fits copied =
    let all : left ≡ drop at xs = is ∙ take_rest xs at in
    let count : length front ≡ n = ap length copied ∙ length-take-le n left fits in
    let seam : take n (front ++ behind) ≡ take n (drop at xs) =
    ap (λ k. take k (front ++ behind)) (sym count) ∙ take-append_seam front behind ∙ copied ∙ ap (take n) all in
    sym (ap (λ l. l ++ drop (at + n) xs) seam ∙ ap (λ l. take n (drop at xs) ++ l) (sym (drop-drop n at xs)) ∙ take-append-drop n (drop at xs))

-- a front of the rest goes to what is done
pub moves_front : (all done rest : List ℕ) (n : ℕ) → all ≡ done ++ rest
    → all ≡ (done ++ take n rest) ++ take (length rest - n) (drop n rest)
moves_front all done rest n e =
    e ∙ ap (λ l. done ++ l) (sym (take-append-drop n rest)) ∙ sym (append_assoc done (take n rest) (drop n rest))
    ∙ ap (λ l. (done ++ take n rest) ++ l) (sym (take_rest rest n))

-- what is done is a front, where some is left
pub part_of_done : (a b c : Option (List ℕ)) (all done rest : List ℕ) → all ≡ done ++ rest → 0 < length rest
    → Appends a b done → Keeps b c → AppendsPart a c all
part_of_done a b c all done rest split more appended kept =
    let front : take (length done) all ≡ done = ap (take (length done)) split ∙ take-append_seam done rest in
    let short : length done < length all = omega (arith, ap length split, length-append done rest) in
    (length done, subst (Appends a c) (sym front) (Appends-kept a b c done appended kept), short)

-- with at most so many bytes more, at most their sum was taken
pub takes_more : (a b c : Option (List ℕ)) (bytes : List ℕ) (n most : ℕ) → Consumes a b bytes → TakesAtMost b c n
    → length bytes + n ≤ most → TakesAtMost a c most
takes_more a b c bytes n most before (front, taken, short) bound =
    (bytes ++ front, Consumes-trans a b c bytes front before taken, omega (arith, length-append bytes front))
