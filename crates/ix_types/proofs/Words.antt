-- The names of the set bits, one more at a time.
use Rattle.std.proofs.Common.{◌≡◌, ℕ, cond, ◌<◌, ◌==◌, Bool, true, false, List, [], ◌∷◌, ◌++◌, map, length, get_or, take, Result, Ok, Err, ◌+◌, refl, sym, ap, ◌∙◌, append_assoc, append-nil}
use Rattle.std.specs.Int.{bit_at}
use Rattle.std.specs.List.{filter, join_with_byte}
use Rattle.std.specs.Result.{OnErr}
use Rattle.std.proofs.lemmas.List.{map-append, take_more}
use Rattle.std.proofs.lemmas.List.Elements.{filter-append}
use Rattle.ix_types.specs.declared.code_table.CodeRow.{CodeRow}
use Rattle.ix_types.specs.CodeRows.{seen}
use Rattle.ix_types.specs.Codes.{Table, words_of}

abbrev pub is_nil : {X : Type 0} → List X → Bool
is_nil [] = true
is_nil (x ∷ xs) = false

-- the rows whose bits are set
abbrev pub set_rows : List CodeRow → ℕ → Table
set_rows rows bits = filter (λ row. bit_at bits row.0 == 1) (seen rows)

-- the names of the rows so far stand behind the front, and first says that there are none
pub record NamesSoFar (front out : List ℕ) (first : Bool) (rows : List CodeRow) (bits : ℕ) : Type 0 where
  pub words : out ≡ front ++ words_of (seen rows) bits
  pub none : first ≡ is_nil (set_rows rows bits)

pub join-push : (xs : List (List ℕ)) (y : List ℕ) → join_with_byte 43 (xs ++ y ∷ []) ≡ join_with_byte 43 xs ++ cond (is_nil xs) y (43 ∷ y)
join-push [] y = refl
join-push (x ∷ []) y = refl
join-push (x ∷ z ∷ zs) y = ap (λ rest. x ++ (43 ∷ rest)) (join-push (z ∷ zs) y) ∙ sym (append_assoc x (43 ∷ join_with_byte 43 (z ∷ zs)) (43 ∷ y))

is_nil-map : {X Y : Type 0} (f : X → Y) (xs : List X) → is_nil (map f xs) ≡ is_nil xs
is_nil-map f [] = refl
is_nil-map f (x ∷ xs) = refl

is_nil-push : {X : Type 0} (xs : List X) (y : X) → is_nil (xs ++ y ∷ []) ≡ false
is_nil-push [] y = refl
is_nil-push (x ∷ xs) y = refl

seen-push : (rows : List CodeRow) (row : CodeRow) → seen (rows ++ row ∷ []) ≡ seen rows ++ (row.code, row.name.now) ∷ []
seen-push rows row = map-append {B = ℕ × List ℕ} (λ r. (r.code, r.name.now)) rows (row ∷ [])

set_rows-push : (rows : List CodeRow) (row : CodeRow) (bits : ℕ) → set_rows (rows ++ row ∷ []) bits ≡ set_rows rows bits ++ cond (bit_at bits row.code == 1) ((row.code, row.name.now) ∷ []) []
set_rows-push rows row bits = ap (filter (λ r. bit_at bits r.0 == 1)) (seen-push rows row) ∙ filter-append (λ r. bit_at bits r.0 == 1) (seen rows) ((row.code, row.name.now) ∷ [])

pub no_names : (front : List ℕ) (bits : ℕ) → NamesSoFar front front true [] bits
no_names front bits = record { words = sym (append-nil front); none = refl }

pub one_clear : (front out : List ℕ) (first : Bool) (rows : List CodeRow) (row : CodeRow) (bits : ℕ) → NamesSoFar front out first rows bits → (bit_at bits row.code == 1) ≡ false → NamesSoFar front out first (rows ++ row ∷ []) bits
one_clear front out first rows row bits so_far clear =
    let same : set_rows (rows ++ row ∷ []) bits ≡ set_rows rows bits = set_rows-push rows row bits ∙ ap (λ b. set_rows rows bits ++ cond b ((row.code, row.name.now) ∷ []) []) clear ∙ append-nil (set_rows rows bits) in
    record {
      words = so_far.words ∙ ap (λ set. front ++ join_with_byte 43 (map (λ r. r.1) set)) (sym same);
      none = so_far.none ∙ ap is_nil (sym same);
    }

pub one_set : (front out : List ℕ) (first : Bool) (rows : List CodeRow) (row : CodeRow) (bits : ℕ) → NamesSoFar front out first rows bits → (bit_at bits row.code == 1) ≡ true → NamesSoFar front (out ++ cond first row.name.now (43 ∷ row.name.now)) false (rows ++ row ∷ []) bits
one_set front out first rows row bits so_far set =
    let old : Table = set_rows rows bits in
    let names : List (List ℕ) = map (λ r. r.1) old in
    let more : set_rows (rows ++ row ∷ []) bits ≡ old ++ (row.code, row.name.now) ∷ [] = set_rows-push rows row bits ∙ ap (λ b. old ++ cond b ((row.code, row.name.now) ∷ []) []) set in
    let joined : words_of (seen (rows ++ row ∷ [])) bits ≡ words_of (seen rows) bits ++ cond first row.name.now (43 ∷ row.name.now) =
    ap (λ s. join_with_byte 43 (map (λ r. r.1) s)) more
    ∙ ap (join_with_byte 43) (map-append {B = List ℕ} (λ r. r.1) old ((row.code, row.name.now) ∷ []))
    ∙ join-push names row.name.now
    ∙ ap (λ b. words_of (seen rows) bits ++ cond b row.name.now (43 ∷ row.name.now)) (is_nil-map (λ r. r.1) old ∙ sym so_far.none) in
    record {
      words = ap (λ o. o ++ cond first row.name.now (43 ∷ row.name.now)) so_far.words ∙ append_assoc front (words_of (seen rows) bits) (cond first row.name.now (43 ∷ row.name.now)) ∙ ap (λ w. front ++ w) (sym joined);
      none = sym (ap is_nil more ∙ is_nil-push old (row.code, row.name.now));
    }

-- one more row of a slice
pub next_clear : (front out new : List ℕ) (first now : Bool) (rows : List CodeRow) (i : ℕ) (d : CodeRow) (bits : ℕ) → NamesSoFar front out first (take i rows) bits → i < length rows → (bit_at bits (get_or rows i d).code == 1) ≡ false → new ≡ out → now ≡ first → NamesSoFar front new now (take (i + 1) rows) bits
next_clear front out new first now rows i d bits so_far inside clear is_new is_now =
    rw (take_more rows i d inside, is_new, is_now) (one_clear front out first (take i rows) (get_or rows i d) bits so_far clear)

pub next_set : (front out new : List ℕ) (first now : Bool) (rows : List CodeRow) (i : ℕ) (d : CodeRow) (bits : ℕ) → NamesSoFar front out first (take i rows) bits → i < length rows → (bit_at bits (get_or rows i d).code == 1) ≡ true → new ≡ out ++ cond first (get_or rows i d).name.now (43 ∷ (get_or rows i d).name.now) → now ≡ false → NamesSoFar front new now (take (i + 1) rows) bits
next_set front out new first now rows i d bits so_far inside set is_new is_now =
    rw (take_more rows i d inside, is_new, is_now) (one_set front out first (take i rows) (get_or rows i d) bits so_far set)

-- a list that begins as one that begins with the front begins with the front
take-within : (front rest new : List ℕ) → take (length (front ++ rest)) new ≡ front ++ rest → take (length front) new ≡ front
take-within [] rest new e = refl
take-within (x ∷ front) rest [] e = cc e
take-within (x ∷ front) rest (y ∷ new) e =
    let same : y ≡ x = cc e in
    let tail : take (length (front ++ rest)) new ≡ front ++ rest = cc e in
    ap (λ xs. y ∷ xs) (take-within front rest new tail) ∙ ap (λ z. z ∷ front) same

pub front_kept : (front out new rest : List ℕ) (m n : ℕ) → m ≡ length front → n ≡ length out → out ≡ front ++ rest → take n new ≡ out → take m new ≡ front
front_kept front out new rest m n is_m is_n is_out kept =
    rw is_m (take-within front rest new (ap (λ xs. take (length xs) new) (sym is_out) ∙ ap (λ k. take k new) (sym is_n) ∙ kept ∙ is_out))

pub on_err : {T E P : Type 0} (r : Result T E) → P → OnErr r P
on_err (Ok x) p = tt
on_err (Err e) p = p
