-- How the USRs of symbols are found, with one symbol more.
use Rattle.std.proofs.Common.{◌≡◌, ℕ, zero, suc, ◌<◌, ◌||◌, ◌++◌, not, Bool, true, false, cond, List, [], ◌∷◌, length, slice_get, Option, None, Some, nat_cmp, bytes_eq, refl, sym, ap, ◌∙◌, arith, Vec, Global}
use Rattle.std.specs.List.{list_any}
use Rattle.std.specs.Ordering.{is_eq, match_ordering}
use Rattle.std.specs.declared.cmp.Ordering.{Ordering}
use Rattle.std.specs.declared.cmp.Ordering.TheVariants.{Less, Equal, Greater}
use Rattle.std.specs.Cmp.Lexicographic.{slice_cmp, nat_list_eq_equiv}
use Rattle.std.specs.BTreeSet.{insert_key}
use Rattle.std.specs.BTreeMap.{BTreeMap, get, is_at}
use Rattle.std.specs.Cmp.{Equal-is, nat_cmp_is}
use Rattle.std.specs.FinMap.{nat_cmp-IsAntisymmetric}
use Rattle.std.proofs.lemmas.Map.Text.{is_eq-slice_cmp}
use Rattle.std.proofs.lemmas.Slice.Eq.{bytes_eq-Decides}
use Rattle.std.proofs.lemmas.List.{length-append}
use Rattle.std.proofs.lemmas.List.Folds.{list_any-append}
use Rattle.ix_plan.specs.declared.plan.SymbolPlan.{SymbolPlan}
use Rattle.ix_plan.specs.Plans.{is_usr_of}
use Rattle.ix_plan.specs.Usrs.{Keeps, KeepsNext, digest_of, has_key, is_at_place, is_usr}

-- the order of keys
abbrev pub key_cmp : Vec ℕ Global → Vec ℕ Global → Ordering
key_cmp a b = slice_cmp nat_cmp a.items b.items

pub contains_key : (keys : List (Vec ℕ Global)) (usr : List ℕ) → list_any (is_at (λ key. slice_cmp nat_cmp usr key.items)) keys ≡ has_key keys usr
contains_key [] usr = refl
contains_key (key ∷ keys) usr = rw (is_eq-slice_cmp usr key.items, contains_key keys usr) refl

or_last : (a b : Bool) → (a || b) ≡ (b || a)
or_last true true = refl
or_last true false = refl
or_last false true = refl
or_last false false = refl

or_known : (a b : Bool) → (a || b) ≡ ((a || b) || a)
or_known true b = refl
or_known false true = refl
or_known false false = refl

or_group : (a b c : Bool) → (a || (b || c)) ≡ ((a || b) || c)
or_group true b c = refl
or_group false b c = refl

or_none : (a b : Bool) → (a || b) ≡ (a || (b || false))
or_none true b = refl
or_none false true = refl
or_none false false = refl

-- a key beside the first, by how the two compare
beside : (other : List ℕ) (key first : Vec ℕ Global) (rest more : List (Vec ℕ Global)) (o : Ordering) → (is_eq o ≡ true → bytes_eq other key.items ≡ bytes_eq other first.items)
    → has_key more other ≡ (has_key rest other || bytes_eq other key.items)
    → has_key (match_ordering o (key ∷ first ∷ rest) (first ∷ rest) (first ∷ more)) other ≡ (has_key (first ∷ rest) other || bytes_eq other key.items)
beside other key first rest more Less same is = or_last (bytes_eq other key.items) (has_key (first ∷ rest) other)
beside other key first rest more Equal same is = let e : bytes_eq other key.items ≡ bytes_eq other first.items = same refl in rw e (or_known (bytes_eq other first.items) (has_key rest other))
beside other key first rest more Greater same is = rw is (or_group (bytes_eq other first.items) (has_key rest other) (bytes_eq other key.items))

pub has_inserted : (keys : List (Vec ℕ Global)) (key : Vec ℕ Global) (other : List ℕ) → has_key (insert_key key_cmp keys key) other ≡ (has_key keys other || bytes_eq other key.items)
has_inserted [] key other = grind arith
has_inserted (first ∷ keys) key other =
    beside other key first keys (insert_key key_cmp keys key) (key_cmp key first)
    (λ e. nat_list_eq_equiv.symm other key.items ∙ nat_list_eq_equiv.congr key.items first.items other (sym (is_eq-slice_cmp key.items first.items) ∙ e) ∙ nat_list_eq_equiv.symm first.items other)
    (has_inserted keys key other)

or_false : (a : Bool) → a ≡ (a || false)
or_false true = refl
or_false false = refl

-- a place of the symbols has the same symbol with one more behind them, and the one more has the place behind theirs
stays : (symbols : List SymbolPlan) (symbol : SymbolPlan) (place : ℕ) → place < length symbols → slice_get (symbols ++ symbol ∷ []) place ≡ slice_get symbols place
stays [] symbol place inside = absurd (omega (arith, inside))
stays (first ∷ symbols) symbol zero inside = refl
stays (first ∷ symbols) symbol (suc place) inside = stays symbols symbol place (omega (arith, inside))

is_last : (symbols : List SymbolPlan) (symbol : SymbolPlan) → slice_get (symbols ++ symbol ∷ []) (length symbols) ≡ Some symbol
is_last [] symbol = refl
is_last (first ∷ symbols) symbol = is_last symbols symbol

first_stays : (symbols : List SymbolPlan) (symbol : SymbolPlan) (usr : List ℕ) (first : Option ℕ) → ((place : ℕ) → first ≡ Some place → place < length symbols)
    → is_at_place (symbols ++ symbol ∷ []) first usr ≡ is_at_place symbols first usr
first_stays symbols symbol usr None inside = refl
first_stays symbols symbol usr (Some place) inside = ap (λ o. is_usr o usr) (stays symbols symbol place (inside place refl))

-- which symbols have a USR, with one symbol more
one_more_usr : (symbols : List SymbolPlan) (symbol : SymbolPlan) (usr : List ℕ) → (is_usr_of symbols usr || bytes_eq usr symbol.usr) ≡ is_usr_of (symbols ++ symbol ∷ []) usr
one_more_usr symbols symbol usr = or_none (is_usr_of symbols usr) (bytes_eq usr symbol.usr) ∙ sym (list_any-append (λ s. bytes_eq usr s.usr) symbols (symbol ∷ []))

one_more_place : (symbols : List SymbolPlan) (symbol : SymbolPlan) (place : ℕ) → place < length symbols → place < length (symbols ++ symbol ∷ [])
one_more_place symbols symbol place inside = omega (arith, inside, length-append symbols (symbol ∷ []))

same_number : (a b : ℕ) → is_eq (nat_cmp a b) ≡ true → a ≡ b
same_number a b e = nat_cmp-IsAntisymmetric a b ((Equal-is (nat_cmp a b)).0 e)

at_itself : (a : ℕ) → is_eq (nat_cmp a a) ≡ true
at_itself a = sym (ap is_eq (nat_cmp_is a a Equal refl))

-- USRs of two digests differ
differ : (other usr : List ℕ) (b : Bool) → bytes_eq other usr ≡ b → is_eq (nat_cmp (digest_of usr) (digest_of other)) ≡ false → bytes_eq other usr ≡ false
differ other usr false is apart = is
differ other usr true is apart =
    let e : true ≡ false = sym (at_itself (digest_of usr)) ∙ ap (λ u. is_eq (nat_cmp (digest_of usr) (digest_of u))) (sym ((bytes_eq-Decides other usr).0 is)) ∙ apart in absurd (cc)

-- no symbols
pub keeps_none : (firsts : BTreeMap ℕ ℕ) → ((digest : ℕ) → get nat_cmp firsts digest ≡ None) → Keeps firsts [] []
keeps_none firsts none = record {
  places = λ digest place stands. let e : None ≡ Some place = sym (none digest) ∙ stands in absurd (cc);
  usrs = λ usr. ap (λ first. is_at_place [] first usr || false) (none (digest_of usr));
}

-- what a digest's place says with a symbol more at it: of a USR with the digest, or of another
beside_place : (symbols : List SymbolPlan) (symbol : SymbolPlan) (before : Option ℕ) (other : List ℕ) (rest at : Bool) → (at ≡ true → before ≡ None) → (at ≡ false → bytes_eq other symbol.usr ≡ false)
    → ((place : ℕ) → before ≡ Some place → place < length symbols)
    → (is_at_place (symbols ++ symbol ∷ []) (cond at (Some (length symbols)) before) other || rest) ≡ ((is_at_place symbols before other || rest) || bytes_eq other symbol.usr)
beside_place symbols symbol before other rest true none apart inside =
    ap (λ o. is_usr o other || rest) (is_last symbols symbol) ∙ or_last (bytes_eq other symbol.usr) rest ∙ sym (ap (λ o. (is_at_place symbols o other || rest) || bytes_eq other symbol.usr) (none refl))
beside_place symbols symbol before other rest false none apart inside =
    ap (λ b. b || rest) (first_stays symbols symbol other before inside)
    ∙ or_false (is_at_place symbols before other || rest) ∙ ap (λ b. (is_at_place symbols before other || rest) || b) (sym (apart refl))

place_inside : (symbols : List SymbolPlan) (symbol : SymbolPlan) (before : Option ℕ) (at : Bool) (place : ℕ) → ((place : ℕ) → before ≡ Some place → place < length symbols)
    → cond at (Some (length symbols)) before ≡ Some place → place < length (symbols ++ symbol ∷ [])
place_inside symbols symbol before true place inside stands = let e : length symbols ≡ place = cc in omega (arith, e, length-append symbols (symbol ∷ []))
place_inside symbols symbol before false place inside stands = one_more_place symbols symbol place (inside place stands)

-- a symbol more, whose digest no other has
pub keeps_first : (firsts after : BTreeMap ℕ ℕ) (others : List (Vec ℕ Global)) (symbols : List SymbolPlan) (usr : List ℕ) (digest : ℕ) → Keeps firsts others symbols → digest ≡ digest_of usr → get nat_cmp firsts digest ≡ None
    → ((number : ℕ) → get nat_cmp after number ≡ cond (is_at (nat_cmp digest) number) (Some (length symbols)) (get nat_cmp firsts number)) → KeepsNext after others symbols usr
keeps_first firsts after others symbols usr digest keeps same none grown symbol is = record {
  places = λ number place stands. place_inside symbols symbol (get nat_cmp firsts number) (is_at (nat_cmp digest) number) place (keeps.places number) (sym (grown number) ∙ stands);
  usrs = λ other. ap (λ o. is_at_place (symbols ++ symbol ∷ []) o other || has_key others other) (grown (digest_of other))
      ∙ beside_place symbols symbol (get nat_cmp firsts (digest_of other)) other (has_key others other) (is_at (nat_cmp digest) (digest_of other))
      (λ e. ap (get nat_cmp firsts) (sym (same_number digest (digest_of other) e)) ∙ none)
      (λ e. differ other symbol.usr (bytes_eq other symbol.usr) refl (ap (λ n. is_eq (nat_cmp n (digest_of other))) (ap digest_of is ∙ sym same) ∙ e))
      (keeps.places (digest_of other))
      ∙ ap (λ b. b || bytes_eq other symbol.usr) (keeps.usrs other) ∙ one_more_usr symbols symbol other;
}

-- what stands under a number is put back
put_back : (digest number first : ℕ) (before : Option ℕ) (between : Option ℕ) (at : Bool) → (at ≡ true → before ≡ Some first) → (at ≡ false → between ≡ before) → cond at (Some first) between ≡ before
put_back digest number first before between true stood rest = sym (stood refl)
put_back digest number first before between false stood rest = rest refl

-- a symbol more, whose digest an earlier one has
pub keeps_other : (firsts between after : BTreeMap ℕ ℕ) (others grown : List (Vec ℕ Global)) (key : Vec ℕ Global) (symbols : List SymbolPlan) (usr : List ℕ) (digest first more : ℕ) → Keeps firsts others symbols
    → get nat_cmp firsts digest ≡ Some first → ((number : ℕ) → get nat_cmp between number ≡ cond (is_at (nat_cmp digest) number) (Some more) (get nat_cmp firsts number))
    → ((number : ℕ) → get nat_cmp after number ≡ cond (is_at (nat_cmp digest) number) (Some first) (get nat_cmp between number))
    → key.items ≡ usr → grown ≡ insert_key key_cmp others key → KeepsNext after grown symbols usr
keeps_other firsts between after others grown key symbols usr digest first more keeps stood put back is_key is_grown symbol is =
    let same : (number : ℕ) → get nat_cmp after number ≡ get nat_cmp firsts number =
    λ number. back number ∙ put_back digest number first (get nat_cmp firsts number) (get nat_cmp between number) (is_at (nat_cmp digest) number)
    (λ e. ap (get nat_cmp firsts) (sym (same_number digest number e)) ∙ stood) (λ e. put number ∙ ap (λ b. cond b (Some more) (get nat_cmp firsts number)) e) in
    record {
      places = λ number place stands. one_more_place symbols symbol place (keeps.places number place (sym (same number) ∙ stands));
      usrs = λ other. ap (λ o. is_at_place (symbols ++ symbol ∷ []) o other || has_key grown other) (same (digest_of other))
          ∙ ap (λ b. b || has_key grown other) (first_stays symbols symbol other (get nat_cmp firsts (digest_of other)) (keeps.places (digest_of other)))
          ∙ ap (λ b. is_at_place symbols (get nat_cmp firsts (digest_of other)) other || b) (ap (λ keys. has_key keys other) is_grown ∙ has_inserted others key other ∙ ap (λ u. has_key others other || bytes_eq other u) (is_key ∙ sym is))
          ∙ or_group (is_at_place symbols (get nat_cmp firsts (digest_of other)) other) (has_key others other) (bytes_eq other symbol.usr)
          ∙ ap (λ b. b || bytes_eq other symbol.usr) (keeps.usrs other) ∙ one_more_usr symbols symbol other;
    }

-- whether a USR is new
pub is_new : (firsts : BTreeMap ℕ ℕ) (others : List (Vec ℕ Global)) (symbols : List SymbolPlan) (usr : List ℕ) (digest : ℕ) (first : Option ℕ) → Keeps firsts others symbols → digest ≡ digest_of usr → get nat_cmp firsts digest ≡ first
    → not (is_at_place symbols first usr || has_key others usr) ≡ not (is_usr_of symbols usr)
is_new firsts others symbols usr digest first keeps same stood =
    ap not (ap (λ o. is_at_place symbols o usr || has_key others usr) (sym stood ∙ ap (get nat_cmp firsts) same) ∙ keeps.usrs usr)
