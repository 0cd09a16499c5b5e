-- Units that were found, one more at a time.
use Rattle.std.proofs.Common.{◌≡◌, ◌⊎◌, inl, inr, ℕ, ◌+◌, ◌<◌, not, List, [], ◌∷◌, ◌++◌, map, take, get_or, length, sym, ap, subst, ◌∙◌, Option, Some, None, IfSome, All, Result, Ok, Err}
use Rattle.std.proofs.lemmas.List.{take_more, map-append}
use Rattle.std.proofs.lemmas.List.Elements.{All-push, filter-append}
use Rattle.ix_dir.specs.declared.dir.Listed.{Listed}
use Rattle.ix_dir.specs.declared.moves.Move.{Move}
use Rattle.ix_unit.specs.declared.batch.UnitPut.{UnitPut}
use Rattle.ix_unit.specs.declared.fault.UnitError.{UnitError}
use Rattle.ix_unit.specs.declared.fault.UnitError.TheVariants.{Memory}
use Rattle.ix_unit.specs.declared.value.UnitValue.{UnitValue}
use Rattle.ix_cabinet.specs.Scan.{StampMap, unknown, is_known}

pub pushed : {A : Type 0} (P : A → Type 0) (xs ys : List A) (x : A) → ys ≡ xs ++ x ∷ [] → P x → All P xs → All P ys
pushed P xs ys x is px all = subst (All P) (sym is) (All-push P xs x all px)

pub pushed_where_told : {A : Type 0} (moves : Option (List Move)) (P : List Move → A → Type 0) (xs ys : List A) (x : A) → ys ≡ xs ++ x ∷ [] → IfSome moves (λ m. P m x) → IfSome moves (λ m. All (P m) xs → All (P m) ys)
pushed_where_told None P xs ys x is px = tt
pushed_where_told (Some m) P xs ys x is px = pushed (P m) xs ys x is px

pub applied : (before now : Option (List Move)) (P Q : List Move → Type 0) → now ≡ before → IfSome now (λ m. P m → Q m) → IfSome before P → IfSome before Q
applied None now P Q is step so_far = tt
applied (Some m) None P Q is step so_far = cc
applied (Some m) (Some n) P Q is step so_far =
    let same : n ≡ m = ap (λ o. elim o [ Some x ↦ x | None ↦ m ]) is in
    subst (λ x. P x → Q x) same step so_far

-- what the code read is the one value of the bytes
pub the_value : (r : Result UnitValue UnitError) (u v : UnitValue) → r ≡ Ok u → (r ≡ Ok v) ⊎ (r ≡ Err Memory) → u ≡ v
the_value (Ok w) u v is (inl e) = sym (ap (λ r. elim r [ Ok x ↦ x | Err e ↦ u ]) is) ∙ ap (λ r. elim r [ Ok x ↦ x | Err e ↦ v ]) e
the_value (Ok w) u v is (inr e) = cc
the_value (Err e) u v is h = cc

-- one listed file more
pub names_more : (known : StampMap) (listed : List Listed) (i : ℕ) (one : Listed) (before now : List UnitPut) → i < length listed → one ≡ get_or listed i one
    → map (λ p. p.name) before ≡ map (λ x. x.name) (unknown known (take i listed))
    → map (λ p. p.name) now ≡ map (λ p. p.name) before ++ map (λ x. x.name) (unknown known (one ∷ []))
    → map (λ p. p.name) now ≡ map (λ x. x.name) (unknown known (take (i + 1) listed))
names_more known listed i one before now small is so_far more =
    let taken : take (i + 1) listed ≡ take i listed ++ one ∷ [] = take_more listed i one small ∙ ap (λ x. take i listed ++ x ∷ []) (sym is) in
    more ∙ ap (λ names. names ++ map (λ x. x.name) (unknown known (one ∷ []))) so_far
    ∙ sym (map-append (λ x. x.name) (unknown known (take i listed)) (unknown known (one ∷ [])))
    ∙ ap (map (λ x. x.name)) (sym (filter-append (λ x. not (is_known known x)) (take i listed) (one ∷ [])))
    ∙ ap (λ xs. map (λ x. x.name) (unknown known xs)) (sym taken)
