-- Sums over maps on their way: what comes and goes balances.
use Rattle.std.proofs.Common.{◌≡◌, ℕ, ◌+◌, Bool, true, false, cond, List, [], ◌∷◌, Option, Some, None, refl, sym, ap, ◌∙◌, arith}
use Rattle.std.specs.declared.cmp.Ordering.TheVariants.{Less, Equal, Greater}
use Rattle.std.specs.Ordering.{match_ordering, is_eq}
use Rattle.std.specs.List.{flat_map, sum_by, fold}
use Rattle.std.specs.Option.{option_map, option_to_list}
use Rattle.std.proofs.lemmas.List.Sums.{sum_by-append, sum_by-cons}
use Rattle.ix_types.specs.Row.{text_cmp}
use Rattle.ix_unit.specs.declared.value.UnitValue.{UnitValue}
use Rattle.ix_unit.specs.declared.batch.UnitPut.{UnitPut}
use Rattle.ix_pages.specs.Pairs.{IsRising, look_up, with_pair, without_key}
use Rattle.ix_outline.specs.Balance.{Balances}
use Rattle.ix_outline.specs.Moving.{Named, Moving, unmoved, standing, moved_in, moved_out, with_put, units_moved, come, stay_or_come, settled, outlines_moved}
use Rattle.ix_outline.specs.declared.outline.Outline.{Outline}
use Rattle.ix_outline.proofs.Keyed.{names-same, all_behind, none_behind, rising_with, rising_without}

pub sum-flat_map : {X Y : Type 0} (f : X → List Y) (m : Y → ℕ) (xs : List X) → sum_by m (flat_map f xs) ≡ sum_by (λ x. sum_by m (f x)) xs
sum-flat_map f m [] = refl
sum-flat_map f m (x ∷ xs) =
    let head = sum_by-append m (f x) (flat_map f xs) in
    let rest = sum-flat_map f m xs in
    let more = sum_by-cons (λ y. sum_by m (f y)) x xs in
    head ∙ (ap (λ n. sum_by m (f x) + n) rest ∙ sym more)

-- what items give balances where the items do
pub balance_of_facts : {X Y : Type 0} (f : X → List Y) (before after gained lost : List X) → Balances before after gained lost
    → Balances (flat_map f before) (flat_map f after) (flat_map f gained) (flat_map f lost)
balance_of_facts f before after gained lost is = record {
  each = λ m.
      let b = sum-flat_map f m before in
      let a = sum-flat_map f m after in
      let g = sum-flat_map f m gained in
      let l = sum-flat_map f m lost in
      let e = is.each (λ x. sum_by m (f x)) in
      ap (λ n. n + sum_by m (flat_map f lost)) a ∙ (ap (λ n. sum_by (λ x. sum_by m (f x)) after + n) l
      ∙ (e ∙ (ap (λ n. n + sum_by (λ x. sum_by m (f x)) gained) (sym b) ∙ ap (λ n. sum_by m (flat_map f before) + n) (sym g))));
}

module _ {T : Type 0} where
  put-sum : (m : List ℕ × T → ℕ) (name : List ℕ) (value : T) (es : Named T) → IsRising text_cmp es
      → sum_by m (with_pair text_cmp es (name, value)) + sum_by m (standing es name) ≡ sum_by m es + m (name, value)
  put-sum m name value [] rising = let one = sum_by-cons m (name, value) [] in omega arith
  put-sum m name value (e ∷ es) rising =
      (elim (text_cmp name e.0) as (λ r. text_cmp name e.0 ≡ r → sum_by m (match_ordering r ((name, value) ∷ e ∷ es) ((name, value) ∷ es) (e ∷ with_pair text_cmp es (name, value))) + sum_by m (option_to_list (option_map (λ (v : T). (name, v)) (cond (is_eq r) (Some e.1) (look_up text_cmp es name)))) ≡ sum_by m (e ∷ es) + m (name, value)) [
        | Less ↦ λ c. less c (none_behind name es (all_behind name e.0 c es rising.0))
        | Equal ↦ λ c. equal (names-same name e.0 c)
        | Greater ↦ λ c. greater (put-sum m name value es rising.1)
      ]) refl
    where
      less : text_cmp name e.0 ≡ Less → look_up text_cmp es name ≡ None
          → sum_by m ((name, value) ∷ e ∷ es) + sum_by m (option_to_list (option_map (λ (v : T). (name, v)) (look_up text_cmp es name))) ≡ sum_by m (e ∷ es) + m (name, value)
      less c none =
          let gone : sum_by m (option_to_list (option_map (λ (v : T). (name, v)) (look_up text_cmp es name))) ≡ 0 = ap (λ (o : Option T). sum_by m (option_to_list (option_map (λ (v : T). (name, v)) o))) none in
          let more = sum_by-cons m (name, value) (e ∷ es) in
          omega arith

      equal : name ≡ e.0 → sum_by m ((name, value) ∷ es) + sum_by m ((name, e.1) ∷ []) ≡ sum_by m (e ∷ es) + m (name, value)
      equal is =
          let one = sum_by-cons m (name, value) es in
          let two = sum_by-cons m (name, e.1) [] in
          let three = sum_by-cons m e es in
          let head : m (name, e.1) ≡ m e = ap (λ (n : List ℕ). m (n, e.1)) is in
          omega arith

      greater : sum_by m (with_pair text_cmp es (name, value)) + sum_by m (standing es name) ≡ sum_by m es + m (name, value)
          → sum_by m (e ∷ with_pair text_cmp es (name, value)) + sum_by m (standing es name) ≡ sum_by m (e ∷ es) + m (name, value)
      greater rest =
          let one = sum_by-cons m e (with_pair text_cmp es (name, value)) in
          let two = sum_by-cons m e es in
          omega arith

  take-sum : (m : List ℕ × T → ℕ) (name : List ℕ) (es : Named T) → sum_by m (without_key text_cmp es name) + sum_by m (standing es name) ≡ sum_by m es
  take-sum m name [] = refl
  take-sum m name (e ∷ es) =
      (elim (text_cmp name e.0) as (λ r. text_cmp name e.0 ≡ r → sum_by m (cond (is_eq r) es (e ∷ without_key text_cmp es name)) + sum_by m (option_to_list (option_map (λ (v : T). (name, v)) (cond (is_eq r) (Some e.1) (look_up text_cmp es name)))) ≡ sum_by m (e ∷ es)) [
        | Less ↦ λ c. apart (take-sum m name es)
        | Equal ↦ λ c. equal (names-same name e.0 c)
        | Greater ↦ λ c. apart (take-sum m name es)
      ]) refl
    where
      equal : name ≡ e.0 → sum_by m es + sum_by m ((name, e.1) ∷ []) ≡ sum_by m (e ∷ es)
      equal is =
          let two = sum_by-cons m (name, e.1) [] in
          let three = sum_by-cons m e es in
          let head : m (name, e.1) ≡ m e = ap (λ (n : List ℕ). m (n, e.1)) is in
          omega arith

      apart : sum_by m (without_key text_cmp es name) + sum_by m (standing es name) ≡ sum_by m es
          → sum_by m (e ∷ without_key text_cmp es name) + sum_by m (standing es name) ≡ sum_by m (e ∷ es)
      apart rest =
          let one = sum_by-cons m e (without_key text_cmp es name) in
          let two = sum_by-cons m e es in
          omega arith

  -- a map on its way from another
  pub record IsMoved (start : Named T) (m : Moving T) : Type 0 where
    pub rises : IsRising text_cmp m.entries
    pub balances : Balances start m.entries m.gained m.lost

  pub begins : (start : Named T) → IsRising text_cmp start → IsMoved start (unmoved start)
  begins start rises = record { rises = rises; balances = record { each = λ measure. refl } }

  pub in-moves : (start : Named T) (m : Moving T) (name : List ℕ) (value : T) → IsMoved start m → IsMoved start (moved_in m name value)
  in-moves start m name value is = record {
    rises = rising_with name value m.entries is.rises;
    balances = record {
      each = λ measure.
          let so_far = is.balances.each measure in
          let step = put-sum measure name value m.entries is.rises in
          let gained = sum_by-append measure m.gained ((name, value) ∷ []) in
          let one = sum_by-cons measure (name, value) [] in
          let lost = sum_by-append measure m.lost (standing m.entries name) in
          omega arith;
    };
  }

  pub out-moves : (start : Named T) (m : Moving T) (name : List ℕ) → IsMoved start m → IsMoved start (moved_out m name)
  out-moves start m name is = record {
    rises = rising_without name m.entries is.rises;
    balances = record {
      each = λ measure.
          let so_far = is.balances.each measure in
          let step = take-sum measure name m.entries in
          let lost = sum_by-append measure m.lost (standing m.entries name) in
          omega arith;
    };
  }

  pub all-out : (start : Named T) (names : List (List ℕ)) (m : Moving T) → IsMoved start m → IsMoved start (fold moved_out m names)
  all-out start [] m is = is
  all-out start (name ∷ names) m is = all-out start names (moved_out m name) (out-moves start m name is)

all-puts : (start : Named UnitValue) (puts : List UnitPut) (m : Moving UnitValue) → IsMoved start m → IsMoved start (fold with_put m puts)
all-puts start [] m is = is
all-puts start (put ∷ puts) m is = all-puts start puts (with_put m put) (in-moves start m put.name put.unit.value is)

pub units-move : (puts : List UnitPut) (gone : List (List ℕ)) (units : Named UnitValue) → IsRising text_cmp units → IsMoved units (units_moved puts gone units)
unfolding units_moved
units-move puts gone units rises = all-out units gone (fold with_put (unmoved units) puts) (all-puts units puts (unmoved units) (begins units rises))

one-settled : (listed : List ℕ → Bool) (bodies start : Named Outline) (m : Moving Outline) (name : List ℕ) → IsMoved start m → IsMoved start (settled listed bodies m name)
one-settled listed bodies start m name is =
    elim (listed name) as (λ b. IsMoved start (cond b (stay_or_come m name (look_up text_cmp m.entries name) (look_up text_cmp bodies name)) (moved_out m name))) [
      | true ↦ stands (look_up text_cmp m.entries name)
      | false ↦ out-moves start m name is
    ]
  where
    comes : (body : Option Outline) → IsMoved start (come m name body)
    comes None = is
    comes (Some outline) = in-moves start m name outline is

    stands : (here : Option Outline) → IsMoved start (stay_or_come m name here (look_up text_cmp bodies name))
    stands None = comes (look_up text_cmp bodies name)
    stands (Some outline) = is

all-settled : (listed : List ℕ → Bool) (bodies start : Named Outline) (names : List (List ℕ)) (m : Moving Outline) → IsMoved start m → IsMoved start (fold (settled listed bodies) m names)
all-settled listed bodies start [] m is = is
all-settled listed bodies start (name ∷ names) m is = all-settled listed bodies start names (settled listed bodies m name) (one-settled listed bodies start m name is)

pub outlines-move : (listed : List ℕ → Bool) (bodies : Named Outline) (names : List (List ℕ)) (outlines : Named Outline) → IsRising text_cmp outlines → IsMoved outlines (outlines_moved listed bodies names outlines)
unfolding outlines_moved
outlines-move listed bodies names outlines rises = all-settled listed bodies outlines names (unmoved outlines) (begins outlines rises)
