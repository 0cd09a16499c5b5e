-- What is left of a list that was sorted and had its repeats dropped.
use Rattle.std.proofs.Common.{◌≡◌, ◌↔◌, ◌&&◌, Bool, true, nat_eq, List, [], Contains, sym, subst}
use Rattle.std.specs.Str.{bytes_eq}
use Rattle.std.proofs.lemmas.Bool.{eqb-true}
use Rattle.ix_types.specs.declared.row.EdgeRow.{EdgeRow}
use Rattle.ix_answers.proofs.Members.{both-true, same}
use Rattle.std.specs.declared.cmp.Ordering.{Ordering}
use Rattle.std.specs.Cmp.{IsTotalOrder, IsEquivalence}
use Rattle.std.specs.Ordering.{eq_by_cmp}
use Rattle.std.specs.List.{dedup}
use Rattle.std.specs.List.Retain.{IsFiltered, DiffersFromLast}
use Rattle.std.specs.List.Sorted.{IsSorted, IsStrictlySortedBy, IsPermutation}
use Rattle.std.proofs.lemmas.List.Filters.{dedup_is}
use Rattle.std.proofs.lemmas.List.Kept.{IsStrictlySortedBy-dedup, Contains-dedup, Contains-from_dedup}
use Rattle.std.proofs.lemmas.List.Sorted.{Contains-permutation, IsPermutation-sym}

module _ {X : Type 0} (cmp : X → X → Ordering) (eq : X → X → Bool) (sorted final : List X) (dropped : IsFiltered (DiffersFromLast eq) [] sorted final) where
  is : final ≡ dedup eq sorted
  is = dedup_is eq sorted final dropped

  pub set_rises : IsTotalOrder cmp → ((x y : X) → eq x y ≡ eq_by_cmp cmp x y) → IsSorted cmp sorted → IsStrictlySortedBy cmp final
  set_rises total ties rises = subst (λ (xs : List X). IsStrictlySortedBy cmp xs) (sym is) (IsStrictlySortedBy-dedup total ties sorted rises)

  pub set_same : IsEquivalence eq → ((x y : X) → eq x y ≡ true → x ≡ y) → (items : List X) → IsPermutation items sorted → (x : X) → Contains final x ↔ Contains items x
  set_same equivalence exact items moved x = (
    λ c. Contains-permutation sorted items x (IsPermutation-sym items sorted moved) (Contains-from_dedup eq sorted x (subst (λ (xs : List X). Contains xs x) is c)),
    λ c. subst (λ (xs : List X). Contains xs x) (sym is) (Contains-dedup equivalence exact sorted x (Contains-permutation items sorted x moved c)),
  )

-- edges that are equal by their fields are one
pub same_edge : (x y : EdgeRow)
    → (nat_eq x.depth y.depth && (bytes_eq x.from y.from && (bytes_eq x.to y.to && (bytes_eq x.path y.path && (nat_eq x.line y.line && nat_eq x.column y.column))))) ≡ true → x ≡ y
same_edge x y e =
    let depth = both-true (nat_eq x.depth y.depth) _ e in
    let from = both-true (bytes_eq x.from y.from) _ depth.1 in
    let to = both-true (bytes_eq x.to y.to) _ from.1 in
    let path = both-true (bytes_eq x.path y.path) _ to.1 in
    let line = both-true (nat_eq x.line y.line) _ path.1 in
    λ i. record {
      depth = eqb-true x.depth y.depth depth.0 i;
      from = same x.from y.from from.0 i;
      to = same x.to y.to to.0 i;
      path = same x.path y.path path.0 i;
      line = eqb-true x.line y.line line.0 i;
      column = eqb-true x.column y.column line.1 i;
    }
