-- What is left of a list that was sorted and had its repeats dropped.
use Rattle.std.proofs.Common.{◌≡◌, ◌↔◌, ◌&&◌, Bool, true, nat_eq, List, [], ◌∷◌, Contains, refl, sym, subst}
use Rattle.std.specs.Str.{bytes_eq}
use Rattle.std.specs.Cmp.Lexicographic.{pointwise}
use Rattle.std.proofs.lemmas.Bool.{eqb-true}
use Rattle.ix_types.specs.declared.row.OccRow.{OccRow}
use Rattle.ix_types.specs.declared.row.RelRow.{RelRow}
use Rattle.ix_answers.proofs.Members.{both-true, same}
use Rattle.std.specs.declared.cmp.Ordering.{Ordering}
use Rattle.std.specs.Cmp.{IsTotalOrder, IsEquivalence}
use Rattle.std.specs.Ordering.{eq_by_cmp}
use Rattle.std.specs.List.{dedup}
use Rattle.std.specs.List.Retain.{IsFiltered, DiffersFromLast}
use Rattle.std.specs.List.Sorted.{IsSorted, IsStrictlySortedBy, IsPermutation}
use Rattle.std.proofs.lemmas.List.Filters.{dedup_is}
use Rattle.std.proofs.lemmas.List.Kept.{IsStrictlySortedBy-dedup, Contains-dedup, Contains-from_dedup}
use Rattle.std.proofs.lemmas.List.Sorted.{Contains-permutation, IsPermutation-sym}

module _ {X : Type 0} (cmp : X → X → Ordering) (eq : X → X → Bool) (sorted final : List X) (dropped : IsFiltered (DiffersFromLast eq) [] sorted final) where
  is : final ≡ dedup eq sorted
  is = dedup_is eq sorted final dropped

  pub set_rises : IsTotalOrder cmp → ((x y : X) → eq x y ≡ eq_by_cmp cmp x y) → IsSorted cmp sorted → IsStrictlySortedBy cmp final
  set_rises total ties rises = subst (λ (xs : List X). IsStrictlySortedBy cmp xs) (sym is) (IsStrictlySortedBy-dedup total ties sorted rises)

  pub set_same : IsEquivalence eq → ((x y : X) → eq x y ≡ true → x ≡ y) → (items : List X) → IsPermutation items sorted → (x : X) → Contains final x ↔ Contains items x
  set_same equivalence exact items moved x = (
    λ c. Contains-permutation sorted items x (IsPermutation-sym items sorted moved) (Contains-from_dedup eq sorted x (subst (λ (xs : List X). Contains xs x) is c)),
    λ c. subst (λ (xs : List X). Contains xs x) (sym is) (Contains-dedup equivalence exact sorted x (Contains-permutation items sorted x moved c)),
  )

-- ---- rows that are equal by their fields are one

same_relation : (x y : RelRow) → (bytes_eq x.usr y.usr && nat_eq x.roles y.roles) ≡ true → x ≡ y
same_relation x y e =
    let b = both-true (bytes_eq x.usr y.usr) (nat_eq x.roles y.roles) e in
    let usr = same x.usr y.usr b.0 in
    let roles = eqb-true x.roles y.roles b.1 in
    λ i. record { usr = usr i; roles = roles i }

same_relations : (xs ys : List RelRow) → pointwise (λ x y. bytes_eq x.usr y.usr && nat_eq x.roles y.roles) xs ys ≡ true → xs ≡ ys
same_relations [] [] e = refl
same_relations [] (y ∷ ys) e = absurd (cc)
same_relations (x ∷ xs) [] e = absurd (cc)
same_relations (x ∷ xs) (y ∷ ys) e =
    let b = both-true (bytes_eq x.usr y.usr && nat_eq x.roles y.roles) (pointwise (λ x y. bytes_eq x.usr y.usr && nat_eq x.roles y.roles) xs ys) e in
    let first = same_relation x y b.0 in
    let rest = same_relations xs ys b.1 in
    λ i. first i ∷ rest i

pub same_row : (x y : OccRow)
    → (bytes_eq x.path y.path && (nat_eq x.line y.line && (nat_eq x.column y.column && (bytes_eq x.usr y.usr && (bytes_eq x.name y.name && (nat_eq x.kind y.kind
    && (nat_eq x.lang y.lang && (nat_eq x.props y.props && (nat_eq x.roles y.roles && pointwise (λ x y. bytes_eq x.usr y.usr && nat_eq x.roles y.roles) x.relations y.relations))))))))) ≡ true
    → x ≡ y
same_row x y e =
    let path = both-true (bytes_eq x.path y.path) _ e in
    let line = both-true (nat_eq x.line y.line) _ path.1 in
    let column = both-true (nat_eq x.column y.column) _ line.1 in
    let usr = both-true (bytes_eq x.usr y.usr) _ column.1 in
    let name = both-true (bytes_eq x.name y.name) _ usr.1 in
    let kind = both-true (nat_eq x.kind y.kind) _ name.1 in
    let lang = both-true (nat_eq x.lang y.lang) _ kind.1 in
    let props = both-true (nat_eq x.props y.props) _ lang.1 in
    let roles = both-true (nat_eq x.roles y.roles) _ props.1 in
    λ i. record {
      path = same x.path y.path path.0 i;
      line = eqb-true x.line y.line line.0 i;
      column = eqb-true x.column y.column column.0 i;
      usr = same x.usr y.usr usr.0 i;
      name = same x.name y.name name.0 i;
      kind = eqb-true x.kind y.kind kind.0 i;
      lang = eqb-true x.lang y.lang lang.0 i;
      props = eqb-true x.props y.props props.0 i;
      roles = eqb-true x.roles y.roles roles.0 i;
      relations = same_relations x.relations y.relations roles.1 i;
    }
