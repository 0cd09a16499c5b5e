-- The orders of texts and of edges are total, and only equal ones tie.
use Rattle.std.proofs.Common.{◌≡◌, refl}
use Rattle.std.specs.declared.cmp.Ordering.{Ordering}
use Rattle.std.specs.declared.cmp.Ordering.TheVariants.{Less, Equal, Greater}
use Rattle.std.specs.Ordering.{nat_cmp, ordering_then}
use Rattle.std.specs.Cmp.{IsTotalOrder}
use Rattle.std.specs.FinMap.{IsAntisymmetric, nat_cmp-IsAntisymmetric, slice_cmp-IsAntisymmetric}
use Rattle.std.proofs.lemmas.Cmp.{then_total, on_total, nat_cmp_total, nat_list_cmp_total}
use Rattle.ix_types.specs.Row.{text_cmp, edge_cmp}

pub text_cmp-IsAntisymmetric : IsAntisymmetric text_cmp
text_cmp-IsAntisymmetric = slice_cmp-IsAntisymmetric nat_cmp-IsAntisymmetric

pub text_cmp_total : IsTotalOrder text_cmp
text_cmp_total = nat_list_cmp_total

-- what ties in two orders, one after the other, ties in each
both : (a b : Ordering) → ordering_then a b ≡ Equal → (a ≡ Equal) × (b ≡ Equal)
both Less b e = absurd (cc)
both Equal b e = (refl, e)
both Greater b e = absurd (cc)

pub edge_cmp_total : IsTotalOrder edge_cmp
edge_cmp_total =
    then_total (on_total (λ e. e.depth) nat_cmp_total)
    (then_total (on_total (λ e. e.from) nat_list_cmp_total)
    (then_total (on_total (λ e. e.to) nat_list_cmp_total)
    (then_total (on_total (λ e. e.path) nat_list_cmp_total)
    (then_total (on_total (λ e. e.line) nat_cmp_total)
    (on_total (λ e. e.column) nat_cmp_total)))))

pub edge_cmp-IsAntisymmetric : IsAntisymmetric edge_cmp
edge_cmp-IsAntisymmetric a b e =
    let depth = both (nat_cmp a.depth b.depth) _ e in
    let from = both (text_cmp a.from b.from) _ depth.1 in
    let to = both (text_cmp a.to b.to) _ from.1 in
    let path = both (text_cmp a.path b.path) _ to.1 in
    let line = both (nat_cmp a.line b.line) _ path.1 in
    λ i. record {
      depth = nat_cmp-IsAntisymmetric a.depth b.depth depth.0 i;
      from = text_cmp-IsAntisymmetric a.from b.from from.0 i;
      to = text_cmp-IsAntisymmetric a.to b.to to.0 i;
      path = text_cmp-IsAntisymmetric a.path b.path path.0 i;
      line = nat_cmp-IsAntisymmetric a.line b.line line.0 i;
      column = nat_cmp-IsAntisymmetric a.column b.column line.1 i;
    }
