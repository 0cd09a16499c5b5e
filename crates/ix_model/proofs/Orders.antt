-- The orders of texts and of rows are total, and only equal ones tie.
use Rattle.std.proofs.Common.{◌≡◌, refl}
use Rattle.std.specs.declared.cmp.Ordering.{Ordering}
use Rattle.std.specs.declared.cmp.Ordering.TheVariants.{Less, Equal, Greater}
use Rattle.std.specs.Ordering.{nat_cmp, ordering_then}
use Rattle.std.specs.Cmp.{IsTotalOrder}
use Rattle.std.specs.FinMap.{IsAntisymmetric, nat_cmp-IsAntisymmetric, slice_cmp-IsAntisymmetric}
use Rattle.std.proofs.lemmas.Cmp.{then_total, on_total, nat_cmp_total, nat_list_cmp_total, lists_total}
use Rattle.ix_types.specs.Row.{text_cmp, relation_cmp, occurrence_cmp}

pub text_cmp-IsAntisymmetric : IsAntisymmetric text_cmp
text_cmp-IsAntisymmetric = slice_cmp-IsAntisymmetric nat_cmp-IsAntisymmetric

pub text_cmp_total : IsTotalOrder text_cmp
text_cmp_total = nat_list_cmp_total

-- what ties in two orders, one after the other, ties in each
both : (a b : Ordering) → ordering_then a b ≡ Equal → (a ≡ Equal) × (b ≡ Equal)
both Less b e = absurd (cc)
both Equal b e = (refl, e)
both Greater b e = absurd (cc)

pub relation_cmp_total : IsTotalOrder relation_cmp
relation_cmp_total = then_total (on_total (λ r. r.usr) nat_list_cmp_total) (on_total (λ r. r.roles) nat_cmp_total)

pub relation_cmp-IsAntisymmetric : IsAntisymmetric relation_cmp
relation_cmp-IsAntisymmetric a b e =
    let tied = both (text_cmp a.usr b.usr) (nat_cmp a.roles b.roles) e in
    λ i. record {
      usr = text_cmp-IsAntisymmetric a.usr b.usr tied.0 i;
      roles = nat_cmp-IsAntisymmetric a.roles b.roles tied.1 i;
    }

pub occurrence_cmp_total : IsTotalOrder occurrence_cmp
occurrence_cmp_total =
    then_total (on_total (λ r. r.path) nat_list_cmp_total)
    (then_total (on_total (λ r. r.line) nat_cmp_total)
    (then_total (on_total (λ r. r.column) nat_cmp_total)
    (then_total (on_total (λ r. r.usr) nat_list_cmp_total)
    (then_total (on_total (λ r. r.name) nat_list_cmp_total)
    (then_total (on_total (λ r. r.kind) nat_cmp_total)
    (then_total (on_total (λ r. r.lang) nat_cmp_total)
    (then_total (on_total (λ r. r.props) nat_cmp_total)
    (then_total (on_total (λ r. r.roles) nat_cmp_total)
    (on_total (λ r. r.relations) (lists_total relation_cmp_total))))))))))

pub occurrence_cmp-IsAntisymmetric : IsAntisymmetric occurrence_cmp
occurrence_cmp-IsAntisymmetric a b e =
    let path = both (text_cmp a.path b.path) _ e in
    let line = both (nat_cmp a.line b.line) _ path.1 in
    let column = both (nat_cmp a.column b.column) _ line.1 in
    let usr = both (text_cmp a.usr b.usr) _ column.1 in
    let name = both (text_cmp a.name b.name) _ usr.1 in
    let kind = both (nat_cmp a.kind b.kind) _ name.1 in
    let lang = both (nat_cmp a.lang b.lang) _ kind.1 in
    let props = both (nat_cmp a.props b.props) _ lang.1 in
    let roles = both (nat_cmp a.roles b.roles) _ props.1 in
    λ i. record {
      path = text_cmp-IsAntisymmetric a.path b.path path.0 i;
      line = nat_cmp-IsAntisymmetric a.line b.line line.0 i;
      column = nat_cmp-IsAntisymmetric a.column b.column column.0 i;
      usr = text_cmp-IsAntisymmetric a.usr b.usr usr.0 i;
      name = text_cmp-IsAntisymmetric a.name b.name name.0 i;
      kind = nat_cmp-IsAntisymmetric a.kind b.kind kind.0 i;
      lang = nat_cmp-IsAntisymmetric a.lang b.lang lang.0 i;
      props = nat_cmp-IsAntisymmetric a.props b.props props.0 i;
      roles = nat_cmp-IsAntisymmetric a.roles b.roles roles.0 i;
      relations = slice_cmp-IsAntisymmetric relation_cmp-IsAntisymmetric a.relations b.relations roles.1 i;
    }
