-- The orders of what a job sorts are total, and of all but symbols only equal ones tie.
use Rattle.std.proofs.Common.{◌≡◌, true, false, refl}
use Rattle.std.specs.declared.cmp.Ordering.{Ordering}
use Rattle.std.specs.declared.cmp.Ordering.TheVariants.{Less, Equal, Greater}
use Rattle.std.specs.Ordering.{nat_cmp, bool_cmp, ordering_then}
use Rattle.std.specs.Cmp.{IsTotalOrder, bool_cmp_total}
use Rattle.std.specs.FinMap.{IsAntisymmetric, nat_cmp-IsAntisymmetric, slice_cmp-IsAntisymmetric}
use Rattle.std.proofs.lemmas.Cmp.{then_total, on_total, nat_cmp_total, nat_list_cmp_total, lists_total}
use Rattle.ix_types.specs.Row.{text_cmp}
use Rattle.ix_record.specs.Order.{symbol_cmp, relation_cmp, occurrence_cmp}
use Rattle.ix_unit.specs.Order.{record_dep_cmp, file_dep_cmp, include_cmp}
use Rattle.ix_jobs.specs.Made.{body_cmp}

-- what ties in two orders, one after the other, ties in each
both : (a b : Ordering) → ordering_then a b ≡ Equal → (a ≡ Equal) × (b ≡ Equal)
both Less b e = absurd (cc)
both Equal b e = (refl, e)
both Greater b e = absurd (cc)

pub bool_exact : IsAntisymmetric bool_cmp
bool_exact true true e = refl
bool_exact true false e = cc
bool_exact false true e = cc
bool_exact false false e = refl

pub text_exact : IsAntisymmetric text_cmp
text_exact = slice_cmp-IsAntisymmetric nat_cmp-IsAntisymmetric

pub text_total : IsTotalOrder text_cmp
text_total = nat_list_cmp_total

pub symbol_total : IsTotalOrder symbol_cmp
symbol_total = on_total (λ s. s.usr) nat_list_cmp_total

pub relation_total : IsTotalOrder relation_cmp
relation_total = then_total (on_total (λ r. r.symbol) nat_cmp_total) (on_total (λ r. r.roles) nat_cmp_total)

pub relation_exact : IsAntisymmetric relation_cmp
relation_exact a b e =
    let tied = both (nat_cmp a.symbol b.symbol) (nat_cmp a.roles b.roles) e in
    λ i. record {
      symbol = nat_cmp-IsAntisymmetric a.symbol b.symbol tied.0 i;
      roles = nat_cmp-IsAntisymmetric a.roles b.roles tied.1 i;
    }

pub occurrence_total : IsTotalOrder occurrence_cmp
occurrence_total =
    then_total (on_total (λ o. o.line) nat_cmp_total)
    (then_total (on_total (λ o. o.column) nat_cmp_total)
    (then_total (on_total (λ o. o.symbol) nat_cmp_total)
    (then_total (on_total (λ o. o.roles) nat_cmp_total)
    (on_total (λ o. o.relations) (lists_total relation_total)))))

pub occurrence_exact : IsAntisymmetric occurrence_cmp
occurrence_exact a b e =
    let line = both (nat_cmp a.line b.line) _ e in
    let column = both (nat_cmp a.column b.column) _ line.1 in
    let symbol = both (nat_cmp a.symbol b.symbol) _ column.1 in
    let roles = both (nat_cmp a.roles b.roles) _ symbol.1 in
    λ i. record {
      line = nat_cmp-IsAntisymmetric a.line b.line line.0 i;
      column = nat_cmp-IsAntisymmetric a.column b.column column.0 i;
      symbol = nat_cmp-IsAntisymmetric a.symbol b.symbol symbol.0 i;
      roles = nat_cmp-IsAntisymmetric a.roles b.roles roles.0 i;
      relations = slice_cmp-IsAntisymmetric relation_exact a.relations b.relations roles.1 i;
    }

pub record_dep_total : IsTotalOrder record_dep_cmp
record_dep_total =
    then_total (on_total (λ d. d.path) nat_list_cmp_total)
    (then_total (on_total (λ d. d.system) bool_cmp_total)
    (on_total (λ d. d.name) nat_list_cmp_total))

pub record_dep_exact : IsAntisymmetric record_dep_cmp
record_dep_exact a b e =
    let path = both (text_cmp a.path b.path) _ e in
    let system = both (bool_cmp a.system b.system) _ path.1 in
    λ i. record {
      path = text_exact a.path b.path path.0 i;
      system = bool_exact a.system b.system system.0 i;
      name = text_exact a.name b.name system.1 i;
    }

pub file_dep_total : IsTotalOrder file_dep_cmp
file_dep_total = then_total (on_total (λ d. d.path) nat_list_cmp_total) (on_total (λ d. d.system) bool_cmp_total)

pub file_dep_exact : IsAntisymmetric file_dep_cmp
file_dep_exact a b e =
    let tied = both (text_cmp a.path b.path) (bool_cmp a.system b.system) e in
    λ i. record {
      path = text_exact a.path b.path tied.0 i;
      system = bool_exact a.system b.system tied.1 i;
    }

pub include_total : IsTotalOrder include_cmp
include_total =
    then_total (on_total (λ i. i.from) nat_list_cmp_total)
    (then_total (on_total (λ i. i.line) nat_cmp_total)
    (on_total (λ i. i.to) nat_list_cmp_total))

pub include_exact : IsAntisymmetric include_cmp
include_exact a b e =
    let from = both (text_cmp a.from b.from) _ e in
    let line = both (nat_cmp a.line b.line) _ from.1 in
    λ i. record {
      from = text_exact a.from b.from from.0 i;
      line = nat_cmp-IsAntisymmetric a.line b.line line.0 i;
      to = text_exact a.to b.to line.1 i;
    }

pub body_total : IsTotalOrder body_cmp
body_total = then_total (on_total (λ b. b.name) nat_list_cmp_total) (on_total (λ b. b.bytes) nat_list_cmp_total)

pub body_exact : IsAntisymmetric body_cmp
body_exact a b e =
    let tied = both (text_cmp a.name b.name) (text_cmp a.bytes b.bytes) e in
    λ i. record {
      name = text_exact a.name b.name tied.0 i;
      bytes = text_exact a.bytes b.bytes tied.1 i;
    }
