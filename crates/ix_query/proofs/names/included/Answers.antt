use Rattle.std.proofs.Common.{ℕ, List, ◌++◌, map, filter, sym, ap, ◌∙◌}
use Rattle.std.specs.Str.{bytes_eq}
use Rattle.ix_unit.specs.declared.value.Include.{Include}
use Rattle.ix_unit.specs.declared.value.UnitValue.{UnitValue}
use Rattle.ix_query.proofs.Grown.{said_more}
use Rattle.ix_query.proofs.names.included.Goals as goal

pub loop-place-preserved : goal.loop-place-preserved
loop-place-preserved g c =
    said_more (λ (entry : List ℕ × UnitValue). entry.1.includes) (λ (i : Include). bytes_eq i.from c.args.path.now) (λ (i : Include). i.to) (g.L.Lookups.found c.args.lookups.now).units c.loop-place.place
    (c.in-Some.field-0-0.now, c.in-Some.unit.now) (sym c.in-Some.ensures) c.loop-place.all.items c.append_included.new.out.items c.loop-place.invariant
    (c.in_ok-append_included-in-Some.ensures
    ∙ ap (λ (includes : List Include). c.loop-place.all.items ++ map (λ (i : Include). i.to) (filter (λ (i : Include). bytes_eq i.from c.args.path.now) includes)) c.as_slice.ensures)
