use Rattle.std.proofs.Common.{rules, ◌≡◌, ◌<◌, length, sym, ap, ◌∙◌, arith}
use Rattle.std.specs.Map.{keys_of}
use Rattle.std.proofs.lemmas.Fn.{always_returns_same}
use Rattle.ix_index.proofs.Zips.{zip_length, zip_keys}
use Rattle.ix_index.proofs.Found.{parted_absent, parted_present, none_there}
use Rattle.ix_index.proofs.postings.Part.parted.Goals as goal

pub back-requires : goal.back-requires
back-requires g c =
    let same : length c.args.self.now ≡ length c.self.inside.values.now = sym (ap length c.self.view_is) ∙ zip_length c.self.inside.values.now c.self.inside.counts.now c.self.invariant in
    omega (arith, same, c.in-Ok.ensures.bound)

pub unreachable-requires : goal.unreachable-requires
unreachable-requires g c =
    let same : length c.args.self.now ≡ length c.self.inside.values.now = sym (ap length c.self.view_is) ∙ zip_length c.self.inside.values.now c.self.inside.counts.now c.self.invariant in
    let within : c.in-Ok.at < length c.args.self.now = omega (arith, same, c.in-Ok.ensures.bound) in
    none_there c.args.self.now c.in-Ok.at within (sym c.back.ensures ∙ c.in-None.ensures)

pub front-requires-in-Err : goal.front-requires-in-Err
front-requires-in-Err g c =
    let same : length c.args.self.now ≡ length c.self.inside.values.now = sym (ap length c.self.view_is) ∙ zip_length c.self.inside.values.now c.self.inside.counts.now c.self.invariant in
    omega (arith, same, c.in-Err.ensures.bound)

pub back-requires-in-Err : goal.back-requires-in-Err
back-requires-in-Err g c =
    let same : length c.args.self.now ≡ length c.self.inside.values.now = sym (ap length c.self.view_is) ∙ zip_length c.self.inside.values.now c.self.inside.counts.now c.self.invariant in
    omega (arith, same, c.in-Err.ensures.bound)

pub returns-in-Some : goal.returns-in-Some
returns-in-Some g c =
    let by_value = c.in-Ok.ensures.position (λ v. g.V.Ord.cmp v c.args.value.now) (always_returns_same _ _ _ (λ a r h called. search rules)) in
    let values : c.self.inside.values.now ≡ keys_of c.args.self.now = sym (zip_keys c.self.inside.values.now c.self.inside.counts.now c.self.invariant) ∙ ap keys_of c.self.view_is in
    rw c.front.ensures
    (parted_present g.met.V.Ord.total c.args.value.now c.args.self.now c.requires c.self.inside.values.now values c.in-Ok.at g.met.V.Item.exact
    c.in-Some.field-0.value.now c.in-Some.field-0.count c.in-Some.field-0.rest c.in-Ok.ensures.bound (sym c.back.ensures ∙ c.in-Some.ensures) by_value)

pub returns-in-Err : goal.returns-in-Err
returns-in-Err g c =
    let by_value = c.in-Err.ensures.position (λ v. g.V.Ord.cmp v c.args.value.now) (always_returns_same _ _ _ (λ a r h called. search rules)) in
    let values : c.self.inside.values.now ≡ keys_of c.args.self.now = sym (zip_keys c.self.inside.values.now c.self.inside.counts.now c.self.invariant) ∙ ap keys_of c.self.view_is in
    rw (c.front-in-Err.ensures, c.back-in-Err.ensures)
    (parted_absent g.met.V.Ord.total c.args.value.now c.args.self.now c.requires c.self.inside.values.now values c.in-Err.at c.in-Err.ensures.bound by_value)
