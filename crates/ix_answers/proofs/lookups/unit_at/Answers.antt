use Rattle.std.proofs.Common.{◌≡◌, length, ap}
use Rattle.std.specs.List.{slice_get}
use Rattle.std.specs.Option.{option_map}
use Rattle.std.specs.Map.Iter.{TakesFirst, deref_pair}
use Rattle.std.proofs.lemmas.Iterator.Consumers.{nth_from_yields_List, YieldsList-from_shown}
use Rattle.ix_answers.proofs.lookups.unit_at.Goals as goal

pub returns : goal.returns
returns c =
    let found : option_map deref_pair c.nth.result ≡ slice_get c.iter.result c.args.place =
    nth_from_yields_List c.nth.result c.nth.new.self c.args.place c.nth.ensures.ran
    (YieldsList-from_shown (TakesFirst deref_pair) deref_pair (λ s. s) (λ s t h. ap length h.0) (λ s x t h. h) c.iter.result) in
    cc
