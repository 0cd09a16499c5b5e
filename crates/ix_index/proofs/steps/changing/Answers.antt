use Rattle.std.proofs.Common.{rules, ap, ◌∙◌, filter}
use Rattle.std.proofs.lemmas.Fn.{filter_same}
use Rattle.ix_index.specs.Gathering.{is_change}
use Rattle.ix_index.proofs.steps.changing.Goals as goal

pub returns : goal.returns
returns g c = filter_same _ is_change _ (λ x b h called. search rules) _ _ c.retain.ensures.filtered ∙ ap (λ rs. filter is_change rs) c.into_vec-recounts.ensures
