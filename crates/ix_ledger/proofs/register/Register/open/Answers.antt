use Rattle.std.proofs.Common.{map, option_map, None, ap, ◌∙◌}
use Rattle.ix_ledger.proofs.Maps.{led, none_led}
use Rattle.ix_ledger.proofs.register.Register.open.Goals as goal

pub returns : goal.returns
returns c = λ i. record {
  guard = (c.set_units.ensures ∙ (λ j. record (c.in_ok-guard.ensures j) { visible = c.into_parts-units.ensures.needs j; unsynced = None })) i;
  units = c.into_parts-units.ensures.units i;
  published = c.into_parts-units.ensures.published i;
  pending = None;
  import = None;
  current = 0;
  held = c.in_ok-held.ensures i;
  staged = (ap (map (option_map led)) c.in_ok-staged.ensures ∙ none_led c.args.lanes) i;
}
