-- The parts of what is needed.
use Rattle.std.proofs.Common.{◌≡◌, ℕ, Bool, true, List, Some, ap, ◌∙◌}
use Rattle.std.specs.Prelude.{◌||◌}
use Rattle.std.specs.List.{list_any}
use Rattle.ix_model.specs.Units.{units_at}
use Rattle.ix_machine.specs.Needs.{option_any, units_need, visible, seen_at, is_needed}
use Rattle.ix_machine.specs.State.{Import, State, held_by}
use Rattle.ix_machine.proofs.Lists.{or_left, or_right, any-at}

module _ (s : State) (name : List ℕ) where
  abbrev by_visible : Bool
  by_visible = units_need name (visible s)

  abbrev by_pending : Bool
  by_pending = option_any (λ mark. units_need name (units_at s.publications mark)) s.pending

  abbrev by_import : Bool
  by_import = option_any (λ open_import. units_need name (seen_at s open_import.mark)) s.import

  abbrev by_current : Bool
  by_current = units_need name (seen_at s s.current)

  abbrev by_held : Bool
  by_held = list_any (option_any (λ mark. units_need name (seen_at s mark))) s.held

  pub needed_visible : by_visible ≡ true → is_needed s name ≡ true
  unfolding is_needed
  needed_visible e = or_left by_held (or_left by_current (or_left by_import (or_left by_pending e)))

  pub needed_pending : (mark : ℕ) → s.pending ≡ Some mark → units_need name (units_at s.publications mark) ≡ true → is_needed s name ≡ true
  unfolding is_needed
  needed_pending mark is e =
      or_left by_held (or_left by_current (or_left by_import (or_right by_visible (ap (option_any (λ m. units_need name (units_at s.publications m))) is ∙ e))))

  pub needed_import : (open_import : Import) → s.import ≡ Some open_import → units_need name (seen_at s open_import.mark) ≡ true → is_needed s name ≡ true
  unfolding is_needed
  needed_import open_import is e =
      or_left by_held (or_left by_current (or_right (by_visible || by_pending) (ap (option_any (λ i. units_need name (seen_at s i.mark))) is ∙ e)))

  pub needed_current : by_current ≡ true → is_needed s name ≡ true
  unfolding is_needed
  needed_current e = or_left by_held (or_right (by_visible || by_pending || by_import) e)

  pub needed_held : (lane mark : ℕ) → held_by s lane ≡ Some mark → units_need name (seen_at s mark) ≡ true → is_needed s name ≡ true
  unfolding is_needed
  needed_held lane mark is e =
      or_right (by_visible || by_pending || by_import || by_current) (any-at (λ m. units_need name (seen_at s m)) s.held lane mark is e)
