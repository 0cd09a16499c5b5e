use Rattle.std.proofs.Common.{ℕ, ◌≤◌, length, Option, IfSome, subst}
use Rattle.ix_machine.specs.State.{Import, held_by}
use Rattle.ix_machine.proofs.Runs.{begun-sound, led-sound}
use Rattle.ix_machine.proofs.Frames.{never_falls}
use Rattle.ix_machine.proofs.laws.marks_stay_in_order.Goals as goal

pub returns-clause-order : goal.returns-clause-order
returns-clause-order c = λ name_of opening lanes turns s h leads. (led-sound name_of turns _ s (begun-sound name_of opening h lanes) leads).marks

pub returns-clause-rise : goal.returns-clause-rise
returns-clause-rise c = λ name_of opening lanes turns s further later lane h leads on. never_falls name_of further s later (led-sound name_of turns _ s (begun-sound name_of opening h lanes) leads) on lane

pub returns-clause-held : goal.returns-clause-held
returns-clause-held c = λ name_of opening lanes turns s lane mark h leads is.
    let marks = (led-sound name_of turns _ s (begun-sound name_of opening h lanes) leads).marks in
    (subst (λ (o : Option ℕ). IfSome o (λ m. m ≤ s.current)) is (marks.held lane), marks.current)

pub returns-clause-imported : goal.returns-clause-imported
returns-clause-imported c = λ name_of opening lanes turns s i h leads is.
    let marks = (led-sound name_of turns _ s (begun-sound name_of opening h lanes) leads).marks in
    subst (λ (o : Option Import). IfSome o (λ open_import. (s.current ≤ open_import.mark) × (open_import.mark ≤ length s.publications))) is marks.imported

pub returns-clause-held_rises : goal.returns-clause-held_rises
returns-clause-held_rises c = λ name_of opening lanes turns s further later lane earlier mark h leads on is then_is.
    let rise = (never_falls name_of further s later (led-sound name_of turns _ s (begun-sound name_of opening h lanes) leads) on lane).held in
    let from : IfSome (held_by later lane) (λ m. earlier ≤ m) = subst (λ (o : Option ℕ). IfSome o (λ e. IfSome (held_by later lane) (λ m. e ≤ m))) is rise in
    subst (λ (o : Option ℕ). IfSome o (λ m. earlier ≤ m)) then_is from

pub returns-clause-current_rises : goal.returns-clause-current_rises
returns-clause-current_rises c = λ name_of opening lanes turns s further later h leads on.
    (never_falls name_of further s later (led-sound name_of turns _ s (begun-sound name_of opening h lanes) leads) on 0).current
