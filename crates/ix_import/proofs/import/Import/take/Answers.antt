use Rattle.std.proofs.Common.{List, ℕ, take, sym, subst}
use Rattle.ix_outline.specs.Moving.{Named}
use Rattle.ix_outline.specs.declared.outline.Outline.{Outline}
use Rattle.ix_import.specs.Importing.{Opened, AreTaken}
use Rattle.ix_import.proofs.Taken.{Puts, still_taken}
use Rattle.ix_import.proofs.import.Import.take.Goals as goal

pub invariant_of-self : goal.invariant_of-self
invariant_of-self c =
    let puts : Puts = record { put = c.a_change_changes_one_key.ensures.put; not_put = c.a_change_changes_one_key.ensures.not_put } in
    let passed : List (List ℕ) = take c.place-self-inside.result c.self.inside.scan.fresh in
    subst (λ (taken : Named Outline). AreTaken taken passed) (sym c.in_ok-taken.ensures)
    (still_taken puts c.self.inside.taken (c.args.name, c.in_ok-outline-2.outline.value) passed
    (subst (λ (o : Opened). AreTaken o.taken (take c.place-self-inside.result o.fresh)) (sym c.self.view_is) c.place-self-inside.ensures.passed))
