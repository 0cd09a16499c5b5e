use Rattle.std.proofs.Common.{◌≡◌, ◌∙◌, map, length, None, sym, subst, IfOk, eqb-true}
use Rattle.ix_pages.specs.Roots.{IsRoot}
use Rattle.ix_pages.specs.Edits.{change_of}
use Rattle.ix_pages.proofs.One.{no_change}
use Rattle.ix_pages.proofs.Roots.{root_changed}
use Rattle.ix_pages.proofs.pages.Pages.with_edits.Goals as goal

pub invariant_of-result : goal.invariant_of-result
invariant_of-result g c =
    root_changed g.met.K.Ord.total g.K.Key.head_of g.row.P None c.in_ok-first-in-None.first (map change_of c.args.edits.now) (subst (IsRoot g.K.Key.head_of g.K.Ord.cmp g.row.P) c.in-None.is c.self.invariant) c.requires c.in_ok-first-in-None.ensures

pub returns-then-is_empty : goal.returns-then-is_empty
returns-then-is_empty g c =
    subst (λ p. IfOk c.share.result (λ after. after ≡ p)) (sym (no_change g.K.Ord.cmp g.row.P c.args.self.now c.args.edits.now (eqb-true (length c.args.edits.now) 0 (sym c.is_empty.ensures ∙ c.if-is_empty.true)))) c.share.ensures

pub invariant_of-result-in-Some : goal.invariant_of-result-in-Some
invariant_of-result-in-Some g c =
    root_changed g.met.K.Ord.total g.K.Key.head_of g.row.P _ c.in_ok-rest-in-Some.rest (map change_of c.args.edits.now) (subst (IsRoot g.K.Key.head_of g.K.Ord.cmp g.row.P) c.in-Some.is c.self.invariant) c.requires c.in_ok-rest-in-Some.ensures
