-- The changes that steps make of pages, behind others.
use Rattle.std.specs.Prelude.{◌≡◌, ℕ, List, ◌++◌, map}
use Rattle.std.specs.declared.cmp.Ordering.{Ordering}
use Rattle.ix_pages.specs.declared.changes.Change.{Change}
use Rattle.ix_index.specs.declared.revisions.Revision.{Revision}
use Rattle.ix_index.specs.declared.steps.Step.{Step}
use Rattle.ix_index.specs.Recounting.{change_made}
use Rattle.ix_index.specs.Dealing.{AreNetOf}

module _ {K V : Type 0} (kcmp : K → K → Ordering) (vcmp : V → V → Ordering) where
  -- behind others stand the changes of revisions that change each count as the steps do
  pub record AreMadeBehind (index : List (K × List (V × ℕ))) (steps : List (Step K V)) (before after : List (Change K (List (V × ℕ)))) : Type 0 where
    pub more : List (Revision K V)
    pub is : after ≡ before ++ map (change_made kcmp vcmp index) more
    pub nets : AreNetOf kcmp vcmp steps more
