-- Units that need one record or two.
use Rattle.std.proofs.Common.{◌≡◌, ℕ, ◌≤◌, ◌<◌, Bool, true, List, [], ◌∷◌, length, get_or, sym, ap, ◌∙◌, arith}
use Rattle.std.specs.List.{AllByRecursion}
use Rattle.ix_unit.specs.declared.value.RecordDep.{RecordDep}

module _ (test : List ℕ → Bool) where
  abbrev passes : RecordDep → Type 0
  passes dep = test dep.name ≡ true

  at : (dep there : RecordDep) (name : List ℕ) → dep ≡ there → dep.name ≡ name → test name ≡ true → passes there
  at dep there name is named h = ap (λ (d : RecordDep). test d.name) (sym is) ∙ (ap test named ∙ h)

  pub one : (deps : List RecordDep) (dep : RecordDep) (name : List ℕ) → 1 ≤ length deps → length deps < 2 → dep ≡ get_or deps 0 dep → dep.name ≡ name → test name ≡ true → AllByRecursion passes deps
  one [] dep name at_least below is named h = absurd (omega (arith, at_least))
  one (d ∷ []) dep name at_least below is named h = (at dep d name is named h, tt)
  one (d ∷ e ∷ deps) dep name at_least below is named h = absurd (omega (arith, below))

  pub two : (deps : List RecordDep) (dep other : RecordDep) (first second : List ℕ) → 2 ≤ length deps → length deps < 3 → dep ≡ get_or deps 0 dep → other ≡ get_or deps 1 other → dep.name ≡ first → other.name ≡ second
      → test first ≡ true → test second ≡ true → AllByRecursion passes deps
  two [] dep other first second at_least below is next named called h k = absurd (omega (arith, at_least))
  two (d ∷ []) dep other first second at_least below is next named called h k = absurd (omega (arith, at_least))
  two (d ∷ e ∷ []) dep other first second at_least below is next named called h k = (at dep d first is named h, (at other e second next called k, tt))
  two (d ∷ e ∷ f ∷ deps) dep other first second at_least below is next named called h k = absurd (omega (arith, below))
