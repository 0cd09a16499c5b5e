-- Facts under an `Ok`, and open walks from call to call.
use Rattle.std.proofs.Common.{◌≡◌, ℕ, suc, ◌≤◌, ◌⊎◌, inl, inr, true, List, take, Option, Some, None, IfOk, sym, ap, ◌∙◌, subst, arith}
use Rattle.std.specs.Option.{is_some}
use Rattle.std.specs.declared.result.Result.{Result}
use Rattle.std.specs.declared.result.Result.TheVariants.{Ok, Err}
use Rattle.ix_types.specs.declared.row.Query.{Query}
use Rattle.ix_model.specs.Units.{Units}
use Rattle.ix_answers.specs.Needs.{next_need, lacking_of}
use Rattle.ix_answers.specs.Rising.{AreLoaded}
use Rattle.ix_lookups.specs.Loaded.{Loaded, loaded_names}
use Rattle.ix_levels.specs.Trail.{Trail, is_met, IsOpenOver, IsDone, IsSameLevel, IsFurther}

pub on_ok : {X E : Type 0} (r : Result X E) (P Q : X → Type 0) → ((x : X) → P x → Q x) → IfOk r P → IfOk r Q
on_ok (Ok x) P Q f h = f x h
on_ok (Err e) P Q f h = h

-- a trail with another place is at the same level
pub same-level : (before after : Trail) → after ≡ record before { place = after.place } → IsSameLevel before after
same-level before after e = record {
  goes = ap (λ (t : Trail). t.walk) e;
  number = ap (λ (t : Trail). t.number) e;
  left = ap (λ (t : Trail). t.left) e;
  met = λ usr. ap (λ (t : Trail). is_met t usr) e;
  level = ap (λ (t : Trail). t.level) e;
  needed = ap (λ (t : Trail). t.needed) e;
  edges = ap (λ (t : Trail). t.edges) e;
}

-- of the laws
abbrev pub Stays : Type 0
Stays = (query : Query) (units : Units) (bodies : Loaded) (before after : Trail) → IsOpenOver query units bodies before → IsSameLevel before after
    → AreLoaded (loaded_names bodies) (take after.place after.needed) → IsOpenOver query units bodies after

abbrev pub SomeNext : Type 0
SomeNext = (query : Query) (units : Units) (bodies : Loaded) (trail : Trail) (name : List ℕ) → IsOpenOver query units bodies trail
    → lacking_of (loaded_names bodies) trail.needed ≡ Some name → next_need query units (loaded_names bodies) ≡ Some name

abbrev pub NoneNext : Type 0
NoneNext = (query : Query) (units : Units) (bodies : Loaded) (trail : Trail) → IsOpenOver query units bodies trail
    → lacking_of (loaded_names bodies) trail.needed ≡ None → IsDone trail → next_need query units (loaded_names bodies) ≡ None

module _ (query : Query) (units : Units) (bodies : Loaded) where
  -- the place moved over what is loaded
  pub looked : Stays → (before after : Trail) → IsOpenOver query units bodies before → after ≡ record before { place = after.place }
      → (AreLoaded (loaded_names bodies) (take before.place before.needed) → AreLoaded (loaded_names bodies) (take after.place after.needed)) → IsOpenOver query units bodies after
  looked law before after o e passed = law query units bodies before after o (same-level before after e) (passed o.passed)

  -- want of memory on the way to the next level
  pub given_up : Stays → (before after : Trail) → IsOpenOver query units bodies before → IsSameLevel before after → after.place ≡ before.place → IsOpenOver query units bodies after
  given_up law before after o s p =
      law query units bodies before after o s (subst (λ (names : List (List ℕ)). AreLoaded (loaded_names bodies) names) (λ i. take (sym p i) (sym s.needed i)) o.passed)

  -- what a level lacks is what comes next, and so is nothing once the walk is done
  pub next-is : SomeNext → NoneNext → (trail : Trail) → IsOpenOver query units bodies trail → (r : Option (List ℕ)) → r ≡ lacking_of (loaded_names bodies) trail.needed
      → (is_some r ≡ true) ⊎ IsDone trail → r ≡ next_need query units (loaded_names bodies)
  next-is some none trail o None e (inl t) = absurd (cc)
  next-is some none trail o None e (inr done) = sym (none query units bodies trail o (sym e) done)
  next-is some none trail o (Some name) e d = sym (some query units bodies trail name o (sym e))

-- ---- no way back

pub further-on : (first second third : Trail) → IsFurther first second → IsFurther second third → IsFurther first third
further-on first second third (inl a) (inl b) = inl (omega (arith, a, b))
further-on first second third (inl a) (inr b) = let e = b.0 in inl (omega (arith, a, e))
further-on first second third (inr a) (inl b) = let e = a.0 in inl (omega (arith, e, b))
further-on first second third (inr a) (inr b) = let p = a.1 in let q = b.1 in inr (b.0 ∙ a.0, omega (arith, p, q))

pub at_next : (first second third : Trail) → second.number ≡ first.number → third.number ≡ suc second.number → IsFurther first third
at_next first second third e f = inl (omega (arith, e, f))

pub at_same : (first second third : Trail) → second.number ≡ first.number → first.place ≤ second.place → third.number ≡ second.number → third.place ≡ second.place → IsFurther first third
at_same first second third e p f q = inr (f ∙ e, omega (arith, p, q))
