use Rattle.std.proofs.Common.{ℕ, List, slice_get, take, sym, ap, ◌∙◌, subst}
use Rattle.ix_answers.specs.Needs.{lacking_of}
use Rattle.ix_answers.specs.Rising.{AreLoaded}
use Rattle.ix_lookups.specs.Loaded.{loaded_names}
use Rattle.ix_levels.specs.Trail.{Trail}
use Rattle.ix_hierarchy.proofs.open_walk.OpenWalk.lacking.Goals as goal

pub returns-clause-lacking : goal.returns-clause-lacking
returns-clause-lacking c passed =
    let inside : AreLoaded (loaded_names c.args.bodies.now) (take c.self.inside.place c.deref.result.now) =
    subst (λ (needed : List (List ℕ)). AreLoaded (loaded_names c.args.bodies.now) (take c.self.inside.place needed)) (sym c.deref.ensures.value)
    (subst (λ (t : Trail). AreLoaded (loaded_names c.args.bodies.now) (take t.place t.needed)) (sym c.self.view_is) passed) in
    c.name_at.ensures ∙ (ap (λ (needed : List (List ℕ)). slice_get needed c.first_lacking-self-inside.result) (c.deref-2.ensures.value ∙ sym c.deref.ensures.value)
    ∙ (c.first_lacking-self-inside.ensures.lacking inside ∙ (ap (lacking_of (loaded_names c.args.bodies.now)) c.deref.ensures.value ∙ ap (λ (t : Trail). lacking_of (loaded_names c.args.bodies.now) t.needed) c.self.view_is)))

pub returns-clause-passed : goal.returns-clause-passed
returns-clause-passed c passed =
    let inside : AreLoaded (loaded_names c.args.bodies.now) (take c.self.inside.place c.deref.result.now) =
    subst (λ (needed : List (List ℕ)). AreLoaded (loaded_names c.args.bodies.now) (take c.self.inside.place needed)) (sym c.deref.ensures.value)
    (subst (λ (t : Trail). AreLoaded (loaded_names c.args.bodies.now) (take t.place t.needed)) (sym c.self.view_is) passed) in
    subst (λ (needed : List (List ℕ)). AreLoaded (loaded_names c.args.bodies.now) (take c.first_lacking-self-inside.result needed)) c.deref.ensures.value (c.first_lacking-self-inside.ensures.passed inside)
