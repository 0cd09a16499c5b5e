use Rattle.std.proofs.Common.{◌≡◌, ◌⊎◌, inl, inr, refl, sym, ap, subst, ◌∙◌, Bool, true, false}
use Rattle.ix_plain.specs.declared.ending.Ending.{Ending}
use Rattle.ix_plain.specs.declared.ending.Ending.TheVariants.{Done, BadScript, DirFault, WriteFault, Memory, TooLarge, OpenFault, StoreDamaged}
use Rattle.ix_plain.specs.Ending.{MayEnd, is_refused}
use Rattle.ix_plain.proofs.laws.refusals_have_their_cause.Goals as goal

abbrev OnlyTrue : Bool → Type 0
OnlyTrue true = Unit {0}
OnlyTrue false = ⊥

not_done : (decided : Ending) → is_refused decided ≡ true → decided ≡ Done → ⊥
not_done decided refused is = subst OnlyTrue (sym refused ∙ ap is_refused is) tt

stands : (decided ending : Ending) → is_refused decided ≡ true → MayEnd decided ending → (ending ≡ decided) ⊎ (ending ≡ Memory)
stands decided Done refused may = absurd (not_done decided refused may)
stands decided (BadScript refusal) refused may = inl (sym may)
stands decided DirFault refused may = absurd (not_done decided refused may)
stands decided WriteFault refused may = absurd (not_done decided refused may)
stands decided Memory refused may = inr refl
stands decided TooLarge refused may = inl (sym may)
stands decided OpenFault refused may = absurd (not_done decided refused may)
stands decided StoreDamaged refused may = absurd (not_done decided refused may)

script : (ending : Ending) → MayEnd Done ending → is_refused ending ≡ false
script Done may = refl
script (BadScript refusal) may = sym (ap is_refused may)
script DirFault may = refl
script WriteFault may = refl
script Memory may = refl
script TooLarge may = sym (ap is_refused may)
script OpenFault may = refl
script StoreDamaged may = refl

pub returns-clause-stands : goal.returns-clause-stands
returns-clause-stands c = stands

pub returns-clause-script : goal.returns-clause-script
returns-clause-script c = script
