use Rattle.std.proofs.Common.{◌≡◌, ◌↔◌, ◌⊎◌, refl, sym, subst, Contains}
use Rattle.std.specs.FinMap.{get}
use Rattle.ix_dir.specs.declared.area.Area.TheVariants.{Units, Records}
use Rattle.ix_dir.specs.Crash.{standing}
use Rattle.ix_dir.specs.Images.{IsImageIn}
use Rattle.ix_cabinet.proofs.Publications.{unsynced}
use Rattle.ix_cabinet.proofs.laws.one_change_more_leaves_two_images.Goals as goal

pub returns-clause-published : goal.returns-clause-published
returns-clause-published c name bytes before now contents settled p =
    let renames = unsynced name bytes before now p in
    subst (λ m. IsImageIn Units m contents ↔ ((contents ≡ standing before Units) ⊎ (contents ≡ standing m Units))) (sym renames.1) (c.one_change_more.ensures.renamed before Units name bytes renames.0 contents settled)

pub returns-clause-removed : goal.returns-clause-removed
returns-clause-removed c name before contents settled = c.one_change_more.ensures.removed before Units name contents settled

pub returns-clause-beside_published : goal.returns-clause-beside_published
returns-clause-beside_published c name bytes before now contents p image =
    let renames = unsynced name bytes before now p in
    subst (λ m. IsImageIn Records m contents) (sym renames.1) (λ n. subst (λ vs. Contains vs (get contents n)) (sym (c.other_values_stay.ensures.renamed before Units name bytes renames.0 Records n refl)) (image n))

pub returns-clause-beside_removed : goal.returns-clause-beside_removed
returns-clause-beside_removed c name before contents image n = subst (λ vs. Contains vs (get contents n)) (sym (c.other_values_stay.ensures.removed before Units name Records n refl)) (image n)
