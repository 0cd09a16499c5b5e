use Rattle.std.proofs.Common.{sym, ap, subst}
use Rattle.ix_outline.specs.Outline.{outline_of}
use Rattle.ix_import.specs.Importing.{Importing}
use Rattle.ix_import.specs.Leading.{LeadsFrom}
use Rattle.ix_import.proofs.Taken.{Puts}
use Rattle.ix_import.proofs.Going.{takes}
use Rattle.ix_import.proofs.Steps.{on_done, either, taken_after, past_after}
use Rattle.ix_import.proofs.importer.Importer.take.Goals as goal

pub returns-clause-taken : goal.returns-clause-taken
returns-clause-taken c =
    let puts : Puts = record { put = c.a_change_changes_one_key.ensures.put; not_put = c.a_change_changes_one_key.ensures.not_put } in
    on_done c.keep.result _ _ (λ is. taken_after puts c.args.name (outline_of c.args.body.now) c.args.self.now c.keep.new.self c.requires is) c.keep.ensures.ok

pub returns-clause-next : goal.returns-clause-next
returns-clause-next c =
    let puts : Puts = record { put = c.a_change_changes_one_key.ensures.put; not_put = c.a_change_changes_one_key.ensures.not_put } in
    on_done c.keep.result _ _ (λ is. past_after puts c.args.name (outline_of c.args.body.now) c.args.self.now c.keep.new.self is) c.keep.ensures.ok

pub returns-clause-leads : goal.returns-clause-leads
returns-clause-leads c =
    let puts : Puts = record { put = c.a_change_changes_one_key.ensures.put; not_put = c.a_change_changes_one_key.ensures.not_put } in
    on_done c.keep.result _ _
    (λ is units later leads value. subst (λ (i : Importing). LeadsFrom units later i) (sym is) (takes units later c.args.name c.args.body.now puts c.args.self.now leads value))
    c.keep.ensures.ok

pub returns-clause-number : goal.returns-clause-number
returns-clause-number c = either c.keep.result _ _ _ (λ is. ap (λ (i : Importing). i.number) is) (λ is. ap (λ (i : Importing). i.number) is) c.keep.ensures.ok c.keep.ensures.err

pub returns-clause-known : goal.returns-clause-known
returns-clause-known c = either c.keep.result _ _ _ (λ is. ap (λ (i : Importing). i.known) is) (λ is. ap (λ (i : Importing). i.known) is) c.keep.ensures.ok c.keep.ensures.err
