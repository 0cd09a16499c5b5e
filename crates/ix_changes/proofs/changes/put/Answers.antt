use Rattle.std.proofs.Common.{◌≡◌, ◌≢◌, ap, sym, ◌∙◌, Ok, Err, Result, List, ℕ}
use Rattle.ix_shelf.specs.declared.shelf.Put.{Put}
use Rattle.ix_shelf.specs.declared.shelf.Put.TheVariants.{Written, Shared}
use Rattle.ix_shelf.specs.declared.fault.PutError.{PutError}
use Rattle.ix_shelf.specs.declared.fault.PutError.TheVariants.{Clash}
use Rattle.ix_changes.proofs.Leading.{written_leads, shared_leads, clashed_leads, each_answer, other_slot, same_slot}
use Rattle.ix_changes.proofs.changes.put.Goals as goal

shared_not_written : (r : Result Put PutError) → r ≡ Ok Shared → r ≢ Ok Written
shared_not_written r is e = let no : Ok Shared ≡ Ok Written = sym is ∙ e in absurd (cc)

clash_not_written : (r : Result Put PutError) (name : List ℕ) → r ≡ Err (Clash name) → r ≢ Ok Written
clash_not_written r name is e = let no : Err (Clash name) ≡ Ok Written = sym is ∙ e in absurd (cc)

pub returns-clause-written : goal.returns-clause-written
returns-clause-written g c name_of s lane holds sound guarded is =
    written_leads c.given.ensures name_of s _ _ holds lane _ _ _ _ _ sound guarded is c.put.ensures.answer (c.put.ensures.renamed is) (c.put.ensures.unsynced is)

pub returns-clause-shared : goal.returns-clause-shared
returns-clause-shared g c name_of s lane holds guarded is =
    shared_leads c.given.ensures name_of s _ _ holds lane _ _ _ _ _ guarded is c.put.ensures.answer (c.put.ensures.kept (shared_not_written _ is)) (c.put.ensures.same (shared_not_written _ is))

pub returns-clause-clashed : goal.returns-clause-clashed
returns-clause-clashed g c name_of s lane name holds guarded is =
    clashed_leads c.given.ensures name_of s _ _ holds lane _ _ _ name _ _ guarded is c.put.ensures.answer (c.put.ensures.kept (clash_not_written _ name is)) (c.put.ensures.same (clash_not_written _ name is))

pub returns-clause-slots : goal.returns-clause-slots
returns-clause-slots g c other apart =
    each_answer _ c.put.result
    (λ is. other_slot _ _ _ other _ apart (ap (λ d. d.slots) (c.put.ensures.written is)))
    (λ is. same_slot _ _ other (ap (λ d. d.slots) (c.put.ensures.shared is)))
    (λ name is. same_slot _ _ other (ap (λ d. d.slots) (c.put.ensures.stayed name is)))
    (λ is. other_slot _ _ _ other _ apart (ap (λ d. d.slots) (c.put.ensures.failed is)))
    (λ is. other_slot _ _ _ other _ apart (ap (λ d. d.slots) (c.put.ensures.wanting is)))
