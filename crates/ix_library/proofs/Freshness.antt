-- The fresh names of a scan.
use Rattle.std.proofs.Common.{◌≡◌, ◌⊎◌, ℕ, not, List, filter, Contains, ap, ◌∙◌}
use Rattle.ix_unit.specs.declared.batch.UnitPut.{UnitPut}
use Rattle.ix_model.specs.Units.{Units, NamesRise, needs}
use Rattle.ix_answers.specs.Batches.{LeadsTo}
use Rattle.ix_machine.specs.Needs.{has_name, seen_at, visible}
use Rattle.ix_machine.specs.State.{State}
use Rattle.ix_guard.specs.Listing.{need_list_of}
use Rattle.ix_ledger.specs.Fresh.{names_put, fresh_of}
use Rattle.ix_ledger.specs.Kept.{Kept}
use Rattle.ix_ledger.specs.OfState.{Keeps}
use Rattle.ix_looks.specs.Values.{names_listed}

-- the names that later units need and earlier ones don't
abbrev pub since : Units → Units → List (List ℕ)
since current later = filter (λ name. not (has_name name (needs current))) (needs later)

pub record FreshLaws : Type 0 where
  pub fresh : (current later : Units) (puts : List UnitPut) → ((name : List ℕ) → Contains (names_put puts) name → Contains (needs later) name)
      → ((name : List ℕ) → Contains (needs later) name → Contains (needs current) name ⊎ Contains (names_put puts) name)
      → fresh_of (need_list_of current) puts ≡ filter (λ name. not (has_name name (needs current))) (needs later)
  pub brought : (puts : List UnitPut) (gone : List (List ℕ)) (before after : Units) (name : List ℕ) → LeadsTo puts gone before after → Contains (names_listed puts) name → Contains (needs after) name
  pub needed : (puts : List UnitPut) (gone : List (List ℕ)) (before after : Units) (name : List ℕ) → LeadsTo puts gone before after → NamesRise after → Contains (needs after) name → Contains (needs before) name ⊎ Contains (names_listed puts) name

pub fresh_since : FreshLaws → (name_of : List ℕ → List ℕ) (s : State) (kept : Kept) (puts : List UnitPut) (gone : List (List ℕ)) → Keeps name_of kept s → LeadsTo puts gone (seen_at s s.current) (visible s) → NamesRise (visible s)
    → fresh_of kept.guard.current puts ≡ since (seen_at s s.current) (visible s)
fresh_since laws name_of s kept puts gone keeps leads rises =
    ap (λ (k : Kept). fresh_of k.guard.current puts) keeps.is
    ∙ laws.fresh (seen_at s s.current) (visible s) puts
    (λ name c. laws.brought puts gone (seen_at s s.current) (visible s) name leads c)
    (λ name c. laws.needed puts gone (seen_at s s.current) (visible s) name leads rises c)
