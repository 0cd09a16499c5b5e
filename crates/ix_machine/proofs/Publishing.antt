-- What one publication more leaves of the units at each mark.
use Rattle.std.proofs.Common.{◌≡◌, ℕ, ◌+◌, ◌≤◌, List, [], ◌∷◌, ◌++◌, length, fold, sym, ap, ◌∙◌}
use Rattle.std.proofs.lemmas.List.{take-append-le, length-append}
use Rattle.std.proofs.lemmas.List.Sums.{fold-append}
use Rattle.std.proofs.Math.Seq.{take-length}
use Rattle.ix_model.specs.declared.publication.StoredUnit.{StoredUnit}
use Rattle.ix_model.specs.declared.publication.Publication.{Publication}
use Rattle.ix_model.specs.declared.publication.Publication.TheVariants.{Put, Gone}
use Rattle.ix_model.specs.Units.{Units, changed, units_at}
use Rattle.ix_machine.specs.Sound.{ValuesStand, RecordsStand}
use Rattle.ix_machine.specs.State.{Files}
use Rattle.ix_machine.proofs.Lists.{All-inserted, All-removed}

pub earlier_stay : (ps : List Publication) (p : Publication) (n : ℕ) → n ≤ length ps → units_at (ps ++ p ∷ []) n ≡ units_at ps n
earlier_stay ps p n below = ap (fold changed []) (take-append-le n ps (p ∷ []) below)

all_of : (ps : List Publication) → units_at ps (length ps) ≡ fold changed [] ps
all_of ps = ap (fold changed []) (take-length ps)

-- the last publication changes the units that stood before it
pub last_changes : (ps : List Publication) (p : Publication) → units_at (ps ++ p ∷ []) (length (ps ++ p ∷ [])) ≡ changed (units_at ps (length ps)) p
last_changes ps p =
    all_of (ps ++ p ∷ [])
    ∙ (fold-append changed [] ps (p ∷ [])
    ∙ ap (λ (units : Units). changed units p) (sym (all_of ps)))

pub length-pushed : (ps : List Publication) (p : Publication) → length (ps ++ p ∷ []) ≡ length ps + 1
length-pushed ps p = length-append ps (p ∷ [])

module _ (name_of : List ℕ → List ℕ) (records : Files) where
  pub put-stands : (units : Units) (name : List ℕ) (stored : StoredUnit) → RecordsStand name_of records units → ValuesStand name_of records stored.unit.records stored.values
      → RecordsStand name_of records (changed units (Put name stored))
  put-stands units name stored all own = All-inserted (λ (stored : StoredUnit). ValuesStand name_of records stored.unit.records stored.values) name stored units own all

  pub gone-stands : (units : Units) (name : List ℕ) → RecordsStand name_of records units → RecordsStand name_of records (changed units (Gone name))
  gone-stands units name all = All-removed (λ (stored : StoredUnit). ValuesStand name_of records stored.unit.records stored.values) _ units all
