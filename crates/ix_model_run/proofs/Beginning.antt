-- What is kept before the first event is what opening found.
use Rattle.std.proofs.Common.{◌≡◌, ℕ, zero, suc, length, replicate, Option, Some, None, slice_index_or, option_and_then, refl, sym, ap, ◌∙◌, subst}
use Rattle.ix_unit.specs.declared.value.UnitValue.{UnitValue}
use Rattle.ix_machine.specs.Run.{Opening, begun}
use Rattle.ix_machine.specs.State.{Lease}
use Rattle.ix_model_run.specs.Kept.{Kept, Follows}

none_at : (X : Type 0) (n j : ℕ) → slice_index_or (replicate {A = Option X} n None) j None ≡ None
none_at X zero j = refl
none_at X (suc n) zero = refl
none_at X (suc n) (suc j) = none_at X n j

as_many : (X Y : Type 0) (n : ℕ) → length (replicate {A = Option X} n None) ≡ length (replicate {A = Option Y} n None)
as_many X Y zero = refl
as_many X Y (suc n) = ap (λ (k : ℕ). suc k) (as_many X Y n)

none_staged : (n lane : ℕ) (unit : UnitValue) → option_and_then (λ (l : Lease). l.staged) (slice_index_or (replicate {A = Option Lease} n None) lane None) ≡ Some unit
    → slice_index_or (replicate {A = Option UnitValue} n None) lane None ≡ Some unit
none_staged n lane unit e = let none : None ≡ Some unit = sym (ap (λ (o : Option Lease). option_and_then (λ (l : Lease). l.staged) o) (none_at Lease n lane)) ∙ e in absurd (cc)

pub begins : (opening : Opening) (lanes count : ℕ) (kept : Kept) → lanes ≡ count
    → kept ≡ record { publications = (begun opening lanes).publications; records = opening.records; current = 0; staged = replicate lanes None } → Follows kept (begun opening count)
begins opening lanes count kept e is =
    subst (λ (n : ℕ). Follows kept (begun opening n)) e
    (subst (λ (k : Kept). Follows k (begun opening lanes)) (sym is)
    (record { publications = refl; records = refl; current = refl; room = as_many UnitValue Lease lanes; staged = none_staged lanes }))
