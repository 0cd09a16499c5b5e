-- Every state of a run is sound.
use Rattle.std.proofs.Common.{◌≡◌, ℕ, zero, suc, ◌≤◌, List, [], ◌∷◌, map, fold, replicate, get_or, Option, Some, None, IfSome, refl, sym, subst, arith}
use Rattle.std.proofs.Math.Seq.{take-length}
use Rattle.ix_model.specs.declared.publication.Publication.TheVariants as units
use Rattle.ix_model.specs.declared.publication.StoredUnit.{StoredUnit}
use Rattle.ix_model.specs.declared.publication.Publication.{Publication}
use Rattle.ix_model.specs.Units.{Units, changed, units_at}
use Rattle.ix_machine.specs.Given.{Given, Lease, Put, Stage, Publish, Remove, Scan, Load, Install, Adopt, Release, Collect}
use Rattle.ix_machine.specs.Run.{Opening, begun, IsSoundOpening, MayCall, Turn, Takes, Leads}
use Rattle.ix_machine.specs.Sound.{RecordsStand, IsLeaseSound, IsSound}
use Rattle.ix_machine.specs.State as state
use Rattle.ix_machine.specs.State.{State}
use Rattle.ix_machine.specs.Step.{Stepped, Row, row}
use Rattle.ix_machine.proofs.Calls.{lease-each, put-each, stage-each, publish-each, remove-each, scan-each, load-each, install-each, adopt-each, release-each, collect-each}
use Rattle.ix_machine.proofs.Publishing.{put-stands}
use Rattle.ix_machine.proofs.Rows.{Each, each_stepped}

-- ---- where a run begins

pub none_at : {X : Type 0} (d : X) (n i : ℕ) → get_or (replicate n d) i d ≡ d
none_at d zero i = refl
none_at d (suc n) zero = refl
none_at d (suc n) (suc i) = none_at d n i

module _ (name_of : List ℕ → List ℕ) (opening : Opening) (h : IsSoundOpening name_of opening) where
  put_all : (entries start : Units) → RecordsStand name_of opening.records start → RecordsStand name_of opening.records entries
      → RecordsStand name_of opening.records (fold changed start (map (λ (e : List ℕ × StoredUnit). units.Put e.0 e.1) entries))
  put_all [] start all more = all
  put_all (e ∷ entries) start all more = put_all entries (changed start (units.Put e.0 e.1)) (put-stands name_of opening.records start e.0 e.1 all more.0) more.1

  pub begun-sound : (lanes : ℕ) → IsSound name_of (begun opening lanes)
  begun-sound lanes =
      let ps = map (λ (e : List ℕ × StoredUnit). units.Put e.0 e.1) opening.units in
      let no_hold : Option ℕ = None in
      let no_lease : Option state.Lease = None in
      record {
        marks = record { pending = tt; imported = tt; current = omega arith; held = λ lane. subst (λ (o : Option ℕ). IfSome o (λ m. m ≤ 0)) (sym (none_at no_hold lanes lane)) tt };
        needed = record {
          visible_ones = subst (λ (some : List Publication). RecordsStand name_of opening.records (fold changed [] some)) (sym (take-length ps)) (put_all opening.units [] tt h.stand);
          pending = tt;
          imported = tt;
          current = tt;
          held = λ lane. subst (λ (o : Option ℕ). IfSome o (λ m. RecordsStand name_of opening.records (units_at ps m))) (sym (none_at no_hold lanes lane)) tt;
        };
        leases = λ lane. subst (λ (o : Option state.Lease). IfSome o (IsLeaseSound name_of opening.records)) (sym (none_at no_lease lanes lane)) tt;
        rising = h.rising;
      }

-- ---- each call

-- a row that there is
some_row : (P : Row → Type 0) (a b : Row) → Some a ≡ Some b → P a → P b
some_row P a b e p = let same : a ≡ b = cc in subst P same p

module _ (name_of : List ℕ → List ℕ) (s : State) (h : IsSound name_of s) (lane : ℕ) where
  pub call-each : (given : Given) → MayCall name_of s lane given → (r : Row) → row name_of s lane given ≡ Some r → Each (IsSound name_of) r
  call-each (Lease names) may r e = some_row (Each (IsSound name_of)) _ r e (lease-each name_of s h lane names)
  call-each (Put body) may r e = some_row (Each (IsSound name_of)) _ r e (put-each name_of s h lane body may)
  call-each (Stage unit) may r e = some_row (Each (IsSound name_of)) _ r e (stage-each name_of s h lane unit may)
  call-each Publish may r e = publish-each name_of s h lane r e
  call-each (Remove output) may r e = some_row (Each (IsSound name_of)) _ r e (remove-each name_of s h lane output)
  call-each Scan may r e = some_row (Each (IsSound name_of)) _ r e (scan-each name_of s h lane)
  call-each (Load name purpose) may r e = some_row (Each (IsSound name_of)) _ r e (load-each name_of s h lane name purpose)
  call-each Install may r e = install-each name_of s h lane r e
  call-each Adopt may r e = some_row (Each (IsSound name_of)) _ r e (adopt-each name_of s h lane)
  call-each Release may r e = some_row (Each (IsSound name_of)) _ r e (release-each name_of s h lane)
  call-each Collect may r e = some_row (Each (IsSound name_of)) _ r e (collect-each name_of s h lane)

pub taken-sound : (name_of : List ℕ → List ℕ) (s : State) (turn : Turn) (stepped : Stepped) → IsSound name_of s → Takes name_of s turn stepped → IsSound name_of stepped.state
taken-sound name_of s turn stepped h takes =
    each_stepped (IsSound name_of) name_of s turn.lane turn.given turn.flag stepped (call-each name_of s h turn.lane turn.given takes.may) takes.taken

pub led-sound : (name_of : List ℕ → List ℕ) (turns : List Turn) (s end : State) → IsSound name_of s → Leads name_of s turns end → IsSound name_of end
led-sound name_of [] s end h leads = subst (IsSound name_of) leads h
led-sound name_of (turn ∷ turns) s end h leads = led-sound name_of turns leads.0.state end (taken-sound name_of s turn leads.0 h leads.1) leads.2
