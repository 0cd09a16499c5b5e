-- How a call of the machine ended, by what it may do.
use Rattle.std.proofs.Common.{◌≡◌, ◌⊎◌, inl, inr, ℕ, Bool, true, false, cond, Option, Some, None, refl, ap}
use Rattle.std.specs.Option.{option_map}
use Rattle.std.proofs.lemmas.Option.{same_Some}
use Rattle.ix_machine.specs.declared.event.Outcome.{Outcome}
use Rattle.ix_machine.specs.declared.event.Outcome.TheVariants.{Done, Written, Shared, Clash, Synced, Unsynced, NoUnit, At, Removed, Nothing, Fault, Lost, Damaged}
use Rattle.ix_machine.specs.State.{State}
use Rattle.ix_machine.specs.Step.{Stepped, Row, ended, flagged}
use Rattle.ix_library.specs.Endings.{flag_for}
use Rattle.ix_turns.specs.Looks.{look_failed}

-- as it does where nothing fails, behind a failed look, or behind a failed sync
abbrev pub EndsAs : Row → Outcome → State → Type 0
EndsAs r outcome next = (r.plain ≡ ended outcome next) ⊎ (((look_failed outcome ≡ true) × (r.faulted ≡ Some next)) ⊎ (r.unsynced ≡ Some next))

by_state : (how : Outcome) (o : Option State) (next : State) → option_map (ended how) o ≡ Some (ended how next) → o ≡ Some next
by_state how None next e = absurd (cc)
by_state how (Some t) next e = ap (λ (x : Stepped). Some x.state) (same_Some (ended how t) (ended how next) e)

by_miss : (how : Outcome) (misses : Bool) (o : Option State) (next : State) → cond misses (option_map (ended how) o) None ≡ Some (ended how next) → o ≡ Some next
by_miss how true o next e = by_state how o next e
by_miss how false o next e = absurd (cc)

pub ends_as : (r : Row) (outcome : Outcome) (next : State) → flagged r (flag_for outcome) ≡ Some (ended outcome next) → EndsAs r outcome next
ends_as r Done next e = inl (same_Some r.plain (ended Done next) e)
ends_as r Written next e = inl (same_Some r.plain (ended Written next) e)
ends_as r Shared next e = inl (same_Some r.plain (ended Shared next) e)
ends_as r Clash next e = inl (same_Some r.plain (ended Clash next) e)
ends_as r Synced next e = inl (same_Some r.plain (ended Synced next) e)
ends_as r Unsynced next e = inr (inr (by_state Unsynced r.unsynced next e))
ends_as r NoUnit next e = inl (same_Some r.plain (ended NoUnit next) e)
ends_as r (At mark) next e = inl (same_Some r.plain (ended (At mark) next) e)
ends_as r (Removed name) next e = inl (same_Some r.plain (ended (Removed name) next) e)
ends_as r Nothing next e = inl (same_Some r.plain (ended Nothing next) e)
ends_as r Fault next e = inr (inl (refl, by_state Fault r.faulted next e))
ends_as r (Lost name) next e = inr (inl (refl, by_miss (Lost name) (r.misses name) r.faulted next e))
ends_as r (Damaged name) next e = inr (inl (refl, by_miss (Damaged name) (r.misses name) r.faulted next e))
