-- The flag of a library's call and the flag that a run shows are one.
use Rattle.std.proofs.Common.{◌≡◌, refl}
use Rattle.ix_machine.specs.declared.event.Outcome.{Outcome}
use Rattle.ix_machine.specs.declared.event.Outcome.TheVariants.{Done, Written, Shared, Clash, Synced, Unsynced, NoUnit, At, Removed, Nothing, Fault, Lost, Damaged}
use Rattle.ix_library.specs.Endings.{flag_for}
use Rattle.ix_replays.specs.Run.{flag_of}

pub flags_agree : (outcome : Outcome) → flag_for outcome ≡ flag_of outcome
flags_agree Done = refl
flags_agree Written = refl
flags_agree Shared = refl
flags_agree Clash = refl
flags_agree Synced = refl
flags_agree Unsynced = refl
flags_agree NoUnit = refl
flags_agree (At mark) = refl
flags_agree (Removed name) = refl
flags_agree Nothing = refl
flags_agree Fault = refl
flags_agree (Lost name) = refl
flags_agree (Damaged name) = refl
