-- A count that isn't at the greatest u64 can go one further.
use Rattle.std.proofs.Common.{ℕ, arith}
use Rattle.ix_machine.specs.declared.event.Outcome.{Outcome}
use Rattle.ix_machine.specs.declared.event.Outcome.TheVariants.{Done, Written, Shared, Clash, Synced, Unsynced, NoUnit, At, Removed, Nothing, Fault, Lost, Damaged}
use Rattle.ix_lanes.specs.declared.doing.Doing.{Doing}
use Rattle.ix_lanes.specs.declared.doing.Doing.TheVariants.{Begun, Putting, Staged, Importing}
use Rattle.ix_lanes.specs.declared.doing.Kind.{Kind}
use Rattle.ix_lanes.specs.declared.doing.Kind.TheVariants as kind
use Rattle.ix_lanes.specs.Progress.{Progress, told_by, goes_on, build_goes_on, build_on, put_on, scanned, imported, poll_told, ask_told}
use Rattle.ix_lanes.specs.Rules.{IsCounted, CountsOn}

kept : (doing : Doing) → CountsOn doing → IsCounted doing
kept Begun c = tt
kept (Putting files) c = omega (arith, c)
kept Staged c = tt
kept (Importing mark records) c = omega (arith, c)

built : (doing : Doing) → (p : Progress) → IsCounted (goes_on (build_on doing) p).doing
built Begun p = omega arith
built (Putting files) p = tt
built Staged p = tt
built (Importing mark records) p = tt

put : (doing : Doing) → CountsOn doing → (p : Progress) → IsCounted (goes_on (put_on doing) p).doing
put Begun c p = tt
put (Putting files) c p = omega (arith, c)
put Staged c p = tt
put (Importing mark records) c p = tt

build_counts : (outcome : Outcome) (doing : Doing) → CountsOn doing → (p : Progress) → IsCounted (goes_on (build_goes_on outcome doing) p).doing
build_counts Done doing c p = built doing p
build_counts Written doing c p = put doing c p
build_counts Shared doing c p = put doing c p
build_counts Clash doing c p = tt
build_counts Synced doing c p = tt
build_counts Unsynced doing c p = tt
build_counts NoUnit doing c p = tt
build_counts (At mark) doing c p = tt
build_counts (Removed name) doing c p = tt
build_counts Nothing doing c p = tt
build_counts Fault doing c p = tt
build_counts (Lost name) doing c p = tt
build_counts (Damaged name) doing c p = tt

imports : (doing : Doing) → CountsOn doing → (p : Progress) → IsCounted (imported doing p).doing
imports Begun c p = tt
imports (Putting files) c p = tt
imports Staged c p = tt
imports (Importing mark records) c p = omega (arith, c)

scans : (mark : ℕ) (doing : Doing) (p : Progress) → IsCounted (scanned mark doing p).doing
scans mark Begun p = omega arith
scans mark (Putting files) p = tt
scans mark Staged p = tt
scans mark (Importing opened records) p = tt

poll_counts : (outcome : Outcome) (p : Progress) → CountsOn p.doing → IsCounted (poll_told outcome p).doing
poll_counts Done p c = imports p.doing c p
poll_counts Written p c = tt
poll_counts Shared p c = tt
poll_counts Clash p c = tt
poll_counts Synced p c = tt
poll_counts Unsynced p c = tt
poll_counts NoUnit p c = tt
poll_counts (At mark) p c = scans mark p.doing p
poll_counts (Removed name) p c = tt
poll_counts Nothing p c = tt
poll_counts Fault p c = tt
poll_counts (Lost name) p c = tt
poll_counts (Damaged name) p c = tt

ask_counts : (outcome : Outcome) (p : Progress) → CountsOn p.doing → IsCounted (ask_told outcome p).doing
ask_counts Done p c = kept p.doing c
ask_counts Written p c = kept p.doing c
ask_counts Shared p c = kept p.doing c
ask_counts Clash p c = kept p.doing c
ask_counts Synced p c = kept p.doing c
ask_counts Unsynced p c = kept p.doing c
ask_counts NoUnit p c = kept p.doing c
ask_counts (At mark) p c = kept p.doing c
ask_counts (Removed name) p c = kept p.doing c
ask_counts Nothing p c = kept p.doing c
ask_counts Fault p c = tt
ask_counts (Lost name) p c = tt
ask_counts (Damaged name) p c = tt

pub counts_by : (kind : Kind) (outcome : Outcome) (p : Progress) → CountsOn p.doing → IsCounted (told_by kind outcome p).doing
counts_by kind.Ended outcome p c = kept p.doing c
counts_by kind.Build outcome p c = build_counts outcome p.doing c p
counts_by kind.Remove outcome p c = tt
counts_by kind.Poll outcome p c = poll_counts outcome p c
counts_by kind.Refresh outcome p c = tt
counts_by kind.Ask outcome p c = ask_counts outcome p c
counts_by kind.Release outcome p c = tt
counts_by kind.Collect outcome p c = tt
