use Rattle.std.proofs.Common.{◌≡◌, Some, rules, arith, take, ap, sym, ◌∙◌, subst}
use Rattle.std.specs.List.{AllByRecursion}
use Rattle.ix_machine.specs.declared.opened.UnitFault.TheVariants.{RecordMissing, RecordDamaged}
use Rattle.ix_opening.specs.Known.{AreRead}
use Rattle.ix_opening.proofs.RecordsOfAUnit.{IsKnownWhole, still_whole, whole_more, all_stand, missing_in, damaged_in, fault_at, take_full}
use Rattle.ix_opening.proofs.units.fault_of.Goals as goal

pub returns-in_err-state_of-clause-finds : goal.returns-in_err-state_of-clause-finds
returns-in_err-state_of-clause-finds g c = λ n small h. c.in_err-state_of.ensures.finds n small (c.loop-dep.invariant.finds n small h)

pub returns-in-Missing-clause-fault : goal.returns-in-Missing-clause-fault
returns-in-Missing-clause-fault g c files agrees =
    let name_of = g.N.Naming.name_of in
    let known = c.state_of.new.known.entries in
    let bad = c.dep-item.result in
    let before = still_whole c.loop-dep.known.entries known c.in_ok-state_of.ensures.kept (take c.loop-dep.dep-index c.args.deps.now) c.loop-dep.invariant.whole in
    fault_at name_of known files agrees c.args.deps.now c.loop-dep.dep-index bad (RecordMissing bad.name) (omega arith) c.dep-item.is before
    (missing_in name_of known files agrees bad.name (c.in_ok-state_of.ensures.known ∙ ap Some c.in-Missing.is))

pub returns-in-Missing-clause-finds : goal.returns-in-Missing-clause-finds
returns-in-Missing-clause-finds g c = λ n small h. c.in_ok-state_of.ensures.finds n small (c.loop-dep.invariant.finds n small h)

pub returns-in-Damaged-clause-fault : goal.returns-in-Damaged-clause-fault
returns-in-Damaged-clause-fault g c files agrees =
    let name_of = g.N.Naming.name_of in
    let known = c.state_of.new.known.entries in
    let bad = c.dep-item.result in
    let before = still_whole c.loop-dep.known.entries known c.in_ok-state_of.ensures.kept (take c.loop-dep.dep-index c.args.deps.now) c.loop-dep.invariant.whole in
    fault_at name_of known files agrees c.args.deps.now c.loop-dep.dep-index bad (RecordDamaged bad.name) (omega arith) c.dep-item.is before
    (damaged_in name_of known files agrees bad.name (c.in_ok-state_of.ensures.known ∙ ap Some c.in-Damaged.is))

pub returns-in-Damaged-clause-finds : goal.returns-in-Damaged-clause-finds
returns-in-Damaged-clause-finds g c = λ n small h. c.in_ok-state_of.ensures.finds n small (c.loop-dep.invariant.finds n small h)

pub loop-dep-preserved : goal.loop-dep-preserved
loop-dep-preserved g c =
    let name_of = g.N.Naming.name_of in
    let known = c.state_of.new.known.entries in
    let before = c.loop-dep.invariant in
    let done = c.in_ok-state_of.ensures in
    let moves : (g.D.Dir.state c.loop-dep.dir).moves ≡ (g.D.Dir.state c.args.dir.now).moves = ap (λ d. d.moves) before.state in
    let still = still_whole c.loop-dep.known.entries known done.kept (take c.loop-dep.dep-index c.args.deps.now) before.whole in
    record {
      whole = whole_more known c.args.deps.now c.loop-dep.dep-index c.dep-item.result (omega arith) c.dep-item.is still (done.known ∙ ap Some c.in-Whole.is);
      kept = λ name state is. done.kept name state (before.kept name state is);
      read = λ all. subst (λ m. AreRead name_of m known) moves (done.read (subst (λ m. AreRead name_of m c.loop-dep.known.entries) (sym moves) (before.read all)));
      state = search rules;
      finds = λ n small h. done.finds n small (before.finds n small h);
    }

pub returns-clause-fault : goal.returns-clause-fault
returns-clause-fault g c files agrees =
    let known = c.loop-dep.known.entries in
    let all = subst (AllByRecursion (IsKnownWhole known)) (take_full c.args.deps.now c.loop-dep.dep-index (omega arith)) c.loop-dep.invariant.whole in
    all_stand g.N.Naming.name_of known files agrees c.args.deps.now all
