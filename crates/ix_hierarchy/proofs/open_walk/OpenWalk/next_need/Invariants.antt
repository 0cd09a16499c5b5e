use Rattle.std.proofs.Common.{◌≡◌}
use Rattle.ix_types.specs.declared.row.Query.{Query}
use Rattle.ix_model.specs.Units.{Units}
use Rattle.ix_lookups.specs.Found.{found_in}
use Rattle.ix_needs.specs.Premises.{Holds}
use Rattle.ix_levels.specs.Trail.{IsOpenOver, IsFurther}
use Rattle.ix_hierarchy.proofs.open_walk.OpenWalk.next_need.Given as goal

-- it is open over whatever it was open over, and has not gone back
abbrev pub invariant-loop-self : goal.invariant-loop-self
invariant-loop-self g l = record {
  stays : (query : Query) (units : Units) → g.L.Lookups.found l.lookups ≡ found_in units → Holds units l.bodies → IsOpenOver query units l.bodies l.initial.self → IsOpenOver query units l.bodies l.self;
  forward : IsFurther l.initial.self l.self;
}

abbrev pub decreases-loop-self : goal.decreases-loop-self
decreases-loop-self g l = l.self.left
