use Rattle.std.proofs.Common.{rules, ◌≡◌, inl, inr, true, [], None, sym, ◌∙◌, ap, subst, arith}
use Rattle.std.specs.Option.{is_some}
use Rattle.ix_answers.specs.Needs.{lacking_of}
use Rattle.ix_answers.proofs.Rising.{none-lacking}
use Rattle.ix_lookups.specs.Found.{Found}
use Rattle.ix_lookups.specs.Loaded.{loaded_names}
use Rattle.ix_levels.specs.Trail.{Trail, IsNextLevel}
use Rattle.ix_hierarchy.proofs.Opened.{looked, given_up, next-is, further-on, at_next, at_same}
use Rattle.ix_hierarchy.proofs.open_walk.OpenWalk.next_need.Goals as goal

pub returns-then-is_some-clause-next : goal.returns-then-is_some-clause-next
returns-then-is_some-clause-next g c query units same holds o =
    let open_now = c.loop-self.invariant.stays query units same holds o in
    let found : is_some c.lacking-name.result ≡ true = search rules in
    next-is query units c.args.bodies.now c.what_a_level_lacks_comes_next.ensures.some c.what_a_level_lacks_comes_next.ensures.none c.loop-self.self open_now c.lacking-name.result
    (c.lacking-name.ensures.lacking open_now.passed) (inl found)

pub returns-then-is_some-clause-open : goal.returns-then-is_some-clause-open
returns-then-is_some-clause-open g c query units same holds o =
    looked query units c.args.bodies.now c.walks_stay_open.ensures.level c.loop-self.self c.lacking-name.new.self (c.loop-self.invariant.stays query units same holds o) c.lacking-name.ensures.same c.lacking-name.ensures.passed

pub returns-then-is_at_end-clause-next : goal.returns-then-is_at_end-clause-next
returns-then-is_at_end-clause-next g c query units same holds o =
    let open_now = c.loop-self.invariant.stays query units same holds o in
    let none : c.lacking-name.result ≡ None = search rules in
    let ended : c.is_at_end.result ≡ true = search rules in
    let empty : c.lacking-name.new.self.level ≡ [] = c.is_at_end.ensures ended in
    let level : c.loop-self.self.level ≡ [] = sym (ap (λ (t : Trail). t.level) c.lacking-name.ensures.same) ∙ empty in
    sym none
    ∙ next-is query units c.args.bodies.now c.what_a_level_lacks_comes_next.ensures.some c.what_a_level_lacks_comes_next.ensures.none c.loop-self.self open_now c.lacking-name.result
    (c.lacking-name.ensures.lacking open_now.passed) (inr (inr level))

pub returns-then-is_at_end-clause-open : goal.returns-then-is_at_end-clause-open
returns-then-is_at_end-clause-open g c query units same holds o =
    looked query units c.args.bodies.now c.walks_stay_open.ensures.level c.loop-self.self c.lacking-name.new.self (c.loop-self.invariant.stays query units same holds o) c.lacking-name.ensures.same c.lacking-name.ensures.passed

pub loop-self-preserved : goal.loop-self-preserved
loop-self-preserved g c = record {
  forward = further-on c.args.self.now c.loop-self.self c.go_on.new.self c.loop-self.invariant.forward
      (at_next c.loop-self.self c.lacking-name.new.self c.go_on.new.self (ap (λ (t : Trail). t.number) c.lacking-name.ensures.same) c.in_ok-go_on.ensures.further.number);
  stays = λ query units same holds o.
      let open_now = c.loop-self.invariant.stays query units same holds o in
      let none : c.lacking-name.result ≡ None = search rules in
      let open_then = looked query units c.args.bodies.now c.walks_stay_open.ensures.level c.loop-self.self c.lacking-name.new.self open_now c.lacking-name.ensures.same c.lacking-name.ensures.passed in
      let lacks : lacking_of (loaded_names c.args.bodies.now) c.lacking-name.new.self.needed ≡ None =
      ap (λ (t : Trail). lacking_of (loaded_names c.args.bodies.now) t.needed) c.lacking-name.ensures.same ∙ (sym (c.lacking-name.ensures.lacking open_now.passed) ∙ none) in
      c.walks_go_on.ensures query units c.args.bodies.now c.lacking-name.new.self c.go_on.new.self holds open_then ((none-lacking (loaded_names c.args.bodies.now) c.lacking-name.new.self.needed).0 lacks)
      (subst (λ (found : Found). IsNextLevel found c.args.bodies.now c.lacking-name.new.self c.go_on.new.self) same c.in_ok-go_on.ensures.further);
}

pub returns-then-is_some-clause-forward : goal.returns-then-is_some-clause-forward
returns-then-is_some-clause-forward g c =
    further-on c.args.self.now c.loop-self.self c.lacking-name.new.self c.loop-self.invariant.forward (inr (ap (λ (t : Trail). t.number) c.lacking-name.ensures.same, c.lacking-name.ensures.forward))

pub returns-then-is_at_end-clause-forward : goal.returns-then-is_at_end-clause-forward
returns-then-is_at_end-clause-forward g c =
    further-on c.args.self.now c.loop-self.self c.lacking-name.new.self c.loop-self.invariant.forward (inr (ap (λ (t : Trail). t.number) c.lacking-name.ensures.same, c.lacking-name.ensures.forward))

pub returns-in_err-go_on-clause-forward : goal.returns-in_err-go_on-clause-forward
returns-in_err-go_on-clause-forward g c =
    further-on c.args.self.now c.loop-self.self c.go_on.new.self c.loop-self.invariant.forward
    (at_same c.loop-self.self c.lacking-name.new.self c.go_on.new.self (ap (λ (t : Trail). t.number) c.lacking-name.ensures.same) c.lacking-name.ensures.forward c.in_err-go_on.ensures.err.number c.in_err-go_on.ensures.place)

pub returns-clause-forward : goal.returns-clause-forward
returns-clause-forward g c =
    further-on c.args.self.now c.loop-self.self c.lacking.new.self c.loop-self.invariant.forward (inr (ap (λ (t : Trail). t.number) c.lacking.ensures.same, c.lacking.ensures.forward))

pub returns-in_err-go_on-clause-open : goal.returns-in_err-go_on-clause-open
returns-in_err-go_on-clause-open g c query units same holds o =
    let open_now = c.loop-self.invariant.stays query units same holds o in
    given_up query units c.args.bodies.now c.walks_stay_open.ensures.level c.lacking-name.new.self c.go_on.new.self
    (looked query units c.args.bodies.now c.walks_stay_open.ensures.level c.loop-self.self c.lacking-name.new.self open_now c.lacking-name.ensures.same c.lacking-name.ensures.passed)
    c.in_err-go_on.ensures.err c.in_err-go_on.ensures.place

pub returns-clause-next : goal.returns-clause-next
returns-clause-next g c query units same holds o =
    let open_now = c.loop-self.invariant.stays query units same holds o in
    let viewed : c.self.inside.left ≡ c.loop-self.self.left = ap (λ (t : Trail). t.left) c.self.view_is in
    let ended : c.loop-self.self.left ≡ 0 = omega (arith, viewed, c.loop-self-test.false) in
    next-is query units c.args.bodies.now c.what_a_level_lacks_comes_next.ensures.some c.what_a_level_lacks_comes_next.ensures.none c.loop-self.self open_now c.lacking.result
    (c.lacking.ensures.lacking open_now.passed) (inr (inl ended))

pub returns-clause-open : goal.returns-clause-open
returns-clause-open g c query units same holds o =
    looked query units c.args.bodies.now c.walks_stay_open.ensures.level c.loop-self.self c.lacking.new.self (c.loop-self.invariant.stays query units same holds o) c.lacking.ensures.same c.lacking.ensures.passed
