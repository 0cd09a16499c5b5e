use Rattle.std.proofs.Common.{sym, ◌∙◌}
use Rattle.ix_held.proofs.asks.go_on.Goals as goal

pub answer-requires : goal.answer-requires
answer-requires c = c.next_need.ensures.safe c.args.query.now c.requires

pub returns-in-Some-clause-next : goal.returns-in-Some-clause-next
returns-in-Some-clause-next c = λ units tables holds is.
    let same = c.find_what_is_there.ensures units tables in
    (sym (c.in_ok-name.ensures.next c.args.query.now units same holds is) ∙ c.in-Some.is, c.next_need.ensures.«open» c.args.query.now units same holds is)

pub returns-in-Some-clause-safe : goal.returns-in-Some-clause-safe
returns-in-Some-clause-safe c = c.next_need.ensures.safe c.args.query.now c.requires

pub returns-in_ok-rows-in-None-clause-next : goal.returns-in_ok-rows-in-None-clause-next
returns-in_ok-rows-in-None-clause-next c = λ units tables holds is.
    let same = c.find_what_is_there.ensures units tables in
    let lacks = sym (c.in_ok-name.ensures.next c.args.query.now units same holds is) ∙ c.in-None.is in
    (lacks, c.in_ok-rows-in-None.ensures units same holds (c.next_need.ensures.«open» c.args.query.now units same holds is) (c.in_ok-name.ensures.done c.in-None.is) lacks)
