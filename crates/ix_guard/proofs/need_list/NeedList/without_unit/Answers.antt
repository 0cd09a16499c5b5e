use Rattle.std.proofs.Common.{◌-◌, List, map, ap, ◌∙◌}
use Rattle.ix_pages.specs.Paging.{pairs_of}
use Rattle.ix_unit.specs.declared.value.RecordDep.{RecordDep}
use Rattle.ix_guard.specs.Counts.{Counts, count_at, times}
use Rattle.ix_guard.proofs.Following.{follows_gone}
use Rattle.ix_guard.proofs.need_list.NeedList.without_unit.Goals as goal

pub returns-clause-follows : goal.returns-clause-follows
returns-clause-follows c = follows_gone c.need_lists_are_exact.ensures.counts c.args.unit.now c.args.self.now (pairs_of c.in_ok-counts.counts) (record {
  sound = record { rises = c.in_ok-counts.ensures.pages.paged.rising; needed = c.in_ok-counts.ensures.pages.needed };
  each = λ q.
      c.in_ok-counts.ensures.each q
      ∙ (ap (λ (es : Counts). count_at es q - times q (map (λ (dep : RecordDep). dep.name) c.as_slice.result.now)) c.self.view_is
      ∙ ap (λ (deps : List RecordDep). count_at c.args.self.now q - times q (map (λ (dep : RecordDep). dep.name) deps)) c.as_slice.ensures);
})
