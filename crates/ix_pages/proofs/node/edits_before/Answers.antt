use Rattle.std.proofs.Common.{◌∙◌, inl, inr, not, filter, map, ap}
use Rattle.std.specs.Ordering.{is_lt}
use Rattle.ix_pages.specs.Changes.{key_of_change}
use Rattle.ix_pages.specs.Edits.{change_of}
use Rattle.ix_pages.proofs.Forks.{behind_first_part}
use Rattle.ix_pages.proofs.Fronts.{none_first, before_all, behind_none}
use Rattle.ix_pages.proofs.node.edits_before.Goals as goal

pub returns-in-None-clause-before : goal.returns-in-None-clause-before
returns-in-None-clause-before g c =
    before_all g.K.Ord.cmp c.args.children.now c.args.edits.now c.all_in_front.result.before.now (inl (none_first c.args.children.now c.in-None.ensures.value)) c.requires.first c.all_in_front.ensures.before

pub returns-in-None-clause-behind : goal.returns-in-None-clause-behind
returns-in-None-clause-behind g c =
    behind_none g.K.Ord.cmp c.args.children.now c.args.edits.now c.all_in_front.result.behind.now (inl (none_first c.args.children.now c.in-None.ensures.value)) c.requires.first c.all_in_front.ensures.behind

pub returns-then-edits-gt1-clause-behind : goal.returns-then-edits-gt1-clause-behind
returns-then-edits-gt1-clause-behind g c =
    c.split_edits.ensures.behind ∙ ap (λ e. filter (λ change. not (is_lt (g.K.Ord.cmp (key_of_change change) e.key))) (map change_of c.args.edits.now)) c.deref.ensures
    ∙ behind_first_part g.K.Ord.cmp c.args.children.now c.in-Some.child.now (map change_of c.args.edits.now) c.in-Some.ensures.value

pub returns-else-edits-gt1-clause-before : goal.returns-else-edits-gt1-clause-before
returns-else-edits-gt1-clause-before g c =
    before_all g.K.Ord.cmp c.args.children.now c.args.edits.now c.all_in_front-else-edits-gt1.result.before.now (inr c.if-edits-gt1.false) c.requires.first c.all_in_front-else-edits-gt1.ensures.before

pub returns-else-edits-gt1-clause-behind : goal.returns-else-edits-gt1-clause-behind
returns-else-edits-gt1-clause-behind g c =
    behind_none g.K.Ord.cmp c.args.children.now c.args.edits.now c.all_in_front-else-edits-gt1.result.behind.now (inr c.if-edits-gt1.false) c.requires.first c.all_in_front-else-edits-gt1.ensures.behind
