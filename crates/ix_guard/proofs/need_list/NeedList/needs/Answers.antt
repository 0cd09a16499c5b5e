use Rattle.std.proofs.Common.{ap, ◌∙◌}
use Rattle.std.specs.Option.{is_some}
use Rattle.ix_pages.specs.Paging.{pairs_of}
use Rattle.ix_machine.specs.Needs.{has_name}
use Rattle.ix_guard.specs.Counts.{Counts, names_of}
use Rattle.ix_guard.proofs.Naming.{is_found}
use Rattle.ix_guard.proofs.need_list.NeedList.needs.Goals as goal

pub returns-in-None-clause-needs : goal.returns-in-None-clause-needs
returns-in-None-clause-needs c = ap is_some c.in-None.ensures ∙ (is_found (pairs_of c.self.inside.counts) c.args.name ∙ ap (λ (es : Counts). has_name c.args.name (names_of es)) c.self.view_is)

pub returns-in-Some-clause-needs : goal.returns-in-Some-clause-needs
returns-in-Some-clause-needs c = ap is_some c.in-Some.ensures ∙ (is_found (pairs_of c.self.inside.counts) c.args.name ∙ ap (λ (es : Counts). has_name c.args.name (names_of es)) c.self.view_is)
