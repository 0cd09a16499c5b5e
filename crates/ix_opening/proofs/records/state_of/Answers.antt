use Rattle.std.proofs.Common.{◌≡◌, None, rules, subst, sym, ◌∙◌}
use Rattle.std.specs.List.{AllByRecursion}
use Rattle.indexmap.proofs.CallerLemmas.{insert_entry-new}
use Rattle.ix_dir.specs.Moves.{same_name}
use Rattle.ix_opening.specs.Known.{IsRead, state_of}
use Rattle.ix_opening.proofs.RecordsOfAUnit.{all_push}
use Rattle.ix_opening.proofs.records.state_of.Goals as goal

pub returns-clause-read : goal.returns-clause-read
returns-clause-read g c all =
    let moves = (g.D.Dir.state c.args.dir.now).moves in
    let read = IsRead g.N.Naming.name_of moves in
    let absent : state_of c.args.known.now.entries c.args.name ≡ None = search rules in
    let entries = c.in_ok-insert.ensures.entries ∙ insert_entry-new same_name c.args.known.now c.args.name c.in_ok-state.state absent in
    subst (AllByRecursion (λ one. read one.0 one.1)) (sym entries) (all_push (λ one. read one.0 one.1) c.args.known.now.entries (c.args.name, c.in_ok-state.state) all c.in_ok-state.ensures.read)
