use Rattle.std.proofs.Common.{◌≡◌, map, ap, ◌∙◌, rules}
use Rattle.std.specs.Map.Iter.{deref}
use Rattle.std.proofs.lemmas.Map.Iter.{iter_end}
use Rattle.ix_types.specs.Row.{text_cmp}
use Rattle.ix_model.specs.SortedSet.{sorted_set}
use Rattle.ix_answers.proofs.Loops.{all_seen}
use Rattle.ix_levels.specs.Levels.{named_for}
use Rattle.ix_hierarchy.proofs.level.level_names.Goals as goal

pub returns : goal.returns
returns g c =
    let all : map deref c.loop-usr.yielded ≡ c.args.level.now.keys = search (rules, iter_end) in
    c.set_of_names.ensures
    ∙ ap (sorted_set text_cmp) (all_seen deref (named_for c.args.walk (g.L.Lookups.found c.args.lookups.now)) c.loop-usr.yielded c.args.level.now.keys c.loop-usr.names.items c.loop-usr.invariant all)
