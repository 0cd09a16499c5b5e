use Rattle.std.proofs.Common.{subst}
use Rattle.ix_lookups.specs.Found.{Found}
use Rattle.ix_levels.specs.Trail.{walk_of, start_of, depth_of, IsAtStart}
use Rattle.ix_hierarchy.proofs.Opened.{on_ok}
use Rattle.ix_hierarchy.proofs.open_walk.OpenWalk.open.Goals as goal

pub returns : goal.returns
returns g c =
    on_ok c.of.result _ _
    (λ trail s units bodies same. c.walks_open.ensures c.args.query.now units bodies trail c.requires
    (subst (λ (found : Found). IsAtStart (walk_of c.args.query.now) (start_of c.args.query.now) (depth_of c.args.query.now) found trail) same s))
    c.of.ensures
