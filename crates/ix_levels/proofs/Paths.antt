-- An edge of a walk's answer ends a shortest path.
use Rattle.std.proofs.Common.{◌≡◌, ◌↔◌, ℕ, ◌<◌, ◌+◌, false, List, map, Contains, refl, sym, subst, arith}
use Rattle.ix_types.specs.Row.{edge_cmp}
use Rattle.ix_types.specs.declared.row.EdgeRow.{EdgeRow}
use Rattle.ix_types.specs.declared.row.OccRow.{OccRow}
use Rattle.ix_types.specs.declared.row.Query.{Query}
use Rattle.ix_types.specs.declared.row.Row.TheVariants.{Edge}
use Rattle.ix_model.specs.Rows.{rows}
use Rattle.ix_model.specs.SortedSet.{sorted_set}
use Rattle.ix_model.specs.Units.{Units}
use Rattle.ix_answers.specs.declared.walks.Walk.{Walk}
use Rattle.ix_answers.specs.Answers.{answer}
use Rattle.ix_answers.specs.Paths.{IsPath, IsReached}
use Rattle.ix_answers.specs.Walks.{edges_to}
use Rattle.ix_answers.proofs.Members.{Has, has, contains, map-in, map-out}
use Rattle.ix_answers.proofs.Steps.{edges_are_those}
use Rattle.ix_needs.specs.Premises.{is_plain}
use Rattle.ix_levels.specs.Trail.{walk_of, start_of, depth_of}
use Rattle.ix_levels.proofs.Ended.{edge_set, answer-walked}

edge-of : (d e : EdgeRow) → Edge d ≡ Edge e → d ≡ e
edge-of d e p = cc

-- the edges of a walk, and what it answers
pub walked-has : (walk : Walk) (all : List OccRow) (start : List ℕ) (depth : ℕ) (e : EdgeRow) → Contains (map Edge (sorted_set edge_cmp (edges_to walk all start depth))) (Edge e) ↔ Contains (edges_to walk all start depth) e
walked-has walk all start depth e = (
  λ c.
      let m = map-out Edge (sorted_set edge_cmp (edges_to walk all start depth)) (Edge e) (has (map Edge (sorted_set edge_cmp (edges_to walk all start depth))) (Edge e) c) in
      ((edge_set (edges_to walk all start depth)).same e).0 (contains (sorted_set edge_cmp (edges_to walk all start depth)) e
      (subst (λ (d : EdgeRow). Has (sorted_set edge_cmp (edges_to walk all start depth)) d) (edge-of m.0 e m.2) m.1)),
  λ c.
      contains (map Edge (sorted_set edge_cmp (edges_to walk all start depth))) (Edge e)
      (map-in Edge (sorted_set edge_cmp (edges_to walk all start depth)) e (Edge e) (has (sorted_set edge_cmp (edges_to walk all start depth)) e (((edge_set (edges_to walk all start depth)).same e).1 c)) refl),
)

pub edge-reached : (query : Query) (units : Units) (e : EdgeRow) → is_plain query ≡ false → Contains (answer query units) (Edge e) → IsReached (walk_of query) (rows units) (start_of query) (depth_of query) e
edge-reached query units e p c =
    (edges_are_those (walk_of query) (rows units) (start_of query) (depth_of query) e).0
    ((walked-has (walk_of query) (rows units) (start_of query) (depth_of query) e).0 (subst (λ rs. Contains rs (Edge e)) (answer-walked query units p) c))

pub edge-path : (query : Query) (units : Units) (e : EdgeRow) → is_plain query ≡ false → Contains (answer query units) (Edge e) → IsPath (walk_of query) (rows units) (start_of query) e.depth e.to
edge-path query units e p c =
    let r = edge-reached query units e p c in
    subst (λ (n : ℕ). IsPath (walk_of query) (rows units) (start_of query) n e.to) (sym r.of_depth) (e, r.step, r.path, refl)

pub edge-shortest : (query : Query) (units : Units) (e : EdgeRow) (m : ℕ) → is_plain query ≡ false → Contains (answer query units) (Edge e) → m + 1 < e.depth
    → IsPath (walk_of query) (rows units) (start_of query) m e.from → ⊥
edge-shortest query units e m p c b path = let r = edge-reached query units e p c in r.shortest m (omega (arith, b, r.of_depth)) path
