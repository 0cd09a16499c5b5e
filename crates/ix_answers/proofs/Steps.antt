-- The edges of a walk are those behind shortest paths.
use Rattle.std.proofs.Common.{◌≡◌, ◌↔◌, ℕ, zero, suc, ◌<◌, ◌≤◌, ◌⊎◌, inl, inr, Bool, true, false, ◌||◌, not, List, ◌++◌, map, filter, Contains, refl, sym, ap, ◌∙◌, subst, arith}
use Rattle.std.specs.List.{flat_map}
use Rattle.std.proofs.lemmas.Bool.{cases_lt}
use Rattle.ix_types.specs.Codes.{has_any}
use Rattle.ix_types.specs.Row.{text_cmp}
use Rattle.ix_types.specs.declared.row.RelRow.{RelRow}
use Rattle.ix_types.specs.declared.row.OccRow.{OccRow}
use Rattle.ix_types.specs.declared.row.EdgeRow.{EdgeRow}
use Rattle.ix_model.proofs.Door.{is_sorted_set}
use Rattle.ix_answers.specs.declared.walks.Walk.{Walk}
use Rattle.ix_answers.specs.declared.walks.Walk.TheVariants.{Incoming, Outgoing, Supertypes, Subtypes}
use Rattle.ix_answers.specs.Lookups.{is_among}
use Rattle.ix_answers.specs.Walks.{followed, edge, edge_by, edges_of_row, edges_from, next_level, reached, edges_to}
use Rattle.ix_answers.specs.Paths.{StandsAt, IsCallAt, IsStep, IsPath, IsReached, turned}
use Rattle.ix_answers.proofs.Members.{Has, has, contains, append-left, append-right, append-cases, map-in, map-out, flat_map-in, flat_map-out, filter-in, filter-out, either-true, true-left, true-right, among-in, among-out}
use Rattle.ix_answers.proofs.Orders.{text_cmp_total, text_cmp-IsAntisymmetric}
use Rattle.ix_answers.proofs.Selected.{has_bit}

-- ---- one edge

-- the edge by a row and a relation is the edge that has these ends and this place
same_edge : (depth : ℕ) (from to : List ℕ) (row : OccRow) (e : EdgeRow) → depth ≡ e.depth → from ≡ e.from → to ≡ e.to → StandsAt row e → edge_by depth from to row ≡ e
same_edge depth from to row e d f t s = λ i. record { depth = d i; from = f i; to = t i; path = s.at_path i; line = s.at_line i; column = s.at_column i }

stands : (depth : ℕ) (from to : List ℕ) (row : OccRow) (e : EdgeRow) → edge_by depth from to row ≡ e → StandsAt row e
stands depth from to row e p = record { at_path = ap (λ (f : EdgeRow). f.path) p; at_line = ap (λ (f : EdgeRow). f.line) p; at_column = ap (λ (f : EdgeRow). f.column) p }

-- what an edge by a row and a relation is
step : (walk : Walk) (depth : ℕ) (all : List OccRow) (row : OccRow) (relation : RelRow) (e : EdgeRow) → Has all row → Has row.relations relation → has_any relation.roles (followed walk) ≡ true → edge walk depth row relation ≡ e → IsStep walk all e
step Incoming depth all row relation e h r f p = record {
  row = row;
  of_all = contains all row h;
  relation = relation;
  has_relation = contains row.relations relation r;
  of_callee = ap (λ (x : EdgeRow). x.from) p;
  of_caller = ap (λ (x : EdgeRow). x.to) p;
  is_called = (has_bit relation.roles 13).0 f;
  stands = stands depth row.usr relation.usr row e p;
}
step Outgoing depth all row relation e h r f p = record {
  row = row;
  of_all = contains all row h;
  relation = relation;
  has_relation = contains row.relations relation r;
  of_callee = ap (λ (x : EdgeRow). x.to) p;
  of_caller = ap (λ (x : EdgeRow). x.from) p;
  is_called = (has_bit relation.roles 13).0 f;
  stands = stands depth relation.usr row.usr row e p;
}
step Supertypes depth all row relation e h r f p = record {
  row = row;
  of_all = contains all row h;
  relation = relation;
  has_relation = contains row.relations relation r;
  of_base = ap (λ (x : EdgeRow). x.to) p;
  of_subtype = ap (λ (x : EdgeRow). x.from) p;
  is_base = (has_bit relation.roles 10).0 f;
  stands = stands depth relation.usr row.usr row e p;
}
step Subtypes depth all row relation e h r f p = record {
  row = row;
  of_all = contains all row h;
  relation = relation;
  has_relation = contains row.relations relation r;
  of_base = ap (λ (x : EdgeRow). x.from) p;
  of_subtype = ap (λ (x : EdgeRow). x.to) p;
  is_base = (has_bit relation.roles 10).0 f;
  stands = stands depth row.usr relation.usr row e p;
}

by_relation : (walk : Walk) (depth : ℕ) (all : List OccRow) (row : OccRow) (relation : RelRow) (e : EdgeRow) → Contains all row → Contains row.relations relation → has_any relation.roles (followed walk) ≡ true → edge walk depth row relation ≡ e → Has (flat_map (edges_of_row walk depth) all) e
by_relation walk depth all row relation e h r f p =
    flat_map-in (edges_of_row walk depth) all row e (has all row h)
    (map-in (edge walk depth row) (filter (λ relation. has_any relation.roles (followed walk)) row.relations) relation e
    (filter-in (λ relation. has_any relation.roles (followed walk)) row.relations relation (has row.relations relation r) f) p)

from_step : (walk : Walk) (depth : ℕ) (all : List OccRow) (e : EdgeRow) → depth ≡ e.depth → IsStep walk all e → Has (flat_map (edges_of_row walk depth) all) e
from_step Incoming depth all e d s =
    by_relation Incoming depth all s.row s.relation e s.of_all s.has_relation ((has_bit s.relation.roles 13).1 s.is_called) (same_edge depth s.row.usr s.relation.usr s.row e d s.of_callee s.of_caller s.stands)
from_step Outgoing depth all e d s =
    by_relation Outgoing depth all s.row s.relation e s.of_all s.has_relation ((has_bit s.relation.roles 13).1 s.is_called) (same_edge depth s.relation.usr s.row.usr s.row e d s.of_caller s.of_callee s.stands)
from_step Supertypes depth all e d s =
    by_relation Supertypes depth all s.row s.relation e s.of_all s.has_relation ((has_bit s.relation.roles 10).1 s.is_base) (same_edge depth s.relation.usr s.row.usr s.row e d s.of_subtype s.of_base s.stands)
from_step Subtypes depth all e d s =
    by_relation Subtypes depth all s.row s.relation e s.of_all s.has_relation ((has_bit s.relation.roles 10).1 s.is_base) (same_edge depth s.row.usr s.relation.usr s.row e d s.of_base s.of_subtype s.stands)

depth_of : (walk : Walk) (depth : ℕ) (row : OccRow) (relation : RelRow) (e : EdgeRow) → edge walk depth row relation ≡ e → e.depth ≡ depth
depth_of Incoming depth row relation e p = sym (ap (λ (x : EdgeRow). x.depth) p)
depth_of Outgoing depth row relation e p = sym (ap (λ (x : EdgeRow). x.depth) p)
depth_of Supertypes depth row relation e p = sym (ap (λ (x : EdgeRow). x.depth) p)
depth_of Subtypes depth row relation e p = sym (ap (λ (x : EdgeRow). x.depth) p)

-- the edges from a level, as steps
module _ (walk : Walk) (depth : ℕ) (level : List (List ℕ)) (all : List OccRow) (e : EdgeRow) where
  pub from-out : Has (edges_from walk depth level all) e → IsStep walk all e × Has level e.from × (e.depth ≡ depth)
  from-out h =
      let kept = filter-out (λ e. is_among level e.from) (flat_map (edges_of_row walk depth) all) e h in
      let of_row = flat_map-out (edges_of_row walk depth) all e kept.0 in
      let of_relation = map-out (edge walk depth of_row.0) (filter (λ relation. has_any relation.roles (followed walk)) of_row.0.relations) e of_row.2 in
      let with_role = filter-out (λ relation. has_any relation.roles (followed walk)) of_row.0.relations of_relation.0 of_relation.1 in
      (step walk depth all of_row.0 of_relation.0 e of_row.1 with_role.0 with_role.1 of_relation.2, among-out level e.from kept.1, depth_of walk depth of_row.0 of_relation.0 e of_relation.2)

  pub from-in : IsStep walk all e → Has level e.from → e.depth ≡ depth → Has (edges_from walk depth level all) e
  from-in s h d = filter-in (λ e. is_among level e.from) (flat_map (edges_of_row walk depth) all) e (from_step walk depth all e (sym d) s) (among-in level e.from h)

-- ---- levels

-- the same step at any depth
at_depth : (walk : Walk) (all : List OccRow) (e : EdgeRow) (depth : ℕ) → IsStep walk all e → IsStep walk all (record e { depth = depth })
at_depth Incoming all e depth s = record { row = s.row; of_all = s.of_all; relation = s.relation; has_relation = s.has_relation; of_callee = s.of_callee; of_caller = s.of_caller; is_called = s.is_called; stands = record { at_path = s.stands.at_path; at_line = s.stands.at_line; at_column = s.stands.at_column } }
at_depth Outgoing all e depth s = record { row = s.row; of_all = s.of_all; relation = s.relation; has_relation = s.has_relation; of_callee = s.of_callee; of_caller = s.of_caller; is_called = s.is_called; stands = record { at_path = s.stands.at_path; at_line = s.stands.at_line; at_column = s.stands.at_column } }
at_depth Supertypes all e depth s = record { row = s.row; of_all = s.of_all; relation = s.relation; has_relation = s.has_relation; of_base = s.of_base; of_subtype = s.of_subtype; is_base = s.is_base; stands = record { at_path = s.stands.at_path; at_line = s.stands.at_line; at_column = s.stands.at_column } }
at_depth Subtypes all e depth s = record { row = s.row; of_all = s.of_all; relation = s.relation; has_relation = s.has_relation; of_base = s.of_base; of_subtype = s.of_subtype; is_base = s.is_base; stands = record { at_path = s.stands.at_path; at_line = s.stands.at_line; at_column = s.stands.at_column } }

not_true : (b : Bool) → not b ≡ true → b ≡ true → ⊥
not_true true e f = cc
not_true false e f = cc

not_false : (b : Bool) → (b ≡ true → ⊥) → not b ≡ true
not_false true f = absurd (f refl)
not_false false f = refl

is_true : (b : Bool) → (b ≡ true) ⊎ (b ≡ true → ⊥)
is_true true = inl refl
is_true false = inr (λ e. cc)

-- the next level has where the edges lead to, but for the levels so far
module _ (earlier level : List (List ℕ)) (edges : List EdgeRow) (usr : List ℕ) where
  abbrev is_new : List ℕ → Bool
  is_new other = not (is_among earlier other || is_among level other)

  abbrev fresh : List (List ℕ)
  fresh = filter is_new (map (λ (e : EdgeRow). e.to) edges)

  next-out : Has (next_level earlier level edges) usr → ((e : EdgeRow) × Has edges e × (e.to ≡ usr)) × ((Has earlier usr ⊎ Has level usr) → ⊥)
  next-out h =
      let in_fresh : Has fresh usr = has fresh usr (((is_sorted_set text_cmp text_cmp_total text_cmp-IsAntisymmetric fresh).same usr).0 (contains (next_level earlier level edges) usr h)) in
      let kept = filter-out is_new (map (λ (e : EdgeRow). e.to) edges) usr in_fresh in
      (map-out (λ (e : EdgeRow). e.to) edges usr kept.0, λ k. not_true (is_among earlier usr || is_among level usr) kept.1 (seen k))
    where
      seen : Has earlier usr ⊎ Has level usr → (is_among earlier usr || is_among level usr) ≡ true
      seen (inl k) = true-left (is_among earlier usr) (is_among level usr) (among-in earlier usr k)
      seen (inr k) = true-right (is_among earlier usr) (is_among level usr) (among-in level usr k)

  next-in : (e : EdgeRow) → Has edges e → e.to ≡ usr → ((Has earlier usr ⊎ Has level usr) → ⊥) → Has (next_level earlier level edges) usr
  next-in e h t new =
      has (next_level earlier level edges) usr (((is_sorted_set text_cmp text_cmp_total text_cmp-IsAntisymmetric fresh).same usr).1 (contains fresh usr
      (filter-in is_new (map (λ (e : EdgeRow). e.to) edges) usr (map-in (λ (e : EdgeRow). e.to) edges e usr h t) (not_false (is_among earlier usr || is_among level usr) (λ s. new (seen (either-true (is_among earlier usr) (is_among level usr) s)))))))
    where
      seen : (is_among earlier usr ≡ true) ⊎ (is_among level usr ≡ true) → Has earlier usr ⊎ Has level usr
      seen (inl s) = inl (among-out earlier usr s)
      seen (inr s) = inr (among-out level usr s)

module _ (walk : Walk) (all : List OccRow) (start : List ℕ) where
  -- some path of fewer than n edges
  pub record IsNearer (n : ℕ) (usr : List ℕ) : Type 0 where
    pub m : ℕ
    pub below : m < n
    pub path : IsPath walk all start m usr

  -- what the levels up to the first n are
  pub record AreLevels (n : ℕ) : Type 0 where
    pub earlier-out : (usr : List ℕ) → Has (reached walk all start n).earlier usr → IsNearer n usr
    pub earlier-in : (usr : List ℕ) → IsNearer n usr → Has (reached walk all start n).earlier usr
    pub level-out : (usr : List ℕ) → Has (reached walk all start n).level usr → IsPath walk all start n usr × (IsNearer n usr → ⊥)
    pub level-in : (usr : List ℕ) → IsPath walk all start n usr → (IsNearer n usr → ⊥) → Has (reached walk all start n).level usr

  at_start : AreLevels zero
  at_start = record {
    earlier-out = λ usr h. absurd h;
    earlier-in = λ usr w. absurd (omega (arith, w.below));
    level-out = λ usr h. (alone usr h, λ w. absurd (omega (arith, w.below)));
    level-in = λ usr p new. inl p;
  }
    where
      alone : (usr : List ℕ) → (start ≡ usr) ⊎ ⊥ → start ≡ usr
      alone usr (inl e) = e
      alone usr (inr h) = absurd h

  wider : (n : ℕ) (usr : List ℕ) → IsNearer n usr → IsNearer (suc n) usr
  wider n usr w = record { m = w.m; below = omega (arith, w.below); path = w.path }

  closer : (n m : ℕ) (usr : List ℕ) → m < suc n → IsPath walk all start m usr → IsNearer n usr ⊎ (m ≡ n)
  closer n m usr b p = by_cases (cases_lt m n)
    where
      by_cases : (m < n) ⊎ (n ≤ m) → IsNearer n usr ⊎ (m ≡ n)
      by_cases (inl l) = inl (record { m = m; below = l; path = p })
      by_cases (inr g) = inr (omega arith)

  module _ (n : ℕ) (before : AreLevels n) where
    abbrev edges : List EdgeRow
    edges = edges_from walk (suc n) (reached walk all start n).level all

    earlier_next : (usr : List ℕ) → Has (reached walk all start n).earlier usr ⊎ Has (reached walk all start n).level usr → IsNearer (suc n) usr
    earlier_next usr (inl h) = wider n usr (before.earlier-out usr h)
    earlier_next usr (inr h) = record { m = n; below = omega arith; path = (before.level-out usr h).0 }

    -- a path of at most n edges leads into the levels up to n
    nearer_in : (usr : List ℕ) → IsNearer (suc n) usr → Has (reached walk all start n).earlier usr ⊎ Has (reached walk all start n).level usr
    nearer_in usr w = by_length (closer n w.m usr w.below w.path)
      where
        at_n : IsPath walk all start n usr → (is_among (reached walk all start n).earlier usr ≡ true) ⊎ (is_among (reached walk all start n).earlier usr ≡ true → ⊥) → Has (reached walk all start n).earlier usr ⊎ Has (reached walk all start n).level usr
        at_n p (inl e) = inl (among-out (reached walk all start n).earlier usr e)
        at_n p (inr f) = inr (before.level-in usr p (λ v. f (among-in (reached walk all start n).earlier usr (before.earlier-in usr v))))

        by_length : IsNearer n usr ⊎ (w.m ≡ n) → Has (reached walk all start n).earlier usr ⊎ Has (reached walk all start n).level usr
        by_length (inl v) = inl (before.earlier-in usr v)
        by_length (inr e) = at_n (subst (λ (k : ℕ). IsPath walk all start k usr) e w.path) (is_true (is_among (reached walk all start n).earlier usr))

    -- where the path's last edge begins
    origin : (e : EdgeRow) → IsStep walk all e → (usr : List ℕ) → e.to ≡ usr → (IsNearer (suc n) usr → ⊥) → IsNearer n e.from → ⊥
    origin e s usr t new w = new (record { m = suc w.m; below = omega (arith, w.below); path = (e, s, w.path, t) })

    one_more : AreLevels (suc n)
    one_more = record {
      earlier-out = λ usr h. earlier_next usr (append-cases (reached walk all start n).earlier (reached walk all start n).level usr h);
      earlier-in = λ usr w. joined usr (nearer_in usr w);
      level-out = λ usr h.
          let r = next-out (reached walk all start n).earlier (reached walk all start n).level edges usr h in
          let s = from-out walk (suc n) (reached walk all start n).level all r.0.0 r.0.1 in
          ((r.0.0, s.0, (before.level-out r.0.0.from s.1).0, r.0.2), λ w. r.1 (nearer_in usr w));
      level-in = λ usr p new.
          let e : EdgeRow = record p.0 { depth = suc n } in
          let s = at_depth walk all p.0 (suc n) p.1 in
          next-in (reached walk all start n).earlier (reached walk all start n).level edges usr e
          (from-in walk (suc n) (reached walk all start n).level all e s (before.level-in p.0.from p.2 (origin p.0 p.1 usr p.3 new)) refl) p.3 (λ k. new (earlier_next usr k));
    }
      where
        joined : (usr : List ℕ) → Has (reached walk all start n).earlier usr ⊎ Has (reached walk all start n).level usr → Has ((reached walk all start n).earlier ++ (reached walk all start n).level) usr
        joined usr (inl h) = append-left (reached walk all start n).earlier (reached walk all start n).level usr h
        joined usr (inr h) = append-right (reached walk all start n).earlier (reached walk all start n).level usr h

  pub levels : (n : ℕ) → AreLevels n
  levels zero = at_start
  levels (suc n) = one_more n (levels n)

  -- ---- edges

  reached-out : (n : ℕ) (e : EdgeRow) → Has (edges_to walk all start n) e → IsReached walk all start n e
  reached-out zero e h = absurd h
  reached-out (suc n) e h = by_part (append-cases (edges_to walk all start n) (edges_from walk (suc n) (reached walk all start n).level all) e h) (λ k. reached-out n e k)
    where
      last : Has (edges_from walk (suc n) (reached walk all start n).level all) e → IsReached walk all start (suc n) e
      last k =
          let s = from-out walk (suc n) (reached walk all start n).level all e k in
          let l = (levels n).level-out e.from s.1 in
          record { before = n; within = omega arith; of_depth = s.2; step = s.0; path = l.0; shortest = λ m b p. l.1 (record { m = m; below = b; path = p }) }

      by_part : Has (edges_to walk all start n) e ⊎ Has (edges_from walk (suc n) (reached walk all start n).level all) e → (Has (edges_to walk all start n) e → IsReached walk all start n e) → IsReached walk all start (suc n) e
      by_part (inl k) f = let r = f k in record { before = r.before; within = omega (arith, r.within); of_depth = r.of_depth; step = r.step; path = r.path; shortest = r.shortest }
      by_part (inr k) f = last k

  reached-in : (n : ℕ) (e : EdgeRow) → IsReached walk all start n e → Has (edges_to walk all start n) e
  reached-in zero e r = absurd (omega (arith, r.within))
  reached-in (suc n) e r = by_cases (cases_lt r.before n) (λ k. reached-in n e k)
    where
      last : r.before ≡ n → Has (edges_from walk (suc n) (reached walk all start n).level all) e
      last q =
          let path : IsPath walk all start n e.from = subst (λ (k : ℕ). IsPath walk all start k e.from) q r.path in
          from-in walk (suc n) (reached walk all start n).level all e r.step ((levels n).level-in e.from path (λ w. r.shortest w.m (omega (arith, w.below, q)) w.path)) (r.of_depth ∙ ap suc q)

      by_cases : (r.before < n) ⊎ (n ≤ r.before) → (IsReached walk all start n e → Has (edges_to walk all start n) e) → Has (edges_to walk all start (suc n)) e
      by_cases (inl l) f = append-left (edges_to walk all start n) (edges_from walk (suc n) (reached walk all start n).level all) e (f (record { before = r.before; within = l; of_depth = r.of_depth; step = r.step; path = r.path; shortest = r.shortest }))
      by_cases (inr g) f = append-right (edges_to walk all start n) (edges_from walk (suc n) (reached walk all start n).level all) e (last (omega (arith, r.within)))

  pub edges_are_those : (n : ℕ) (e : EdgeRow) → Contains (edges_to walk all start n) e ↔ IsReached walk all start n e
  edges_are_those n e = (λ c. reached-out n e (has (edges_to walk all start n) e c), λ r. contains (edges_to walk all start n) e (reached-in n e r))

-- ---- one edge, there and back

turned-call : (all : List OccRow) (callee caller : List ℕ) (e f : EdgeRow) → e.path ≡ f.path → e.line ≡ f.line → e.column ≡ f.column → IsCallAt all callee caller e → IsCallAt all callee caller f
turned-call all callee caller e f p l c s = record {
  row = s.row;
  of_all = s.of_all;
  relation = s.relation;
  has_relation = s.has_relation;
  of_callee = s.of_callee;
  of_caller = s.of_caller;
  is_called = s.is_called;
  stands = record { at_path = s.stands.at_path ∙ p; at_line = s.stands.at_line ∙ l; at_column = s.stands.at_column ∙ c };
}

-- one edge from its start
first_edge : (walk : Walk) (all : List OccRow) (e : EdgeRow) → e.depth ≡ 1 → IsStep walk all e → IsReached walk all e.from 1 e
first_edge walk all e d s = record { before = 0; within = omega arith; of_depth = d; step = s; path = refl; shortest = λ m b p. absurd (omega (arith, b)) }

depth_is_one : (walk : Walk) (all : List OccRow) (start : List ℕ) (e : EdgeRow) → IsReached walk all start 1 e → e.depth ≡ 1
depth_is_one walk all start e r = r.of_depth ∙ (let none : r.before ≡ 0 = omega (arith, r.within) in ap suc none)

pub callers_mirror_callees : (all : List OccRow) (e : EdgeRow) → Contains (edges_to Incoming all e.from 1) e ↔ Contains (edges_to Outgoing all e.to 1) (turned e)
callers_mirror_callees all e = (
  λ c.
      let r = (edges_are_those Incoming all e.from 1 e).0 c in
      (edges_are_those Outgoing all e.to 1 (turned e)).1 (first_edge Outgoing all (turned e) (depth_is_one Incoming all e.from e r) (turned-call all e.from e.to e (turned e) refl refl refl r.step)),
  λ c.
      let r = (edges_are_those Outgoing all e.to 1 (turned e)).0 c in
      (edges_are_those Incoming all e.from 1 e).1 (first_edge Incoming all e (depth_is_one Outgoing all e.to (turned e) r) (turned-call all e.from e.to (turned e) e refl refl refl r.step)),
)
