-- An empty level ends a walk, and a query's needs and answer are those of its walk.
use Rattle.std.proofs.Common.{◌≡◌, ◌↔◌, ℕ, zero, suc, ◌<◌, ◌≤◌, ◌+◌, ◌-◌, ◌⊎◌, inl, inr, false, List, [], ◌∷◌, ◌++◌, map, filter, Contains, refl, ap, ◌∙◌, subst, arith, append-nil}
use Rattle.std.specs.List.{flat_map}
use Rattle.std.proofs.lemmas.Bool.{cases_lt}
use Rattle.ix_types.specs.Row.{text_cmp, edge_cmp}
use Rattle.ix_types.specs.declared.row.EdgeRow.{EdgeRow}
use Rattle.ix_types.specs.declared.row.OccRow.{OccRow}
use Rattle.ix_types.specs.declared.row.Query.{Query}
use Rattle.ix_types.specs.declared.row.Query.TheVariants as ask
use Rattle.ix_types.specs.declared.row.Row.TheVariants.{Edge}
use Rattle.ix_model.specs.Rows.{rows}
use Rattle.ix_model.specs.SortedSet.{sorted_set, IsSortedSetOf}
use Rattle.ix_model.specs.Units.{Units}
use Rattle.ix_model.proofs.Door.{is_sorted_set}
use Rattle.ix_model.proofs.SortedSet.{same_set}
use Rattle.ix_answers.specs.declared.facts.HeldSymbol.{HeldSymbol}
use Rattle.ix_answers.specs.declared.facts.RelatedSymbol.{RelatedSymbol}
use Rattle.ix_answers.specs.declared.walks.Walk.{Walk}
use Rattle.ix_answers.specs.declared.walks.Walk.TheVariants.{Incoming, Outgoing, Supertypes, Subtypes}
use Rattle.ix_answers.specs.Answers.{answer}
use Rattle.ix_answers.specs.Facts.{held, related_symbols}
use Rattle.ix_answers.specs.Needs.{needs_of, level_needs, walk_needs, need_of}
use Rattle.ix_answers.specs.Rising.{AreLoaded}
use Rattle.ix_answers.specs.Walks.{edges_of_row, edges_from, next_level, reached, edges_to}
use Rattle.ix_answers.proofs.Members.{Has, has, contains, append-cases}
use Rattle.ix_answers.proofs.Orders.{edge_cmp_total, edge_cmp-IsAntisymmetric}
use Rattle.ix_needs.specs.Premises.{is_plain}
use Rattle.ix_levels.specs.Trail.{walk_of, start_of, depth_of}

-- ---- sorted sets of edges

pub edge_set : (edges : List EdgeRow) → IsSortedSetOf edge_cmp edges (sorted_set edge_cmp edges)
edge_set edges = is_sorted_set edge_cmp edge_cmp_total edge_cmp-IsAntisymmetric edges

pub one_edge_set : (edges first second : List EdgeRow) → IsSortedSetOf edge_cmp edges first → IsSortedSetOf edge_cmp edges second → first ≡ second
one_edge_set = same_set edge_cmp edge_cmp_total

pub edges_alike : (xs ys : List EdgeRow) → ((e : EdgeRow) → Contains xs e ↔ Contains ys e) → sorted_set edge_cmp xs ≡ sorted_set edge_cmp ys
edges_alike xs ys a =
    let first = edge_set xs in
    let moved : IsSortedSetOf edge_cmp ys (sorted_set edge_cmp xs) = record {
      rises = first.rises;
      same = λ e. (λ c. (a e).0 ((first.same e).0 c), λ c. (first.same e).1 ((a e).1 c));
    } in
    one_edge_set ys (sorted_set edge_cmp xs) (sorted_set edge_cmp ys) moved (edge_set ys)

-- ---- empty levels

none_kept : {X : Type 0} (xs : List X) → filter (λ (x : X). false) xs ≡ []
none_kept [] = refl
none_kept (x ∷ xs) = none_kept xs

pub needs_nothing : (walk : Walk) (units : Units) → needs_of walk [] units ≡ []
needs_nothing Incoming units = ap (λ (ss : List HeldSymbol). sorted_set text_cmp (map (λ (s : HeldSymbol). s.holder) ss)) (none_kept (held units))
needs_nothing Outgoing units = ap (λ (ss : List RelatedSymbol). sorted_set text_cmp (map (λ (s : RelatedSymbol). s.holder) ss)) (none_kept (related_symbols units))
needs_nothing Supertypes units = ap (λ (ss : List RelatedSymbol). sorted_set text_cmp (map (λ (s : RelatedSymbol). s.holder) ss)) (none_kept (related_symbols units))
needs_nothing Subtypes units = ap (λ (ss : List HeldSymbol). sorted_set text_cmp (map (λ (s : HeldSymbol). s.holder) ss)) (none_kept (held units))

module _ (walk : Walk) (all : List OccRow) (start : List ℕ) where
  no_edges : (depth : ℕ) (level : List (List ℕ)) → level ≡ [] → edges_from walk depth level all ≡ []
  no_edges depth level e =
      ap (λ (l : List (List ℕ)). edges_from walk depth l all) e ∙ none_kept (flat_map (edges_of_row walk depth) all)

  next_empty : (n : ℕ) → (reached walk all start n).level ≡ [] → (reached walk all start (suc n)).level ≡ []
  next_empty n e =
      ap (λ (es : List EdgeRow). next_level (reached walk all start n).earlier (reached walk all start n).level es) (no_edges (suc n) (reached walk all start n).level e)

  module _ (n : ℕ) (empty : (reached walk all start n).level ≡ []) where
    pub stays_empty : (k m : ℕ) → m ≡ n + k → (reached walk all start m).level ≡ []
    stays_empty zero m e = let is : n ≡ m = omega (arith, e) in subst (λ (p : ℕ). (reached walk all start p).level ≡ []) is empty
    stays_empty (suc k) m e =
        let is : suc (n + k) ≡ m = omega (arith, e) in
        subst (λ (p : ℕ). (reached walk all start p).level ≡ []) is (next_empty (n + k) (stays_empty k (n + k) refl))

    pub same_edges : (k m : ℕ) → m ≡ n + k → edges_to walk all start m ≡ edges_to walk all start n
    same_edges zero m e = let is : m ≡ n = omega (arith, e) in ap (edges_to walk all start) is
    same_edges (suc k) m e =
        let is : m ≡ suc (n + k) = omega (arith, e) in
        ap (edges_to walk all start) is
        ∙ (ap (λ (es : List EdgeRow). edges_to walk all start (n + k) ++ es) (no_edges (suc (n + k)) (reached walk all start (n + k)).level (stays_empty k (n + k) refl))
        ∙ (append-nil (edges_to walk all start (n + k)) ∙ same_edges k (n + k) refl))

-- ---- the needs of all levels

all_needs : (walk : Walk) (start : List ℕ) (units : Units) (loaded : List (List ℕ)) (n : ℕ) → ((m : ℕ) → m < n → AreLoaded loaded (level_needs walk start units m)) → AreLoaded loaded (walk_needs walk start units n)
all_needs walk start units loaded zero all name c = absurd (has [] name c)
all_needs walk start units loaded (suc n) all name c =
    by_part (append-cases (walk_needs walk start units n) (level_needs walk start units n) name (has (walk_needs walk start units (suc n)) name c)) (all_needs walk start units loaded n (λ m b. all m (omega (arith, b))))
  where
    by_part : Has (walk_needs walk start units n) name ⊎ Has (level_needs walk start units n) name → AreLoaded loaded (walk_needs walk start units n) → Contains loaded name
    by_part (inl h) f = f name (contains (walk_needs walk start units n) name h)
    by_part (inr h) f = all n (omega arith) name (contains (level_needs walk start units n) name h)

module _ (walk : Walk) (start : List ℕ) (units : Units) (loaded : List (List ℕ)) (n : ℕ) (before : (m : ℕ) → m < n → AreLoaded loaded (level_needs walk start units m)) where
  -- all are loaded where the levels before have theirs, and either there is no further one or the next one is empty
  pub needs_loaded : (left depth : ℕ) → n + left ≡ depth → (left ≡ 0) ⊎ ((reached walk (rows units) start n).level ≡ []) → AreLoaded loaded (walk_needs walk start units depth)
  needs_loaded left depth e (inl z) =
      let is : n ≡ depth = omega (arith, e, z) in
      subst (λ (d : ℕ). AreLoaded loaded (walk_needs walk start units d)) is (all_needs walk start units loaded n before)
  needs_loaded left depth e (inr empty) = all_needs walk start units loaded depth (λ m b. by_side m (cases_lt m n))
    where
      at_level : (m k : ℕ) → m ≡ n + k → AreLoaded loaded (level_needs walk start units m)
      at_level m k p name c =
          let none : level_needs walk start units m ≡ [] = ap (λ (l : List (List ℕ)). needs_of walk l units) (stays_empty walk (rows units) start n empty k m p) ∙ needs_nothing walk units in
          absurd (has [] name (subst (λ (names : List (List ℕ)). Contains names name) none c))

      beyond : (m : ℕ) → n ≤ m → (k : ℕ) × (m ≡ n + k)
      beyond m g = (m - n, omega (arith, g))

      by_side : (m : ℕ) → (m < n) ⊎ (n ≤ m) → AreLoaded loaded (level_needs walk start units m)
      by_side m (inl l) = before m l
      by_side m (inr g) = let k = beyond m g in at_level m k.0 k.1

-- ---- of a query

pub need-walked : (query : Query) (units : Units) → is_plain query ≡ false → need_of query units ≡ walk_needs (walk_of query) (start_of query) units (depth_of query)
need-walked (ask.Incoming usr depth) units p = refl
need-walked (ask.Outgoing usr depth) units p = refl
need-walked (ask.Supertypes usr depth) units p = refl
need-walked (ask.Subtypes usr depth) units p = refl
need-walked (ask.Def usr) units p = absurd (cc)
need-walked (ask.Refs usr) units p = absurd (cc)
need-walked (ask.Occ usr roles) units p = absurd (cc)
need-walked (ask.Rel usr roles) units p = absurd (cc)
need-walked (ask.Callers usr) units p = absurd (cc)
need-walked (ask.Overrides usr) units p = absurd (cc)
need-walked (ask.Name name) units p = absurd (cc)
need-walked (ask.Pattern text start end fold) units p = absurd (cc)
need-walked (ask.Symbols path) units p = absurd (cc)
need-walked (ask.Mains path) units p = absurd (cc)
need-walked (ask.Units path) units p = absurd (cc)
need-walked (ask.Includes path) units p = absurd (cc)
need-walked (ask.Includers path) units p = absurd (cc)
need-walked (ask.Codegen codegen) units p = absurd (cc)

pub answer-walked : (query : Query) (units : Units) → is_plain query ≡ false → answer query units ≡ map Edge (sorted_set edge_cmp (edges_to (walk_of query) (rows units) (start_of query) (depth_of query)))
answer-walked (ask.Incoming usr depth) units p = refl
answer-walked (ask.Outgoing usr depth) units p = refl
answer-walked (ask.Supertypes usr depth) units p = refl
answer-walked (ask.Subtypes usr depth) units p = refl
answer-walked (ask.Def usr) units p = absurd (cc)
answer-walked (ask.Refs usr) units p = absurd (cc)
answer-walked (ask.Occ usr roles) units p = absurd (cc)
answer-walked (ask.Rel usr roles) units p = absurd (cc)
answer-walked (ask.Callers usr) units p = absurd (cc)
answer-walked (ask.Overrides usr) units p = absurd (cc)
answer-walked (ask.Name name) units p = absurd (cc)
answer-walked (ask.Pattern text start end fold) units p = absurd (cc)
answer-walked (ask.Symbols path) units p = absurd (cc)
answer-walked (ask.Mains path) units p = absurd (cc)
answer-walked (ask.Units path) units p = absurd (cc)
answer-walked (ask.Includes path) units p = absurd (cc)
answer-walked (ask.Includers path) units p = absurd (cc)
answer-walked (ask.Codegen codegen) units p = absurd (cc)
