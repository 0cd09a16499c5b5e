-- A walk is open at its start, at each level further, and at its end.
use Rattle.std.proofs.Common.{◌≡◌, ◌↔◌, ℕ, zero, suc, ◌<◌, ◌≤◌, ◌⊎◌, inl, inr, Bool, true, false, ◌||◌, not, List, [], ◌∷◌, ◌++◌, map, filter, take, Some, None, Contains, refl, sym, ap, ◌∙◌, subst, arith}
use Rattle.std.specs.Str.{bytes_eq}
use Rattle.std.proofs.lemmas.Bool.{cases_lt}
use Rattle.ix_types.specs.Row.{text_cmp, edge_cmp}
use Rattle.ix_types.specs.declared.row.EdgeRow.{EdgeRow}
use Rattle.ix_types.specs.declared.row.Query.{Query}
use Rattle.ix_types.specs.declared.row.Row.TheVariants.{Edge}
use Rattle.ix_model.specs.Rows.{rows}
use Rattle.ix_model.specs.SortedSet.{sorted_set}
use Rattle.ix_model.specs.Units.{Units}
use Rattle.ix_answers.specs.declared.walks.Walk.{Walk}
use Rattle.ix_answers.specs.Answers.{answer}
use Rattle.ix_answers.specs.Lookups.{is_among}
use Rattle.ix_answers.specs.Needs.{needs_of, level_needs, walk_needs, need_of, next_need, lacking_of}
use Rattle.ix_answers.specs.Rising.{AreLoaded}
use Rattle.ix_answers.specs.Walks.{edges_from, next_level, edges_to}
use Rattle.ix_answers.proofs.Members.{Has, has, contains, append-left, append-right, append-cases, map-in, map-out, filter-in, filter-out}
use Rattle.ix_lookups.specs.Found.{found_in}
use Rattle.ix_lookups.specs.Loaded.{Loaded, loaded_names}
use Rattle.ix_needs.specs.Premises.{is_plain, Holds}
use Rattle.ix_needs.proofs.Sets.{AreAlike, TextSets, OneTextSet, texts_alike}
use Rattle.ix_levels.specs.Levels.{level_edges, names_while}
use Rattle.ix_levels.specs.Trail.{Trail, walk_of, start_of, depth_of, levels_of, needs_while, IsOpenOver, IsDone, IsAtStart, IsNextLevel, IsSameLevel, next_edges}
use Rattle.ix_levels.proofs.Ended.{edges_alike, same_edges, needs_loaded, need-walked, answer-walked}
use Rattle.ix_levels.proofs.Named.{NamesThose, while-those}

-- of the law
abbrev pub EdgesThose : Type 0
EdgesThose = (walk : Walk) (depth : ℕ) (level : List (List ℕ)) (units : Units) (bodies : Loaded) (e : EdgeRow) → Holds units bodies → AreLoaded (loaded_names bodies) (needs_of walk level units)
    → Contains (level_edges walk depth level (needs_of walk level units) (found_in units) bodies) e ↔ Contains (edges_from walk depth level (rows units)) e

nothing_loaded : (loaded : List (List ℕ)) (k : ℕ) (names : List (List ℕ)) → k ≡ 0 → AreLoaded loaded (take k names)
nothing_loaded loaded k names e name c = absurd (has [] name (subst (λ (n : ℕ). Contains (take n names) name) e c))

-- ---- at the start

pub opens : NamesThose → (query : Query) (units : Units) (bodies : Loaded) (trail : Trail) → is_plain query ≡ false → IsAtStart (walk_of query) (start_of query) (depth_of query) (found_in units) trail → IsOpenOver query units bodies trail
opens those query units bodies trail p s = record {
  is_walk = p;
  goes = s.goes;
  deep = omega (arith, s.number, s.left);
  met = λ usr. (λ i. is_among (s.seen i) usr || is_among (s.level i) usr)
      ∙ (λ i. is_among (levels_of query units (sym s.number i)).earlier usr || is_among (levels_of query units (sym s.number i)).level usr);
  stands = s.level ∙ (λ i. (levels_of query units (sym s.number i)).level);
  has_edges = λ e. subst (λ (es : List EdgeRow). Contains es e ↔ Contains (edges_to (walk_of query) (rows units) (start_of query) trail.number) e) (sym s.edges)
      (subst (λ (n : ℕ). Contains [] e ↔ Contains (edges_to (walk_of query) (rows units) (start_of query) n) e) (sym s.number) (λ c. c, λ c. c));
  needs = s.needed ∙ (while-those those (depth_of query) (walk_of query) (start_of query ∷ []) units ∙ (λ i. needs_while (sym s.left i) (walk_of query) (sym s.level i) units));
  passed_levels = λ m b. absurd (omega (arith, b, s.number));
  passed = nothing_loaded (loaded_names bodies) trail.place trail.needed s.place;
}

-- ---- a level further

among-append : (xs ys : List (List ℕ)) (usr : List ℕ) → is_among (xs ++ ys) usr ≡ (is_among xs usr || is_among ys usr)
among-append [] ys usr = refl
among-append (x ∷ xs) ys usr =
    elim (bytes_eq x usr) as (λ b. (b || is_among (xs ++ ys) usr) ≡ ((b || is_among xs usr) || is_among ys usr)) [ true ↦ refl | false ↦ among-append xs ys usr ]

-- ends of edges that are alike
ends_alike : (p : List ℕ → Bool) (xs ys : List EdgeRow) → AreAlike xs ys → AreAlike (filter p (map (λ (e : EdgeRow). e.to) xs)) (filter p (map (λ (e : EdgeRow). e.to) ys))
ends_alike p xs ys a = record { there = λ usr h. moved xs ys a.there usr h; back = λ usr h. moved ys xs a.back usr h }
  where
    moved : (vs ws : List EdgeRow) → ((e : EdgeRow) → Has vs e → Has ws e) → (usr : List ℕ) → Has (filter p (map (λ (e : EdgeRow). e.to) vs)) usr → Has (filter p (map (λ (e : EdgeRow). e.to) ws)) usr
    moved vs ws f usr h =
        let k = filter-out p (map (λ (e : EdgeRow). e.to) vs) usr h in
        let m = map-out (λ (e : EdgeRow). e.to) vs usr k.0 in
        filter-in p (map (λ (e : EdgeRow). e.to) ws) usr (map-in (λ (e : EdgeRow). e.to) ws m.0 usr (f m.0 m.1) m.2) k.1

alike : (xs ys : List EdgeRow) → ((e : EdgeRow) → Contains xs e ↔ Contains ys e) → AreAlike xs ys
alike xs ys f = record { there = λ e h. has ys e ((f e).0 (contains xs e h)); back = λ e h. has xs e ((f e).1 (contains ys e h)) }

both_parts : (xs ys vs ws : List EdgeRow) → ((e : EdgeRow) → Contains xs e ↔ Contains vs e) → ((e : EdgeRow) → Contains ys e ↔ Contains ws e) → (e : EdgeRow) → Contains (xs ++ ys) e ↔ Contains (vs ++ ws) e
both_parts xs ys vs ws f g e = (λ c. go xs ys vs ws (λ k. (f e).0 k) (λ k. (g e).0 k) c, λ c. go vs ws xs ys (λ k. (f e).1 k) (λ k. (g e).1 k) c)
  where
    go : (one two three four : List EdgeRow) → (Contains one e → Contains three e) → (Contains two e → Contains four e) → Contains (one ++ two) e → Contains (three ++ four) e
    go one two three four h k c = by_part (append-cases one two e (has (one ++ two) e c))
      where
        by_part : Has one e ⊎ Has two e → Contains (three ++ four) e
        by_part (inl u) = contains (three ++ four) e (append-left three four e (has three e (h (contains one e u))))
        by_part (inr u) = contains (three ++ four) e (append-right three four e (has four e (k (contains two e u))))

module _ (sets : TextSets) (one : OneTextSet) (names_those : NamesThose) (edges_those : EdgesThose) (query : Query) (units : Units) (bodies : Loaded) (holds : Holds units bodies)
    (before after : Trail) (open_before : IsOpenOver query units bodies before) (loaded : AreLoaded (loaded_names bodies) before.needed) (next : IsNextLevel (found_in units) bodies before after) where
  abbrev earlier : List (List ℕ)
  earlier = (levels_of query units before.number).earlier

  abbrev level : List (List ℕ)
  level = (levels_of query units before.number).level

  abbrev true_edges : List EdgeRow
  true_edges = edges_from (walk_of query) (suc before.number) level (rows units)

  level_needs_are : before.needed ≡ needs_of (walk_of query) level units
  level_needs_are = open_before.needs ∙ (λ i. needs_while (next.left i) (walk_of query) (open_before.stands i) units)

  level_loaded : AreLoaded (loaded_names bodies) (needs_of (walk_of query) level units)
  level_loaded = subst (λ (names : List (List ℕ)). AreLoaded (loaded_names bodies) names) level_needs_are loaded

  edges_are : next_edges (found_in units) bodies before ≡ level_edges (walk_of query) (suc before.number) level (needs_of (walk_of query) level units) (found_in units) bodies
  edges_are = λ i. level_edges (open_before.goes i) (suc before.number) (open_before.stands i) (level_needs_are i) (found_in units) bodies

  edges_same : (e : EdgeRow) → Contains (next_edges (found_in units) bodies before) e ↔ Contains true_edges e
  edges_same e =
      subst (λ (es : List EdgeRow). Contains es e ↔ Contains true_edges e) (sym edges_are) (edges_those (walk_of query) (suc before.number) level units bodies e holds level_loaded)

  seen_are : (usr : List ℕ) → is_among after.seen usr ≡ (is_among earlier usr || is_among level usr)
  seen_are usr = next.seen usr ∙ open_before.met usr

  ends_are : after.level ≡ next_level earlier level true_edges
  ends_are =
      next.level
      ∙ ((λ i. sorted_set text_cmp (filter (λ usr. not (seen_are usr i)) (map (λ (e : EdgeRow). e.to) (next_edges (found_in units) bodies before))))
      ∙ texts_alike sets one (filter (λ usr. not (is_among earlier usr || is_among level usr)) (map (λ (e : EdgeRow). e.to) (next_edges (found_in units) bodies before)))
      (filter (λ usr. not (is_among earlier usr || is_among level usr)) (map (λ (e : EdgeRow). e.to) true_edges))
      (ends_alike (λ usr. not (is_among earlier usr || is_among level usr)) (next_edges (found_in units) bodies before) true_edges (alike (next_edges (found_in units) bodies before) true_edges edges_same)))

  edges_grown : (e : EdgeRow) → Contains after.edges e ↔ Contains (edges_to (walk_of query) (rows units) (start_of query) (suc before.number)) e
  edges_grown e =
      subst (λ (es : List EdgeRow). Contains es e ↔ Contains (edges_to (walk_of query) (rows units) (start_of query) (suc before.number)) e) (sym next.edges)
      (both_parts before.edges (next_edges (found_in units) bodies before) (edges_to (walk_of query) (rows units) (start_of query) before.number) true_edges open_before.has_edges edges_same e)

  levels_loaded : (m : ℕ) → m < after.number → AreLoaded (loaded_names bodies) (level_needs (walk_of query) (start_of query) units m)
  levels_loaded m b = by_side (cases_lt m before.number)
    where
      by_side : (m < before.number) ⊎ (before.number ≤ m) → AreLoaded (loaded_names bodies) (level_needs (walk_of query) (start_of query) units m)
      by_side (inl l) = open_before.passed_levels m l
      by_side (inr g) =
          let is : before.number ≡ m = omega (arith, b, g, next.number) in
          subst (λ (k : ℕ). AreLoaded (loaded_names bodies) (level_needs (walk_of query) (start_of query) units k)) is level_loaded

  pub goes-on : IsOpenOver query units bodies after
  goes-on = record {
    is_walk = open_before.is_walk;
    goes = next.goes ∙ open_before.goes;
    deep = omega (arith, next.number, next.left, open_before.deep);
    met = λ usr. (λ i. seen_are usr i || is_among (ends_are i) usr)
        ∙ ((λ i. sym (among-append earlier level usr) i || is_among (next_level earlier level true_edges) usr)
        ∙ (λ i. is_among (levels_of query units (sym next.number i)).earlier usr || is_among (levels_of query units (sym next.number i)).level usr));
    stands = ends_are ∙ (λ i. (levels_of query units (sym next.number i)).level);
    has_edges = λ e. subst (λ (n : ℕ). Contains after.edges e ↔ Contains (edges_to (walk_of query) (rows units) (start_of query) n) e) (sym next.number) (edges_grown e);
    needs = next.needed ∙ ((λ i. names_while after.left ((next.goes ∙ open_before.goes) i) after.level (found_in units)) ∙ while-those names_those after.left (walk_of query) after.level units);
    passed_levels = levels_loaded;
    passed = nothing_loaded (loaded_names bodies) after.place after.needed next.place;
  }

-- ---- at the same level

pub stays : (query : Query) (units : Units) (bodies : Loaded) (before after : Trail) → IsOpenOver query units bodies before → IsSameLevel before after
    → AreLoaded (loaded_names bodies) (take after.place after.needed) → IsOpenOver query units bodies after
stays query units bodies before after o s passed = record {
  is_walk = o.is_walk;
  goes = s.goes ∙ o.goes;
  deep = omega (arith, s.number, s.left, o.deep);
  met = λ usr. s.met usr ∙ (o.met usr ∙ (λ i. is_among (levels_of query units (sym s.number i)).earlier usr || is_among (levels_of query units (sym s.number i)).level usr));
  stands = s.level ∙ (o.stands ∙ (λ i. (levels_of query units (sym s.number i)).level));
  has_edges = λ e. subst (λ (n : ℕ). Contains after.edges e ↔ Contains (edges_to (walk_of query) (rows units) (start_of query) n) e) (sym s.number)
      (subst (λ (es : List EdgeRow). Contains es e ↔ Contains (edges_to (walk_of query) (rows units) (start_of query) before.number) e) (sym s.edges) (o.has_edges e));
  needs = s.needed ∙ (o.needs ∙ (λ i. needs_while (sym s.left i) (walk_of query) (sym s.level i) units));
  passed_levels = λ m b. o.passed_levels m (omega (arith, b, s.number));
  passed = passed;
}

pub stays-loaded : (query : Query) (units : Units) (before after : Loaded) (trail : Trail) → AreLoaded (loaded_names after) (loaded_names before) → IsOpenOver query units before trail → IsOpenOver query units after trail
stays-loaded query units before after trail more o = record {
  is_walk = o.is_walk;
  goes = o.goes;
  deep = o.deep;
  met = o.met;
  stands = o.stands;
  has_edges = o.has_edges;
  needs = o.needs;
  passed_levels = λ m b name c. more name (o.passed_levels m b name c);
  passed = λ name c. more name (o.passed name c);
}

-- ---- what comes next

module _ (query : Query) (units : Units) (bodies : Loaded) (trail : Trail) (o : IsOpenOver query units bodies trail) where
  abbrev loaded : List (List ℕ)
  loaded = loaded_names bodies

  pub none-next : ((query : Query) (units : Units) (loaded : List (List ℕ)) → (next_need query units loaded ≡ None) ↔ AreLoaded loaded (need_of query units)) → IsDone trail → next_need query units loaded ≡ None
  none-next law done = (law query units loaded).1 (subst (λ (names : List (List ℕ)). AreLoaded loaded names) (sym (need-walked query units o.is_walk)) (by_end done))
    where
      by_end : (trail.left ≡ 0) ⊎ (trail.level ≡ []) → AreLoaded loaded (walk_needs (walk_of query) (start_of query) units (depth_of query))
      by_end (inl z) = needs_loaded (walk_of query) (start_of query) units loaded trail.number o.passed_levels trail.left (depth_of query) o.deep (inl z)
      by_end (inr e) = needs_loaded (walk_of query) (start_of query) units loaded trail.number o.passed_levels trail.left (depth_of query) o.deep (inr (sym o.stands ∙ e))

  nothing_next : (name : List ℕ) → lacking_of loaded [] ≡ Some name → ⊥
  nothing_next name e = cc

  pub some-next : ((walk : Walk) (usr : List ℕ) (units : Units) (loaded : List (List ℕ)) (n depth : ℕ) (name : List ℕ) → n < depth
      → ((m : ℕ) → m < n → AreLoaded loaded (level_needs walk usr units m)) → lacking_of loaded (level_needs walk usr units n) ≡ Some name → lacking_of loaded (walk_needs walk usr units depth) ≡ Some name)
      → (name : List ℕ) → lacking_of loaded trail.needed ≡ Some name → next_need query units loaded ≡ Some name
  some-next law name e = by_left trail.left refl
    where
      by_left : (left : ℕ) → trail.left ≡ left → next_need query units loaded ≡ Some name
      by_left zero z =
          let none : trail.needed ≡ [] = o.needs ∙ (λ i. needs_while (z i) (walk_of query) trail.level units) in
          absurd (nothing_next name (ap (lacking_of loaded) (sym none) ∙ e))
      by_left (suc left) z =
          let needs_are : trail.needed ≡ level_needs (walk_of query) (start_of query) units trail.number = o.needs ∙ (λ i. needs_while (z i) (walk_of query) (o.stands i) units) in
          let below : trail.number < depth_of query = omega (arith, z, o.deep) in
          ap (lacking_of loaded) (need-walked query units o.is_walk)
          ∙ law (walk_of query) (start_of query) units loaded trail.number (depth_of query) name below o.passed_levels (ap (lacking_of loaded) (sym needs_are) ∙ e)

  -- ---- at the end

  pub ends : IsDone trail → map Edge (sorted_set edge_cmp trail.edges) ≡ answer query units
  ends done =
      ap (map Edge) (edges_alike trail.edges (edges_to (walk_of query) (rows units) (start_of query) trail.number) o.has_edges)
      ∙ (ap (λ (es : List EdgeRow). map Edge (sorted_set edge_cmp es)) (by_end done) ∙ sym (answer-walked query units o.is_walk))
    where
      by_end : (trail.left ≡ 0) ⊎ (trail.level ≡ []) → edges_to (walk_of query) (rows units) (start_of query) trail.number ≡ edges_to (walk_of query) (rows units) (start_of query) (depth_of query)
      by_end (inl z) = let is : trail.number ≡ depth_of query = omega (arith, z, o.deep) in ap (edges_to (walk_of query) (rows units) (start_of query)) is
      by_end (inr e) = sym (same_edges (walk_of query) (rows units) (start_of query) trail.number (sym o.stands ∙ e) trail.left (depth_of query) (sym o.deep))
