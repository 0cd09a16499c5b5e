-- Look-ups and answers rise, and the next need is the least of the first level that lacks one.
use Rattle.std.proofs.Common.{◌≡◌, ◌↔◌, ℕ, zero, suc, ◌<◌, ◌≤◌, ◌⊎◌, inl, inr, Bool, true, false, cond, ◌&&◌, ◌==◌, not, List, [], ◌∷◌, ◌++◌, length, map, filter, Option, Some, None, refl, sym, ap, ◌∙◌, subst, arith}
use Rattle.std.specs.declared.cmp.Ordering.TheVariants.{Less, Greater}
use Rattle.std.specs.Ordering.{ordering_reverse}
use Rattle.std.specs.List.{find, flat_map, AllByRecursion}
use Rattle.std.specs.List.Sorted.{IsStrictlySortedBy}
use Rattle.std.proofs.lemmas.Bool.{cases_lt}
use Rattle.ix_types.specs.Row.{text_cmp, occurrence_cmp, edge_cmp}
use Rattle.ix_types.specs.declared.row.OccRow.{OccRow}
use Rattle.ix_types.specs.declared.row.EdgeRow.{EdgeRow}
use Rattle.ix_types.specs.declared.row.Query.{Query}
use Rattle.ix_types.specs.declared.row.Query.TheVariants as ask
use Rattle.ix_types.specs.declared.row.Row.TheVariants.{Occ, Path, Unit as UnitRow, Edge}
use Rattle.ix_model.specs.SortedSet.{sorted_set}
use Rattle.ix_model.specs.Units.{Units}
use Rattle.ix_model.proofs.Door.{is_sorted_set}
use Rattle.ix_answers.specs.declared.walks.Walk.{Walk}
use Rattle.ix_answers.specs.declared.walks.Walk.TheVariants.{Incoming, Outgoing, Supertypes, Subtypes}
use Rattle.std.specs.Str.{bytes_eq}
use Rattle.ix_types.specs.declared.code.TheConstants.Roles.{REFERENCE, OVERRIDE_OF}
use Rattle.ix_model.specs.Answer.{is_with, definitions}
use Rattle.ix_model.specs.Rows.{rows}
use Rattle.ix_answers.specs.Facts.{held, related_symbols, record_deps, listed, includes}
use Rattle.ix_answers.specs.Walks.{reached, edges_to, walked}
use Rattle.ix_answers.specs.Lookups.{is_among, is_coded, providers, related, named, names, coded, in_path, paths, listing, holders, related_to}
use Rattle.ix_answers.specs.Answers.{answer, rows_that, is_related, is_called, is_declared_in, definitions_of_each, matched}
use Rattle.ix_answers.specs.Needs.{level_needs, walk_needs}
use Rattle.ix_answers.specs.Rising.{IsSortedAnswer, AreLoaded, IsLeastLacking}
use Rattle.ix_answers.proofs.Members.{Has, has, contains, among-in, among-out}
use Rattle.ix_answers.proofs.Orders.{text_cmp_total, text_cmp-IsAntisymmetric, edge_cmp_total, edge_cmp-IsAntisymmetric}
use Rattle.ix_answers.proofs.Answered.{RowSets}

pub texts-rise : (texts : List (List ℕ)) → IsStrictlySortedBy text_cmp (sorted_set text_cmp texts)
texts-rise texts = (is_sorted_set text_cmp text_cmp_total text_cmp-IsAntisymmetric texts).rises

edges-rise : (edges : List EdgeRow) → IsStrictlySortedBy edge_cmp (sorted_set edge_cmp edges)
edges-rise edges = (is_sorted_set edge_cmp edge_cmp_total edge_cmp-IsAntisymmetric edges).rises

as_paths : (texts : List (List ℕ)) → IsSortedAnswer (map Path (sorted_set text_cmp texts))
as_paths texts = inr (inl (record { items = sorted_set text_cmp texts; are = refl; rises = texts-rise texts }))

as_units : (texts : List (List ℕ)) → IsSortedAnswer (map UnitRow (sorted_set text_cmp texts))
as_units texts = inr (inr (inl (record { items = sorted_set text_cmp texts; are = refl; rises = texts-rise texts })))

as_edges : (edges : List EdgeRow) → IsSortedAnswer (map Edge (sorted_set edge_cmp edges))
as_edges edges = inr (inr (inr (record { items = sorted_set edge_cmp edges; are = refl; rises = edges-rise edges })))

module _ (sets : RowSets) where
  as_rows : (rows : List OccRow) → IsSortedAnswer (map Occ (sorted_set occurrence_cmp rows))
  as_rows rows = inl (record { items = sorted_set occurrence_cmp rows; are = refl; rises = (sets rows).rises })

  that-rise : (test : OccRow → Bool) (units : Units) → IsSortedAnswer (rows_that test units)
  that-rise test units = as_rows (filter test (rows units))

  each-rise : (usrs : List (List ℕ)) (units : Units) → IsSortedAnswer (definitions_of_each usrs units)
  each-rise usrs units = as_rows (flat_map (λ usr. definitions usr (rows units)) usrs)

  walked-rise : (walk : Walk) (usr : List ℕ) (depth : ℕ) (units : Units) → IsSortedAnswer (walked walk usr depth units)
  walked-rise walk usr depth units = as_edges (edges_to walk (rows units) usr depth)

  pub answers-rise : (query : Query) (units : Units) → IsSortedAnswer (answer query units)
  answers-rise (ask.Def usr) units = as_rows (definitions usr (rows units))
  answers-rise (ask.Refs usr) units = that-rise (is_with usr REFERENCE) units
  answers-rise (ask.Occ usr roles) units = that-rise (is_with usr roles) units
  answers-rise (ask.Rel usr roles) units = that-rise (is_related usr roles) units
  answers-rise (ask.Callers usr) units = that-rise (is_called usr) units
  answers-rise (ask.Overrides usr) units = that-rise (is_related usr OVERRIDE_OF) units
  answers-rise (ask.Name name) units = each-rise (named name units) units
  answers-rise (ask.Pattern text start end fold) units = each-rise (matched text start end fold units) units
  answers-rise (ask.Symbols path) units = that-rise (is_declared_in path) units
  answers-rise (ask.Mains path) units = as_paths (map (λ l. l.main_file) (filter (λ l. bytes_eq l.path path && not (length l.main_file == 0)) (listed units)))
  answers-rise (ask.Units path) units = as_units (map (λ l. l.unit) (filter (λ l. bytes_eq l.path path) (listed units)))
  answers-rise (ask.Includes path) units = as_paths (map (λ i. i.to) (filter (λ i. bytes_eq i.from path) (includes units)))
  answers-rise (ask.Includers path) units = as_paths (map (λ i. i.from) (filter (λ i. bytes_eq i.to path) (includes units)))
  answers-rise (ask.Incoming usr depth) units = walked-rise Incoming usr depth units
  answers-rise (ask.Outgoing usr depth) units = walked-rise Outgoing usr depth units
  answers-rise (ask.Supertypes usr depth) units = walked-rise Supertypes usr depth units
  answers-rise (ask.Subtypes usr depth) units = walked-rise Subtypes usr depth units
  answers-rise (ask.Codegen codegen) units = each-rise (coded codegen units) units

-- ---- look-ups

pub providers-rise : (units : Units) (usr : List ℕ) → IsStrictlySortedBy text_cmp (providers usr units)
providers-rise units usr = texts-rise (map (λ symbol. symbol.holder) (filter (λ symbol. bytes_eq symbol.usr usr) (held units)))

pub related-rise : (units : Units) (usr : List ℕ) → IsStrictlySortedBy text_cmp (related usr units)
related-rise units usr = texts-rise (map (λ symbol. symbol.holder) (filter (λ symbol. bytes_eq symbol.usr usr) (related_symbols units)))

pub named-rise : (units : Units) (name : List ℕ) → IsStrictlySortedBy text_cmp (named name units)
named-rise units name = texts-rise (map (λ symbol. symbol.usr) (filter (λ symbol. bytes_eq symbol.name name) (held units)))

pub names-rise : (units : Units) → IsStrictlySortedBy text_cmp (names units)
names-rise units = texts-rise (map (λ symbol. symbol.name) (held units))

pub coded-rise : (units : Units) (codegen : List ℕ) → IsStrictlySortedBy text_cmp (coded codegen units)
coded-rise units codegen = texts-rise (map (λ symbol. symbol.usr) (filter (is_coded codegen) (held units)))

pub in_path-rise : (units : Units) (path : List ℕ) → IsStrictlySortedBy text_cmp (in_path path units)
in_path-rise units path = texts-rise (map (λ dep. dep.name) (filter (λ dep. bytes_eq dep.path path) (record_deps units)))

pub paths-rise : (units : Units) (name : List ℕ) → IsStrictlySortedBy text_cmp (paths name units)
paths-rise units name = texts-rise (map (λ dep. dep.path) (filter (λ dep. bytes_eq dep.name name) (record_deps units)))

pub listing-rise : (units : Units) (path : List ℕ) → IsStrictlySortedBy text_cmp (listing path units)
listing-rise units path = texts-rise (map (λ l. l.unit) (filter (λ l. bytes_eq l.path path) (listed units)))

holders-rise : (usrs : List (List ℕ)) (units : Units) → IsStrictlySortedBy text_cmp (holders usrs units)
holders-rise usrs units = texts-rise (map (λ symbol. symbol.holder) (filter (λ symbol. is_among usrs symbol.usr) (held units)))

related_to-rise : (usrs : List (List ℕ)) (units : Units) → IsStrictlySortedBy text_cmp (related_to usrs units)
related_to-rise usrs units = texts-rise (map (λ symbol. symbol.holder) (filter (λ symbol. is_among usrs symbol.usr) (related_symbols units)))

-- ---- needs

pub level-rises : (walk : Walk) (usr : List ℕ) (units : Units) (n : ℕ) → IsStrictlySortedBy text_cmp (level_needs walk usr units n)
level-rises Incoming usr units n = holders-rise (reached Incoming (rows units) usr n).level units
level-rises Outgoing usr units n = related_to-rise (reached Outgoing (rows units) usr n).level units
level-rises Supertypes usr units n = related_to-rise (reached Supertypes (rows units) usr n).level units
level-rises Subtypes usr units n = holders-rise (reached Subtypes (rows units) usr n).level units

module _ (loaded : List (List ℕ)) where
  abbrev lacks : List ℕ → Bool
  lacks name = not (is_among loaded name)

  abbrev pub next : List (List ℕ) → Option (List ℕ)
  next names = find lacks names

  not_lacking : (name : List ℕ) → lacks name ≡ false → Has loaded name
  not_lacking name e = by_case (is_among loaded name) refl e
    where
      by_case : (b : Bool) → is_among loaded name ≡ b → not b ≡ false → Has loaded name
      by_case true p f = among-out loaded name p
      by_case false p f = absurd (cc)

  lacking : (name : List ℕ) → lacks name ≡ true → Has loaded name → ⊥
  lacking name e h = let p : is_among loaded name ≡ true = among-in loaded name h in let q : not (is_among loaded name) ≡ false = ap not p in cc

  -- what is found first
  record IsFound (names : List (List ℕ)) (name : List ℕ) : Type 0 where
    is_needed : Has names name
    is_lacking : lacks name ≡ true

  found : (names : List (List ℕ)) (name : List ℕ) → next names ≡ Some name → IsFound names name
  found [] name e = absurd (cc)
  found (x ∷ xs) name e =
      (elim (lacks x) as (λ b. lacks x ≡ b → cond b (Some x) (next xs) ≡ Some name → IsFound (x ∷ xs) name) [
        | true ↦ λ l e. let p : x ≡ name = cc in record { is_needed = inl p; is_lacking = ap lacks (sym p) ∙ l }
        | false ↦ λ l e. let r = found xs name e in record { is_needed = inr r.is_needed; is_lacking = r.is_lacking }
      ]) refl e

  none_left : (names : List (List ℕ)) → next names ≡ None → (name : List ℕ) → Has names name → Has loaded name
  none_left [] e name h = absurd h
  none_left (x ∷ xs) e name h =
      (elim (lacks x) as (λ b. lacks x ≡ b → cond b (Some x) (next xs) ≡ None → Has loaded name) [
        | true ↦ λ l e. absurd (cc)
        | false ↦ λ l e. by_place l (λ k. none_left xs e name k) h
      ]) refl e
    where
      by_place : lacks x ≡ false → (Has xs name → Has loaded name) → (x ≡ name) ⊎ Has xs name → Has loaded name
      by_place l f (inl p) = subst (λ (n : List ℕ). Has loaded n) p (not_lacking x l)
      by_place l f (inr k) = f k

  all_loaded : (names : List (List ℕ)) → ((name : List ℕ) → Has names name → Has loaded name) → next names ≡ None
  all_loaded [] f = refl
  all_loaded (x ∷ xs) f =
      (elim (lacks x) as (λ b. lacks x ≡ b → cond b (Some x) (next xs) ≡ None) [
        | true ↦ λ l. absurd (lacking x l (f x (inl refl)))
        | false ↦ λ l. all_loaded xs (λ name k. f name (inr k))
      ]) refl

  pub none-lacking : (names : List (List ℕ)) → (next names ≡ None) ↔ AreLoaded loaded names
  none-lacking names = (
    λ e name c. contains loaded name (none_left names e name (has names name c)),
    λ f. all_loaded names (λ name h. has loaded name (f name (contains names name h))),
  )

  -- ---- the least

  above : (x : List ℕ) (ys : List (List ℕ)) (name : List ℕ) → AllByRecursion (λ y. text_cmp x y ≡ Less) ys → Has ys name → text_cmp x name ≡ Less
  above x [] name a h = absurd h
  above x (y ∷ ys) name a (inl e) = subst (λ (n : List ℕ). text_cmp x n ≡ Less) e a.0
  above x (y ∷ ys) name a (inr h) = above x ys name a.1 h

  not_both : (x y : List ℕ) → text_cmp x y ≡ Less → text_cmp y x ≡ Less → ⊥
  not_both x y e f = let p : Less ≡ Greater = sym e ∙ (text_cmp_total.antisymm x y ∙ ap ordering_reverse f) in cc

  least : (names : List (List ℕ)) → IsStrictlySortedBy text_cmp names → (name : List ℕ) → next names ≡ Some name → (other : List ℕ) → Has names other → text_cmp other name ≡ Less → Has loaded other
  unfolding IsStrictlySortedBy
  least [] s name e other h l = absurd h
  least (x ∷ xs) s name e other h l =
      (elim (lacks x) as (λ b. lacks x ≡ b → cond b (Some x) (next xs) ≡ Some name → Has loaded other) [
        | true ↦ λ t e. let p : x ≡ name = cc in absurd (first p h)
        | false ↦ λ t e. by_place t (λ k. least xs s.1 name e other k l) h
      ]) refl e
    where
      itself : (y : List ℕ) → x ≡ y → text_cmp y x ≡ Less → ⊥
      itself y p f = not_both y x f (subst (λ (z : List ℕ). text_cmp z y ≡ Less) (sym p) (subst (λ (z : List ℕ). text_cmp y z ≡ Less) p f))

      first : x ≡ name → (x ≡ other) ⊎ Has xs other → ⊥
      first p (inl q) = itself other q (subst (λ (n : List ℕ). text_cmp other n ≡ Less) (sym p) l)
      first p (inr k) = not_both x other (above x xs other s.0 k) (subst (λ (n : List ℕ). text_cmp other n ≡ Less) (sym p) l)

      by_place : lacks x ≡ false → (Has xs other → Has loaded other) → (x ≡ other) ⊎ Has xs other → Has loaded other
      by_place t f (inl p) = subst (λ (n : List ℕ). Has loaded n) p (not_lacking x t)
      by_place t f (inr k) = f k

  pub least-lacking : (names : List (List ℕ)) → IsStrictlySortedBy text_cmp names → (name : List ℕ) → next names ≡ Some name → IsLeastLacking loaded names name
  least-lacking names s name e =
      let f = found names name e in
      record {
        is_needed = contains names name f.is_needed;
        is_lacking = λ c. lacking name f.is_lacking (has loaded name c);
        is_least = λ other c l. contains loaded other (least names s name e other (has names other c) l);
      }

  -- ---- level after level

  behind_none : (xs ys : List (List ℕ)) → next xs ≡ None → next (xs ++ ys) ≡ next ys
  behind_none [] ys e = refl
  behind_none (x ∷ xs) ys e =
      (elim (lacks x) as (λ b. cond b (Some x) (next xs) ≡ None → cond b (Some x) (next (xs ++ ys)) ≡ next ys) [
        | true ↦ λ e. absurd (cc)
        | false ↦ λ e. behind_none xs ys e
      ]) e

  before_some : (xs ys : List (List ℕ)) (name : List ℕ) → next xs ≡ Some name → next (xs ++ ys) ≡ Some name
  before_some [] ys name e = absurd (cc)
  before_some (x ∷ xs) ys name e =
      (elim (lacks x) as (λ b. cond b (Some x) (next xs) ≡ Some name → cond b (Some x) (next (xs ++ ys)) ≡ Some name) [
        | true ↦ λ e. e
        | false ↦ λ e. before_some xs ys name e
      ]) e

  module _ (walk : Walk) (usr : List ℕ) (units : Units) where
    levels_loaded : (n : ℕ) → ((m : ℕ) → m < n → AreLoaded loaded (level_needs walk usr units m)) → next (walk_needs walk usr units n) ≡ None
    levels_loaded zero f = refl
    levels_loaded (suc n) f =
        behind_none (walk_needs walk usr units n) (level_needs walk usr units n) (levels_loaded n (λ m b. f m (omega (arith, b))))
        ∙ (none-lacking (level_needs walk usr units n)).1 (f n (omega arith))

    -- the first level that lacks one
    pub first-level : (n depth : ℕ) → n < depth → ((m : ℕ) → m < n → AreLoaded loaded (level_needs walk usr units m)) → (name : List ℕ) → next (level_needs walk usr units n) ≡ Some name → next (walk_needs walk usr units depth) ≡ Some name
    first-level n zero b f name e = absurd (omega (arith, b))
    first-level n (suc depth) b f name e = by_cases (cases_lt n depth) (λ l. first-level n depth l f name e)
      where
        last : n ≡ depth → next (walk_needs walk usr units (suc depth)) ≡ Some name
        last p = subst (λ (k : ℕ). next (walk_needs walk usr units (suc k)) ≡ Some name) p
            (behind_none (walk_needs walk usr units n) (level_needs walk usr units n) (levels_loaded n f) ∙ e)

        by_cases : (n < depth) ⊎ (depth ≤ n) → (n < depth → next (walk_needs walk usr units depth) ≡ Some name) → next (walk_needs walk usr units (suc depth)) ≡ Some name
        by_cases (inl l) g = before_some (walk_needs walk usr units depth) (level_needs walk usr units depth) name (g l)
        by_cases (inr g') g = last (omega (arith, b))
