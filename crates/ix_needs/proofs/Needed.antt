-- What look-ups name is what the units have: USRs that match, records that are needed, main files, includes.
use Rattle.std.proofs.Common.{arith, ◌≡◌, ◌↔◌, ℕ, zero, suc, ◌⊎◌, inl, inr, Bool, true, false, cond, ◌==◌, ◌&&◌, not, if◌then◌else◌, List, [], ◌∷◌, ◌++◌, length, map, filter, Option, Some, None, Contains, refl, sym, ap, ◌∙◌, subst}
use Rattle.std.specs.declared.cmp.Ordering.TheVariants.{Less}
use Rattle.std.specs.Ordering.{is_eq}
use Rattle.std.specs.List.{flat_map, AllByRecursion}
use Rattle.std.specs.List.Sorted.{IsStrictlySortedBy}
use Rattle.std.specs.Str.{bytes_eq}
use Rattle.std.specs.Map.{keys_of, lookup}
use Rattle.std.specs.BTreeMap.{is_at}
use Rattle.std.proofs.lemmas.Map.Text.{is_eq-slice_cmp}
use Rattle.ix_types.specs.Row.{text_cmp}
use Rattle.ix_types.specs.declared.row.Query.TheVariants.{Mains}
use Rattle.ix_types.specs.declared.row.Row.{Row}
use Rattle.ix_types.specs.declared.row.Row.TheVariants.{Path}
use Rattle.ix_unit.specs.declared.value.Include.{Include}
use Rattle.ix_unit.specs.declared.value.UnitValue.{UnitValue}
use Rattle.ix_model.specs.declared.publication.StoredUnit.{StoredUnit}
use Rattle.ix_model.specs.SortedSet.{sorted_set, IsSortedSetOf}
use Rattle.ix_model.specs.Units.{Units, NamesRise}
use Rattle.ix_answers.specs.declared.facts.HeldSymbol.{HeldSymbol}
use Rattle.ix_answers.specs.declared.facts.ListedPath.{ListedPath}
use Rattle.ix_answers.specs.Facts.{held, listed, includes}
use Rattle.ix_answers.specs.Lookups.{is_among, providers, named, names, listing, holders}
use Rattle.ix_answers.specs.Pattern.{matches}
use Rattle.ix_answers.specs.Answers.{answer, matched, mains}
use Rattle.ix_answers.specs.Meanings.{IsListing, IsMain, IsPathOf}
use Rattle.ix_answers.proofs.Members.{Has, has, contains, map-in, map-out, flat_map-in, flat_map-out, filter-in, filter-out, same, equal, among-in, among-out}
use Rattle.ix_lookups.specs.Found.{found_in, unit}
use Rattle.ix_needs.specs.Chosen.{matching, holding, main_of, mains_of, includes_of}
use Rattle.ix_needs.proofs.Sets.{AreAlike, TextSets, OneTextSet, texts_alike, set-in, set-out}

-- ---- USRs that match

module _ (sets : TextSets) (one : OneTextSet) (units : Units) where
  pub matching-those : (text : List ℕ) (start end fold : Bool) → matching text start end fold (found_in units) ≡ matched text start end fold units
  matching-those text start end fold =
      texts_alike sets one (flat_map (λ name. named name units) (filter (matches text start end fold) (names units)))
      (map (λ symbol. symbol.usr) (filter (λ symbol. matches text start end fold symbol.name) (held units))) (record { there = there; back = back })
    where
      there : (usr : List ℕ) → Has (flat_map (λ name. named name units) (filter (matches text start end fold) (names units))) usr
          → Has (map (λ symbol. symbol.usr) (filter (λ symbol. matches text start end fold symbol.name) (held units))) usr
      there usr h =
          let n = flat_map-out (λ name. named name units) (filter (matches text start end fold) (names units)) usr h in
          let f = filter-out (matches text start end fold) (names units) n.0 n.1 in
          let m = map-out (λ (s : HeldSymbol). s.usr) (filter (λ (s : HeldSymbol). bytes_eq s.name n.0) (held units)) usr
          (set-out sets (map (λ (s : HeldSymbol). s.usr) (filter (λ (s : HeldSymbol). bytes_eq s.name n.0) (held units))) usr n.2) in
          let g = filter-out (λ (s : HeldSymbol). bytes_eq s.name n.0) (held units) m.0 m.1 in
          let matching : matches text start end fold m.0.name ≡ true = ap (matches text start end fold) (same m.0.name n.0 g.1) ∙ f.1 in
          map-in (λ (s : HeldSymbol). s.usr) (filter (λ (s : HeldSymbol). matches text start end fold s.name) (held units)) m.0 usr
          (filter-in (λ (s : HeldSymbol). matches text start end fold s.name) (held units) m.0 g.0 matching) m.2

      back : (usr : List ℕ) → Has (map (λ symbol. symbol.usr) (filter (λ symbol. matches text start end fold symbol.name) (held units))) usr
          → Has (flat_map (λ name. named name units) (filter (matches text start end fold) (names units))) usr
      back usr h =
          let m = map-out (λ (s : HeldSymbol). s.usr) (filter (λ (s : HeldSymbol). matches text start end fold s.name) (held units)) usr h in
          let f = filter-out (λ (s : HeldSymbol). matches text start end fold s.name) (held units) m.0 m.1 in
          let name : Has (names units) m.0.name = set-in sets (map (λ (s : HeldSymbol). s.name) (held units)) m.0.name (map-in (λ (s : HeldSymbol). s.name) (held units) m.0 m.0.name f.0 refl) in
          let has_usr : Has (named m.0.name units) usr =
          set-in sets (map (λ (s : HeldSymbol). s.usr) (filter (λ (s : HeldSymbol). bytes_eq s.name m.0.name) (held units))) usr
          (map-in (λ (s : HeldSymbol). s.usr) (filter (λ (s : HeldSymbol). bytes_eq s.name m.0.name) (held units)) m.0 usr
          (filter-in (λ (s : HeldSymbol). bytes_eq s.name m.0.name) (held units) m.0 f.0 (equal m.0.name m.0.name refl)) m.2) in
          flat_map-in (λ name. named name units) (filter (matches text start end fold) (names units)) m.0.name usr (filter-in (matches text start end fold) (names units) m.0.name name f.1) has_usr

  -- ---- records of several USRs

  pub holding-out : (usrs : List (List ℕ)) (usr name : List ℕ) → Has usrs usr → Has (providers usr units) name → Has (map (λ symbol. symbol.holder) (filter (λ symbol. is_among usrs symbol.usr) (held units))) name
  holding-out usrs usr name k h =
      let m = map-out (λ (s : HeldSymbol). s.holder) (filter (λ (s : HeldSymbol). bytes_eq s.usr usr) (held units)) name
      (set-out sets (map (λ (s : HeldSymbol). s.holder) (filter (λ (s : HeldSymbol). bytes_eq s.usr usr) (held units))) name h) in
      let f = filter-out (λ (s : HeldSymbol). bytes_eq s.usr usr) (held units) m.0 m.1 in
      let among : is_among usrs m.0.usr ≡ true = among-in usrs m.0.usr (subst (λ (u : List ℕ). Has usrs u) (sym (same m.0.usr usr f.1)) k) in
      map-in (λ (s : HeldSymbol). s.holder) (filter (λ (s : HeldSymbol). is_among usrs s.usr) (held units)) m.0 name (filter-in (λ (s : HeldSymbol). is_among usrs s.usr) (held units) m.0 f.0 among) m.2

  pub holding-those : (usrs : List (List ℕ)) → holding usrs (found_in units) ≡ holders usrs units
  holding-those usrs =
      texts_alike sets one (flat_map (λ usr. providers usr units) usrs) (map (λ symbol. symbol.holder) (filter (λ symbol. is_among usrs symbol.usr) (held units))) (record { there = there; back = back })
    where
      there : (name : List ℕ) → Has (flat_map (λ usr. providers usr units) usrs) name → Has (map (λ symbol. symbol.holder) (filter (λ symbol. is_among usrs symbol.usr) (held units))) name
      there name h = let u = flat_map-out (λ usr. providers usr units) usrs name h in holding-out usrs u.0 name u.1 u.2

      back : (name : List ℕ) → Has (map (λ symbol. symbol.holder) (filter (λ symbol. is_among usrs symbol.usr) (held units))) name → Has (flat_map (λ usr. providers usr units) usrs) name
      back name h =
          let m = map-out (λ (s : HeldSymbol). s.holder) (filter (λ (s : HeldSymbol). is_among usrs s.usr) (held units)) name h in
          let f = filter-out (λ (s : HeldSymbol). is_among usrs s.usr) (held units) m.0 m.1 in
          flat_map-in (λ usr. providers usr units) usrs m.0.usr name (among-out usrs m.0.usr f.1)
          (set-in sets (map (λ (s : HeldSymbol). s.holder) (filter (λ (s : HeldSymbol). bytes_eq s.usr m.0.usr) (held units))) name
          (map-in (λ (s : HeldSymbol). s.holder) (filter (λ (s : HeldSymbol). bytes_eq s.usr m.0.usr) (held units)) m.0 name
          (filter-in (λ (s : HeldSymbol). bytes_eq s.usr m.0.usr) (held units) m.0 f.0 (equal m.0.usr m.0.usr refl)) m.2))

-- ---- the unit of a name

at_equal : (first second : List ℕ) → first ≡ second → is_at (text_cmp first) second ≡ true
at_equal first second e = is_eq-slice_cmp first second ∙ equal first second e

at_less : (low high : List ℕ) → text_cmp low high ≡ Less → is_at (text_cmp high) low ≡ true → low ≡ high
at_less low high l e = sym (same high low (sym (is_eq-slice_cmp high low) ∙ e))

never : (low high : List ℕ) → text_cmp low high ≡ Less → low ≡ high → true ≡ false
never low high l e = sym (is_eq-slice_cmp low high ∙ equal low high e) ∙ ap is_eq l

key-above : (low : List ℕ) (units : Units) → AllByRecursion (λ text. text_cmp low text ≡ Less) (keys_of units) → (entry : List ℕ × StoredUnit) → Has units entry → text_cmp low entry.0 ≡ Less
key-above low [] all entry h = absurd h
key-above low (e ∷ es) all entry (inl p) = subst (λ (x : List ℕ × StoredUnit). text_cmp low x.0 ≡ Less) p all.0
key-above low (e ∷ es) all entry (inr h) = key-above low es all.1 entry h

pub unit-found : (units : Units) → NamesRise units → (entry : List ℕ × StoredUnit) → Has units entry → unit entry.0 (found_in units) ≡ Some entry.1.unit
unfolding IsStrictlySortedBy
unit-found [] rises entry h = absurd h
unit-found (e ∷ es) rises entry (inl p) =
    let at : is_at (text_cmp entry.0) e.0 ≡ true = at_equal entry.0 e.0 (ap (λ (x : List ℕ × StoredUnit). x.0) (sym p)) in
    subst (λ (b : Bool). cond b (Some e.1.unit) (lookup (is_at (text_cmp entry.0)) (map (λ (x : List ℕ × StoredUnit). (x.0, x.1.unit)) es)) ≡ Some entry.1.unit) (sym at) (ap (λ (x : List ℕ × StoredUnit). Some x.1.unit) p)
unit-found (e ∷ es) rises entry (inr h) =
    let less : text_cmp e.0 entry.0 ≡ Less = key-above e.0 es rises.0 entry h in
    let rest : lookup (is_at (text_cmp entry.0)) (map (λ (x : List ℕ × StoredUnit). (x.0, x.1.unit)) es) ≡ Some entry.1.unit = unit-found es rises.1 entry h in
    (elim (is_at (text_cmp entry.0) e.0) as (λ b. is_at (text_cmp entry.0) e.0 ≡ b → cond b (Some e.1.unit) (lookup (is_at (text_cmp entry.0)) (map (λ (x : List ℕ × StoredUnit). (x.0, x.1.unit)) es)) ≡ Some entry.1.unit) [
      | true ↦ λ t. let bad : true ≡ false = never e.0 entry.0 less (at_less e.0 entry.0 less t) in absurd (cc)
      | false ↦ λ f. rest
    ]) refl

-- ---- main files

abbrev pub ListingAre : Type 0
ListingAre = (units : Units) (path name : List ℕ) → Contains (listing path units) name ↔ IsListing units path name

abbrev pub MainsAre : Type 0
MainsAre = (path : List ℕ) (units : Units) (r : Row) → Contains (answer (Mains path) units) r ↔ IsPathOf (IsMain units path) r

main-cases : (b : Bool) (file main : List ℕ) → Has (if b then [] else file ∷ []) main → (b ≡ false) × (file ≡ main)
main-cases true file main h = absurd h
main-cases false file main (inl e) = (refl, e)
main-cases false file main (inr h) = absurd h

main_of-out : (o : Option UnitValue) (value : UnitValue) (main : List ℕ) → o ≡ Some value → Has (main_of o) main → ((length value.main_file == 0) ≡ false) × (value.main_file ≡ main)
main_of-out None value main e h = absurd h
main_of-out (Some other) value main e h =
    let p : other ≡ value = cc in
    let r = main-cases (length other.main_file == 0) other.main_file main h in
    (ap (λ (v : UnitValue). length v.main_file == 0) (sym p) ∙ r.0, ap (λ (v : UnitValue). v.main_file) (sym p) ∙ r.1)

nonzero : (n : ℕ) → (suc n == 0) ≡ false
nonzero n = grind arith

empty_test : (text : List ℕ) → (length text == 0) ≡ false → text ≡ [] → ⊥
empty_test [] e f = cc
empty_test (x ∷ xs) e f = cc

some_byte : (text : List ℕ) → (text ≡ [] → ⊥) → (length text == 0) ≡ false
some_byte [] f = absurd (f refl)
some_byte (x ∷ xs) f = nonzero (length xs)

module _ (sets : TextSets) (one : OneTextSet) (listing_are : ListingAre) (mains_are : MainsAre) (units : Units) (rises : NamesRise units) (path : List ℕ) where
  abbrev files : List (List ℕ)
  files = flat_map (λ name. main_of (unit name (found_in units))) (listing path units)

  files-out : (main : List ℕ) → Has files main → IsMain units path main
  files-out main h =
      let n = flat_map-out (λ name. main_of (unit name (found_in units))) (listing path units) main h in
      let l = (listing_are units path n.0).0 (contains (listing path units) n.0 n.1) in
      let r = main_of-out (unit n.0 (found_in units)) l.stored.unit main (unit-found units rises (n.0, l.stored) (has units (n.0, l.stored) l.of_units)) n.2 in
      record { entry = (n.0, l.stored); of_units = l.of_units; lists = l.lists; is_main = r.1; not_empty = λ e. empty_test l.stored.unit.main_file r.0 (r.1 ∙ e) }

  files-in : (main : List ℕ) → IsMain units path main → Has files main
  files-in main m =
      let listed : IsListing units path m.entry.0 = record { stored = m.entry.1; of_units = m.of_units; lists = m.lists } in
      let found : unit m.entry.0 (found_in units) ≡ Some m.entry.1.unit = unit-found units rises m.entry (has units m.entry m.of_units) in
      let some : (length m.entry.1.unit.main_file == 0) ≡ false = some_byte m.entry.1.unit.main_file (λ e. m.not_empty (sym m.is_main ∙ e)) in
      let file : Has (main_of (Some m.entry.1.unit)) main =
      subst (λ (b : Bool). Has (if b then [] else m.entry.1.unit.main_file ∷ []) main) (sym some) (inl m.is_main) in
      flat_map-in (λ name. main_of (unit name (found_in units))) (listing path units) m.entry.0 main
      (has (listing path units) m.entry.0 ((listing_are units path m.entry.0).1 listed)) (subst (λ (o : Option UnitValue). Has (main_of o) main) (sym found) file)

  path-of : (first second : List ℕ) → Path first ≡ Path second → first ≡ second
  path-of first second e = cc

  mains-out : (main : List ℕ) → Contains (mains path units) main → IsMain units path main
  mains-out main c =
      let r = (mains_are path units (Path main)).0 (contains (map Path (mains path units)) (Path main) (map-in Path (mains path units) main (Path main) (has (mains path units) main c) refl)) in
      subst (λ (m : List ℕ). IsMain units path m) (sym (path-of main r.0 r.1)) r.2

  mains-in : (main : List ℕ) → IsMain units path main → Contains (mains path units) main
  mains-in main m =
      let r = map-out Path (mains path units) (Path main) (has (map Path (mains path units)) (Path main) ((mains_are path units (Path main)).1 (main, refl, m))) in
      contains (mains path units) main (subst (λ (m : List ℕ). Has (mains path units) m) (path-of r.0 main r.2) r.1)

  pub mains-those : mains_of path (found_in units) ≡ mains path units
  mains-those =
      let second : IsSortedSetOf text_cmp files (mains path units) = record {
        rises = (sets (map (λ (l : ListedPath). l.main_file) (filter (λ (l : ListedPath). bytes_eq l.path path && not (length l.main_file == 0)) (listed units)))).rises;
        same = λ main. (λ c. contains files main (files-in main (mains-out main c)), λ c. mains-in main (files-out main (has files main c)));
      } in
      one files (sorted_set text_cmp files) (mains path units) (sets files) second

-- ---- includes

pub includes-those : (units : Units) → includes_of (found_in units) ≡ includes units
includes-those [] = refl
includes-those (e ∷ es) = ap (λ (more : List Include). e.1.unit.includes ++ more) (includes-those es)
