-- Each form: what is needed, and what is answered from it.
use Rattle.std.proofs.Common.{◌≡◌, ◌↔◌, ℕ, Bool, true, false, List, map, filter, Contains, refl, sym, ap, ◌∙◌, subst}
use Rattle.std.specs.List.{flat_map}
use Rattle.std.specs.Str.{bytes_eq}
use Rattle.ix_types.specs.declared.code.TheConstants.Roles.{REFERENCE, OVERRIDE_OF}
use Rattle.ix_types.specs.Row.{text_cmp, occurrence_cmp}
use Rattle.ix_types.specs.declared.row.OccRow.{OccRow}
use Rattle.ix_types.specs.declared.row.Query.{Query}
use Rattle.ix_types.specs.declared.row.Query.TheVariants as ask
use Rattle.ix_types.specs.declared.row.Row.TheVariants.{Occ, Path}
use Rattle.ix_unit.specs.declared.value.Include.{Include}
use Rattle.ix_model.specs.Answer.{is_with, definitions}
use Rattle.ix_model.specs.Rows.{rows}
use Rattle.ix_model.specs.SortedSet.{sorted_set}
use Rattle.ix_model.specs.Units.{Units}
use Rattle.ix_answers.specs.Facts.{held as held_symbols}
use Rattle.ix_answers.specs.Lookups.{is_among, providers, named, coded, in_path, holders}
use Rattle.ix_answers.specs.Answers.{answer, definitions_of_each, matched, is_related, is_called, is_declared_in}
use Rattle.ix_answers.specs.Needs.{need_of}
use Rattle.ix_answers.specs.Rising.{AreLoaded}
use Rattle.ix_answers.proofs.Members.{Has, has, contains}
use Rattle.ix_lookups.specs.Found.{found_in}
use Rattle.ix_lookups.specs.Loaded.{Loaded, loaded_names}
use Rattle.ix_needs.specs.Chosen.{answer_from, needed_from, sorted_rows, defining_rows, defining_each, matching, holding, loaded_rows, with_role, with_relation, rows_under, mains_of}
use Rattle.ix_needs.specs.Premises.{is_plain, Holds, AreNeedsLoaded}
use Rattle.ix_needs.proofs.Sets.{AreAlike, RowSets, TextSets, OneRowSet, OneTextSet, rows_alike, each_alike, set-in}
use Rattle.ix_needs.proofs.Sufficing.{ProvidersAre, RelatedAre, InPathAre, PathsAre, roles_alike, calls_alike, relations_alike, symbols_alike, definitions_alike}
use Rattle.ix_needs.proofs.Needed.{matching-those, holding-out, holding-those, ListingAre, MainsAre, mains-those, includes-those}

-- what the crates below say
pub record LowerLaws : Type 0 where
  pub row_sets : RowSets
  pub one_row_set : OneRowSet
  pub text_sets : TextSets
  pub one_text_set : OneTextSet
  pub providers_are : ProvidersAre
  pub related_are : RelatedAre
  pub in_path_are : InPathAre
  pub paths_are : PathsAre
  pub listing_are : ListingAre
  pub mains_are : MainsAre

module _ (text_sets : TextSets) (one_text_set : OneTextSet) (units : Units) where
  abbrev pub holding_is : (usrs : List (List ℕ)) → holding usrs (found_in units) ≡ holders usrs units
  holding_is usrs = holding-those text_sets one_text_set units usrs

  abbrev pub matching_is : (text : List ℕ) (start end fold : Bool) → matching text start end fold (found_in units) ≡ matched text start end fold units
  matching_is text start end fold = matching-those text_sets one_text_set units text start end fold

  pub needs-those : (query : Query) → is_plain query ≡ true → needed_from query (found_in units) ≡ need_of query units
  needs-those (ask.Def usr) p = refl
  needs-those (ask.Refs usr) p = refl
  needs-those (ask.Occ usr roles) p = refl
  needs-those (ask.Rel usr roles) p = refl
  needs-those (ask.Callers usr) p = refl
  needs-those (ask.Overrides usr) p = refl
  needs-those (ask.Name name) p = holding_is (named name units)
  needs-those (ask.Pattern text start end fold) p = ap (λ (usrs : List (List ℕ)). holding usrs (found_in units)) (matching_is text start end fold) ∙ holding_is (matched text start end fold units)
  needs-those (ask.Symbols path) p = refl
  needs-those (ask.Mains path) p = refl
  needs-those (ask.Units path) p = refl
  needs-those (ask.Includes path) p = refl
  needs-those (ask.Includers path) p = refl
  needs-those (ask.Codegen codegen) p = holding_is (coded codegen units)
  needs-those (ask.Incoming usr depth) p = absurd (cc)
  needs-those (ask.Outgoing usr depth) p = absurd (cc)
  needs-those (ask.Supertypes usr depth) p = absurd (cc)
  needs-those (ask.Subtypes usr depth) p = absurd (cc)

module _ (laws : LowerLaws) (units : Units) where
  module _ (bodies : Loaded) (holds : Holds units bodies) where
    rows-those : (chosen all : List OccRow) → AreAlike chosen all → sorted_rows chosen ≡ map Occ (sorted_set occurrence_cmp all)
    rows-those chosen all a = ap (map Occ) (rows_alike laws.row_sets laws.one_row_set chosen all a)

    -- the definitions of several USRs
    each-those : (usrs : List (List ℕ)) → AreLoaded (loaded_names bodies) (holders usrs units) → defining_each usrs (found_in units) bodies ≡ definitions_of_each usrs units
    each-those usrs loaded =
        rows-those (flat_map (λ usr. defining_rows usr (found_in units) bodies) usrs) (flat_map (λ usr. definitions usr (rows units)) usrs)
        (each_alike (λ usr. defining_rows usr (found_in units) bodies) (λ usr. definitions usr (rows units)) usrs
        (λ usr h. definitions_alike units bodies holds laws.paths_are laws.providers_are usr (λ name c. loaded name (held usr name h c))))
      where
        held : (usr name : List ℕ) → Has usrs usr → Contains (providers usr units) name → Contains (holders usrs units) name
        held usr name h c =
            contains (holders usrs units) name (set-in laws.text_sets (map (λ symbol. symbol.holder) (filter (λ symbol. is_among usrs symbol.usr) (held_symbols units))) name
            (holding-out laws.text_sets laws.one_text_set units usrs usr name h (has (providers usr units) name c)))

    pub answers-those : (query : Query) → is_plain query ≡ true → AreNeedsLoaded query units bodies → answer_from query (found_in units) bodies ≡ answer query units
    answers-those (ask.Def usr) p l =
        rows-those (defining_rows usr (found_in units) bodies) (definitions usr (rows units)) (definitions_alike units bodies holds laws.paths_are laws.providers_are usr l)
    answers-those (ask.Refs usr) p l =
        rows-those (with_role usr REFERENCE (found_in units) bodies) (filter (is_with usr REFERENCE) (rows units)) (roles_alike units bodies holds laws.paths_are laws.providers_are usr l REFERENCE)
    answers-those (ask.Occ usr roles) p l =
        rows-those (with_role usr roles (found_in units) bodies) (filter (is_with usr roles) (rows units)) (roles_alike units bodies holds laws.paths_are laws.providers_are usr l roles)
    answers-those (ask.Rel usr roles) p l =
        rows-those (with_relation usr roles (found_in units) bodies) (filter (is_related usr roles) (rows units)) (relations_alike units bodies holds laws.paths_are laws.related_are usr roles l)
    answers-those (ask.Callers usr) p l =
        rows-those (loaded_rows (is_called usr) (providers usr units) (found_in units) bodies) (filter (is_called usr) (rows units)) (calls_alike units bodies holds laws.paths_are laws.providers_are usr l)
    answers-those (ask.Overrides usr) p l =
        rows-those (with_relation usr OVERRIDE_OF (found_in units) bodies) (filter (is_related usr OVERRIDE_OF) (rows units)) (relations_alike units bodies holds laws.paths_are laws.related_are usr OVERRIDE_OF l)
    answers-those (ask.Name name) p l = each-those (named name units) l
    answers-those (ask.Pattern text start end fold) p l =
        ap (λ (usrs : List (List ℕ)). defining_each usrs (found_in units) bodies) (matching_is laws.text_sets laws.one_text_set units text start end fold) ∙ each-those (matched text start end fold units) l
    answers-those (ask.Symbols path) p l =
        rows-those (rows_under (is_declared_in path) path (in_path path units) bodies) (filter (is_declared_in path) (rows units)) (symbols_alike units bodies holds laws.in_path_are path l)
    answers-those (ask.Mains path) p l = ap (map Path) (mains-those laws.text_sets laws.one_text_set laws.listing_are laws.mains_are units holds.rises path)
    answers-those (ask.Units path) p l = refl
    answers-those (ask.Includes path) p l =
        ap (λ (all : List Include). map Path (sorted_set text_cmp (map (λ (i : Include). i.to) (filter (λ (i : Include). bytes_eq i.from path) all)))) (includes-those units)
    answers-those (ask.Includers path) p l =
        ap (λ (all : List Include). map Path (sorted_set text_cmp (map (λ (i : Include). i.from) (filter (λ (i : Include). bytes_eq i.to path) all)))) (includes-those units)
    answers-those (ask.Codegen codegen) p l = each-those (coded codegen units) l
    answers-those (ask.Incoming usr depth) p l = absurd (cc)
    answers-those (ask.Outgoing usr depth) p l = absurd (cc)
    answers-those (ask.Supertypes usr depth) p l = absurd (cc)
    answers-those (ask.Subtypes usr depth) p l = absurd (cc)
