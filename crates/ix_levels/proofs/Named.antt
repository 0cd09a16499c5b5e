-- The records that look-ups name for a level are those that it needs.
use Rattle.std.proofs.Common.{◌≡◌, ℕ, zero, suc, true, List, map, filter, refl, sym, subst}
use Rattle.std.specs.List.{flat_map}
use Rattle.std.specs.Str.{bytes_eq}
use Rattle.ix_types.specs.Row.{text_cmp}
use Rattle.ix_model.specs.SortedSet.{sorted_set}
use Rattle.ix_model.specs.Units.{Units}
use Rattle.ix_answers.specs.declared.facts.HeldSymbol.{HeldSymbol}
use Rattle.ix_answers.specs.declared.facts.RelatedSymbol.{RelatedSymbol}
use Rattle.ix_answers.specs.declared.walks.Walk.{Walk}
use Rattle.ix_answers.specs.declared.walks.Walk.TheVariants.{Incoming, Outgoing, Supertypes, Subtypes}
use Rattle.ix_answers.specs.Facts.{held, related_symbols}
use Rattle.ix_answers.specs.Lookups.{is_among}
use Rattle.ix_answers.specs.Needs.{needs_of}
use Rattle.ix_answers.proofs.Members.{Has, map-in, map-out, flat_map-in, flat_map-out, filter-in, filter-out, same, equal, among-in, among-out}
use Rattle.ix_lookups.specs.Found.{found_in}
use Rattle.ix_needs.proofs.Sets.{TextSets, OneTextSet, texts_alike, set-in, set-out}
use Rattle.ix_levels.specs.Levels.{level_names, names_while}
use Rattle.ix_levels.specs.Trail.{needs_while}

module _ (sets : TextSets) (one : OneTextSet) where
  module _ {S : Type 0} (usr_of holder_of : S → List ℕ) (items : List S) where
    -- the holders of the items of one USR, and of the items of several
    abbrev of_one : List ℕ → List (List ℕ)
    of_one usr = map holder_of (filter (λ (s : S). bytes_eq (usr_of s) usr) items)

    abbrev of_all : List (List ℕ) → List (List ℕ)
    of_all usrs = map holder_of (filter (λ (s : S). is_among usrs (usr_of s)) items)

    abbrev by_one : List ℕ → List (List ℕ)
    by_one usr = sorted_set text_cmp (of_one usr)

    there : (usrs : List (List ℕ)) (name : List ℕ) → Has (flat_map by_one usrs) name → Has (of_all usrs) name
    there usrs name h =
        let u = flat_map-out by_one usrs name h in
        let m = map-out holder_of (filter (λ (s : S). bytes_eq (usr_of s) u.0) items) name (set-out sets (of_one u.0) name u.2) in
        let f = filter-out (λ (s : S). bytes_eq (usr_of s) u.0) items m.0 m.1 in
        let among : is_among usrs (usr_of m.0) ≡ true = among-in usrs (usr_of m.0) (subst (λ (t : List ℕ). Has usrs t) (sym (same (usr_of m.0) u.0 f.1)) u.1) in
        map-in holder_of (filter (λ (s : S). is_among usrs (usr_of s)) items) m.0 name (filter-in (λ (s : S). is_among usrs (usr_of s)) items m.0 f.0 among) m.2

    back : (usrs : List (List ℕ)) (name : List ℕ) → Has (of_all usrs) name → Has (flat_map by_one usrs) name
    back usrs name h =
        let m = map-out holder_of (filter (λ (s : S). is_among usrs (usr_of s)) items) name h in
        let f = filter-out (λ (s : S). is_among usrs (usr_of s)) items m.0 m.1 in
        let is_of : bytes_eq (usr_of m.0) (usr_of m.0) ≡ true = equal (usr_of m.0) (usr_of m.0) refl in
        flat_map-in by_one usrs (usr_of m.0) name (among-out usrs (usr_of m.0) f.1)
        (set-in sets (of_one (usr_of m.0)) name
        (map-in holder_of (filter (λ (s : S). bytes_eq (usr_of s) (usr_of m.0)) items) m.0 name (filter-in (λ (s : S). bytes_eq (usr_of s) (usr_of m.0)) items m.0 f.0 is_of) m.2))

    each-those : (usrs : List (List ℕ)) → sorted_set text_cmp (flat_map by_one usrs) ≡ sorted_set text_cmp (of_all usrs)
    each-those usrs = texts_alike sets one (flat_map by_one usrs) (of_all usrs) (record { there = there usrs; back = back usrs })

  pub names-those : (walk : Walk) (level : List (List ℕ)) (units : Units) → level_names walk level (found_in units) ≡ needs_of walk level units
  names-those Incoming level units = each-those (λ (s : HeldSymbol). s.usr) (λ (s : HeldSymbol). s.holder) (held units) level
  names-those Outgoing level units = each-those (λ (s : RelatedSymbol). s.usr) (λ (s : RelatedSymbol). s.holder) (related_symbols units) level
  names-those Supertypes level units = each-those (λ (s : RelatedSymbol). s.usr) (λ (s : RelatedSymbol). s.holder) (related_symbols units) level
  names-those Subtypes level units = each-those (λ (s : HeldSymbol). s.usr) (λ (s : HeldSymbol). s.holder) (held units) level

-- of the law
abbrev pub NamesThose : Type 0
NamesThose = (walk : Walk) (level : List (List ℕ)) (units : Units) → level_names walk level (found_in units) ≡ needs_of walk level units

pub while-those : NamesThose → (left : ℕ) (walk : Walk) (level : List (List ℕ)) (units : Units) → names_while left walk level (found_in units) ≡ needs_while left walk level units
while-those those zero walk level units = refl
while-those those (suc left) walk level units = those walk level units
