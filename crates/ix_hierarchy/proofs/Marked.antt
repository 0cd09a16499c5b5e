-- The edges of an occurrence by marks are those of its row that begin in the level.
use Rattle.std.proofs.Common.{◌≡◌, ℕ, zero, suc, ◌&&◌, Bool, true, false, cond, if◌then◌else◌, List, [], ◌∷◌, map, filter, Option, Some, None, refl, sym, ap, ◌∙◌, subst, append-nil, slice_get}
use Rattle.std.specs.List.{filter_map, cons_option}
use Rattle.std.specs.Option.{option_map, option_to_list}
use Rattle.ix_types.specs.Codes.{has_any}
use Rattle.ix_types.specs.declared.row.EdgeRow.{EdgeRow}
use Rattle.ix_types.specs.declared.row.OccRow.{OccRow}
use Rattle.ix_types.specs.declared.row.RelRow.{RelRow}
use Rattle.ix_record.specs.declared.value.Symbol.{Symbol}
use Rattle.ix_record.specs.declared.value.Relation.{Relation}
use Rattle.ix_record.specs.declared.value.Occurrence.{Occurrence}
use Rattle.ix_model.specs.Rows.{relation_row, row_with, occurrence_row}
use Rattle.ix_answers.specs.declared.walks.Walk.{Walk}
use Rattle.ix_answers.specs.declared.walks.Walk.TheVariants.{Incoming, Outgoing, Supertypes, Subtypes}
use Rattle.ix_answers.specs.Lookups.{is_among}
use Rattle.ix_answers.specs.Walks.{followed, edge, edges_of_row, edges_from}
use Rattle.ix_hierarchy.specs.Marks.{marks_of, is_marked, begins_at, edge_between, edge_kept, edge_found}

-- the mark of the symbol at an index
marked-at : (level : List (List ℕ)) (symbols : List Symbol) (k : ℕ) (s : Symbol) → slice_get symbols k ≡ Some s → is_marked (marks_of level symbols) k ≡ is_among level s.usr
marked-at level [] k s e = absurd (cc)
marked-at level (y ∷ ys) zero s e = let p : y ≡ s = cc in ap (λ (x : Symbol). is_among level x.usr) p
marked-at level (y ∷ ys) (suc k) s e = marked-at level ys k s e

-- a relation's row is of the symbol at its index
led-to : (o : Option Symbol) (roles : ℕ) (r : RelRow) → option_map (λ (s : Symbol). let made : RelRow = record { usr = s.usr; roles = roles } in made) o ≡ Some r → (s : Symbol) × (o ≡ Some s) × (s.usr ≡ r.usr)
led-to None roles r e = absurd (cc)
led-to (Some s) roles r e = let p : (let made : RelRow = record { usr = s.usr; roles = roles } in made) ≡ r = cc in (s, refl, ap (λ (x : RelRow). x.usr) p)

module _ (level : List (List ℕ)) (depth : ℕ) (path : List ℕ) (symbols : List Symbol) (o : Occurrence) (s : Symbol) (at : slice_get symbols o.symbol ≡ Some s) where
  abbrev row : OccRow
  row = row_with path symbols o s

  abbrev begins : EdgeRow → Bool
  begins e = is_among level e.from

  between : (walk : Walk) (r : RelRow) → edge_between walk depth path o s.usr r.usr ≡ edge walk depth row r
  between Incoming r = refl
  between Outgoing r = refl
  between Supertypes r = refl
  between Subtypes r = refl

  at_symbol : (r : RelRow) → is_marked (marks_of level symbols) o.symbol ≡ is_among level s.usr
  at_symbol r = marked-at level symbols o.symbol s at

  at_other : (rel : Relation) (r : RelRow) → relation_row symbols rel ≡ Some r → is_marked (marks_of level symbols) rel.symbol ≡ is_among level r.usr
  at_other rel r e = let l = led-to (slice_get symbols rel.symbol) rel.roles r e in marked-at level symbols rel.symbol l.0 l.1 ∙ ap (is_among level) l.2

  mark-is : (walk : Walk) (rel : Relation) (r : RelRow) → relation_row symbols rel ≡ Some r → is_marked (marks_of level symbols) (begins_at walk o rel) ≡ begins (edge walk depth row r)
  mark-is Incoming rel r e = at_symbol r
  mark-is Outgoing rel r e = at_other rel r e
  mark-is Supertypes rel r e = at_other rel r e
  mark-is Subtypes rel r e = at_symbol r

  module _ (walk : Walk) where
    abbrev follows : RelRow → Bool
    follows r = has_any r.roles (followed walk)

    abbrev kept : List RelRow → List EdgeRow
    kept rs = filter begins (map (edge walk depth row) (filter follows rs))

    -- one relation more in front
    one-kept : (mark : Bool) (r : RelRow) (rs : List RelRow) (rest : List EdgeRow) → mark ≡ begins (edge walk depth row r) → rest ≡ kept rs
        → cons_option (edge_kept walk depth mark path o s.usr (Some r)) rest ≡ kept (r ∷ rs)
    one-kept mark r rs rest m e =
        elim (follows r) as (λ b. cons_option (if b && mark then Some (edge_between walk depth path o s.usr r.usr) else None) rest ≡ filter begins (map (edge walk depth row) (cond b (r ∷ filter follows rs) (filter follows rs)))) [
          | true ↦
              subst (λ (c : Bool). cons_option (if c then Some (edge_between walk depth path o s.usr r.usr) else None) rest ≡ cond (begins (edge walk depth row r)) (edge walk depth row r ∷ kept rs) (kept rs)) (sym m)
              (elim (begins (edge walk depth row r)) as (λ c. cons_option (if c then Some (edge_between walk depth path o s.usr r.usr) else None) rest ≡ cond c (edge walk depth row r ∷ kept rs) (kept rs)) [
                | true ↦ λ i. between walk r i ∷ e i
                | false ↦ e
              ])
          | false ↦ e
        ]

    more-kept : (rel : Relation) (rs : List RelRow) (rest : List EdgeRow) → rest ≡ kept rs
        → cons_option (edge_found walk depth (marks_of level symbols) path symbols o s.usr rel) rest ≡ kept (cons_option (relation_row symbols rel) rs)
    more-kept rel rs rest e =
        (elim (relation_row symbols rel) as (λ q. relation_row symbols rel ≡ q
        → cons_option (edge_kept walk depth (is_marked (marks_of level symbols) (begins_at walk o rel)) path o s.usr q) rest ≡ kept (cons_option q rs)) [
          | None ↦ λ p. e
          | Some r ↦ λ p. one-kept (is_marked (marks_of level symbols) (begins_at walk o rel)) r rs rest (mark-is walk rel r p) e
        ]) refl

    relations-those : (rels : List Relation) → filter_map (edge_found walk depth (marks_of level symbols) path symbols o s.usr) rels ≡ kept (filter_map (relation_row symbols) rels)
    relations-those [] = refl
    relations-those (rel ∷ rels) =
        more-kept rel (filter_map (relation_row symbols) rels) (filter_map (edge_found walk depth (marks_of level symbols) path symbols o s.usr) rels) (relations-those rels)

    pub occurrence-those : filter_map (edge_found walk depth (marks_of level symbols) path symbols o s.usr) o.relations ≡ edges_from walk depth level (option_to_list (occurrence_row path symbols o))
    occurrence-those =
        relations-those o.relations
        ∙ (ap (filter begins) (sym (append-nil (edges_of_row walk depth row)))
        ∙ ap (λ (q : Option Symbol). edges_from walk depth level (option_to_list (option_map (row_with path symbols o) q))) (sym at))

-- where the index is past the symbols there is no row and no edge
pub none-those : (level : List (List ℕ)) (walk : Walk) (depth : ℕ) (path : List ℕ) (symbols : List Symbol) (o : Occurrence) → slice_get symbols o.symbol ≡ None → [] ≡ edges_from walk depth level (option_to_list (occurrence_row path symbols o))
none-those level walk depth path symbols o e = ap (λ (q : Option Symbol). edges_from walk depth level (option_to_list (option_map (row_with path symbols o) q))) (sym e)

-- ---- the edge by one relation

module _ (walk : Walk) (depth : ℕ) (marks : List Bool) (path : List ℕ) (symbols : List Symbol) (o : Occurrence) (usr : List ℕ) (rel : Relation) where
  abbrev by_row : Option Symbol → Option EdgeRow
  by_row q = edge_kept walk depth (is_marked marks (begins_at walk o rel)) path o usr (option_map (λ (s : Symbol). let made : RelRow = record { usr = s.usr; roles = rel.roles } in made) q)

  pub found-some : (other : Symbol) → slice_get symbols rel.symbol ≡ Some other → has_any rel.roles (followed walk) ≡ true → is_marked marks (begins_at walk o rel) ≡ true
      → edge_found walk depth marks path symbols o usr rel ≡ Some (edge_between walk depth path o usr other.usr)
  found-some other at follows marked =
      ap by_row at ∙ (λ i. if follows i && marked i then Some (edge_between walk depth path o usr other.usr) else None)

  pub found-none : slice_get symbols rel.symbol ≡ None → edge_found walk depth marks path symbols o usr rel ≡ None
  found-none at = ap by_row at
