-- Lists of edges that grow by those of the next occurrence.
use Rattle.std.proofs.Common.{◌≡◌, ℕ, ◌+◌, ◌<◌, List, ◌++◌, length, filter, get_or, take, Option, ap, ◌∙◌, append_assoc}
use Rattle.std.specs.List.{flat_map, filter_map}
use Rattle.std.specs.Option.{option_to_list}
use Rattle.std.proofs.lemmas.Grind.{flat_map-append}
use Rattle.std.proofs.lemmas.List.Elements.{filter-append}
use Rattle.ix_types.specs.declared.row.EdgeRow.{EdgeRow}
use Rattle.ix_types.specs.declared.row.OccRow.{OccRow}
use Rattle.ix_model.proofs.Door.{filter_map_more}
use Rattle.ix_answers.specs.declared.walks.Walk.{Walk}
use Rattle.ix_answers.specs.Lookups.{is_among}
use Rattle.ix_answers.specs.Walks.{edges_of_row, edges_from}

module _ (walk : Walk) (depth : ℕ) (level : List (List ℕ)) where
  from-append : (xs ys : List OccRow) → edges_from walk depth level (xs ++ ys) ≡ edges_from walk depth level xs ++ edges_from walk depth level ys
  from-append xs ys =
      ap (filter (λ (e : EdgeRow). is_among level e.from)) (flat_map-append (edges_of_row walk depth) xs ys)
      ∙ filter-append (λ (e : EdgeRow). is_among level e.from) (flat_map (edges_of_row walk depth) xs) (flat_map (edges_of_row walk depth) ys)

  pub edges_more : {X : Type 0} (f : X → Option OccRow) (xs : List X) (i : ℕ) (x : X) → i < length xs → x ≡ get_or xs i x → (start before after : List EdgeRow)
      → before ≡ start ++ edges_from walk depth level (filter_map f (take i xs)) → after ≡ before ++ edges_from walk depth level (option_to_list (f x))
      → after ≡ start ++ edges_from walk depth level (filter_map f (take (i + 1) xs))
  edges_more f xs i x within is start before after so_far grown =
      let more : edges_from walk depth level (filter_map f (take (i + 1) xs)) ≡ edges_from walk depth level (filter_map f (take i xs)) ++ edges_from walk depth level (option_to_list (f x)) =
      ap (edges_from walk depth level) (filter_map_more f xs i x within is) ∙ from-append (filter_map f (take i xs)) (option_to_list (f x)) in
      let grouped = append_assoc start (edges_from walk depth level (filter_map f (take i xs))) (edges_from walk depth level (option_to_list (f x))) in
      cc
