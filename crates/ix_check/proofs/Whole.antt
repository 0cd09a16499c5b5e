-- The text of a check, from its three parts.
use Rattle.std.proofs.Common.{◌≡◌, ◌∙◌, ℕ, List, [], ◌++◌, ap, length, map, sym}
use Rattle.std.specs.List.{flat_map}
use Rattle.std.proofs.lemmas.List.{length-map}
use Rattle.std.proofs.lemmas.List.Folds.{flat_map-map}
use Rattle.ix_unit.specs.declared.batch.UnitPut.{UnitPut}
use Rattle.ix_machine.specs.declared.opened.Refused.{Refused}
use Rattle.ix_opening.specs.Found.{put_row}
use Rattle.ix_replays.specs.Text.{refused_line}
use Rattle.ix_check.specs.Texts.{checked_line, text_over, unit_line}

pub whole_text : (units : List UnitPut) (refused : List Refused) (start listed told text : List ℕ) → start ≡ [] → listed ≡ start ++ flat_map (λ put. unit_line (put_row put)) units
    → told ≡ listed ++ flat_map refused_line refused → text ≡ told ++ checked_line (length units) (length refused) → text ≡ text_over (map put_row units) refused
whole_text units refused start listed told text begins lists tells ends =
    let units_told : listed ≡ flat_map unit_line (map put_row units) = lists ∙ ap (λ x. x ++ flat_map (λ put. unit_line (put_row put)) units) begins ∙ sym (flat_map-map unit_line put_row units) in
    ends ∙ ap (λ x. x ++ checked_line (length units) (length refused)) (tells ∙ ap (λ x. x ++ flat_map refused_line refused) units_told)
    ∙ ap (λ n. (flat_map unit_line (map put_row units) ++ flat_map refused_line refused) ++ checked_line n (length refused)) (sym (length-map units put_row))
