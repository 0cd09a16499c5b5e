-- An area that holds units alone, before and after a change.
use Rattle.std.proofs.Common.{◌≡◌, ℕ, true, false, List, [], refl, sym, ap, subst, ◌∙◌, Some, None}
use Rattle.std.proofs.lemmas.Option.{same_Some}
use Rattle.std.specs.Cmp.Lexicographic.{same_text}
use Rattle.std.specs.FinMap.{empty, get-empty}
use Rattle.std.specs.Option.{option_map}
use Rattle.ix_dir.specs.declared.area.Area.TheVariants.{Units, Records}
use Rattle.ix_dir.specs.declared.moves.Move.{Move}
use Rattle.ix_dir.specs.Files.{File, bytes_at}
use Rattle.ix_types.specs.Row.{text_cmp}
use Rattle.ix_dir.specs.Images.{Value}
use Rattle.ix_dir.specs.WhatAChangeLeaves.{LeavesAt}
use Rattle.ix_dir.specs.Moves.{same_name, area_after}
use Rattle.ix_cabinet.specs.Scan.{HoldsUnits, IsUnitFile}

pub none_held : (name_of : List ℕ → List ℕ) → HoldsUnits name_of []
none_held name_of name bytes is =
    let none : bytes_at (empty {R = text_cmp}) name ≡ None = ap (option_map (λ f. f.bytes)) (get-empty {X = File} text_cmp name) in
    cc

module _ (name_of : List ℕ → List ℕ) (name : List ℕ) (before now : List Move) (held : HoldsUnits name_of before) where
  others : (value : Value) → LeavesAt Units name value before now → (n bytes : List ℕ) → same_name name n ≡ false → bytes_at (area_after now Units) n ≡ Some bytes → IsUnitFile name_of n bytes
  others value left n bytes apart is = held n bytes (ap (option_map (λ f. f.bytes)) (sym (left.others Units n apart)) ∙ is)

  pub held_with : (bytes : List ℕ) → IsUnitFile name_of name bytes → LeavesAt Units name (Some bytes) before now → HoldsUnits name_of now
  held_with bytes file left n there is =
      elim (same_name name n) as (λ b. same_name name n ≡ b → IsUnitFile name_of n there) [
        | true ↦ λ e.
            let same : name ≡ n = same_text name n (sym e) in
            let written : bytes ≡ there = same_Some bytes there (sym left.here ∙ ap (bytes_at (area_after now Units)) same ∙ is) in
            subst (λ x. IsUnitFile name_of x there) same (subst (IsUnitFile name_of name) written file)
        | false ↦ λ e. others (Some bytes) left n there e is
      ] refl

  pub held_without : LeavesAt Units name None before now → HoldsUnits name_of now
  held_without left n there is =
      elim (same_name name n) as (λ b. same_name name n ≡ b → IsUnitFile name_of n there) [
        | true ↦ λ e.
            let same : name ≡ n = same_text name n (sym e) in
            let none : Some there ≡ None = sym is ∙ ap (bytes_at (area_after now Units)) (sym same) ∙ left.here in
            cc
        | false ↦ λ e. others None left n there e is
      ] refl

  pub held_beside : (other : List ℕ) (value : Value) → LeavesAt Records other value before now → HoldsUnits name_of now
  held_beside other value left n there is = held n there (ap (option_map (λ f. f.bytes)) (sym (left.others Units n refl)) ∙ is)

  pub held_still : area_after now Units ≡ area_after before Units → HoldsUnits name_of now
  held_still same n there is = held n there (ap (λ files. bytes_at files n) (sym same) ∙ is)
