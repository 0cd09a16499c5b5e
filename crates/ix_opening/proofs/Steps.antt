-- A look through the unit files, one file more at a time.
use Rattle.std.proofs.Common.{◌≡◌, ℕ, ◌+◌, ◌<◌, List, [], ◌∷◌, ◌++◌, map, take, get_or, length, refl, sym, ap, subst, ◌∙◌, Option, IfSome, option_map, Result, Ok, append_assoc}
use Rattle.std.specs.List.{AllByRecursion, filter_map, cons_option}
use Rattle.std.specs.Result.{result_ok}
use Rattle.std.proofs.lemmas.List.{map-append, take_more}
use Rattle.std.proofs.lemmas.List.Elements.{filter_map-append}
use Rattle.ix_dir.specs.declared.dir.Listed.{Listed}
use Rattle.ix_dir.specs.declared.area.Area.TheVariants.{Units}
use Rattle.ix_dir.specs.declared.moves.Move.{Move}
use Rattle.ix_dir.specs.Files.{bytes_at}
use Rattle.ix_dir.specs.Moves.{area_after}
use Rattle.ix_unit.specs.declared.value.UnitValue.{UnitValue}
use Rattle.ix_model.specs.declared.publication.StoredUnit.{StoredUnit}
use Rattle.ix_machine.specs.declared.opened.Refused.{Refused}
use Rattle.ix_machine.specs.declared.opened.UnitFault.{UnitFault}
use Rattle.ix_machine.specs.Opening.{judged, sound_at, refusal, opening}
use Rattle.ix_machine.specs.Sound.{RecordsStand}
use Rattle.ix_machine.specs.State.{Files}
use Rattle.ix_opening.specs.declared.looking.Progress.{Progress}
use Rattle.ix_opening.specs.declared.units.Judged.{Judged}
use Rattle.ix_opening.specs.declared.units.Judged.TheVariants as taken
use Rattle.ix_opening.specs.Found.{put_row, unit_row}
use Rattle.ix_opening.specs.Judged.{IsJudged}
use Rattle.ix_opening.specs.Known.{Agrees, Keeps}
use Rattle.ix_opening.specs.Steps.{given_file, AreGiven, IsSoFar, puts_of, refusals_of}

pub append_none : {A : Type 0} (xs : List A) → xs ++ [] ≡ xs
append_none [] = refl
append_none (x ∷ xs) = ap (λ rest. x ∷ rest) (append_none xs)

-- one listed name more
given_push : (moves : Option (List Move)) (listed : List Listed) (one : Listed) (files : Files) (given : Option (List ℕ)) → AreGiven moves listed files
    → IfSome moves (λ m. given ≡ bytes_at (area_after m Units) one.name) → AreGiven moves (listed ++ one ∷ []) (files ++ given_file one.name given)
given_push moves [] one files given are stands = record {
  given = given;
  others = [];
  parts = ap (λ (xs : Files). xs ++ given_file one.name given) are ∙ sym (append_none (given_file one.name given));
  stands = stands;
  behind = refl;
}
given_push moves (first ∷ listed) one files given are stands = record {
  given = are.given;
  others = are.others ++ given_file one.name given;
  parts = ap (λ (xs : Files). xs ++ given_file one.name given) are.parts ∙ append_assoc (given_file first.name are.given) are.others (given_file one.name given);
  stands = are.stands;
  behind = given_push moves listed one are.others given are.behind stands;
}

pub given_more : (moves : Option (List Move)) (listed : List Listed) (i : ℕ) (one : Listed) (files : Files) (given : Option (List ℕ)) → i < length listed → one ≡ get_or listed i one
    → AreGiven moves (take i listed) files → IfSome moves (λ m. given ≡ bytes_at (area_after m Units) one.name) → AreGiven moves (take (i + 1) listed) (files ++ given_file one.name given)
given_more moves listed i one files given small is are stands =
    let taken : take (i + 1) listed ≡ take i listed ++ one ∷ [] = take_more listed i one small ∙ ap (λ x. take i listed ++ x ∷ []) (sym is) in
    subst (λ xs. AreGiven moves xs (files ++ given_file one.name given)) (sym taken) (given_push moves (take i listed) one files given are stands)

-- what was known before holds, too
pub agreed : (name_of : List ℕ → List ℕ) (before now : _) (records : Files) → Keeps before now → Agrees name_of now records → Agrees name_of before records
agreed name_of before now records keeps agrees = λ name state is. agrees name state (keeps name state is)

all_append : {A : Type 0} (P : A → Type 0) (xs ys : List A) → AllByRecursion P xs → AllByRecursion P ys → AllByRecursion P (xs ++ ys)
all_append P [] ys all more = more
all_append P (x ∷ xs) ys all more = (all.0, all_append P xs ys all.1 more)

module _ (name_of : List ℕ → List ℕ) (files records : Files) (name : List ℕ) where
  -- the name gave no file
  pub so_far_none : (before now : Progress) → now ≡ before → IsSoFar name_of files records before → IsSoFar name_of (files ++ []) records now
  so_far_none before now same so_far =
      subst (λ fs. IsSoFar name_of fs records now) (sym (append_none files)) (subst (IsSoFar name_of files records) (sym same) so_far)

  module _ (bytes : List ℕ) where
    abbrev file : List ℕ × List ℕ
    file = (name, bytes)

    abbrev sound_one : Result StoredUnit UnitFault → List (List ℕ × StoredUnit)
    sound_one r = cons_option (option_map (λ (unit : StoredUnit). (name, unit)) (result_ok r)) []

    abbrev refused_one : Result StoredUnit UnitFault → List Refused
    refused_one r = cons_option (refusal name r) []

    -- what one file adds
    record Adds (taken : Judged) : Type 0 where
      units : map put_row (puts_of name taken) ≡ map unit_row (sound_one (judged name_of records name bytes))
      refused : refusals_of name taken ≡ refused_one (judged name_of records name bytes)
      stand : RecordsStand name_of records (sound_one (judged name_of records name bytes))

    added : (taken : Judged) → IsJudged name_of records name bytes taken → Adds taken
    added (taken.Sound unit) is =
        let r : judged name_of records name bytes ≡ Ok (record { unit = unit.value; values = is.values }) = is.is in
        record {
          units = ap (λ r. map unit_row (sound_one r)) (sym r);
          refused = ap refused_one (sym r);
          stand = subst (λ r. RecordsStand name_of records (sound_one r)) (sym r) (is.stand, tt);
        }
    added (taken.Refused fault) is = record {
      units = ap (λ r. map unit_row (sound_one r)) (sym is);
      refused = ap refused_one (sym is);
      stand = subst (λ r. RecordsStand name_of records (sound_one r)) (sym is) tt;
    }

    -- one file more
    pub so_far_more : (before now : Progress) (taken : Judged) → IsJudged name_of records name bytes taken → now.units.items ≡ before.units.items ++ puts_of name taken
        → now.refused.items ≡ before.refused.items ++ refusals_of name taken → IsSoFar name_of files records before → IsSoFar name_of (files ++ file ∷ []) records now
    so_far_more before now taken is units refused so_far =
        let adds = added taken is in
        let sound = filter_map-append (sound_at name_of records) files (file ∷ []) in
        let others = filter_map-append (λ (f : List ℕ × List ℕ). refusal f.0 (judged name_of records f.0 f.1)) files (file ∷ []) in
        record {
          units =
              ap (map put_row) units ∙ map-append put_row before.units.items (puts_of name taken)
              ∙ ap (λ (xs : List (List ℕ × UnitValue)). xs ++ map put_row (puts_of name taken)) so_far.units
              ∙ ap (λ (ys : List (List ℕ × UnitValue)). map unit_row (filter_map (sound_at name_of records) files) ++ ys) adds.units
              ∙ sym (map-append unit_row (filter_map (sound_at name_of records) files) (sound_one (judged name_of records name bytes)))
              ∙ ap (map unit_row) (sym sound);
          refused =
              refused ∙ ap (λ (xs : List Refused). xs ++ refusals_of name taken) so_far.refused
              ∙ ap (λ (ys : List Refused). (opening name_of files records).refused ++ ys) adds.refused ∙ sym others;
          stand = subst (RecordsStand name_of records) (sym sound) (all_append _ (filter_map (sound_at name_of records) files) _ so_far.stand adds.stand);
        }
