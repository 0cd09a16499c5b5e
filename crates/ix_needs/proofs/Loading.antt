-- What an answer rests on, where nothing is loaded and where one body more is.
use Rattle.std.proofs.Common.{◌≡◌, ◌≢◌, ℕ, true, false, List, [], Some, None, refl, sym, ap, ◌∙◌}
use Rattle.std.specs.Str.{bytes_eq}
use Rattle.std.specs.Map.{lookup}
use Rattle.std.proofs.lemmas.Slice.Eq.{bytes_eq-Decides}
use Rattle.ix_record.specs.declared.value.RecordValue.{RecordValue}
use Rattle.ix_unit.specs.declared.value.RecordDep.{RecordDep}
use Rattle.ix_model.specs.Units.{Units, NamesRise}
use Rattle.ix_answers.specs.Meanings.{IsRecord}
use Rattle.ix_lookups.specs.Loaded.{Loaded, body_named}
use Rattle.ix_needs.specs.Premises.{AreValued, Holds}

pub holds_nothing : (units : Units) (bodies : Loaded) → NamesRise units → AreValued units → bodies.entries ≡ [] → Holds units bodies
holds_nothing units bodies rises valued none = record {
  rises = rises;
  valued = valued;
  bodies_are = λ dep value body is found.
      let nothing : body_named dep.name bodies ≡ None = ap (λ (entries : List (List ℕ × RecordValue)). lookup (bytes_eq dep.name) entries) none in
      absurd (cc);
}

pub holds_one_more : (units : Units) (before after : Loaded) (name : List ℕ) (body : RecordValue) → Holds units before
    → ((dep : RecordDep) (value : RecordValue) → IsRecord units dep value → dep.name ≡ name → value ≡ body) → body_named name after ≡ Some body
    → ((other : List ℕ) → other ≢ name → body_named other after ≡ body_named other before) → Holds units after
holds_one_more units before after name body holds is_value added others = record {
  rises = holds.rises;
  valued = holds.valued;
  bodies_are = λ dep value other is found.
      (elim (bytes_eq dep.name name) as (λ b. bytes_eq dep.name name ≡ b → value ≡ other) [
        | true ↦ λ e.
            let same : dep.name ≡ name = (bytes_eq-Decides dep.name name).0 e in
            let here : body_named name after ≡ Some other = ap (λ (n : List ℕ). body_named n after) (sym same) ∙ found in
            let one : body ≡ other = cc in
            is_value dep value is same ∙ one
        | false ↦ λ e. holds.bodies_are dep value other is (sym (others dep.name (apart dep.name e)) ∙ found)
      ]) refl;
}
  where
    apart : (n : List ℕ) → bytes_eq n name ≡ false → n ≢ name
    apart n e same = let t : bytes_eq n name ≡ true = (bytes_eq-Decides n name).1 same in absurd (cc)
