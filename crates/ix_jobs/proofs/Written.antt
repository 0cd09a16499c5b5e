-- The files of a job: each is whole, and each record that the unit depends on is among them.
use Rattle.std.proofs.Common.{◌≡◌, ℕ, inl, inr, Bool, true, false, ◌||◌, List, [], ◌∷◌, map, refl, ap, ◌∙◌}
use Rattle.std.specs.List.{AllByRecursion, list_any}
use Rattle.std.specs.Str.{bytes_eq}
use Rattle.std.proofs.lemmas.Slice.Eq.{bytes_eq-Decides}
use Rattle.std.specs.FinMap.{IsAntisymmetric}
use Rattle.ix_record.specs.declared.body.Body.{Body}
use Rattle.ix_record.specs.Whole.{IsWhole}
use Rattle.ix_unit.specs.Order.{record_dep_cmp}
use Rattle.ix_plan.specs.declared.plan.RecordPlan.{RecordPlan}
use Rattle.ix_plan.specs.Keeps.{IsRecordPlan}
use Rattle.ix_model.specs.SortedSet.{sorted_set}
use Rattle.ix_model.proofs.Door.{is_sorted_set, all_in_sorted_set, keys_of_sorted_set}
use Rattle.ix_model.proofs.SortedSet.{Has, Has-from_Contains, Contains-from_Has}
use Rattle.ix_jobs.specs.declared.job.NamedBytes.{NamedBytes}
use Rattle.ix_jobs.specs.Rules.{RecordHasRoom}
use Rattle.ix_jobs.specs.Made.{body_cmp, body_of, dep_of, bytes_of, record_of}
use Rattle.ix_jobs.specs.Named.{as_body}
use Rattle.ix_jobs.specs.Laws.{IsWrittenIn}
use Rattle.ix_jobs.proofs.Orders.{body_total, body_exact}
use Rattle.ix_jobs.proofs.Sizes.{each_mapped}
use Rattle.ix_jobs.proofs.Valid.{valid_record}

pub bodies_are : (files : List NamedBytes) → map as_body (sorted_set (λ a b. body_cmp (as_body a) (as_body b)) files) ≡ sorted_set body_cmp (map as_body files)
bodies_are files = keys_of_sorted_set as_body body_cmp files

pub names_are : (files : List NamedBytes) → map (λ (f : NamedBytes). f.name) files ≡ map (λ (b : Body). b.name) (map as_body files)
names_are [] = refl
names_are (f ∷ fs) = ap (λ (rest : List (List ℕ)). f.name ∷ rest) (names_are fs)

module _ (name_of : List ℕ → List ℕ) where
  body_whole : (r : RecordPlan) → IsRecordPlan r × RecordHasRoom r → IsWhole name_of (body_of name_of r)
  unfolding bytes_of
  body_whole r is = record { named = refl; spelled = (record_of r, record { valid = valid_record r is.0 is.1; fields = refl }) }

  both_kept : (rs : List RecordPlan) → AllByRecursion IsRecordPlan rs → AllByRecursion RecordHasRoom rs → AllByRecursion (λ r. IsRecordPlan r × RecordHasRoom r) rs
  both_kept [] a b = tt
  both_kept (r ∷ rs) a b = ((a.0, b.0), both_kept rs a.1 b.1)

  pub whole_bodies : (rs : List RecordPlan) → AllByRecursion IsRecordPlan rs → AllByRecursion RecordHasRoom rs → AllByRecursion (IsWhole name_of) (sorted_set body_cmp (map (body_of name_of) rs))
  whole_bodies rs rules room =
      all_in_sorted_set body_cmp (IsWhole name_of) (map (body_of name_of) rs)
      (each_mapped (body_of name_of) (λ r. IsRecordPlan r × RecordHasRoom r) (IsWhole name_of) body_whole rs (both_kept rs rules room))

  body_in : (rs : List RecordPlan) (r : RecordPlan) → Has rs r → Has (map (body_of name_of) rs) (body_of name_of r)
  body_in [] r h = absurd h
  body_in (q ∷ qs) r (inl e) = inl (ap (body_of name_of) e)
  body_in (q ∷ qs) r (inr h) = inr (body_in qs r h)

  found : (bodies : List Body) (b : Body) (name : List ℕ) → Has bodies b → b.name ≡ name → list_any (λ body. bytes_eq body.name name) bodies ≡ true
  found [] b name h e = absurd h
  found (x ∷ xs) b name (inl p) e =
      ap (λ (v : Bool). v || list_any (λ (body : Body). bytes_eq body.name name) xs) ((bytes_eq-Decides x.name name).1 (ap (λ (y : Body). y.name) p ∙ e))
  found (x ∷ xs) b name (inr h) e =
      elim (bytes_eq x.name name) as (λ v. (v || list_any (λ (body : Body). bytes_eq body.name name) xs) ≡ true) [
        | true ↦ refl
        | false ↦ found xs b name h e
      ]

  dep_written : (all rs : List RecordPlan) → ((r : RecordPlan) → Has rs r → Has all r) → AllByRecursion (IsWrittenIn (sorted_set body_cmp (map (body_of name_of) all))) (map (dep_of name_of) rs)
  dep_written all [] h = tt
  dep_written all (r ∷ rs) h = (
    found (sorted_set body_cmp (map (body_of name_of) all)) (body_of name_of r) (name_of (bytes_of r))
        (Has-from_Contains (sorted_set body_cmp (map (body_of name_of) all)) (body_of name_of r)
        (((is_sorted_set body_cmp body_total body_exact (map (body_of name_of) all)).same (body_of name_of r)).1 (Contains-from_Has (map (body_of name_of) all) (body_of name_of r) (body_in all r (h r (inl refl))))))
        refl,
    dep_written all rs (λ q k. h q (inr k)),
  )

  pub deps_written : (rs : List RecordPlan) → AllByRecursion (IsWrittenIn (sorted_set body_cmp (map (body_of name_of) rs))) (sorted_set record_dep_cmp (map (dep_of name_of) rs))
  deps_written rs = all_in_sorted_set record_dep_cmp (IsWrittenIn (sorted_set body_cmp (map (body_of name_of) rs))) (map (dep_of name_of) rs) (dep_written rs rs (λ r h. h))

-- files that tie are one
pub files_exact : IsAntisymmetric (λ (a b : NamedBytes). body_cmp (as_body a) (as_body b))
files_exact a b e =
    let same = body_exact (as_body a) (as_body b) e in
    λ i. record { name = (same i).name; bytes = (same i).bytes }
