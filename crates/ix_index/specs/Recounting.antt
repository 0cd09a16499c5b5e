-- What revisions make of an index: new counts of values, key by key.
use Rattle.std.specs.Prelude.{◌≡◌, ℕ, ◌+◌, ◌-◌, ◌==◌, List, [], ◌∷◌, if◌then◌else◌}
use Rattle.std.specs.List.{AllByRecursion}
use Rattle.std.specs.declared.cmp.Ordering.{Ordering}
use Rattle.std.specs.declared.cmp.Ordering.TheVariants.{Less}
use Rattle.std.specs.Ordering.{is_eq}
use Rattle.ix_pages.specs.declared.changes.Change.{Change}
use Rattle.ix_pages.specs.declared.changes.Change.TheVariants.{Put, Take}
use Rattle.ix_pages.specs.Pairs.{with_pair, without_key}
use Rattle.ix_index.specs.declared.revisions.Recount.{Recount}
use Rattle.ix_index.specs.declared.revisions.Revision.{Revision}
use Rattle.ix_index.specs.Counted.{count_in, postings_at}

module _ {V : Type 0} (vcmp : V → V → Ordering) where
  -- values with this count of one of them, which is gone where the count is 0
  abbrev pub with_count : List (V × ℕ) → V → ℕ → List (V × ℕ)
  with_count postings value count =
      if count == 0 then without_key vcmp postings value else with_pair vcmp postings (value, count)

  -- a value counts as often more as it gained, and then as often less as it lost
  abbrev pub recounted : List (V × ℕ) → Recount V → List (V × ℕ)
  recounted postings recount = with_count postings recount.value (count_in vcmp postings recount.value + recount.gained - recount.lost)

  abbrev pub all_recounted : List (V × ℕ) → List (Recount V) → List (V × ℕ)
  all_recounted postings [] = postings
  all_recounted postings (recount ∷ recounts) = all_recounted (recounted postings recount) recounts

  -- the value of each recount is less than those behind it
  abbrev pub AreRecounts : List (Recount V) → Type 0
  AreRecounts [] = Unit {0}
  AreRecounts (recount ∷ recounts) = AllByRecursion (λ later. vcmp recount.value later.value ≡ Less) recounts × AreRecounts recounts

  -- how often a value gains, and how often it loses
  abbrev pub gained_by : List (Recount V) → V → ℕ
  gained_by [] value = 0
  gained_by (recount ∷ recounts) value = (if is_eq (vcmp value recount.value) then recount.gained else 0) + gained_by recounts value

  abbrev pub lost_by : List (Recount V) → V → ℕ
  lost_by [] value = 0
  lost_by (recount ∷ recounts) value = (if is_eq (vcmp value recount.value) then recount.lost else 0) + lost_by recounts value

module _ {K V : Type 0} (kcmp : K → K → Ordering) where
  -- an index with these values under a key, which is gone where there are none
  abbrev pub with_postings : List (K × List (V × ℕ)) → K → List (V × ℕ) → List (K × List (V × ℕ))
  with_postings index key [] = without_key kcmp index key
  with_postings index key (posting ∷ postings) = with_pair kcmp index (key, posting ∷ postings)

module _ {K V : Type 0} (kcmp : K → K → Ordering) (vcmp : V → V → Ordering) where
  -- the values of the revision's key are recounted
  abbrev pub revised : List (K × List (V × ℕ)) → Revision K V → List (K × List (V × ℕ))
  revised index revision = with_postings kcmp index revision.key (all_recounted vcmp (postings_at kcmp index revision.key) revision.recounts)

  abbrev pub all_revised : List (K × List (V × ℕ)) → List (Revision K V) → List (K × List (V × ℕ))
  all_revised index [] = index
  all_revised index (revision ∷ revisions) = all_revised (revised index revision) revisions

  -- the key of each revision is less than those behind it, and so it is with the values of each
  abbrev pub AreRevisions : List (Revision K V) → Type 0
  AreRevisions [] = Unit {0}
  AreRevisions (revision ∷ revisions) =
      AreRecounts vcmp revision.recounts × (AllByRecursion (λ later. kcmp revision.key later.key ≡ Less) revisions × AreRevisions revisions)

  -- how often a pair gains, and how often it loses
  abbrev pub gained_in : List (Revision K V) → K → V → ℕ
  gained_in [] key value = 0
  gained_in (revision ∷ revisions) key value =
      (if is_eq (kcmp key revision.key) then gained_by vcmp revision.recounts value else 0) + gained_in revisions key value

  abbrev pub lost_in : List (Revision K V) → K → V → ℕ
  lost_in [] key value = 0
  lost_in (revision ∷ revisions) key value =
      (if is_eq (kcmp key revision.key) then lost_by vcmp revision.recounts value else 0) + lost_in revisions key value

  -- the change of pages that a revision makes
  abbrev pub change_to : K → List (V × ℕ) → Change K (List (V × ℕ))
  change_to key [] = Take key
  change_to key (posting ∷ postings) = Put key (posting ∷ postings)

  abbrev pub change_made : List (K × List (V × ℕ)) → Revision K V → Change K (List (V × ℕ))
  change_made index revision = change_to revision.key (all_recounted vcmp (postings_at kcmp index revision.key) revision.recounts)
