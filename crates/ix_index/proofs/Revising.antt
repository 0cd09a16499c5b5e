-- An index before and after revisions.
use Rattle.std.proofs.Common.{◌≡◌, ℕ, ◌+◌, ◌-◌, ◌<◌, ◌==◌, Bool, true, false, List, [], ◌∷◌, ◌++◌, length, map, Option, Some, None, unwrap_or, if◌then◌else◌, refl, sym, ap, ◌∙◌, append_assoc, arith}
use Rattle.std.specs.List.{AllByRecursion}
use Rattle.std.specs.declared.cmp.Ordering.{Ordering}
use Rattle.std.specs.declared.cmp.Ordering.TheVariants.{Less, Equal}
use Rattle.std.specs.Ordering.{is_eq}
use Rattle.std.specs.Cmp.{IsTotalOrder}
use Rattle.std.proofs.lemmas.Bool.{eqb-true}
use Rattle.std.proofs.lemmas.List.{map-append}
use Rattle.ix_pages.specs.declared.changes.Change.{Change}
use Rattle.ix_pages.specs.declared.changes.Change.TheVariants.{Put, Take}
use Rattle.ix_pages.specs.Pairs.{IsRising, look_up}
use Rattle.ix_pages.specs.Changes.{key_of_change, changed_by, changed, AreRising}
use Rattle.ix_index.specs.declared.revisions.Revision.{Revision}
use Rattle.ix_index.specs.Counted.{count_in, ArePostings, postings_at, count_of, IsIndex}
use Rattle.ix_index.specs.Recounting.{all_recounted, AreRecounts, gained_by, lost_by, with_postings, revised, all_revised, AreRevisions, gained_in, lost_in, change_to, change_made}
use Rattle.ix_index.proofs.Sorted.{from_eq, all_append_left, all_append_right, all_follow, less_back, all_with, all_without, rising_with, rising_without, look_up_tied, look_up_here, look_up_there, gone_here, gone_there, found_holds}
use Rattle.ix_index.proofs.Recounts.{rising_all_recounted, counted_all_recounted, count_all_recounted}

-- ---- what a key has

module _ {K V : Type 0} {kcmp : K → K → Ordering} (ok : IsTotalOrder kcmp) where
  pub postings_here : (index : List (K × List (V × ℕ))) (key : K) (ps : List (V × ℕ)) → IsRising kcmp index → postings_at kcmp (with_postings kcmp index key ps) key ≡ ps
  postings_here index key [] rising = ap (λ (c : Option (List (V × ℕ))). unwrap_or c []) (gone_here ok key index rising)
  postings_here index key (p ∷ ps) rising = ap (λ (c : Option (List (V × ℕ))). unwrap_or c []) (look_up_here ok key (p ∷ ps) index)

  pub postings_there : (index : List (K × List (V × ℕ))) (key : K) (ps : List (V × ℕ)) (q : K) → is_eq (kcmp q key) ≡ false
      → postings_at kcmp (with_postings kcmp index key ps) q ≡ postings_at kcmp index q
  postings_there index key [] q ne = ap (λ (c : Option (List (V × ℕ))). unwrap_or c []) (gone_there ok key q ne index)
  postings_there index key (p ∷ ps) q ne = ap (λ (c : Option (List (V × ℕ))). unwrap_or c []) (look_up_there ok key (p ∷ ps) q ne index)

  pub postings_tied : (index : List (K × List (V × ℕ))) (q key : K) → kcmp q key ≡ Equal → postings_at kcmp index q ≡ postings_at kcmp index key
  postings_tied index q key tied = ap (λ (c : Option (List (V × ℕ))). unwrap_or c []) (look_up_tied ok q key tied index)

module _ {K V : Type 0} {kcmp : K → K → Ordering} {vcmp : V → V → Ordering} (ok : IsTotalOrder kcmp) (ov : IsTotalOrder vcmp) where
  -- they rise and count, also where there are none
  pub postings_rise : (index : List (K × List (V × ℕ))) (key : K) → IsIndex kcmp vcmp index → IsRising vcmp (postings_at kcmp index key)
  postings_rise index key is = cases (look_up kcmp index key) refl
    where
      cases : (c : Option (List (V × ℕ))) → look_up kcmp index key ≡ c → IsRising vcmp (unwrap_or c [])
      cases None found = tt
      cases (Some ps) found = (found_holds ok (ArePostings vcmp) index key ps is.each found).rise

  pub postings_counted : (index : List (K × List (V × ℕ))) (key : K) → IsIndex kcmp vcmp index → AllByRecursion (λ p. 0 < p.1) (postings_at kcmp index key)
  postings_counted index key is = cases (look_up kcmp index key) refl
    where
      cases : (c : Option (List (V × ℕ))) → look_up kcmp index key ≡ c → AllByRecursion (λ (p : V × ℕ). 0 < p.1) (unwrap_or c [])
      cases None found = tt
      cases (Some ps) found = (found_holds ok (ArePostings vcmp) index key ps is.each found).counted

  -- ---- it stays an index

  index_with : (index : List (K × List (V × ℕ))) (key : K) (ps : List (V × ℕ)) → IsRising vcmp ps → AllByRecursion (λ p. 0 < p.1) ps → IsIndex kcmp vcmp index → IsIndex kcmp vcmp (with_postings kcmp index key ps)
  index_with index key [] rise counted is = record {
    rises = rising_without kcmp index key is.rises;
    each = all_without kcmp (λ entry. ArePostings vcmp entry.1) index key is.each;
  }
  index_with index key (p ∷ ps) rise counted is = record {
    rises = rising_with ok index (key, p ∷ ps) is.rises;
    each = all_with kcmp (λ entry. ArePostings vcmp entry.1) index (key, p ∷ ps) is.each (record { some = omega arith; rise = rise; counted = counted });
  }

  pub index_revised : (index : List (K × List (V × ℕ))) (r : Revision K V) → IsIndex kcmp vcmp index → IsIndex kcmp vcmp (revised kcmp vcmp index r)
  index_revised index r is = index_with index r.key (all_recounted vcmp (postings_at kcmp index r.key) r.recounts)
      (rising_all_recounted ov (postings_at kcmp index r.key) r.recounts (postings_rise index r.key is))
      (counted_all_recounted ov (postings_at kcmp index r.key) r.recounts (postings_counted index r.key is))
      is

  pub index_all_revised : (index : List (K × List (V × ℕ))) (rs : List (Revision K V)) → IsIndex kcmp vcmp index → IsIndex kcmp vcmp (all_revised kcmp vcmp index rs)
  index_all_revised index [] is = is
  index_all_revised index (r ∷ rs) is = index_all_revised (revised kcmp vcmp index r) rs (index_revised index r is)

  -- ---- the counts after it

  no_gain : (rs : List (Revision K V)) (key : K) (value : V) → AllByRecursion (λ r. is_eq (kcmp key r.key) ≡ false) rs → gained_in kcmp vcmp rs key value ≡ 0
  no_gain [] key value others = refl
  no_gain (r ∷ rs) key value others = let rest = no_gain rs key value others.1 in rw others.0 (omega (arith, rest))

  no_loss : (rs : List (Revision K V)) (key : K) (value : V) → AllByRecursion (λ r. is_eq (kcmp key r.key) ≡ false) rs → lost_in kcmp vcmp rs key value ≡ 0
  no_loss [] key value others = refl
  no_loss (r ∷ rs) key value others = let rest = no_loss rs key value others.1 in rw others.0 (omega (arith, rest))

  behind : (q k : K) → kcmp q k ≡ Equal → (rs : List (Revision K V)) → AllByRecursion (λ r. kcmp k r.key ≡ Less) rs → AllByRecursion (λ r. is_eq (kcmp q r.key) ≡ false) rs
  behind q k tied rs above = all_follow (λ r. kcmp k r.key ≡ Less) (λ r. is_eq (kcmp q r.key) ≡ false) (λ r less. ap is_eq (ok.congr q k r.key tied ∙ less)) rs above

  pub count_all_revised : (index : List (K × List (V × ℕ))) (rs : List (Revision K V)) (key : K) (value : V) → IsIndex kcmp vcmp index → AreRevisions kcmp vcmp rs
      → count_of kcmp vcmp (all_revised kcmp vcmp index rs) key value ≡ count_of kcmp vcmp index key value + gained_in kcmp vcmp rs key value - lost_in kcmp vcmp rs key value
  count_all_revised index [] key value is rise = omega arith
  count_all_revised index (r ∷ rs) key value is rise = cases (count_all_revised (revised kcmp vcmp index r) rs key value (index_revised index r is) rise.1.1) (is_eq (kcmp key r.key)) refl
    where
      cases : count_of kcmp vcmp (all_revised kcmp vcmp (revised kcmp vcmp index r) rs) key value
          ≡ count_of kcmp vcmp (revised kcmp vcmp index r) key value + gained_in kcmp vcmp rs key value - lost_in kcmp vcmp rs key value
          → (b : Bool) → is_eq (kcmp key r.key) ≡ b → count_of kcmp vcmp (all_revised kcmp vcmp (revised kcmp vcmp index r) rs) key value
          ≡ count_of kcmp vcmp index key value + ((if is_eq (kcmp key r.key) then gained_by vcmp r.recounts value else 0) + gained_in kcmp vcmp rs key value)
          - ((if is_eq (kcmp key r.key) then lost_by vcmp r.recounts value else 0) + lost_in kcmp vcmp rs key value)
      cases rest true same =
          let tied : kcmp key r.key ≡ Equal = from_eq (kcmp key r.key) same in
          let later = behind key r.key tied rs rise.1.0 in
          let none_gains : gained_in kcmp vcmp rs key value ≡ 0 = no_gain rs key value later in
          let none_loses : lost_in kcmp vcmp rs key value ≡ 0 = no_loss rs key value later in
          let at : count_of kcmp vcmp index key value ≡ count_of kcmp vcmp index r.key value = ap (λ (ps : List (V × ℕ)). count_in vcmp ps value) (postings_tied ok index key r.key tied) in
          let here : count_of kcmp vcmp (revised kcmp vcmp index r) key value ≡ count_of kcmp vcmp index r.key value + gained_by vcmp r.recounts value - lost_by vcmp r.recounts value =
          ap (λ (ps : List (V × ℕ)). count_in vcmp ps value) (postings_tied ok (revised kcmp vcmp index r) key r.key tied ∙ postings_here ok index r.key (all_recounted vcmp (postings_at kcmp index r.key) r.recounts) is.rises)
          ∙ count_all_recounted ov (postings_at kcmp index r.key) r.recounts value (postings_rise index r.key is) rise.0 in
          rw same (omega (arith, rest, none_gains, none_loses, at, here))
      cases rest false other =
          let there : count_of kcmp vcmp (revised kcmp vcmp index r) key value ≡ count_of kcmp vcmp index key value =
          ap (λ (ps : List (V × ℕ)). count_in vcmp ps value) (postings_there ok index r.key (all_recounted vcmp (postings_at kcmp index r.key) r.recounts) key other) in
          rw other (omega (arith, rest, there))

-- ---- the changes of pages that they make

module _ {K V : Type 0} {kcmp : K → K → Ordering} (vcmp : V → V → Ordering) (ok : IsTotalOrder kcmp) where
  pub change_none : (key : K) (ps : List (V × ℕ)) → (length ps == 0) ≡ true → Take key ≡ change_to kcmp vcmp key ps
  change_none key [] none = refl
  change_none key (p ∷ ps) none = absurd (omega (arith, eqb-true (length (p ∷ ps)) 0 none))

  pub change_some : (key : K) (ps : List (V × ℕ)) → (length ps == 0) ≡ false → Put key ps ≡ change_to kcmp vcmp key ps
  change_some key [] some = absurd (cc)
  change_some key (p ∷ ps) some = refl

  changed_to : (index : List (K × List (V × ℕ))) (key : K) (ps : List (V × ℕ)) → changed_by kcmp index (change_to kcmp vcmp key ps) ≡ with_postings kcmp index key ps
  changed_to index key [] = refl
  changed_to index key (p ∷ ps) = refl

  key_of_change_to : (key : K) (ps : List (V × ℕ)) → key_of_change (change_to kcmp vcmp key ps) ≡ key
  key_of_change_to key [] = refl
  key_of_change_to key (p ∷ ps) = refl

  pub changes_revise : (before index : List (K × List (V × ℕ))) (rs : List (Revision K V)) → AreRevisions kcmp vcmp rs
      → AllByRecursion (λ r. postings_at kcmp index r.key ≡ postings_at kcmp before r.key) rs
      → changed kcmp index (map (change_made kcmp vcmp before) rs) ≡ all_revised kcmp vcmp index rs
  changes_revise before index [] rise same = refl
  changes_revise before index (r ∷ rs) rise same =
      ap (λ next. changed kcmp next (map (change_made kcmp vcmp before) rs))
      (changed_to index r.key (all_recounted vcmp (postings_at kcmp before r.key) r.recounts)
      ∙ ap (λ (ps : List (V × ℕ)). with_postings kcmp index r.key (all_recounted vcmp ps r.recounts)) (sym same.0))
      ∙ changes_revise before (revised kcmp vcmp index r) rs rise.1.1 (later rs rise.1.0 same.1)
    where
      later : (ss : List (Revision K V)) → AllByRecursion (λ s. kcmp r.key s.key ≡ Less) ss → AllByRecursion (λ s. postings_at kcmp index s.key ≡ postings_at kcmp before s.key) ss
          → AllByRecursion (λ s. postings_at kcmp (revised kcmp vcmp index r) s.key ≡ postings_at kcmp before s.key) ss
      later [] above same = tt
      later (s ∷ ss) above same =
          (postings_there ok index r.key (all_recounted vcmp (postings_at kcmp index r.key) r.recounts) s.key (ap is_eq (less_back ok r.key s.key above.0)) ∙ same.0, later ss above.1 same.1)

  pub all_same : (index : List (K × List (V × ℕ))) (rs : List (Revision K V)) → AllByRecursion (λ r. postings_at kcmp index r.key ≡ postings_at kcmp index r.key) rs
  all_same index [] = tt
  all_same index (r ∷ rs) = (refl, all_same index rs)

  rising_behind : (before : List (K × List (V × ℕ))) (r : Revision K V) (rs : List (Revision K V)) → AllByRecursion (λ s. kcmp r.key s.key ≡ Less) rs
      → AllByRecursion (λ change. kcmp (key_of_change (change_made kcmp vcmp before r)) (key_of_change change) ≡ Less) (map (change_made kcmp vcmp before) rs)
  rising_behind before r [] above = tt
  rising_behind before r (s ∷ rs) above = (
    ap (λ k. kcmp k (key_of_change (change_made kcmp vcmp before s))) (key_of_change_to r.key (all_recounted vcmp (postings_at kcmp before r.key) r.recounts))
        ∙ ap (λ k. kcmp r.key k) (key_of_change_to s.key (all_recounted vcmp (postings_at kcmp before s.key) s.recounts)) ∙ above.0,
    rising_behind before r rs above.1,
  )

  pub changes_rise : (before : List (K × List (V × ℕ))) (rs : List (Revision K V)) → AreRevisions kcmp vcmp rs → AreRising kcmp (map (change_made kcmp vcmp before) rs)
  changes_rise before [] rise = tt
  changes_rise before (r ∷ rs) rise = (rising_behind before r rs rise.1.0, changes_rise before rs rise.1.1)

  pub recounts_of : (rs : List (Revision K V)) → AreRevisions kcmp vcmp rs → AllByRecursion (λ r. AreRecounts vcmp r.recounts) rs
  recounts_of [] rise = tt
  recounts_of (r ∷ rs) rise = (rise.0, recounts_of rs rise.1.1)

  -- one change more
  pub made_more : (before : List (K × List (V × ℕ))) (start : List (Change K (List (V × ℕ)))) (done : List (Revision K V)) (r : Revision K V) (made more : List (Change K (List (V × ℕ)))) (change : Change K (List (V × ℕ)))
      → (AllByRecursion (λ s. AreRecounts vcmp s.recounts) done → made ≡ start ++ map (change_made kcmp vcmp before) done) → (AreRecounts vcmp r.recounts → change ≡ change_made kcmp vcmp before r) → more ≡ made ++ change ∷ []
      → AllByRecursion (λ s. AreRecounts vcmp s.recounts) (done ++ r ∷ []) → more ≡ start ++ map (change_made kcmp vcmp before) (done ++ r ∷ [])
  made_more before start done r made more change so_far here pushed rise =
      pushed
      ∙ ap (λ (changes : List (Change K (List (V × ℕ)))). changes ++ change ∷ []) (so_far (all_append_left (λ s. AreRecounts vcmp s.recounts) done (r ∷ []) rise))
      ∙ append_assoc start (map (change_made kcmp vcmp before) done) (change ∷ [])
      ∙ ap (λ (c : Change K (List (V × ℕ))). start ++ (map (change_made kcmp vcmp before) done ++ c ∷ [])) (here (all_append_right (λ s. AreRecounts vcmp s.recounts) done (r ∷ []) rise).0)
      ∙ ap (λ (changes : List (Change K (List (V × ℕ)))). start ++ changes) (sym (map-append (change_made kcmp vcmp before) done (r ∷ [])))

  -- what a new version of the pages stands for
  pub revised_pages : (before after : List (K × List (V × ℕ))) (changes : List (Change K (List (V × ℕ)))) (rs : List (Revision K V)) → AreRevisions kcmp vcmp rs
      → (AllByRecursion (λ s. AreRecounts vcmp s.recounts) rs → changes ≡ map (change_made kcmp vcmp before) rs) → after ≡ changed kcmp before changes → after ≡ all_revised kcmp vcmp before rs
  revised_pages before after changes rs rise made is =
      is ∙ ap (changed kcmp before) (made (recounts_of rs rise)) ∙ changes_revise before before rs rise (all_same before rs)
