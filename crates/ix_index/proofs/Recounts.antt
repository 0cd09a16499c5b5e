-- Counts of the values of a key, before and after recounts.
use Rattle.std.proofs.Common.{◌≡◌, ℕ, ◌+◌, ◌-◌, ◌<◌, ◌==◌, Bool, true, false, List, [], ◌∷◌, Option, unwrap_or, if◌then◌else◌, refl, sym, ap, ◌∙◌, arith}
use Rattle.std.specs.List.{AllByRecursion}
use Rattle.std.specs.declared.cmp.Ordering.{Ordering}
use Rattle.std.specs.declared.cmp.Ordering.TheVariants.{Less, Equal}
use Rattle.std.specs.Ordering.{is_eq}
use Rattle.std.specs.Cmp.{IsTotalOrder}
use Rattle.std.proofs.lemmas.Bool.{eqb-true, eqb-false}
use Rattle.ix_pages.specs.Pairs.{IsRising, with_pair, without_key}
use Rattle.ix_index.specs.declared.revisions.Recount.{Recount}
use Rattle.ix_index.specs.Counted.{count_in}
use Rattle.ix_index.specs.Recounting.{with_count, recounted, all_recounted, AreRecounts, gained_by, lost_by}
use Rattle.ix_index.proofs.Sorted.{from_eq, all_follow, all_with, all_without, rising_with, rising_without, look_up_tied, look_up_here, look_up_there, gone_here, gone_there}

module _ {V : Type 0} {cmp : V → V → Ordering} (o : IsTotalOrder cmp) where
  pub count_here : (ps : List (V × ℕ)) (v : V) (n : ℕ) → IsRising cmp ps → count_in cmp (with_count cmp ps v n) v ≡ n
  count_here ps v n rising = cases (n == 0) refl
    where
      cases : (b : Bool) → (n == 0) ≡ b → count_in cmp (if b then without_key cmp ps v else with_pair cmp ps (v, n)) v ≡ n
      cases true none = ap (λ (c : Option ℕ). unwrap_or c 0) (gone_here o v ps rising) ∙ sym (eqb-true n 0 none)
      cases false some = ap (λ (c : Option ℕ). unwrap_or c 0) (look_up_here o v n ps)

  pub count_there : (ps : List (V × ℕ)) (v : V) (n : ℕ) (q : V) → is_eq (cmp q v) ≡ false → count_in cmp (with_count cmp ps v n) q ≡ count_in cmp ps q
  count_there ps v n q ne = cases (n == 0)
    where
      cases : (b : Bool) → count_in cmp (if b then without_key cmp ps v else with_pair cmp ps (v, n)) q ≡ count_in cmp ps q
      cases true = ap (λ (c : Option ℕ). unwrap_or c 0) (gone_there o v q ne ps)
      cases false = ap (λ (c : Option ℕ). unwrap_or c 0) (look_up_there o v n q ne ps)

  pub count_tied : (ps : List (V × ℕ)) (q v : V) → cmp q v ≡ Equal → count_in cmp ps q ≡ count_in cmp ps v
  count_tied ps q v tied = ap (λ (c : Option ℕ). unwrap_or c 0) (look_up_tied o q v tied ps)

  pub rising_recounted : (ps : List (V × ℕ)) (r : Recount V) → IsRising cmp ps → IsRising cmp (recounted cmp ps r)
  rising_recounted ps r rising = cases ((count_in cmp ps r.value + r.gained - r.lost) == 0)
    where
      cases : (b : Bool) → IsRising cmp (if b then without_key cmp ps r.value else with_pair cmp ps (r.value, count_in cmp ps r.value + r.gained - r.lost))
      cases true = rising_without cmp ps r.value rising
      cases false = rising_with o ps (r.value, count_in cmp ps r.value + r.gained - r.lost) rising

  pub rising_all_recounted : (ps : List (V × ℕ)) (rs : List (Recount V)) → IsRising cmp ps → IsRising cmp (all_recounted cmp ps rs)
  rising_all_recounted ps [] rising = rising
  rising_all_recounted ps (r ∷ rs) rising = rising_all_recounted (recounted cmp ps r) rs (rising_recounted ps r rising)

  above_none : (n : ℕ) → (n == 0) ≡ false → 0 < n
  above_none n some = let other = eqb-false n 0 some in omega (arith, other)

  counted_recounted : (ps : List (V × ℕ)) (r : Recount V) → AllByRecursion (λ p. 0 < p.1) ps → AllByRecursion (λ p. 0 < p.1) (recounted cmp ps r)
  counted_recounted ps r counted = cases ((count_in cmp ps r.value + r.gained - r.lost) == 0) refl
    where
      cases : (b : Bool) → ((count_in cmp ps r.value + r.gained - r.lost) == 0) ≡ b
          → AllByRecursion (λ p. 0 < p.1) (if b then without_key cmp ps r.value else with_pair cmp ps (r.value, count_in cmp ps r.value + r.gained - r.lost))
      cases true none = all_without cmp (λ p. 0 < p.1) ps r.value counted
      cases false some = all_with cmp (λ p. 0 < p.1) ps (r.value, count_in cmp ps r.value + r.gained - r.lost) counted (above_none (count_in cmp ps r.value + r.gained - r.lost) some)

  pub counted_all_recounted : (ps : List (V × ℕ)) (rs : List (Recount V)) → AllByRecursion (λ p. 0 < p.1) ps → AllByRecursion (λ p. 0 < p.1) (all_recounted cmp ps rs)
  counted_all_recounted ps [] counted = counted
  counted_all_recounted ps (r ∷ rs) counted = counted_all_recounted (recounted cmp ps r) rs (counted_recounted ps r counted)

  -- recounts of other values
  pub none_gained : (rs : List (Recount V)) (q : V) → AllByRecursion (λ r. is_eq (cmp q r.value) ≡ false) rs → gained_by cmp rs q ≡ 0
  none_gained [] q others = refl
  none_gained (r ∷ rs) q others = let rest = none_gained rs q others.1 in rw others.0 (omega (arith, rest))

  pub none_lost : (rs : List (Recount V)) (q : V) → AllByRecursion (λ r. is_eq (cmp q r.value) ≡ false) rs → lost_by cmp rs q ≡ 0
  none_lost [] q others = refl
  none_lost (r ∷ rs) q others = let rest = none_lost rs q others.1 in rw others.0 (omega (arith, rest))

  -- values behind one that ties with q
  behind : (q v : V) → cmp q v ≡ Equal → (rs : List (Recount V)) → AllByRecursion (λ r. cmp v r.value ≡ Less) rs → AllByRecursion (λ r. is_eq (cmp q r.value) ≡ false) rs
  behind q v tied rs above = all_follow (λ r. cmp v r.value ≡ Less) (λ r. is_eq (cmp q r.value) ≡ false) (λ r less. ap is_eq (o.congr q v r.value tied ∙ less)) rs above

  pub count_all_recounted : (ps : List (V × ℕ)) (rs : List (Recount V)) (q : V) → IsRising cmp ps → AreRecounts cmp rs
      → count_in cmp (all_recounted cmp ps rs) q ≡ count_in cmp ps q + gained_by cmp rs q - lost_by cmp rs q
  count_all_recounted ps [] q rising rise = omega arith
  count_all_recounted ps (r ∷ rs) q rising rise = cases (count_all_recounted (recounted cmp ps r) rs q (rising_recounted ps r rising) rise.1) (is_eq (cmp q r.value)) refl
    where
      cases : count_in cmp (all_recounted cmp (recounted cmp ps r) rs) q ≡ count_in cmp (recounted cmp ps r) q + gained_by cmp rs q - lost_by cmp rs q
          → (b : Bool) → is_eq (cmp q r.value) ≡ b → count_in cmp (all_recounted cmp (recounted cmp ps r) rs) q
          ≡ count_in cmp ps q + ((if is_eq (cmp q r.value) then r.gained else 0) + gained_by cmp rs q) - ((if is_eq (cmp q r.value) then r.lost else 0) + lost_by cmp rs q)
      cases rest true same =
          let tied : cmp q r.value ≡ Equal = from_eq (cmp q r.value) same in
          let later = behind q r.value tied rs rise.0 in
          let no_gain : gained_by cmp rs q ≡ 0 = none_gained rs q later in
          let no_loss : lost_by cmp rs q ≡ 0 = none_lost rs q later in
          let at : count_in cmp ps q ≡ count_in cmp ps r.value = count_tied ps q r.value tied in
          let here : count_in cmp (recounted cmp ps r) q ≡ count_in cmp ps r.value + r.gained - r.lost = count_tied (recounted cmp ps r) q r.value tied ∙ count_here ps r.value (count_in cmp ps r.value + r.gained - r.lost) rising in
          rw same (omega (arith, rest, no_gain, no_loss, at, here))
      cases rest false other =
          let there : count_in cmp (recounted cmp ps r) q ≡ count_in cmp ps q = count_there ps r.value (count_in cmp ps r.value + r.gained - r.lost) q other in
          rw other (omega (arith, rest, there))
