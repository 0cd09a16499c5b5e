-- What leads from one map of units to another.
use Rattle.std.proofs.Common.{◌≡◌, ℕ, ◌⊎◌, inl, inr, Bool, true, false, List, [], ◌∷◌, ◌++◌, Some, None, refl, sym, ap, ◌∙◌, subst}
use Rattle.std.specs.Option.{option_map}
use Rattle.std.specs.Str.{bytes_eq}
use Rattle.ix_record.specs.declared.value.RecordValue.{RecordValue}
use Rattle.ix_unit.specs.declared.value.RecordDep.{RecordDep}
use Rattle.ix_unit.specs.declared.batch.UnitPut.{UnitPut}
use Rattle.ix_model.specs.declared.publication.StoredUnit.{StoredUnit}
use Rattle.ix_model.specs.declared.publication.Publication.{Publication}
use Rattle.ix_model.specs.declared.publication.Publication.TheVariants.{Put, Gone}
use Rattle.ix_model.specs.Units.{Units, unit_named, units_after, units_after_last, changed_name, KeepsOtherNames}
use Rattle.ix_answers.specs.Lookups.{is_among}
use Rattle.ix_answers.specs.Meanings.{IsRecord}
use Rattle.ix_answers.specs.Batches.{unit_of, IsUntouched, LeadsTo, HaveOneValue}
use Rattle.ix_answers.proofs.Members.{Has, has, contains, append-left, append-right, same, equal, among-in, among-out}

pub nothing-leads : (units : Units) → LeadsTo [] [] units units
nothing-leads units = record { come = λ put c. absurd (has [] put c); go = λ name c. absurd (has [] name c); stay = λ name u. refl }

-- of the laws below this crate: each name but the changed one has the unit that it had
abbrev pub Keeps : Type 0
Keeps = (earlier : List Publication) (last : Publication) → KeepsOtherNames (changed_name last) (units_after earlier) (units_after_last earlier last)

abbrev pub Comes : Type 0
Comes = (earlier : List Publication) (name : List ℕ) (stored : StoredUnit) → unit_named name (units_after_last earlier (Put name stored)) ≡ Some stored

abbrev pub Goes : Type 0
Goes = (earlier : List Publication) (name : List ℕ) → unit_named name (units_after_last earlier (Gone name)) ≡ None

pub put-leads : Keeps → Comes → (earlier : List Publication) (put : UnitPut) (stored : StoredUnit) → put.unit.value ≡ stored.unit → LeadsTo (put ∷ []) [] (units_after earlier) (units_after_last earlier (Put put.name stored))
put-leads keeps comes earlier put stored e = record {
  come = λ other c. there other (has (put ∷ []) other c);
  go = λ name c. absurd (has [] name c);
  stay = λ name u. ap (option_map (λ (s : StoredUnit). s.unit)) (keeps earlier (Put put.name stored) name (u.not_put put (contains (put ∷ []) put (inl refl))));
}
  where
    there : (other : UnitPut) → (put ≡ other) ⊎ ⊥ → unit_of other.name (units_after_last earlier (Put put.name stored)) ≡ Some other.unit.value
    there other (inl p) = subst (λ (o : UnitPut). unit_of o.name (units_after_last earlier (Put put.name stored)) ≡ Some o.unit.value) p (ap (option_map (λ (s : StoredUnit). s.unit)) (comes earlier put.name stored) ∙ ap Some (sym e))
    there other (inr h) = absurd h

pub gone-leads : Keeps → Goes → (earlier : List Publication) (name : List ℕ) → LeadsTo [] (name ∷ []) (units_after earlier) (units_after_last earlier (Gone name))
gone-leads keeps goes earlier name = record {
  come = λ put c. absurd (has [] put c);
  go = λ other c. there other (has (name ∷ []) other c);
  stay = λ other u. ap (option_map (λ (s : StoredUnit). s.unit)) (keeps earlier (Gone name) other (λ p. u.not_gone (contains (name ∷ []) other (inl p))));
}
  where
    there : (other : List ℕ) → (name ≡ other) ⊎ ⊥ → unit_of other (units_after_last earlier (Gone name)) ≡ None
    there other (inl p) = subst (λ (o : List ℕ). unit_of o (units_after_last earlier (Gone name)) ≡ None) p (ap (option_map (λ (s : StoredUnit). s.unit)) (goes earlier name))
    there other (inr h) = absurd h

-- ---- where a batch leads

decided : (b : Bool) → (b ≡ true) ⊎ (b ≡ true → ⊥)
decided true = inl refl
decided false = inr (λ e. cc)

module _ (name : List ℕ) where
  record IsPut (puts : List UnitPut) : Type 0 where
    put : UnitPut
    of_puts : Has puts put
    has_name : put.name ≡ name

  put_or_not : (puts : List UnitPut) → IsPut puts ⊎ ((put : UnitPut) → Has puts put → put.name ≡ name → ⊥)
  put_or_not [] = inr (λ put h e. h)
  put_or_not (x ∷ xs) = by_name (decided (bytes_eq x.name name)) (put_or_not xs)
    where
      by_name : (bytes_eq x.name name ≡ true) ⊎ (bytes_eq x.name name ≡ true → ⊥) → IsPut xs ⊎ ((put : UnitPut) → Has xs put → put.name ≡ name → ⊥) → IsPut (x ∷ xs) ⊎ ((put : UnitPut) → Has (x ∷ xs) put → put.name ≡ name → ⊥)
      by_name (inl e) rest = inl (record { put = x; of_puts = inl refl; has_name = same x.name name e })
      by_name (inr f) (inl p) = inl (record { put = p.put; of_puts = inr p.of_puts; has_name = p.has_name })
      by_name (inr f) (inr g) = inr neither
        where
          neither : (put : UnitPut) → (x ≡ put) ⊎ Has xs put → put.name ≡ name → ⊥
          neither put (inl p) e = f (equal x.name name (ap (λ (q : UnitPut). q.name) p ∙ e))
          neither put (inr h) e = g put h e

  pub leads-to-one : (puts : List UnitPut) (gone : List (List ℕ)) (before first second : Units) → LeadsTo puts gone before first → LeadsTo puts gone before second → unit_of name first ≡ unit_of name second
  leads-to-one puts gone before first second a b = by_put (put_or_not puts) (decided (is_among gone name))
    where
      by_put : IsPut puts ⊎ ((put : UnitPut) → Has puts put → put.name ≡ name → ⊥) → (is_among gone name ≡ true) ⊎ (is_among gone name ≡ true → ⊥) → unit_of name first ≡ unit_of name second
      by_put (inl p) g = subst (λ (n : List ℕ). unit_of n first ≡ unit_of n second) p.has_name (a.come p.put (contains puts p.put p.of_puts) ∙ sym (b.come p.put (contains puts p.put p.of_puts)))
      by_put (inr f) (inl e) = let c = contains gone name (among-out gone name e) in a.go name c ∙ sym (b.go name c)
      by_put (inr f) (inr g) =
          let u : IsUntouched puts gone name = record { not_put = λ put c e. f put (has puts put c) e; not_gone = λ c. g (among-in gone name (has gone name c)) } in
          a.stay name u ∙ sym (b.stay name u)

-- ---- one value

of_before : (before after : Units) (dep : RecordDep) (value : RecordValue) → IsRecord before dep value → IsRecord (before ++ after) dep value
of_before before after dep value r = record { entry = r.entry; of_units = contains (before ++ after) r.entry (append-left before after r.entry (has before r.entry r.of_units)); place = r.place; lists = r.lists; has_value = r.has_value }

of_after : (before after : Units) (dep : RecordDep) (value : RecordValue) → IsRecord after dep value → IsRecord (before ++ after) dep value
of_after before after dep value r = record { entry = r.entry; of_units = contains (before ++ after) r.entry (append-right before after r.entry (has after r.entry r.of_units)); place = r.place; lists = r.lists; has_value = r.has_value }

pub value-stays : (before after : Units) (first second : RecordDep) (value other : RecordValue) → HaveOneValue before after → IsRecord before first value → IsRecord after second other → first.name ≡ second.name → value ≡ other
value-stays before after first second value other one a b e = one first second value other (of_before before after first value a) (of_after before after second other b) e

pub value-before : (before after : Units) (first second : RecordDep) (value other : RecordValue) → HaveOneValue before after → IsRecord before first value → IsRecord before second other → first.name ≡ second.name → value ≡ other
value-before before after first second value other one a b e = one first second value other (of_before before after first value a) (of_before before after second other b) e

pub value-after : (before after : Units) (first second : RecordDep) (value other : RecordValue) → HaveOneValue before after → IsRecord after first value → IsRecord after second other → first.name ≡ second.name → value ≡ other
value-after before after first second value other one a b e = one first second value other (of_after before after first value a) (of_after before after second other b) e
