-- What is lacking beside loaded names is what is lacking beside them as a sorted set.
use Rattle.std.proofs.Common.{◌≡◌, ℕ, Bool, true, false, not, sym, List, [], ◌∷◌, inl, Contains, refl, subst}
use Rattle.std.specs.List.{find}
use Rattle.ix_types.specs.Row.{text_cmp}
use Rattle.ix_types.specs.declared.row.Query.{Query}
use Rattle.ix_record.specs.declared.value.RecordValue.{RecordValue}
use Rattle.ix_model.specs.SortedSet.{sorted_set, IsSortedSetOf}
use Rattle.ix_model.specs.Units.{Units}
use Rattle.ix_answers.specs.Lookups.{is_among}
use Rattle.ix_answers.specs.Needs.{need_of, next_need}
use Rattle.ix_answers.proofs.Members.{has, contains, among-in, among-out}
use Rattle.ix_lookups.specs.Loaded.{Loaded, loaded_names}
use Rattle.ix_lanes.specs.Views.{rising_names}

-- booleans that say the same
both : (a b : Bool) → (a ≡ true → b ≡ true) → (b ≡ true → a ≡ true) → a ≡ b
both true true f g = refl
both true false f g = sym (f refl)
both false true f g = g refl
both false false f g = refl

module _ (sorted : (texts : List (List ℕ)) → IsSortedSetOf text_cmp texts (sorted_set text_cmp texts)) where
  among-set : (texts : List (List ℕ)) (text : List ℕ) → is_among (sorted_set text_cmp texts) text ≡ is_among texts text
  among-set texts text =
      let set = sorted_set text_cmp texts in
      both (is_among set text) (is_among texts text)
      (λ e. among-in texts text (has texts text (((sorted texts).same text).0 (contains set text (among-out set text e)))))
      (λ e. among-in set text (has set text (((sorted texts).same text).1 (contains texts text (among-out texts text e)))))

  pub lacking-set : (query : Query) (units : Units) (names : List (List ℕ)) → next_need query units (sorted_set text_cmp names) ≡ next_need query units names
  lacking-set query units names = λ i. find (λ (name : List ℕ). not (among-set names name i)) (need_of query units)

  no-entries : (entries : List (List ℕ × RecordValue)) (room : ℕ) → rising_names (record { entries = entries; room = room }) ≡ [] → entries ≡ []
  no-entries [] room e = refl
  no-entries (entry ∷ more) room e =
      let names = loaded_names (record { entries = entry ∷ more; room = room }) in
      absurd (has {X = List ℕ} [] entry.0 (subst (λ (set : List (List ℕ)). Contains set entry.0) e (((sorted names).same entry.0).1 (contains names entry.0 (inl refl)))))

  -- where no name is loaded no body is
  pub nothing-loaded : (bodies : Loaded) → rising_names bodies ≡ [] → bodies.entries ≡ []
  nothing-loaded bodies e = no-entries bodies.entries bodies.room e
