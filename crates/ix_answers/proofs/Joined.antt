-- Two batches, one after the other, lead where both together lead.
use Rattle.std.proofs.Common.{◌≡◌, ℕ, ◌⊎◌, inl, inr, List, ◌++◌, Some, None, Contains, ◌∙◌}
use Rattle.ix_unit.specs.declared.batch.UnitPut.{UnitPut}
use Rattle.ix_model.specs.Units.{Units}
use Rattle.ix_answers.specs.Batches.{unit_of, IsUntouched, LeadsTo}
use Rattle.ix_answers.proofs.Members.{Has, has, contains, append-left, append-right, append-cases}

module _ (puts more : List UnitPut) (gone more_gone : List (List ℕ)) where
  -- what both leave alone, each leaves alone
  untouched_first : (name : List ℕ) → IsUntouched (puts ++ more) (gone ++ more_gone) name → IsUntouched puts gone name
  untouched_first name u = record {
    not_put = λ put c. u.not_put put (contains (puts ++ more) put (append-left puts more put (has puts put c)));
    not_gone = λ c. u.not_gone (contains (gone ++ more_gone) name (append-left gone more_gone name (has gone name c)));
  }

  untouched_second : (name : List ℕ) → IsUntouched (puts ++ more) (gone ++ more_gone) name → IsUntouched more more_gone name
  untouched_second name u = record {
    not_put = λ put c. u.not_put put (contains (puts ++ more) put (append-right puts more put (has more put c)));
    not_gone = λ c. u.not_gone (contains (gone ++ more_gone) name (append-right gone more_gone name (has more_gone name c)));
  }

  pub batches-join : (before middle after : Units) → LeadsTo puts gone before middle → LeadsTo more more_gone middle after → ((put : UnitPut) → Contains puts put → IsUntouched more more_gone put.name) → ((name : List ℕ) → Contains gone name → IsUntouched more more_gone name) → LeadsTo (puts ++ more) (gone ++ more_gone) before after
  batches-join before middle after a b kept away = record {
    come = λ put c. comes put (append-cases puts more put (has (puts ++ more) put c));
    go = λ name c. goes name (append-cases gone more_gone name (has (gone ++ more_gone) name c));
    stay = λ name u. b.stay name (untouched_second name u) ∙ a.stay name (untouched_first name u);
  }
    where
      comes : (put : UnitPut) → Has puts put ⊎ Has more put → unit_of put.name after ≡ Some put.unit.value
      comes put (inl h) = let c = contains puts put h in b.stay put.name (kept put c) ∙ a.come put c
      comes put (inr h) = b.come put (contains more put h)

      goes : (name : List ℕ) → Has gone name ⊎ Has more_gone name → unit_of name after ≡ None
      goes name (inl h) = let c = contains gone name h in b.stay name (away name c) ∙ a.go name c
      goes name (inr h) = b.go name (contains more_gone name h)
