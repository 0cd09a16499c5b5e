-- What each call may change, and that all else stays.
use Rattle.std.proofs.Common.{◌≡◌, ◌≢◌, ℕ, Bool, true, false, cond, ◌⊎◌, inl, inr, List, [], ◌∷◌, ◌++◌, Option, Some, None, refl, sym, ap, subst, ◌∙◌}
use Rattle.std.proofs.lemmas.List.{append_assoc, append-nil}
use Rattle.std.specs.Map.{lookup}
use Rattle.std.specs.BTreeMap.{is_at}
use Rattle.std.specs.Str.{bytes_eq}
use Rattle.ix_types.specs.Row.{text_cmp}
use Rattle.ix_record.specs.declared.body.Body.{Body}
use Rattle.ix_unit.specs.declared.value.UnitValue.{UnitValue}
use Rattle.ix_model.specs.declared.publication.Publication.{Publication}
use Rattle.ix_machine.specs.declared.event.Outcome.{Outcome}
use Rattle.ix_machine.specs.declared.event.Outcome.TheVariants.{Done, Shared, Clash}
use Rattle.ix_machine.specs.declared.event.Purpose.{Purpose}
use Rattle.ix_machine.specs.declared.event.Purpose.TheVariants as purposes
use Rattle.ix_machine.specs.Given.{Given, Lease, Put, Stage, Publish, Remove, Scan, Load, Install, Adopt, Release, Collect}
use Rattle.ix_machine.specs.Needs.{is_guarded, loose}
use Rattle.ix_machine.specs.Run.{Turn, Leads}
use Rattle.ix_machine.specs.State.{State}
use Rattle.ix_machine.specs.Step.{Stepped, Row, row, step, ended, may_fault, dropped, noted, write, put, put_over, collect_first}
use Rattle.ix_machine.specs.Step as calls
use Rattle.ix_machine.proofs.Cases.{some_row, put_cases, publish_cases, remove_cases, install_cases}
use Rattle.ix_machine.proofs.Lists.{same_bytes, same_or_apart, lookup-inserted, lookup-inserted_apart}
use Rattle.ix_machine.proofs.Rows.{Each, each_stepped}

module _ (name_of : List ℕ → List ℕ) (s : State) (lane : ℕ) where
  -- ---- the fields that a call may change

  abbrev Leases : State → Type 0
  Leases t = t ≡ record s { leases = t.leases }

  abbrev Files : State → Type 0
  Files t = t ≡ record s { records = t.records; leases = t.leases }

  abbrev Units : State → Type 0
  Units t = t ≡ record s { publications = t.publications; pending = t.pending }

  abbrev UnitsAndLeases : State → Type 0
  UnitsAndLeases t = t ≡ record s { publications = t.publications; pending = t.pending; leases = t.leases }

  abbrev Imports : State → Type 0
  Imports t = t ≡ record s { import = t.import }

  abbrev Installs : State → Type 0
  Installs t = t ≡ record s { import = t.import; current = t.current; held = t.held }

  abbrev Holds : State → Type 0
  Holds t = t ≡ record s { held = t.held }

  abbrev Collects : State → Type 0
  Collects t = t ≡ record s { records = t.records; pending = t.pending }

  pub leases_alone : (names : List (List ℕ)) (flag : Outcome) (stepped : Stepped) → step name_of s lane (Lease names) flag ≡ Some stepped → Leases stepped.state
  leases_alone names flag stepped e = each_stepped Leases name_of s lane (Lease names) flag stepped
      (λ r is. some_row (Each Leases) s lane _ r is (record { plain = refl; faulted = tt; unsynced = tt })) e

  pub put_alone : (body : Body) (flag : Outcome) (stepped : Stepped) → step name_of s lane (Put body) flag ≡ Some stepped → Files stepped.state
  put_alone body flag stepped e = each_stepped Files name_of s lane (Put body) flag stepped
      (λ r is. some_row (Each Files) s lane _ r is (put_cases (Each Files) s lane body
      (record { plain = refl; faulted = refl; unsynced = tt }) (record { plain = refl; faulted = refl; unsynced = tt }) (record { plain = refl; faulted = refl; unsynced = tt }))) e

  pub stage_alone : (unit : UnitValue) (flag : Outcome) (stepped : Stepped) → step name_of s lane (Stage unit) flag ≡ Some stepped → Leases stepped.state
  stage_alone unit flag stepped e = each_stepped Leases name_of s lane (Stage unit) flag stepped
      (λ r is. some_row (Each Leases) s lane _ r is (record { plain = refl; faulted = refl; unsynced = tt })) e

  pub publish_alone : (flag : Outcome) (stepped : Stepped) → step name_of s lane Publish flag ≡ Some stepped → UnitsAndLeases stepped.state
  publish_alone flag stepped e = each_stepped UnitsAndLeases name_of s lane Publish flag stepped
      (λ r is. publish_cases (Each UnitsAndLeases) s lane (λ name unit. record { plain = refl; faulted = refl; unsynced = refl }) (record { plain = refl; faulted = tt; unsynced = tt }) name_of r is) e

  pub remove_alone : (output : List ℕ) (flag : Outcome) (stepped : Stepped) → step name_of s lane (Remove output) flag ≡ Some stepped → Units stepped.state
  remove_alone output flag stepped e = each_stepped Units name_of s lane (Remove output) flag stepped
      (λ r is. some_row (Each Units) s lane _ r is (remove_cases (Each Units) s lane (record { plain = refl; faulted = tt; unsynced = tt }) (λ name. record { plain = refl; faulted = refl; unsynced = refl }) output)) e

  pub scan_alone : (flag : Outcome) (stepped : Stepped) → step name_of s lane Scan flag ≡ Some stepped → Imports stepped.state
  scan_alone flag stepped e = each_stepped Imports name_of s lane Scan flag stepped
      (λ r is. some_row (Each Imports) s lane _ r is (record { plain = refl; faulted = refl; unsynced = tt })) e

  pub load_alone : (name : List ℕ) (purpose : Purpose) (stepped : Stepped) → step name_of s lane (Load name purpose) Done ≡ Some stepped → stepped.state ≡ s
  load_alone name purpose stepped e = let same : ended Done s ≡ stepped = cc in ap (λ (t : Stepped). t.state) (sym same)

  pub install_alone : (flag : Outcome) (stepped : Stepped) → step name_of s lane Install flag ≡ Some stepped → Installs stepped.state
  install_alone flag stepped e = each_stepped Installs name_of s lane Install flag stepped
      (λ r is. install_cases (Each Installs) s lane (λ i open_is. record { plain = refl; faulted = tt; unsynced = tt }) r is) e

  pub adopt_alone : (flag : Outcome) (stepped : Stepped) → step name_of s lane Adopt flag ≡ Some stepped → Holds stepped.state
  adopt_alone flag stepped e = each_stepped Holds name_of s lane Adopt flag stepped
      (λ r is. some_row (Each Holds) s lane _ r is (record { plain = refl; faulted = tt; unsynced = tt })) e

  pub release_alone : (flag : Outcome) (stepped : Stepped) → step name_of s lane Release flag ≡ Some stepped → Holds stepped.state
  release_alone flag stepped e = each_stepped Holds name_of s lane Release flag stepped
      (λ r is. some_row (Each Holds) s lane _ r is (record { plain = refl; faulted = tt; unsynced = tt })) e

  collected_alone : (names : List (List ℕ)) → Collects (collect_first s names).state
  collected_alone [] = refl
  collected_alone (name ∷ names) = refl

  pub collect_alone : (flag : Outcome) (stepped : Stepped) → step name_of s lane Collect flag ≡ Some stepped → Collects stepped.state
  collect_alone flag stepped e = each_stepped Collects name_of s lane Collect flag stepped
      (λ r is. some_row (Each Collects) s lane _ r is (record { plain = collected_alone (loose s); faulted = refl; unsynced = tt })) e

  -- ---- the file of a put

  module _ (body : Body) where
    abbrev IsPut : Row → Type 0
    IsPut r = r.plain.outcome ≢ Clash → lookup (is_at (text_cmp body.name)) r.plain.state.records ≡ Some body.bytes

    write-puts : IsPut (write s lane body)
    write-puts made = lookup-inserted body.name body.bytes s.records

    by_guard : (b : Bool) → IsPut (cond b (may_fault Clash (dropped s lane) (dropped s lane)) (write s lane body))
    by_guard true = λ made. absurd (made refl)
    by_guard false = write-puts

    by_bytes : (bytes : List ℕ) → lookup (is_at (text_cmp body.name)) s.records ≡ Some bytes → (b : Bool) → bytes_eq bytes body.bytes ≡ b
        → IsPut (cond b (may_fault Shared (noted s lane body.name) (dropped s lane)) (cond (is_guarded s lane body.name) (may_fault Clash (dropped s lane) (dropped s lane)) (write s lane body)))
    by_bytes bytes is true same = λ made. is ∙ ap Some (same_bytes bytes body.bytes same)
    by_bytes bytes is false same = by_guard (is_guarded s lane body.name)

    by_file : (o : Option (List ℕ)) → lookup (is_at (text_cmp body.name)) s.records ≡ o → IsPut (put_over s lane body o)
    by_file None is = write-puts
    by_file (Some bytes) is = by_bytes bytes is (bytes_eq bytes body.bytes) refl

    pub put_stands : (stepped : Stepped) → step name_of s lane (Put body) Done ≡ Some stepped → stepped.outcome ≢ Clash → lookup (is_at (text_cmp body.name)) stepped.state.records ≡ Some body.bytes
    put_stands stepped e =
        let same : (put s lane body).plain ≡ stepped = cc in
        subst (λ (t : Stepped). t.outcome ≢ Clash → lookup (is_at (text_cmp body.name)) t.state.records ≡ Some body.bytes) same
        (by_file (lookup (is_at (text_cmp body.name)) s.records) refl)

    module _ (other : List ℕ) (apart : body.name ≢ other) where
      abbrev KeepsOther : State → Type 0
      KeepsOther t = lookup (is_at (text_cmp other)) t.records ≡ lookup (is_at (text_cmp other)) s.records

      written_apart : (body.name ≡ other) ⊎ (is_at (text_cmp other) body.name ≡ false) → Each KeepsOther (write s lane body)
      written_apart (inl same) = absurd (apart same)
      written_apart (inr test) = record { plain = lookup-inserted_apart body.name body.bytes other test s.records; faulted = refl; unsynced = tt }

      pub put_others : (flag : Outcome) (stepped : Stepped) → step name_of s lane (Put body) flag ≡ Some stepped → KeepsOther stepped.state
      put_others flag stepped e = each_stepped KeepsOther name_of s lane (Put body) flag stepped
          (λ r is. some_row (Each KeepsOther) s lane _ r is (put_cases (Each KeepsOther) s lane body (written_apart (same_or_apart body.name other))
          (record { plain = refl; faulted = refl; unsynced = tt }) (record { plain = refl; faulted = refl; unsynced = tt }))) e

-- ---- publications

-- the one state has the publications of the other, and perhaps more
abbrev pub Grows : State → State → Type 0
Grows s t = (more : List Publication) × (t.publications ≡ s.publications ++ more)

module _ (name_of : List ℕ → List ℕ) (s : State) (lane : ℕ) where
  stays : Grows s s
  stays = ([], sym (append-nil s.publications))

  pushed : (p : Publication) → (more : List Publication) × (s.publications ++ p ∷ [] ≡ s.publications ++ more)
  pushed p = (p ∷ [], refl)

  abbrev Grown : Row → Type 0
  Grown = Each (Grows s)

  load-grows : (name : List ℕ) (purpose : Purpose) → Grown (calls.load s name purpose)
  load-grows name purposes.Import = record { plain = stays; faulted = stays; unsynced = tt }
  load-grows name purposes.Ask = record { plain = stays; faulted = stays; unsynced = tt }

  collected-grows : (names : List (List ℕ)) → Grows s (collect_first s names).state
  collected-grows [] = stays
  collected-grows (name ∷ names) = stays

  grows : (given : Given) (r : Row) → row name_of s lane given ≡ Some r → Grown r
  grows (Lease names) r e = some_row Grown s lane _ r e (record { plain = stays; faulted = tt; unsynced = tt })
  grows (Put body) r e = some_row Grown s lane _ r e (put_cases Grown s lane body
      (record { plain = stays; faulted = stays; unsynced = tt }) (record { plain = stays; faulted = stays; unsynced = tt }) (record { plain = stays; faulted = stays; unsynced = tt }))
  grows (Stage unit) r e = some_row Grown s lane _ r e (record { plain = stays; faulted = stays; unsynced = tt })
  grows Publish r e = publish_cases Grown s lane (λ name unit. record { plain = pushed _; faulted = stays; unsynced = pushed _ }) (record { plain = stays; faulted = tt; unsynced = tt }) name_of r e
  grows (Remove output) r e = some_row Grown s lane _ r e (remove_cases Grown s lane (record { plain = stays; faulted = tt; unsynced = tt })
      (λ name. record { plain = pushed _; faulted = stays; unsynced = pushed _ }) output)
  grows Scan r e = some_row Grown s lane _ r e (record { plain = stays; faulted = stays; unsynced = tt })
  grows (Load name purpose) r e = some_row Grown s lane _ r e (load-grows name purpose)
  grows Install r e = install_cases Grown s lane (λ i is. record { plain = stays; faulted = tt; unsynced = tt }) r e
  grows Adopt r e = some_row Grown s lane _ r e (record { plain = stays; faulted = tt; unsynced = tt })
  grows Release r e = some_row Grown s lane _ r e (record { plain = stays; faulted = tt; unsynced = tt })
  grows Collect r e = some_row Grown s lane _ r e (record { plain = collected-grows (loose s); faulted = stays; unsynced = tt })

pub led-grows : (name_of : List ℕ → List ℕ) (turns : List Turn) (s end : State) → Leads name_of s turns end → Grows s end
led-grows name_of [] s end leads = subst (Grows s) leads ([], sym (append-nil s.publications))
led-grows name_of (turn ∷ turns) s end leads =
    let first : Grows s leads.0.state = each_stepped (Grows s) name_of s turn.lane turn.given turn.flag leads.0 (grows name_of s turn.lane turn.given) leads.1.taken in
    let rest : Grows leads.0.state end = led-grows name_of turns leads.0.state end leads.2 in
    (first.0 ++ rest.0, rest.1 ∙ (ap (λ (ps : List Publication). ps ++ rest.0) first.1 ∙ append_assoc s.publications first.0 rest.0))
