-- What is remembered after a batch is what tables of the later units remember.
use Rattle.std.proofs.Common.{◌≡◌, ◌↔◌, ℕ, ◌+◌, ◌<◌, ◌⊎◌, inl, inr, Bool, true, false, cond, ◌||◌, List, [], ◌∷◌, ◌++◌, map, fold, Option, Some, None, refl, sym, ap, subst, ◌∙◌, arith}
use Rattle.std.specs.declared.cmp.Ordering.TheVariants.{Less}
use Rattle.std.specs.Ordering.{is_eq}
use Rattle.std.specs.List.{count_by, list_any, AllByRecursion}
use Rattle.std.specs.List.Sorted.{IsStrictlySortedBy}
use Rattle.std.specs.Map.{lookup, keys_of}
use Rattle.std.specs.BTreeMap.{is_at}
use Rattle.std.specs.Option.{option_map}
use Rattle.std.specs.Str.{bytes_eq}
use Rattle.std.proofs.lemmas.List.Sums.{sum_by-cons}
use Rattle.ix_types.specs.Row.{text_cmp}
use Rattle.ix_record.specs.declared.value.RecordValue.{RecordValue}
use Rattle.ix_unit.specs.declared.value.RecordDep.{RecordDep}
use Rattle.ix_unit.specs.declared.value.UnitValue.{UnitValue}
use Rattle.ix_unit.specs.declared.batch.UnitPut.{UnitPut}
use Rattle.ix_model.specs.declared.publication.StoredUnit.{StoredUnit}
use Rattle.ix_model.specs.Units.{Units, NamesRise}
use Rattle.ix_answers.specs.Batches.{unit_of, LeadsTo, HaveOneValue}
use Rattle.ix_answers.specs.Meanings.{IsRecord}
use Rattle.ix_pages.specs.Pairs.{IsRising, look_up, with_pair, without_key}
use Rattle.ix_outline.specs.declared.outline.Outline.{Outline}
use Rattle.ix_outline.specs.Balance.{Balances}
use Rattle.ix_outline.specs.Outline.{outline_of}
use Rattle.ix_outline.specs.Known.{Known, bare, Lists, AreTables}
use Rattle.ix_outline.specs.Moving.{Named, Moving, unmoved, moved_out, with_put, units_moved, record_names, lists_name, touched, come, stay_or_come, settled, outlines_moved}
use Rattle.ix_outline.specs.Following.{Follows, known_after}
use Rattle.ix_outline.proofs.Keyed.{same_or_apart, look_up_here, look_up_there, gone_here, gone_there, rising_with, rising_without, same_map}
use Rattle.ix_outline.proofs.Balancing.{units-move, balance_of_facts}
use Rattle.ix_outline.proofs.Members.{Has, has, contains, append-left, append-right, map-in, map-out, flat_map-in, flat_map-out, same, equal}
use Rattle.ix_outline.proofs.Recorded.{value-of-listed, listed-of-record}

-- ---- units by name

module _ (name : List ℕ) (target : Option UnitValue) where
  placed-at : (puts : List UnitPut) (m : Moving UnitValue) → ((put : UnitPut) → Has puts put → put.name ≡ name → Some put.unit.value ≡ target)
      → (((put : UnitPut) → Has puts put → put.name ≡ name → ⊥) → look_up text_cmp m.entries name ≡ target) → look_up text_cmp (fold with_put m puts).entries name ≡ target
  placed-at [] m come stay = stay (λ put h e. h)
  placed-at (p ∷ ps) m come stay = placed-at ps (with_put m p) (λ put h e. come put (inr h) e) (λ none. cases none (same_or_apart p.name name))
    where
      cases : ((put : UnitPut) → Has ps put → put.name ≡ name → ⊥) → (p.name ≡ name) ⊎ ((is_eq (text_cmp name p.name) ≡ false) × (bytes_eq p.name name ≡ false))
          → look_up text_cmp (with_pair text_cmp m.entries (p.name, p.unit.value)) name ≡ target
      cases none (inl is) =
          subst (λ (z : List ℕ). look_up text_cmp (with_pair text_cmp m.entries (p.name, p.unit.value)) z ≡ target) is
          (look_up_here p.name p.unit.value m.entries ∙ come p (inl refl) is)
      cases none (inr ne) = look_up_there p.name p.unit.value name ne.0 m.entries ∙ stay not_put
        where
          not_put : (put : UnitPut) → (p ≡ put) ⊎ Has ps put → put.name ≡ name → ⊥
          not_put put (inl e) f =
              let yes : bytes_eq p.name name ≡ true = equal p.name name (ap (λ (q : UnitPut). q.name) e ∙ f) in
              let missing : bytes_eq p.name name ≡ false = ne.1 in
              cc
          not_put put (inr h) f = none put h f

  removed-at : (gone : List (List ℕ)) (m : Moving UnitValue) → IsRising text_cmp m.entries → (Has gone name → None ≡ target)
      → ((Has gone name → ⊥) → look_up text_cmp m.entries name ≡ target) → look_up text_cmp (fold moved_out m gone).entries name ≡ target
  removed-at [] m rises go stay = stay (λ h. h)
  removed-at (g ∷ gs) m rises go stay = removed-at gs (moved_out m g) (rising_without g m.entries rises) (λ h. go (inr h)) (λ missing. cases missing (same_or_apart g name))
    where
      cases : (Has gs name → ⊥) → (g ≡ name) ⊎ ((is_eq (text_cmp name g) ≡ false) × (bytes_eq g name ≡ false)) → look_up text_cmp (without_key text_cmp m.entries g) name ≡ target
      cases missing (inl is) = subst (λ (z : List ℕ). look_up text_cmp (without_key text_cmp m.entries g) z ≡ None) is (gone_here g m.entries rises) ∙ go (inl is)
      cases missing (inr ne) = gone_there g name ne.0 m.entries ∙ stay not_gone
        where
          not_gone : (g ≡ name) ⊎ Has gs name → ⊥
          not_gone (inl e) =
              let yes : bytes_eq g name ≡ true = equal g name e in
              let missing : bytes_eq g name ≡ false = ne.1 in
              cc
          not_gone (inr h) = missing h

puts-rise : (puts : List UnitPut) (m : Moving UnitValue) → IsRising text_cmp m.entries → IsRising text_cmp (fold with_put m puts).entries
puts-rise [] m rises = rises
puts-rise (p ∷ ps) m rises = puts-rise ps (with_put m p) (rising_with p.name p.unit.value m.entries rises)

bare-all : (k : List ℕ) (units : Units) → AllByRecursion (λ z. text_cmp k z ≡ Less) (keys_of units) → AllByRecursion (λ later. text_cmp k later.0 ≡ Less) (map bare units)
bare-all k [] a = tt
bare-all k (e ∷ es) a = (a.0, bare-all k es a.1)

bare-rises : (units : Units) → NamesRise units → IsRising text_cmp (map bare units)
unfolding IsStrictlySortedBy
bare-rises [] rises = tt
bare-rises (e ∷ es) rises = (bare-all e.0 es rises.0, bare-rises es rises.1)

pub bare-at : (units : Units) (name : List ℕ) → look_up text_cmp (map bare units) name ≡ unit_of name units
bare-at [] name = refl
bare-at (e ∷ es) name =
    let rest = bare-at es name in
    elim (is_eq (text_cmp name e.0)) as (λ b. cond b (Some e.1.unit) (look_up text_cmp (map bare es) name) ≡ option_map (λ (s : StoredUnit). s.unit) (cond b (Some e.1) (lookup (is_at (text_cmp name)) es))) [
      | true ↦ refl
      | false ↦ rest
    ]

-- the units that a batch leads to
pub units-after : (puts : List UnitPut) (gone : List (List ℕ)) (units later : Units) → LeadsTo puts gone units later → NamesRise later → IsRising text_cmp (map bare units)
    → (units_moved puts gone (map bare units)).entries ≡ map bare later
unfolding units_moved
units-after puts gone units later leads rises rising =
    same_map (fold moved_out (fold with_put (unmoved (map bare units)) puts) gone).entries (map bare later) (units-move puts gone (map bare units) rising).rises (bare-rises later rises)
    (λ name.
    removed-at name (unit_of name later) gone (fold with_put (unmoved (map bare units)) puts) (puts-rise puts (unmoved (map bare units)) rising)
    (λ h. sym (leads.go name (contains gone name h)))
    (λ not_gone. placed-at name (unit_of name later) puts (unmoved (map bare units))
    (λ put h e. sym (subst (λ (z : List ℕ). unit_of z later ≡ Some put.unit.value) e (leads.come put (contains puts put h))))
    (λ not_put. bare-at units name ∙ sym (leads.stay name (record { not_put = λ put k e. not_put put (has puts put k) e; not_gone = λ k. not_gone (has gone name k) }))))
    ∙ sym (bare-at later name))

-- ---- listed names

names_of_entry : List ℕ × UnitValue → List (List ℕ)
names_of_entry entry = map (λ dep. dep.name) entry.1.records

pub lists-has : (units : Named UnitValue) (name : List ℕ) → Lists units name → Has (record_names units) name
lists-has units name l =
    flat_map-in (λ (entry : List ℕ × UnitValue). map (λ (dep : RecordDep). dep.name) entry.1.records) units l.entry name (has units l.entry l.of_units)
    (map-in (λ (dep : RecordDep). dep.name) l.entry.1.records l.dep name (has l.entry.1.records l.dep l.lists) l.has_name)

pub has-lists : (units : Named UnitValue) (name : List ℕ) → Has (record_names units) name → Lists units name
has-lists units name h =
    let r = flat_map-out (λ (entry : List ℕ × UnitValue). map (λ (dep : RecordDep). dep.name) entry.1.records) units name h in
    let m = map-out (λ (dep : RecordDep). dep.name) r.0.1.records name r.2 in
    record { entry = r.0; of_units = contains units r.0 r.1; dep = m.0; lists = contains r.0.1.records m.0 m.1; has_name = m.2 }

-- how often a name stands among some
abbrev standing_in : List ℕ → List (List ℕ) → ℕ
standing_in name names = count_by (λ other. bytes_eq other name) names

counted : (name : List ℕ) (names : List (List ℕ)) → Has names name → 0 < standing_in name names
counted name [] h = absurd h
counted name (n ∷ ns) (inl e) =
    let one : standing_in name (n ∷ ns) ≡ cond (bytes_eq n name) 1 0 + standing_in name ns = sum_by-cons (λ (other : List ℕ). cond (bytes_eq other name) 1 0) n ns in
    let here : ◌≡◌ {A = ℕ} (cond (bytes_eq n name) 1 0) 1 = ap (λ b. cond {A = ℕ} b 1 0) (equal n name e) in
    omega arith
counted name (n ∷ ns) (inr h) =
    let one : standing_in name (n ∷ ns) ≡ cond (bytes_eq n name) 1 0 + standing_in name ns = sum_by-cons (λ (other : List ℕ). cond (bytes_eq other name) 1 0) n ns in
    let rest = counted name ns h in
    omega arith

pub any-in : (names : List (List ℕ)) (name : List ℕ) → Has names name → list_any (λ other. bytes_eq other name) names ≡ true
any-in [] name h = absurd h
any-in (n ∷ ns) name (inl e) = let passes : bytes_eq n name ≡ true = equal n name e in grind (arith, passes)
any-in (n ∷ ns) name (inr h) =
    let rest : list_any (λ other. bytes_eq other name) ns ≡ true = any-in ns name h in
    elim (bytes_eq n name) as (λ b. (b || list_any (λ other. bytes_eq other name) ns) ≡ true) [ true ↦ refl | false ↦ rest ]

pub any-out : (names : List (List ℕ)) (name : List ℕ) → list_any (λ other. bytes_eq other name) names ≡ true → Has names name
any-out [] name e = absurd (cc)
any-out (n ∷ ns) name e =
    (elim (bytes_eq n name) as (λ b. bytes_eq n name ≡ b → (b || list_any (λ other. bytes_eq other name) ns) ≡ true → (n ≡ name) ⊎ Has ns name) [
      | true ↦ λ f g. inl (same n name f)
      | false ↦ λ f g. inr (any-out ns name g)
    ]) refl e

pub has-or-not : (names : List (List ℕ)) (name : List ℕ) → Has names name ⊎ (Has names name → ⊥)
has-or-not [] name = inr (λ h. h)
has-or-not (n ∷ ns) name = cases (same_or_apart n name) (has-or-not ns name)
  where
    cases : (n ≡ name) ⊎ ((is_eq (text_cmp name n) ≡ false) × (bytes_eq n name ≡ false)) → Has ns name ⊎ (Has ns name → ⊥) → Has (n ∷ ns) name ⊎ (Has (n ∷ ns) name → ⊥)
    cases (inl e) rest = inl (inl e)
    cases (inr ne) (inl h) = inl (inr h)
    cases (inr ne) (inr missing) = inr neither
      where
        neither : (n ≡ name) ⊎ Has ns name → ⊥
        neither (inl e) =
            let yes : bytes_eq n name ≡ true = equal n name e in
            let apart : bytes_eq n name ≡ false = ne.1 in
            cc
        neither (inr h) = missing h

uncounted : (name : List ℕ) (names : List (List ℕ)) → (Has names name → ⊥) → standing_in name names ≡ 0
uncounted name [] missing = refl
uncounted name (n ∷ ns) missing = cases (uncounted name ns (λ h. missing (inr h))) (same_or_apart n name)
  where
    cases : standing_in name ns ≡ 0 → (n ≡ name) ⊎ ((is_eq (text_cmp name n) ≡ false) × (bytes_eq n name ≡ false)) → standing_in name (n ∷ ns) ≡ 0
    cases rest (inl e) = absurd (missing (inl e))
    cases rest (inr ne) =
        let one : standing_in name (n ∷ ns) ≡ cond (bytes_eq n name) 1 0 + standing_in name ns = sum_by-cons (λ (other : List ℕ). cond (bytes_eq other name) 1 0) n ns in
        let here : ◌≡◌ {A = ℕ} (cond (bytes_eq n name) 1 0) 0 = ap (λ b. cond {A = ℕ} b 1 0) ne.1 in
        omega arith

positive-has : (name : List ℕ) (names : List (List ℕ)) → 0 < standing_in name names → Has names name
positive-has name names some = cases (has-or-not names name)
  where
    cases : Has names name ⊎ (Has names name → ⊥) → Has names name
    cases (inl h) = h
    cases (inr missing) = let none = uncounted name names missing in absurd (omega arith)

-- a name that no unit that came or went lists is listed afterwards where it was before
module _ (before after gained lost : Named UnitValue) (balance : Balances before after gained lost) (name : List ℕ) (missing : Has (record_names gained ++ record_names lost) name → ⊥) where
  as_often : standing_in name (record_names after) ≡ standing_in name (record_names before)
  as_often =
      let names = balance_of_facts (λ (entry : List ℕ × UnitValue). map (λ (dep : RecordDep). dep.name) entry.1.records) before after gained lost balance in
      let e = names.each (λ (other : List ℕ). cond (bytes_eq other name) 1 0) in
      let g = uncounted name (record_names gained) (λ h. missing (append-left (record_names gained) (record_names lost) name h)) in
      let l = uncounted name (record_names lost) (λ h. missing (append-right (record_names gained) (record_names lost) name h)) in
      omega arith

  still : Lists after name → Lists before name
  still l =
      let some = counted name (record_names after) (lists-has after name l) in
      let same = as_often in
      has-lists before name (positive-has name (record_names before) (omega arith))

  already : Lists before name → Lists after name
  already l =
      let some = counted name (record_names before) (lists-has before name l) in
      let same = as_often in
      has-lists after name (positive-has name (record_names after) (omega arith))

-- ---- outlines by name

abbrev or_else : Option Outline → Option Outline → Option Outline
or_else None other = other
or_else (Some outline) other = Some outline

module _ (listed : List ℕ → Bool) (bodies : Named Outline) where
  -- what stands under a settled name
  abbrev choice : Named Outline → List ℕ → Option Outline
  choice outlines name = cond (listed name) (or_else (look_up text_cmp outlines name) (look_up text_cmp bodies name)) None

  settled-here : (m : Moving Outline) (name : List ℕ) → IsRising text_cmp m.entries → look_up text_cmp (settled listed bodies m name).entries name ≡ choice m.entries name
  settled-here m name rises =
      elim (listed name) as (λ b. look_up text_cmp (cond b (stay_or_come m name (look_up text_cmp m.entries name) (look_up text_cmp bodies name)) (moved_out m name)).entries name ≡ cond b (or_else (look_up text_cmp m.entries name) (look_up text_cmp bodies name)) None) [
        | true ↦ stands (look_up text_cmp m.entries name) refl
        | false ↦ gone_here name m.entries rises
      ]
    where
      comes : look_up text_cmp m.entries name ≡ None → (body : Option Outline) → look_up text_cmp (come m name body).entries name ≡ body
      comes none None = none
      comes none (Some outline) = look_up_here name outline m.entries

      stands : (here : Option Outline) → look_up text_cmp m.entries name ≡ here → look_up text_cmp (stay_or_come m name here (look_up text_cmp bodies name)).entries name ≡ or_else here (look_up text_cmp bodies name)
      stands None e = comes e (look_up text_cmp bodies name)
      stands (Some outline) e = e

  settled-there : (m : Moving Outline) (name other : List ℕ) → is_eq (text_cmp other name) ≡ false → look_up text_cmp (settled listed bodies m name).entries other ≡ look_up text_cmp m.entries other
  settled-there m name other ne =
      elim (listed name) as (λ b. look_up text_cmp (cond b (stay_or_come m name (look_up text_cmp m.entries name) (look_up text_cmp bodies name)) (moved_out m name)).entries other ≡ look_up text_cmp m.entries other) [
        | true ↦ stands (look_up text_cmp m.entries name)
        | false ↦ gone_there name other ne m.entries
      ]
    where
      comes : (body : Option Outline) → look_up text_cmp (come m name body).entries other ≡ look_up text_cmp m.entries other
      comes None = refl
      comes (Some outline) = look_up_there name outline other ne m.entries

      stands : (here : Option Outline) → look_up text_cmp (stay_or_come m name here (look_up text_cmp bodies name)).entries other ≡ look_up text_cmp m.entries other
      stands None = comes (look_up text_cmp bodies name)
      stands (Some outline) = refl

  again : (a b : Option Outline) → or_else (or_else a b) b ≡ or_else a b
  again None None = refl
  again None (Some outline) = refl
  again (Some outline) b = refl

  -- to settle a name twice is to settle it once
  choice-again : (outlines : Named Outline) (after : Named Outline) (name : List ℕ) → look_up text_cmp after name ≡ choice outlines name → choice after name ≡ choice outlines name
  choice-again outlines after name is =
      ap (λ (o : Option Outline). cond (listed name) (or_else o (look_up text_cmp bodies name)) None) is
      ∙ (elim (listed name) as (λ b. cond b (or_else (cond b (or_else (look_up text_cmp outlines name) (look_up text_cmp bodies name)) None) (look_up text_cmp bodies name)) None ≡ cond b (or_else (look_up text_cmp outlines name) (look_up text_cmp bodies name)) None) [
        | true ↦ again (look_up text_cmp outlines name) (look_up text_cmp bodies name)
        | false ↦ refl
      ])

  settled-rises : (m : Moving Outline) (name : List ℕ) → IsRising text_cmp m.entries → IsRising text_cmp (settled listed bodies m name).entries
  settled-rises m name rises =
      elim (listed name) as (λ b. IsRising text_cmp (cond b (stay_or_come m name (look_up text_cmp m.entries name) (look_up text_cmp bodies name)) (moved_out m name)).entries) [
        | true ↦ stands (look_up text_cmp m.entries name)
        | false ↦ rising_without name m.entries rises
      ]
    where
      comes : (body : Option Outline) → IsRising text_cmp (come m name body).entries
      comes None = rises
      comes (Some outline) = rising_with name outline m.entries rises

      stands : (here : Option Outline) → IsRising text_cmp (stay_or_come m name here (look_up text_cmp bodies name)).entries
      stands None = comes (look_up text_cmp bodies name)
      stands (Some outline) = rises

  module _ (name : List ℕ) (target : Option Outline) where
    settle-at : (names : List (List ℕ)) (m : Moving Outline) → IsRising text_cmp m.entries → (Has names name → choice m.entries name ≡ target)
        → ((Has names name → ⊥) → look_up text_cmp m.entries name ≡ target) → look_up text_cmp (fold (settled listed bodies) m names).entries name ≡ target
    settle-at [] m rises inside outside = outside (λ h. h)
    settle-at (n ∷ ns) m rises inside outside =
        cases (λ within without. settle-at ns (settled listed bodies m n) (settled-rises m n rises) within without) (same_or_apart n name)
      where
        cases : ((Has ns name → choice (settled listed bodies m n).entries name ≡ target) → ((Has ns name → ⊥) → look_up text_cmp (settled listed bodies m n).entries name ≡ target) → look_up text_cmp (fold (settled listed bodies) (settled listed bodies m n) ns).entries name ≡ target)
            → (n ≡ name) ⊎ ((is_eq (text_cmp name n) ≡ false) × (bytes_eq n name ≡ false)) → look_up text_cmp (fold (settled listed bodies) (settled listed bodies m n) ns).entries name ≡ target
        cases on (inl is) =
            let here : look_up text_cmp (settled listed bodies m n).entries name ≡ choice m.entries name = subst (λ (z : List ℕ). look_up text_cmp (settled listed bodies m n).entries z ≡ choice m.entries z) is (settled-here m n rises) in
            on
            (λ h. choice-again m.entries (settled listed bodies m n).entries name here ∙ inside (inl is))
            (λ missing. here ∙ inside (inl is))
        cases on (inr ne) =
            let there : look_up text_cmp (settled listed bodies m n).entries name ≡ look_up text_cmp m.entries name = settled-there m n name ne.0 in
            on
            (λ h. ap (λ (o : Option Outline). cond (listed name) (or_else o (look_up text_cmp bodies name)) None) there ∙ inside (inr h))
            (λ missing. there ∙ outside (not_there missing))
          where
            not_there : (Has ns name → ⊥) → (n ≡ name) ⊎ Has ns name → ⊥
            not_there missing (inl e) =
                let yes : bytes_eq n name ≡ true = equal n name e in
                let apart : bytes_eq n name ≡ false = ne.1 in
                cc
            not_there missing (inr h) = missing h

-- ---- the tables after a batch

-- of the laws below: a record that two maps list has one value
abbrev pub Stays : Type 0
Stays = (before after : Units) (first second : RecordDep) (value other : RecordValue) → HaveOneValue before after → IsRecord before first value
    → IsRecord after second other → first.name ≡ second.name → value ≡ other

module _ (stays : Stays) (puts : List UnitPut) (gone : List (List ℕ)) (bodies : Named Outline) (units later : Units) (known : Known)
    (are : AreTables units known) (follows : Follows puts gone bodies units later) (unit_names : IsRising text_cmp known.units) (outline_names : IsRising text_cmp known.outlines) where
  abbrev moved : Moving UnitValue
  moved = units_moved puts gone known.units

  abbrev listed : List ℕ → Bool
  listed = lists_name moved.entries

  tells : (name : List ℕ) → (listed name ≡ true) ↔ Lists moved.entries name
  tells name = (
    λ e. has-lists moved.entries name (any-out (record_names moved.entries) name e),
    λ l. any-in (record_names moved.entries) name (lists-has moved.entries name l),
  )

  abbrev now_outlined : Named Outline
  now_outlined = (outlines_moved listed bodies (touched moved) known.outlines).entries

  units-then : moved.entries ≡ map bare later
  units-then =
      ap (λ (us : Named UnitValue). (units_moved puts gone us).entries) are.units_are
      ∙ units-after puts gone units later follows.leads follows.rises (subst (λ (us : Named UnitValue). IsRising text_cmp us) are.units_are unit_names)

  balance : Balances known.units moved.entries moved.gained moved.lost
  balance = (units-move puts gone known.units unit_names).balances

  -- a record of the later units that was known before has its outline there
  known-before : (dep : RecordDep) (value : RecordValue) → IsRecord later dep value → Lists known.units dep.name → look_up text_cmp known.outlines dep.name ≡ Some (outline_of value)
  known-before dep value r l =
      let v = value-of-listed units are.whole dep.name (subst (λ (us : Named UnitValue). Lists us dep.name) are.units_are l) in
      let same : v.value ≡ value = stays units later v.dep dep v.value value follows.one v.of_units r v.has_name in
      ap (look_up text_cmp known.outlines) (sym v.has_name) ∙ (are.kept v.dep v.value v.of_units ∙ ap (λ (x : RecordValue). Some (outline_of x)) same)

  listed-then : (dep : RecordDep) (value : RecordValue) → IsRecord later dep value → Lists moved.entries dep.name
  listed-then dep value r = subst (λ (us : Named UnitValue). Lists us dep.name) (sym units-then) (listed-of-record later dep value r)

  chosen : (dep : RecordDep) (value : RecordValue) → IsRecord later dep value → (here : Option Outline) → look_up text_cmp known.outlines dep.name ≡ here
      → or_else here (look_up text_cmp bodies dep.name) ≡ Some (outline_of value)
  chosen dep value r None e = follows.at_hand dep value r not_before
    where
      not_before : Lists (map bare units) dep.name → ⊥
      not_before l =
          let some = known-before dep value r (subst (λ (us : Named UnitValue). Lists us dep.name) (sym are.units_are) l) in
          let wrong : None ≡ Some (outline_of value) = sym e ∙ some in
          cc
  chosen dep value r (Some outline) e = sym e ∙ known-before dep value r (are.only dep.name outline e)

  kept-then : (dep : RecordDep) (value : RecordValue) → IsRecord later dep value → look_up text_cmp now_outlined dep.name ≡ Some (outline_of value)
  unfolding outlines_moved
  kept-then dep value r =
      settle-at listed bodies dep.name (Some (outline_of value)) (touched moved) (unmoved known.outlines) outline_names
      (λ h. ap (λ b. cond b (or_else (look_up text_cmp known.outlines dep.name) (look_up text_cmp bodies dep.name)) None) ((tells dep.name).1 (listed-then dep value r)) ∙ chosen dep value r (look_up text_cmp known.outlines dep.name) refl)
      (λ missing. known-before dep value r (still known.units moved.entries moved.gained moved.lost balance dep.name missing (listed-then dep value r)))

  listed-true : (b : Bool) (o : Option Outline) (outline : Outline) → cond b o None ≡ Some outline → b ≡ true
  listed-true true o outline e = refl
  listed-true false o outline e = absurd (cc)

  only-then : (name : List ℕ) (outline : Outline) → look_up text_cmp now_outlined name ≡ Some outline → Lists moved.entries name
  unfolding outlines_moved
  only-then name outline e = cases (has-or-not (touched moved) name)
    where
      cases : Has (touched moved) name ⊎ (Has (touched moved) name → ⊥) → Lists moved.entries name
      cases (inl h) =
          let is : look_up text_cmp (fold (settled listed bodies) (unmoved known.outlines) (touched moved)).entries name ≡ choice listed bodies known.outlines name =
          settle-at listed bodies name (choice listed bodies known.outlines name) (touched moved) (unmoved known.outlines) outline_names (λ k. refl) (λ missing. absurd (missing h)) in
          (tells name).0 (listed-true (listed name) (or_else (look_up text_cmp known.outlines name) (look_up text_cmp bodies name)) outline (sym is ∙ e))
      cases (inr missing) =
          let is : look_up text_cmp (fold (settled listed bodies) (unmoved known.outlines) (touched moved)).entries name ≡ look_up text_cmp known.outlines name =
          settle-at listed bodies name (look_up text_cmp known.outlines name) (touched moved) (unmoved known.outlines) outline_names (λ h. absurd (missing h)) (λ k. refl) in
          already known.units moved.entries moved.gained moved.lost balance name missing (are.only name outline (sym is ∙ e))

  pub tables-after : AreTables later (known_after puts gone bodies known)
  tables-after = record { units_are = units-then; whole = follows.whole; kept = kept-then; only = only-then }
