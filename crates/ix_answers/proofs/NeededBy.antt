-- What needs contain.
use Rattle.std.proofs.Common.{◌≡◌, ◌↔◌, ℕ, zero, suc, ◌<◌, ◌≤◌, ◌⊎◌, inl, inr, Bool, List, Contains, refl, sym, ◌∙◌, subst, arith}
use Rattle.std.proofs.lemmas.Bool.{cases_lt}
use Rattle.ix_model.specs.Rows.{rows}
use Rattle.ix_model.specs.Units.{Units}
use Rattle.ix_answers.specs.declared.facts.HeldSymbol.{HeldSymbol}
use Rattle.ix_answers.specs.declared.facts.RelatedSymbol.{RelatedSymbol}
use Rattle.ix_answers.specs.declared.walks.Walk.{Walk}
use Rattle.ix_answers.specs.declared.walks.Walk.TheVariants.{Incoming, Outgoing, Supertypes, Subtypes}
use Rattle.ix_answers.specs.Facts.{held, held_symbol, related_symbols}
use Rattle.ix_answers.specs.Lookups.{is_among, named, coded, holders, related_to}
use Rattle.ix_answers.specs.Pattern.{folded, matches}
use Rattle.ix_answers.specs.Answers.{matched}
use Rattle.ix_answers.specs.Walks.{reached}
use Rattle.ix_answers.specs.Needs.{needs_of, level_needs, walk_needs}
use Rattle.ix_answers.specs.Paths.{IsPath}
use Rattle.ix_answers.specs.Meanings.{Holds, Relates, IsProvider, IsProviderOfOne, IsRelatedToOne, HasText}
use Rattle.ix_answers.specs.NeedsMeaning.{IsNeededByName, IsNeededByCodegen, IsNeededByPattern, MayHaveEdges, IsNeededByWalk}
use Rattle.ix_answers.proofs.Members.{Has, has, contains, append-left, append-right, append-cases, among-in, among-out}
use Rattle.ix_answers.proofs.Selected.{field-in, field-out, held-in, held-out, related-in, related-out, named-those, coded-those}
use Rattle.ix_answers.proofs.Texts.{has_text-in, has_text-out}
use Rattle.ix_answers.proofs.Steps.{levels}

module _ (units : Units) where
  pub holders-those : (usrs : List (List ℕ)) (name : List ℕ) → Contains (holders usrs units) name ↔ IsProviderOfOne units usrs name
  holders-those usrs name = (
    λ c.
        let f = field-out (λ (s : HeldSymbol). s.holder) (λ (s : HeldSymbol). is_among usrs s.usr) (held units) name c in
        let h = held-out units f.0 f.1 in
        record {
          usr = f.0.usr;
          is_one = contains usrs f.0.usr (among-out usrs f.0.usr f.2);
          provides = record { symbol = h.symbol; holds = subst (λ (n : List ℕ). Holds units n h.symbol) f.3 h.holds; of_usr = h.of_usr };
        },
    λ p. field-in (λ (s : HeldSymbol). s.holder) (λ (s : HeldSymbol). is_among usrs s.usr) (held units) name (held_symbol name p.provides.symbol) (held-in units name p.provides.symbol p.provides.holds)
        (among-in usrs p.provides.symbol.usr (subst (λ (u : List ℕ). Has usrs u) (sym p.provides.of_usr) (has usrs p.usr p.is_one))) refl,
  )

  pub related_to-those : (usrs : List (List ℕ)) (name : List ℕ) → Contains (related_to usrs units) name ↔ IsRelatedToOne units usrs name
  related_to-those usrs name = (
    λ c.
        let f = field-out (λ (s : RelatedSymbol). s.holder) (λ (s : RelatedSymbol). is_among usrs s.usr) (related_symbols units) name c in
        let h = related-out units f.0 f.1 in
        record {
          usr = f.0.usr;
          is_one = contains usrs f.0.usr (among-out usrs f.0.usr f.2);
          relates = record { symbol = h.symbol; relates = subst (λ (n : List ℕ). Relates units n h.symbol) f.3 h.relates; of_usr = h.of_usr };
        },
    λ p. field-in (λ (s : RelatedSymbol). s.holder) (λ (s : RelatedSymbol). is_among usrs s.usr) (related_symbols units) name (record { holder = name; usr = p.relates.symbol.usr }) (related-in units name p.relates.symbol p.relates.relates)
        (among-in usrs p.relates.symbol.usr (subst (λ (u : List ℕ). Has usrs u) (sym p.relates.of_usr) (has usrs p.usr p.is_one))) refl,
  )

  pub name-needs : (name record_name : List ℕ) → Contains (holders (named name units) units) record_name ↔ IsNeededByName units name record_name
  name-needs name record_name = (
    λ c. let p = (holders-those (named name units) record_name).0 c in record { usr = p.usr; has_usr = (named-those units name p.usr).0 p.is_one; provides = p.provides },
    λ n. (holders-those (named name units) record_name).1 (record { usr = n.usr; is_one = (named-those units name n.usr).1 n.has_usr; provides = n.provides }),
  )

  pub codegen-needs : (codegen record_name : List ℕ) → Contains (holders (coded codegen units) units) record_name ↔ IsNeededByCodegen units codegen record_name
  codegen-needs codegen record_name = (
    λ c. let p = (holders-those (coded codegen units) record_name).0 c in record { usr = p.usr; has_usr = (coded-those units codegen p.usr).0 p.is_one; provides = p.provides },
    λ n. (holders-those (coded codegen units) record_name).1 (record { usr = n.usr; is_one = (coded-those units codegen n.usr).1 n.has_usr; provides = n.provides }),
  )

  pub pattern-needs : (text : List ℕ) (start end fold : Bool) (record_name : List ℕ) → Contains (holders (matched text start end fold units) units) record_name ↔ IsNeededByPattern units text start end fold record_name
  pattern-needs text start end fold record_name = (
    λ c.
        let p = (holders-those (matched text start end fold units) record_name).0 c in
        let f = field-out (λ (s : HeldSymbol). s.usr) (λ (s : HeldSymbol). matches text start end fold s.name) (held units) p.usr p.is_one in
        let h = held-out units f.0 f.1 in
        record {
          symbol = h.symbol;
          is_symbol = record { holder = f.0.holder; holds = h.holds };
          has_text = subst (λ (n : List ℕ). HasText (folded fold text) start end (folded fold n)) (sym h.of_name) (has_text-out start end (folded fold text) (folded fold f.0.name) f.2);
          provides = subst (λ (u : List ℕ). IsProvider units u record_name) (sym (h.of_usr ∙ f.3)) p.provides;
        },
    λ n. (holders-those (matched text start end fold units) record_name).1 (record {
      usr = n.symbol.usr;
      is_one = field-in (λ (s : HeldSymbol). s.usr) (λ (s : HeldSymbol). matches text start end fold s.name) (held units) n.symbol.usr (held_symbol n.is_symbol.holder n.symbol)
          (held-in units n.is_symbol.holder n.symbol n.is_symbol.holds) (has_text-in start end (folded fold text) (folded fold n.symbol.name) n.has_text) refl;
      provides = n.provides;
    }),
  )

  -- ---- walks

  -- a record that a level needs
  record OfLevel (walk : Walk) (level : List (List ℕ)) (name : List ℕ) : Type 0 where
    usr : List ℕ
    of_level : Contains level usr
    may_have : MayHaveEdges walk units usr name

  level-out : (walk : Walk) (level : List (List ℕ)) (name : List ℕ) → Contains (needs_of walk level units) name → OfLevel walk level name
  level-out Incoming level name c = let p = (holders-those level name).0 c in record { usr = p.usr; of_level = p.is_one; may_have = p.provides }
  level-out Outgoing level name c = let p = (related_to-those level name).0 c in record { usr = p.usr; of_level = p.is_one; may_have = p.relates }
  level-out Supertypes level name c = let p = (related_to-those level name).0 c in record { usr = p.usr; of_level = p.is_one; may_have = p.relates }
  level-out Subtypes level name c = let p = (holders-those level name).0 c in record { usr = p.usr; of_level = p.is_one; may_have = p.provides }

  level-in : (walk : Walk) (level : List (List ℕ)) (name usr : List ℕ) → Contains level usr → MayHaveEdges walk units usr name → Contains (needs_of walk level units) name
  level-in Incoming level name usr c m = (holders-those level name).1 (record { usr = usr; is_one = c; provides = m })
  level-in Outgoing level name usr c m = (related_to-those level name).1 (record { usr = usr; is_one = c; relates = m })
  level-in Supertypes level name usr c m = (related_to-those level name).1 (record { usr = usr; is_one = c; relates = m })
  level-in Subtypes level name usr c m = (holders-those level name).1 (record { usr = usr; is_one = c; provides = m })

  module _ (walk : Walk) (start : List ℕ) where
    abbrev last : ℕ → List (List ℕ)
    last n = (reached walk (rows units) start n).level

    walk-out : (depth : ℕ) (name : List ℕ) → Has (walk_needs walk start units depth) name → IsNeededByWalk walk units start depth name
    walk-out zero name h = absurd h
    walk-out (suc n) name h = by_part (append-cases (walk_needs walk start units n) (level_needs walk start units n) name h) (λ k. walk-out n name k)
      where
        by_part : Has (walk_needs walk start units n) name ⊎ Has (level_needs walk start units n) name → (Has (walk_needs walk start units n) name → IsNeededByWalk walk units start n name) → IsNeededByWalk walk units start (suc n) name
        by_part (inl k) f = let r = f k in record { level = r.level; within = omega (arith, r.within); usr = r.usr; path = r.path; shortest = r.shortest; may_have = r.may_have }
        by_part (inr k) f =
            let o = level-out walk (last n) name (contains (level_needs walk start units n) name k) in
            let l = (levels walk (rows units) start n).level-out o.usr (has (last n) o.usr o.of_level) in
            record { level = n; within = omega arith; usr = o.usr; path = l.0; shortest = λ m b p. l.1 (record { m = m; below = b; path = p }); may_have = o.may_have }

    walk-in : (depth : ℕ) (name : List ℕ) → IsNeededByWalk walk units start depth name → Has (walk_needs walk start units depth) name
    walk-in zero name r = absurd (omega (arith, r.within))
    walk-in (suc n) name r = by_cases (cases_lt r.level n) (λ k. walk-in n name k)
      where
        here : r.level ≡ n → Has (level_needs walk start units n) name
        here q =
            let path : IsPath walk (rows units) start n r.usr = subst (λ (k : ℕ). IsPath walk (rows units) start k r.usr) q r.path in
            let h = (levels walk (rows units) start n).level-in r.usr path (λ w. r.shortest w.m (omega (arith, w.below, q)) w.path) in
            has (level_needs walk start units n) name (level-in walk (last n) name r.usr (contains (last n) r.usr h) r.may_have)

        by_cases : (r.level < n) ⊎ (n ≤ r.level) → (IsNeededByWalk walk units start n name → Has (walk_needs walk start units n) name) → Has (walk_needs walk start units (suc n)) name
        by_cases (inl l) f = append-left (walk_needs walk start units n) (level_needs walk start units n) name (f (record { level = r.level; within = l; usr = r.usr; path = r.path; shortest = r.shortest; may_have = r.may_have }))
        by_cases (inr g) f = append-right (walk_needs walk start units n) (level_needs walk start units n) name (here (omega (arith, r.within)))

    pub walk-needs : (depth : ℕ) (name : List ℕ) → Contains (walk_needs walk start units depth) name ↔ IsNeededByWalk walk units start depth name
    walk-needs depth name = (λ c. walk-out depth name (has (walk_needs walk start units depth) name c), λ r. contains (walk_needs walk start units depth) name (walk-in depth name r))
