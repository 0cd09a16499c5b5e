-- The rows that are definitions, from the filters that select them.
use Rattle.std.proofs.Common.{◌≡◌, ◌↔◌, ℕ, zero, suc, not, ◌<◌, ◌⊎◌, inl, inr, Bool, true, false, cond, ◌&&◌, ◌==◌, if◌then◌else◌, List, [], ◌∷◌, length, map, filter, Contains, refl, sym, ap, ◌∙◌, subst, arith, ◌^◌, ◌*◌, bit_and, nat_eq}
use Rattle.std.specs.Int.{bit_at}
use Rattle.std.proofs.lemmas.Nat.{pow_pos}
use Rattle.std.proofs.lemmas.Nat.Bits.{and_pow, bit_at-lt}
use Rattle.std.specs.Str.{bytes_eq}
use Rattle.std.proofs.lemmas.Slice.Eq.{bytes_eq-Decides}
use Rattle.ix_types.specs.Codes.{has_any}
use Rattle.ix_types.specs.declared.code.TheConstants.Roles.{DECLARATION, DEFINITION}
use Rattle.ix_types.specs.Row.{occurrence_cmp}
use Rattle.ix_types.specs.declared.row.OccRow.{OccRow}
use Rattle.ix_types.specs.declared.row.Row.TheVariants.{Occ}
use Rattle.ix_model.specs.Answer.{is_with, rows_with, definitions, definitions_of, IsDefinition, IsDeclaration, HasNoDefinition, IsAmongDefinitions}
use Rattle.ix_model.specs.Rows.{rows}
use Rattle.ix_model.specs.SortedSet.{sorted_set}
use Rattle.ix_model.specs.Units.{Units}
use Rattle.ix_model.proofs.Orders.{occurrence_cmp_total, occurrence_cmp-IsAntisymmetric}
use Rattle.ix_model.proofs.SortedSet.{Has, Has-from_Contains, Contains-from_Has, sorted_set-IsSortedSetOf}

module _ {X : Type 0} (p : X → Bool) where
  filter-out : (xs : List X) (x : X) → Has (filter p xs) x → Has xs x × (p x ≡ true)
  filter-out [] x h = absurd h
  filter-out (y ∷ ys) x h =
      (elim (p y) as (λ b. p y ≡ b → Has (cond b (y ∷ filter p ys) (filter p ys)) x → Has (y ∷ ys) x × (p x ≡ true)) [
        | true ↦ λ e h. first e (filter-out ys x) h
        | false ↦ λ e h. let r = filter-out ys x h in (inr r.0, r.1)
      ]) refl h
    where
      first : p y ≡ true → (Has (filter p ys) x → Has ys x × (p x ≡ true)) → (y ≡ x) ⊎ Has (filter p ys) x → Has (y ∷ ys) x × (p x ≡ true)
      first e f (inl q) = (inl q, ap p (sym q) ∙ e)
      first e f (inr k) = let r = f k in (inr r.0, r.1)

  filter-in : (xs : List X) (x : X) → Has xs x → p x ≡ true → Has (filter p xs) x
  filter-in [] x h t = absurd h
  filter-in (y ∷ ys) x h t =
      (elim (p y) as (λ b. p y ≡ b → Has (cond b (y ∷ filter p ys) (filter p ys)) x) [
        | true ↦ λ e. kept (λ k. filter-in ys x k t) h
        | false ↦ λ e. dropped e (λ k. filter-in ys x k t) h
      ]) refl
    where
      kept : (Has ys x → Has (filter p ys) x) → (y ≡ x) ⊎ Has ys x → (y ≡ x) ⊎ Has (filter p ys) x
      kept f (inl q) = inl q
      kept f (inr k) = inr (f k)

      dropped : p y ≡ false → (Has ys x → Has (filter p ys) x) → (y ≡ x) ⊎ Has ys x → Has (filter p ys) x
      dropped e f (inl q) = let passes : p y ≡ true = ap p q ∙ t in absurd (cc)
      dropped e f (inr k) = f k

nonzero : (n : ℕ) → (suc n == 0) ≡ false
nonzero n = grind arith

-- the second list stands in for the first where that is empty
module _ {X : Type 0} where
  chosen-out : (first second : List X) (x : X) → Has (if length first == 0 then second else first) x → Has first x ⊎ (((y : X) → Has first y → ⊥) × Has second x)
  chosen-out [] second x h = inr (λ y k. k, h)
  chosen-out (z ∷ zs) second x h = inl (subst (λ b. Has (cond b second (z ∷ zs)) x) (nonzero (length zs)) h)

  chosen-in : (first second : List X) (x : X) → Has first x ⊎ (((y : X) → Has first y → ⊥) × Has second x) → Has (if length first == 0 then second else first) x
  chosen-in [] second x (inl h) = absurd h
  chosen-in [] second x (inr h) = h.1
  chosen-in (z ∷ zs) second x (inl h) = subst (λ b. Has (cond b second (z ∷ zs)) x) (sym (nonzero (length zs))) h
  chosen-in (z ∷ zs) second x (inr h) = absurd (h.0 z (inl refl))

both-true : (a b : Bool) → (a && b) ≡ true → (a ≡ true) × (b ≡ true)
both-true true b e = (refl, e)
both-true false b e = absurd (cc)

true-both : (a b : Bool) → a ≡ true → b ≡ true → (a && b) ≡ true
true-both true b e f = f
true-both false b e f = absurd (cc)

-- a mask of one bit
of_bit : (bit power : ℕ) → bit < 2 → 0 < power → (not (bit * power == 0) ≡ true) ↔ (bit ≡ 1)
of_bit zero power small some = (λ e. grind (arith, e), λ e. absurd (omega (arith, e)))
of_bit (suc zero) power small some = (λ e. refl, λ e. grind (arith, some))
of_bit (suc (suc bit)) power small some = absurd (omega arith)

has_bit : (roles i : ℕ) → (has_any roles (2 ^ i) ≡ true) ↔ (bit_at roles i ≡ 1)
has_bit roles i = rw (and_pow roles i) (of_bit (bit_at roles i) (2 ^ i) (bit_at-lt roles i) (pow_pos i))

with-out : (usr : List ℕ) (mask : ℕ) (all : List OccRow) (row : OccRow) → Has (rows_with usr mask all) row → Has all row × (row.usr ≡ usr) × (has_any row.roles mask ≡ true)
with-out usr mask all row h =
    let kept = filter-out (is_with usr mask) all row h in
    let parts = both-true (bytes_eq row.usr usr) (has_any row.roles mask) kept.1 in
    (kept.0, (bytes_eq-Decides row.usr usr).0 parts.0, parts.1)

with-in : (usr : List ℕ) (mask : ℕ) (all : List OccRow) (row : OccRow) → Has all row → row.usr ≡ usr → has_any row.roles mask ≡ true → Has (rows_with usr mask all) row
with-in usr mask all row h e t =
    filter-in (is_with usr mask) all row h
    (true-both (bytes_eq row.usr usr) (has_any row.roles mask) ((bytes_eq-Decides row.usr usr).1 e) t)

module _ (usr : List ℕ) (all : List OccRow) where
  definition-out : (row : OccRow) → Has (rows_with usr DEFINITION all) row → Contains all row × IsDefinition usr row
  definition-out row h = let r = with-out usr DEFINITION all row h in (Contains-from_Has all row r.0, record { of_usr = r.1; defines = (has_bit row.roles 1).0 r.2 })

  definition-in : (row : OccRow) → Contains all row → IsDefinition usr row → Has (rows_with usr DEFINITION all) row
  definition-in row c d = with-in usr DEFINITION all row (Has-from_Contains all row c) d.of_usr ((has_bit row.roles 1).1 d.defines)

  declaration-out : (row : OccRow) → Has (rows_with usr DECLARATION all) row → Contains all row × IsDeclaration usr row
  declaration-out row h = let r = with-out usr DECLARATION all row h in (Contains-from_Has all row r.0, record { of_usr = r.1; declares = (has_bit row.roles 0).0 r.2 })

  declaration-in : (row : OccRow) → Contains all row → IsDeclaration usr row → Has (rows_with usr DECLARATION all) row
  declaration-in row c d = with-in usr DECLARATION all row (Has-from_Contains all row c) d.of_usr ((has_bit row.roles 0).1 d.declares)

  out : (row : OccRow) → Has (rows_with usr DEFINITION all) row ⊎ (((y : OccRow) → Has (rows_with usr DEFINITION all) y → ⊥) × Has (rows_with usr DECLARATION all) row) → IsAmongDefinitions usr all row
  out row (inl h) = let d = definition-out row h in (d.0, inl d.1)
  out row (inr h) = let d = declaration-out row h.1 in (d.0, inr (λ other c e. h.0 other (definition-in other c e), d.1))

  into : (row : OccRow) → Contains all row → IsDefinition usr row ⊎ (HasNoDefinition usr all × IsDeclaration usr row) → Has (rows_with usr DEFINITION all) row ⊎ (((y : OccRow) → Has (rows_with usr DEFINITION all) y → ⊥) × Has (rows_with usr DECLARATION all) row)
  into row c (inl d) = inl (definition-in row c d)
  into row c (inr d) = inr (λ other h. let e = definition-out other h in d.0 other e.0 e.1, declaration-in row c d.1)

  pub definitions-among : (row : OccRow) → Contains (definitions usr all) row ↔ IsAmongDefinitions usr all row
  definitions-among row = (
    λ c. out row (chosen-out (rows_with usr DEFINITION all) (rows_with usr DECLARATION all) row (Has-from_Contains (definitions usr all) row c)),
    λ d. Contains-from_Has (definitions usr all) row (chosen-in (rows_with usr DEFINITION all) (rows_with usr DECLARATION all) row (into row d.0 d.1)),
  )

occ-out : (xs : List OccRow) (row : OccRow) → Has (map Occ xs) (Occ row) → Has xs row
occ-out [] row h = absurd h
occ-out (x ∷ xs) row (inl e) = inl (cc)
occ-out (x ∷ xs) row (inr h) = inr (occ-out xs row h)

occ-in : (xs : List OccRow) (row : OccRow) → Has xs row → Has (map Occ xs) (Occ row)
occ-in [] row h = absurd h
occ-in (x ∷ xs) row (inl e) = inl (ap Occ e)
occ-in (x ∷ xs) row (inr h) = inr (occ-in xs row h)

-- an answer has the rows that were selected
Contains-answered : (chosen : List OccRow) (row : OccRow) → Contains (map Occ (sorted_set occurrence_cmp chosen)) (Occ row) ↔ Contains chosen row
Contains-answered chosen row =
    let set = sorted_set occurrence_cmp chosen in
    let same = (sorted_set-IsSortedSetOf occurrence_cmp occurrence_cmp_total occurrence_cmp-IsAntisymmetric chosen).same row in (
      λ c. same.0 (Contains-from_Has set row (occ-out set row (Has-from_Contains (map Occ set) (Occ row) c))),
      λ c. Contains-from_Has (map Occ set) (Occ row) (occ-in set row (Has-from_Contains set row (same.1 c))),
    )

pub answer-among : (usr : List ℕ) (units : Units) (row : OccRow) → Contains (definitions_of usr units) (Occ row) ↔ IsAmongDefinitions usr (rows units) row
answer-among usr units row =
    let answered = Contains-answered (definitions usr (rows units)) row in
    let among = definitions-among usr (rows units) row in
    (λ c. among.0 (answered.0 c), λ d. answered.1 (among.1 d))
