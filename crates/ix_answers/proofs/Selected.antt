-- What look-ups and answers contain, from the filters that select it.
use Rattle.std.proofs.Common.{◌≡◌, ◌↔◌, ℕ, zero, suc, ◌<◌, ◌^◌, ◌*◌, ◌⊎◌, inl, inr, Bool, true, false, ◌&&◌, ◌==◌, not, List, [], ◌∷◌, length, map, filter, Option, Some, None, Contains, refl, sym, ap, ◌∙◌, subst, arith}
use Rattle.std.specs.List.{flat_map, filter_map, slice_get}
use Rattle.std.specs.Option.{option_map}
use Rattle.std.specs.Int.{bit_at}
use Rattle.std.specs.Str.{bytes_eq}
use Rattle.std.proofs.lemmas.Nat.{pow_pos}
use Rattle.std.proofs.lemmas.Nat.Bits.{and_pow, bit_at-lt}
use Rattle.ix_types.specs.Codes.{has_any}
use Rattle.ix_types.specs.Row.{text_cmp}
use Rattle.ix_record.specs.declared.value.Symbol.{Symbol}
use Rattle.ix_record.specs.declared.value.RecordValue.{RecordValue}
use Rattle.ix_unit.specs.declared.value.RecordDep.{RecordDep}
use Rattle.ix_model.specs.declared.publication.StoredUnit.{StoredUnit}
use Rattle.ix_model.specs.SortedSet.{sorted_set}
use Rattle.ix_model.specs.Units.{Units}
use Rattle.ix_model.proofs.Door.{is_sorted_set}
use Rattle.ix_answers.specs.declared.facts.HeldSymbol.{HeldSymbol}
use Rattle.ix_answers.specs.declared.facts.RelatedSymbol.{RelatedSymbol}
use Rattle.ix_answers.specs.declared.facts.ListedPath.{ListedPath}
use Rattle.ix_answers.specs.Facts.{valued, held_symbol, held_in, related_symbol, related_in, listed_path, listed_in, held, related_symbols, record_deps, listed}
use Rattle.ix_answers.specs.Lookups.{is_coded, providers, related, named, names, coded, in_path, paths, listing}
use Rattle.ix_types.specs.declared.row.Query.TheVariants.{Codegen}
use Rattle.ix_answers.specs.Answers.{answer, definitions_of_each, mains}
use Rattle.ix_answers.specs.Meanings.{IsRecord, Holds, Relates, IsProvider, IsRelated, IsNamed, IsName, IsCoded, ListsUnder, ListsPath, IsListing, IsMain}
use Rattle.ix_answers.proofs.Members.{Has, has, contains, append-left, append-right, append-cases, map-in, map-out, flat_map-in, flat_map-out, filter-in, filter-out, filter_map-in, filter_map-out, zip-in, zip-out, both-true, true-both, same, equal}
use Rattle.ix_answers.proofs.Orders.{text_cmp_total, text_cmp-IsAntisymmetric}

-- ---- bits

nonzero : (n : ℕ) → (suc n == 0) ≡ false
nonzero n = grind arith

-- a mask of one bit
of_bit : (bit power : ℕ) → bit < 2 → 0 < power → (not (bit * power == 0) ≡ true) ↔ (bit ≡ 1)
of_bit zero power small some = (λ e. grind (arith, e), λ e. absurd (omega (arith, e)))
of_bit (suc zero) power small some = (λ e. refl, λ e. grind (arith, some))
of_bit (suc (suc bit)) power small some = absurd (omega arith)

pub has_bit : (roles i : ℕ) → (has_any roles (2 ^ i) ≡ true) ↔ (bit_at roles i ≡ 1)
has_bit roles i = rw (and_pow roles i) (of_bit (bit_at roles i) (2 ^ i) (bit_at-lt roles i) (pow_pos i))

-- ---- texts, sorted and without repeats

pub set-out : (texts : List (List ℕ)) (text : List ℕ) → Contains (sorted_set text_cmp texts) text → Has texts text
set-out texts text c = has texts text (((is_sorted_set text_cmp text_cmp_total text_cmp-IsAntisymmetric texts).same text).0 c)

pub set-in : (texts : List (List ℕ)) (text : List ℕ) → Has texts text → Contains (sorted_set text_cmp texts) text
set-in texts text h = ((is_sorted_set text_cmp text_cmp_total text_cmp-IsAntisymmetric texts).same text).1 (contains texts text h)

-- a field of the items that pass a test
module _ {X : Type 0} (field : X → List ℕ) (test : X → Bool) (xs : List X) (text : List ℕ) where
  pub field-out : Contains (sorted_set text_cmp (map field (filter test xs))) text → (x : X) × Has xs x × (test x ≡ true) × (field x ≡ text)
  field-out c =
      let m = map-out field (filter test xs) text (set-out (map field (filter test xs)) text c) in
      let f = filter-out test xs m.0 m.1 in
      (m.0, f.0, f.1, m.2)

  pub field-in : (x : X) → Has xs x → test x ≡ true → field x ≡ text → Contains (sorted_set text_cmp (map field (filter test xs))) text
  field-in x h t e = set-in (map field (filter test xs)) text (map-in field (filter test xs) x text (filter-in test xs x h t) e)

-- ---- facts

module _ (units : Units) where
  -- a record, as a pair of its unit
  record-out : (entry : List ℕ × StoredUnit) (pair : RecordDep × RecordValue) → Has units entry → Has (valued entry.1) pair → IsRecord units pair.0 pair.1
  record-out entry pair h k =
      let z = zip-out entry.1.unit.records entry.1.values pair k in
      record { entry = entry; of_units = contains units entry h; place = z.0; lists = z.1; has_value = z.2 }

  abbrev facts : {X : Type 0} → (List ℕ → RecordValue → List X) → List X
  facts f = flat_map (λ (entry : List ℕ × StoredUnit). flat_map (λ (r : RecordDep × RecordValue). f r.0.name r.1) (valued entry.1)) units

  -- what stands in a record
  record FromRecord {X : Type 0} (f : List ℕ → RecordValue → List X) (x : X) : Type 0 where
    dep : RecordDep
    value : RecordValue
    of_units : IsRecord units dep value
    is_fact : Has (f dep.name value) x

  fact-out : {X : Type 0} (f : List ℕ → RecordValue → List X) (x : X) → Has (facts f) x → FromRecord f x
  fact-out f x h =
      let u = flat_map-out (λ (entry : List ℕ × StoredUnit). flat_map (λ (r : RecordDep × RecordValue). f r.0.name r.1) (valued entry.1)) units x h in
      let r = flat_map-out (λ (r : RecordDep × RecordValue). f r.0.name r.1) (valued u.0.1) x u.2 in
      record { dep = r.0.0; value = r.0.1; of_units = record-out u.0 r.0 u.1 r.1; is_fact = r.2 }

  fact-in : {X : Type 0} (f : List ℕ → RecordValue → List X) (dep : RecordDep) (value : RecordValue) (x : X) → IsRecord units dep value → Has (f dep.name value) x → Has (facts f) x
  fact-in f dep value x i h =
      flat_map-in (λ (entry : List ℕ × StoredUnit). flat_map (λ (r : RecordDep × RecordValue). f r.0.name r.1) (valued entry.1)) units i.entry x (has units i.entry i.of_units)
      (flat_map-in (λ (r : RecordDep × RecordValue). f r.0.name r.1) (valued i.entry.1) (dep, value) x (zip-in i.entry.1.unit.records i.entry.1.values dep value i.place i.lists i.has_value) h)

  -- the symbols that records hold
  pub record IsHeld (x : HeldSymbol) : Type 0 where
    pub symbol : Symbol
    pub holds : Holds units x.holder symbol
    pub of_usr : symbol.usr ≡ x.usr
    pub of_name : symbol.name ≡ x.name
    pub of_codegen : symbol.codegen ≡ x.codegen

  pub held-out : (x : HeldSymbol) → Has (held units) x → IsHeld x
  held-out x h =
      let r = fact-out held_in x h in
      let m = map-out (held_symbol r.dep.name) r.value.symbols x r.is_fact in
      record {
        symbol = m.0;
        holds = record { dep = r.dep; value = r.value; of_units = r.of_units; has_name = ap (λ (y : HeldSymbol). y.holder) m.2; holds = contains r.value.symbols m.0 m.1 };
        of_usr = ap (λ (y : HeldSymbol). y.usr) m.2;
        of_name = ap (λ (y : HeldSymbol). y.name) m.2;
        of_codegen = ap (λ (y : HeldSymbol). y.codegen) m.2;
      }

  pub held-in : (name : List ℕ) (symbol : Symbol) → Holds units name symbol → Has (held units) (held_symbol name symbol)
  held-in name symbol k =
      subst (λ (n : List ℕ). Has (held units) (held_symbol n symbol)) k.has_name
      (fact-in held_in k.dep k.value (held_symbol k.dep.name symbol) k.of_units (map-in (held_symbol k.dep.name) k.value.symbols symbol (held_symbol k.dep.name symbol) (has k.value.symbols symbol k.holds) refl))

  -- the symbols that relations lead to
  pub record IsReachedBy (x : RelatedSymbol) : Type 0 where
    pub symbol : Symbol
    pub relates : Relates units x.holder symbol
    pub of_usr : symbol.usr ≡ x.usr

  some : {X Y : Type 0} (f : X → Y) (o : Option X) (y : Y) → option_map f o ≡ Some y → (x : X) × (o ≡ Some x) × (f x ≡ y)
  some f None y e = absurd (cc)
  some f (Some x) y e = (x, refl, cc)

  pub related-out : (x : RelatedSymbol) → Has (related_symbols units) x → IsReachedBy x
  related-out x h =
      let r = fact-out related_in x h in
      let o = flat_map-out (λ o. filter_map (related_symbol r.dep.name r.value.symbols) o.relations) r.value.occurrences x r.is_fact in
      let l = filter_map-out (related_symbol r.dep.name r.value.symbols) o.0.relations x o.2 in
      let s = some (λ (s : Symbol). let made : RelatedSymbol = record { holder = r.dep.name; usr = s.usr } in made) (slice_get r.value.symbols l.0.symbol) x l.2 in
      record {
        symbol = s.0;
        relates = record {
          dep = r.dep;
          value = r.value;
          of_units = r.of_units;
          has_name = ap (λ (y : RelatedSymbol). y.holder) s.2;
          occurrence = o.0;
          occurs = contains r.value.occurrences o.0 o.1;
          relation = l.0;
          relates = contains o.0.relations l.0 l.1;
          leads = s.1;
        };
        of_usr = ap (λ (y : RelatedSymbol). y.usr) s.2;
      }

  pub related-in : (name : List ℕ) (symbol : Symbol) → Relates units name symbol → Has (related_symbols units) (record { holder = name; usr = symbol.usr })
  related-in name symbol k =
      subst (λ (n : List ℕ). Has (related_symbols units) (record { holder = n; usr = symbol.usr })) k.has_name
      (fact-in related_in k.dep k.value (record { holder = k.dep.name; usr = symbol.usr }) k.of_units
      (flat_map-in (λ o. filter_map (related_symbol k.dep.name k.value.symbols) o.relations) k.value.occurrences k.occurrence (record { holder = k.dep.name; usr = symbol.usr }) (has k.value.occurrences k.occurrence k.occurs)
      (filter_map-in (related_symbol k.dep.name k.value.symbols) k.occurrence.relations k.relation (record { holder = k.dep.name; usr = symbol.usr }) (has k.occurrence.relations k.relation k.relates)
      (ap (option_map (λ (s : Symbol). let made : RelatedSymbol = record { holder = k.dep.name; usr = s.usr } in made)) k.leads))))

  -- ---- look-ups

  pub providers-those : (usr name : List ℕ) → Contains (providers usr units) name ↔ IsProvider units usr name
  providers-those usr name = (
    λ c.
        let f = field-out (λ (s : HeldSymbol). s.holder) (λ (s : HeldSymbol). bytes_eq s.usr usr) (held units) name c in
        let h = held-out f.0 f.1 in
        record { symbol = h.symbol; holds = subst (λ (n : List ℕ). Holds units n h.symbol) f.3 h.holds; of_usr = h.of_usr ∙ same f.0.usr usr f.2 },
    λ p. field-in (λ (s : HeldSymbol). s.holder) (λ (s : HeldSymbol). bytes_eq s.usr usr) (held units) name (held_symbol name p.symbol) (held-in name p.symbol p.holds) (equal p.symbol.usr usr p.of_usr) refl,
  )

  pub related-those : (usr name : List ℕ) → Contains (related usr units) name ↔ IsRelated units usr name
  related-those usr name = (
    λ c.
        let f = field-out (λ (s : RelatedSymbol). s.holder) (λ (s : RelatedSymbol). bytes_eq s.usr usr) (related_symbols units) name c in
        let h = related-out f.0 f.1 in
        record { symbol = h.symbol; relates = subst (λ (n : List ℕ). Relates units n h.symbol) f.3 h.relates; of_usr = h.of_usr ∙ same f.0.usr usr f.2 },
    λ p. field-in (λ (s : RelatedSymbol). s.holder) (λ (s : RelatedSymbol). bytes_eq s.usr usr) (related_symbols units) name (record { holder = name; usr = p.symbol.usr }) (related-in name p.symbol p.relates) (equal p.symbol.usr usr p.of_usr) refl,
  )

  pub named-those : (name usr : List ℕ) → Contains (named name units) usr ↔ IsNamed units name usr
  named-those name usr = (
    λ c.
        let f = field-out (λ (s : HeldSymbol). s.usr) (λ (s : HeldSymbol). bytes_eq s.name name) (held units) usr c in
        let h = held-out f.0 f.1 in
        record { symbol = h.symbol; is_symbol = record { holder = f.0.holder; holds = h.holds }; of_name = h.of_name ∙ same f.0.name name f.2; of_usr = h.of_usr ∙ f.3 },
    λ p. field-in (λ (s : HeldSymbol). s.usr) (λ (s : HeldSymbol). bytes_eq s.name name) (held units) usr (held_symbol p.is_symbol.holder p.symbol) (held-in p.is_symbol.holder p.symbol p.is_symbol.holds) (equal p.symbol.name name p.of_name) p.of_usr,
  )

  pub names-those : (name : List ℕ) → Contains (names units) name ↔ IsName units name
  names-those name = (
    λ c.
        let m = map-out (λ (s : HeldSymbol). s.name) (held units) name (set-out (map (λ (s : HeldSymbol). s.name) (held units)) name c) in
        let h = held-out m.0 m.1 in
        record { symbol = h.symbol; is_symbol = record { holder = m.0.holder; holds = h.holds }; of_name = h.of_name ∙ m.2 },
    λ p. set-in (map (λ (s : HeldSymbol). s.name) (held units)) name (map-in (λ (s : HeldSymbol). s.name) (held units) (held_symbol p.is_symbol.holder p.symbol) name (held-in p.is_symbol.holder p.symbol p.is_symbol.holds) p.of_name),
  )

  some_byte : (text : List ℕ) → not (length text == 0) ≡ true → text ≡ [] → ⊥
  some_byte [] e f = cc
  some_byte (x ∷ xs) e f = cc

  has_byte : (text : List ℕ) → (text ≡ [] → ⊥) → not (length text == 0) ≡ true
  has_byte [] f = absurd (f refl)
  has_byte (x ∷ xs) f = ap not (nonzero (length xs))

  pub coded-those : (codegen usr : List ℕ) → Contains (coded codegen units) usr ↔ IsCoded units codegen usr
  coded-those codegen usr = (
    λ c.
        let f = field-out (λ (s : HeldSymbol). s.usr) (is_coded codegen) (held units) usr c in
        let h = held-out f.0 f.1 in
        let b = both-true (bytes_eq f.0.codegen codegen) (not (length f.0.codegen == 0)) f.2 in
        let e = same f.0.codegen codegen b.0 in
        record { symbol = h.symbol; is_symbol = record { holder = f.0.holder; holds = h.holds }; of_codegen = h.of_codegen ∙ e; not_empty = λ n. some_byte f.0.codegen b.1 (e ∙ n); of_usr = h.of_usr ∙ f.3 },
    λ p. field-in (λ (s : HeldSymbol). s.usr) (is_coded codegen) (held units) usr (held_symbol p.is_symbol.holder p.symbol) (held-in p.is_symbol.holder p.symbol p.is_symbol.holds)
        (true-both (bytes_eq p.symbol.codegen codegen) (not (length p.symbol.codegen == 0)) (equal p.symbol.codegen codegen p.of_codegen) (has_byte p.symbol.codegen (λ n. p.not_empty (sym p.of_codegen ∙ n)))) p.of_usr,
  )

  dep-out : (dep : RecordDep) → Has (record_deps units) dep → ListsUnder units dep.path dep.name
  dep-out dep h =
      let u = flat_map-out (λ (entry : List ℕ × StoredUnit). entry.1.unit.records) units dep h in
      record { entry = u.0; of_units = contains units u.0 u.1; dep = dep; lists = contains u.0.1.unit.records dep u.2; of_path = refl; has_name = refl }

  dep-in : (path name : List ℕ) (l : ListsUnder units path name) → Has (record_deps units) l.dep
  dep-in path name l = flat_map-in (λ (entry : List ℕ × StoredUnit). entry.1.unit.records) units l.entry l.dep (has units l.entry l.of_units) (has l.entry.1.unit.records l.dep l.lists)

  as_listed : (path name other_path other_name : List ℕ) → path ≡ other_path → name ≡ other_name → ListsUnder units path name → ListsUnder units other_path other_name
  as_listed path name other_path other_name p n l = record { entry = l.entry; of_units = l.of_units; dep = l.dep; lists = l.lists; of_path = l.of_path ∙ p; has_name = l.has_name ∙ n }

  pub in_path-those : (path name : List ℕ) → Contains (in_path path units) name ↔ ListsUnder units path name
  in_path-those path name = (
    λ c.
        let f = field-out (λ (d : RecordDep). d.name) (λ (d : RecordDep). bytes_eq d.path path) (record_deps units) name c in
        as_listed f.0.path f.0.name path name (same f.0.path path f.2) f.3 (dep-out f.0 f.1),
    λ l. field-in (λ (d : RecordDep). d.name) (λ (d : RecordDep). bytes_eq d.path path) (record_deps units) name l.dep (dep-in path name l) (equal l.dep.path path l.of_path) l.has_name,
  )

  pub paths-those : (name path : List ℕ) → Contains (paths name units) path ↔ ListsUnder units path name
  paths-those name path = (
    λ c.
        let f = field-out (λ (d : RecordDep). d.path) (λ (d : RecordDep). bytes_eq d.name name) (record_deps units) path c in
        as_listed f.0.path f.0.name path name f.3 (same f.0.name name f.2) (dep-out f.0 f.1),
    λ l. field-in (λ (d : RecordDep). d.path) (λ (d : RecordDep). bytes_eq d.name name) (record_deps units) path l.dep (dep-in path name l) (equal l.dep.name name l.has_name) l.of_path,
  )

  -- the paths that units list
  record IsListed (x : ListedPath) : Type 0 where
    stored : StoredUnit
    of_units : Contains units (x.unit, stored)
    lists : ListsPath stored x.path
    is_main : stored.unit.main_file ≡ x.main_file

  listed-out : (x : ListedPath) → Has (listed units) x → IsListed x
  listed-out x h =
      let u = flat_map-out (λ (entry : List ℕ × StoredUnit). listed_in entry.0 entry.1) units x h in
      by_kind u.0 u.1 (append-cases (map (λ dep. listed_path u.0.0 u.0.1 dep.path) u.0.1.unit.records) (map (λ file. listed_path u.0.0 u.0.1 file.path) u.0.1.unit.files) x u.2)
    where
      of_unit : (entry : List ℕ × StoredUnit) (path : List ℕ) → Has units entry → ListsPath entry.1 path → listed_path entry.0 entry.1 path ≡ x → IsListed x
      of_unit entry path k l e = record {
        stored = entry.1;
        of_units = subst (λ (n : List ℕ). Contains units (n, entry.1)) (ap (λ (y : ListedPath). y.unit) e) (contains units entry k);
        lists = subst (λ (p : List ℕ). ListsPath entry.1 p) (ap (λ (y : ListedPath). y.path) e) l;
        is_main = ap (λ (y : ListedPath). y.main_file) e;
      }

      by_kind : (entry : List ℕ × StoredUnit) → Has units entry → Has (map (λ dep. listed_path entry.0 entry.1 dep.path) entry.1.unit.records) x ⊎ Has (map (λ file. listed_path entry.0 entry.1 file.path) entry.1.unit.files) x → IsListed x
      by_kind entry k (inl r) =
          let m = map-out (λ dep. listed_path entry.0 entry.1 dep.path) entry.1.unit.records x r in
          of_unit entry m.0.path k (inl (record { dep = m.0; lists = contains entry.1.unit.records m.0 m.1; of_path = refl })) m.2
      by_kind entry k (inr r) =
          let m = map-out (λ file. listed_path entry.0 entry.1 file.path) entry.1.unit.files x r in
          of_unit entry m.0.path k (inr (record { file = m.0; lists = contains entry.1.unit.files m.0 m.1; of_path = refl })) m.2

  listed-in : (entry : List ℕ × StoredUnit) (path : List ℕ) → Contains units entry → ListsPath entry.1 path → Has (listed units) (listed_path entry.0 entry.1 path)
  listed-in entry path c l = flat_map-in (λ (entry : List ℕ × StoredUnit). listed_in entry.0 entry.1) units entry (listed_path entry.0 entry.1 path) (has units entry c) (by_kind l)
    where
      by_kind : ListsPath entry.1 path → Has (listed_in entry.0 entry.1) (listed_path entry.0 entry.1 path)
      by_kind (inl r) = append-left (map (λ dep. listed_path entry.0 entry.1 dep.path) entry.1.unit.records) (map (λ file. listed_path entry.0 entry.1 file.path) entry.1.unit.files) (listed_path entry.0 entry.1 path)
          (map-in (λ dep. listed_path entry.0 entry.1 dep.path) entry.1.unit.records r.dep (listed_path entry.0 entry.1 path) (has entry.1.unit.records r.dep r.lists) (ap (listed_path entry.0 entry.1) r.of_path))
      by_kind (inr r) = append-right (map (λ dep. listed_path entry.0 entry.1 dep.path) entry.1.unit.records) (map (λ file. listed_path entry.0 entry.1 file.path) entry.1.unit.files) (listed_path entry.0 entry.1 path)
          (map-in (λ file. listed_path entry.0 entry.1 file.path) entry.1.unit.files r.file (listed_path entry.0 entry.1 path) (has entry.1.unit.files r.file r.lists) (ap (listed_path entry.0 entry.1) r.of_path))

  pub listing-those : (path name : List ℕ) → Contains (listing path units) name ↔ IsListing units path name
  listing-those path name = (
    λ c.
        let f = field-out (λ (l : ListedPath). l.unit) (λ (l : ListedPath). bytes_eq l.path path) (listed units) name c in
        let i = listed-out f.0 f.1 in
        record { stored = i.stored; of_units = subst (λ (n : List ℕ). Contains units (n, i.stored)) f.3 i.of_units; lists = subst (λ (p : List ℕ). ListsPath i.stored p) (same f.0.path path f.2) i.lists },
    λ l. field-in (λ (l : ListedPath). l.unit) (λ (l : ListedPath). bytes_eq l.path path) (listed units) name (listed_path name l.stored path) (listed-in (name, l.stored) path l.of_units l.lists) (equal path path refl) refl,
  )

  pub mains-those : (path main : List ℕ) → Contains (mains path units) main ↔ IsMain units path main
  mains-those path main = (
    λ c.
        let f = field-out (λ (l : ListedPath). l.main_file) (λ (l : ListedPath). bytes_eq l.path path && not (length l.main_file == 0)) (listed units) main c in
        let i = listed-out f.0 f.1 in
        let b = both-true (bytes_eq f.0.path path) (not (length f.0.main_file == 0)) f.2 in
        record {
          entry = (f.0.unit, i.stored);
          of_units = i.of_units;
          lists = subst (λ (p : List ℕ). ListsPath i.stored p) (same f.0.path path b.0) i.lists;
          is_main = i.is_main ∙ f.3;
          not_empty = λ n. some_byte f.0.main_file b.1 (f.3 ∙ n);
        },
    λ m. field-in (λ (l : ListedPath). l.main_file) (λ (l : ListedPath). bytes_eq l.path path && not (length l.main_file == 0)) (listed units) main (listed_path m.entry.0 m.entry.1 path) (listed-in m.entry path m.of_units m.lists)
        (true-both (bytes_eq path path) (not (length m.entry.1.unit.main_file == 0)) (equal path path refl) (has_byte m.entry.1.unit.main_file (λ n. m.not_empty (sym m.is_main ∙ n)))) m.is_main,
  )

-- ---- the empty code generation name

not_coded : (codegen : List ℕ) → (bytes_eq codegen [] && not (length codegen == 0)) ≡ false
not_coded [] = refl
not_coded (x ∷ xs) = refl

none_coded : (xs : List HeldSymbol) → filter (is_coded []) xs ≡ []
none_coded [] = refl
none_coded (x ∷ xs) = rw (not_coded x.codegen) (none_coded xs)

pub no_codegen : (units : Units) → answer (Codegen []) units ≡ []
no_codegen units = ap (λ (kept : List HeldSymbol). definitions_of_each (sorted_set text_cmp (map (λ (s : HeldSymbol). s.usr) kept)) units) (none_coded (held units))
