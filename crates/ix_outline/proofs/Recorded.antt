-- What records and units give to look-ups, and that it is what the look-ups from scratch select.
use Rattle.std.proofs.Common.{◌≡◌, ◌≢◌, ◌↔◌, ℕ, zero, suc, ◌<◌, ◌==◌, ◌⊎◌, inl, inr, Bool, true, not, List, [], ◌∷◌, length, map, filter, Option, Some, None, refl, sym, ap, subst, ◌∙◌, arith}
use Rattle.std.specs.List.{flat_map, filter_map, slice_get}
use Rattle.std.specs.Option.{option_map}
use Rattle.std.proofs.lemmas.Option.{slice_get_within}
use Rattle.ix_types.specs.Row.{text_cmp}
use Rattle.ix_record.specs.declared.value.Symbol.{Symbol}
use Rattle.ix_record.specs.declared.value.Relation.{Relation}
use Rattle.ix_record.specs.declared.value.Occurrence.{Occurrence}
use Rattle.ix_record.specs.declared.value.RecordValue.{RecordValue}
use Rattle.ix_unit.specs.declared.value.RecordDep.{RecordDep}
use Rattle.ix_unit.specs.declared.value.FileDep.{FileDep}
use Rattle.ix_unit.specs.declared.value.UnitValue.{UnitValue}
use Rattle.ix_model.specs.declared.publication.StoredUnit.{StoredUnit}
use Rattle.ix_model.specs.SortedSet.{sorted_set}
use Rattle.ix_model.specs.Units.{Units}
use Rattle.ix_answers.specs.Meanings.{IsRecord, IsProvider, IsRelated, IsSymbol, IsNamed, IsName, IsCoded, ListsUnder, ListsPath, IsListing}
use Rattle.ix_pages.specs.Pairs.{IsRising, look_up}
use Rattle.ix_outline.specs.declared.outline.OutlineSymbol.{OutlineSymbol}
use Rattle.ix_outline.specs.declared.outline.Outline.{Outline}
use Rattle.ix_outline.specs.Outline.{outline_symbol, related_usr, related_usrs, outline_of}
use Rattle.ix_outline.specs.Known.{Known, bare, Lists, HaveValues, AreTables}
use Rattle.ix_outline.specs.Facts.{Fact, provided, relating, naming, coding, placing, pathing, listing_facts}
use Rattle.ix_outline.proofs.Members.{Has, has, contains, append-left, append-right, append-cases, map-in, map-out, flat_map-in, flat_map-out, filter-in, filter-out, filter_map-in, filter_map-out}
use Rattle.ix_outline.proofs.Finding.{SetLaws, found-has, has-found}

-- ---- places

place-of : {X : Type 0} (xs : List X) (x : X) → Has xs x → (k : ℕ) × (slice_get xs k ≡ Some x)
place-of [] x h = absurd h
place-of (y ∷ ys) x (inl e) = (zero, ap Some e)
place-of (y ∷ ys) x (inr h) = let r = place-of ys x h in (suc r.0, r.1)

at-place : {X : Type 0} (xs : List X) (k : ℕ) → k < length xs → (x : X) × (slice_get xs k ≡ Some x)
at-place [] k below = absurd (omega arith)
at-place (y ∷ ys) zero below = (y, refl)
at-place (y ∷ ys) (suc k) below = at-place ys k (omega arith)

pub has-at : {X : Type 0} (xs : List X) (k : ℕ) (x : X) → slice_get xs k ≡ Some x → Has xs x
has-at [] k x e = absurd (cc)
has-at (y ∷ ys) zero x e = inl (cc)
has-at (y ∷ ys) (suc k) x e = inr (has-at ys k x e)

-- ---- records of units

pub record HasValue (units : Units) (name : List ℕ) : Type 0 where
  pub dep : RecordDep
  pub value : RecordValue
  pub of_units : IsRecord units dep value
  pub has_name : dep.name ≡ name

pub value-of-listed : (units : Units) → HaveValues units → (name : List ℕ) → Lists (map bare units) name → HasValue units name
value-of-listed units whole name l =
    let m = map-out bare units l.entry (has (map bare units) l.entry l.of_units) in
    let h : Has m.0.1.unit.records l.dep = subst (λ (x : List ℕ × UnitValue). Has x.1.records l.dep) (sym m.2) (has l.entry.1.records l.dep l.lists) in
    let p = place-of m.0.1.unit.records l.dep h in
    let below = slice_get_within m.0.1.unit.records p.0 l.dep p.1 in
    let enough = whole m.0 (contains units m.0 m.1) in
    let v = at-place m.0.1.values p.0 (omega arith) in
    record { dep = l.dep; value = v.0; of_units = record { entry = m.0; of_units = contains units m.0 m.1; place = p.0; lists = p.1; has_value = v.1 }; has_name = l.has_name }

pub listed-of-record : (units : Units) (dep : RecordDep) (value : RecordValue) → IsRecord units dep value → Lists (map bare units) dep.name
listed-of-record units dep value r = record {
  entry = bare r.entry;
  of_units = contains (map bare units) (bare r.entry) (map-in bare units r.entry (bare r.entry) (has units r.entry r.of_units) refl);
  dep = dep;
  lists = contains r.entry.1.unit.records dep (has-at r.entry.1.unit.records r.place dep r.lists);
  has_name = refl;
}

module _ (units : Units) (known : Known) (are : AreTables units known) (rises : IsRising text_cmp known.outlines) where
  -- what an outline that is remembered is of
  record IsOutlined (entry : List ℕ × Outline) : Type 0 where
    dep : RecordDep
    value : RecordValue
    of_units : IsRecord units dep value
    is : (dep.name, outline_of value) ≡ entry

  outlined-out : (entry : List ℕ × Outline) → Has known.outlines entry → IsOutlined entry
  outlined-out entry h =
      let found : look_up text_cmp known.outlines entry.0 ≡ Some entry.1 = has-found known.outlines entry.0 entry.1 rises h in
      let lists : Lists (map bare units) entry.0 = subst (λ (us : List (List ℕ × UnitValue)). Lists us entry.0) are.units_are (are.only entry.0 entry.1 found) in
      let v = value-of-listed units are.whole entry.0 lists in
      let there : look_up text_cmp known.outlines entry.0 ≡ Some (outline_of v.value) = ap (look_up text_cmp known.outlines) (sym v.has_name) ∙ are.kept v.dep v.value v.of_units in
      let both : Some (outline_of v.value) ≡ Some entry.1 = sym there ∙ found in
      let outline : outline_of v.value ≡ entry.1 = cc in
      record { dep = v.dep; value = v.value; of_units = v.of_units; is = λ i. (v.has_name i, outline i) }

  outlined-in : (dep : RecordDep) (value : RecordValue) → IsRecord units dep value → Has known.outlines (dep.name, outline_of value)
  outlined-in dep value r = found-has known.outlines dep.name (outline_of value) (are.kept dep value r)

  -- a fact of a record
  record IsOfRecord (f : List ℕ × Outline → List Fact) (fact : Fact) : Type 0 where
    dep : RecordDep
    value : RecordValue
    of_units : IsRecord units dep value
    is_fact : Has (f (dep.name, outline_of value)) fact

  fact-out : (f : List ℕ × Outline → List Fact) (fact : Fact) → Has (flat_map f known.outlines) fact → IsOfRecord f fact
  fact-out f fact h =
      let r = flat_map-out f known.outlines fact h in
      let o = outlined-out r.0 r.1 in
      record { dep = o.dep; value = o.value; of_units = o.of_units; is_fact = subst (λ (e : List ℕ × Outline). Has (f e) fact) (sym o.is) r.2 }

  fact-in : (f : List ℕ × Outline → List Fact) (dep : RecordDep) (value : RecordValue) (fact : Fact) → IsRecord units dep value → Has (f (dep.name, outline_of value)) fact → Has (flat_map f known.outlines) fact
  fact-in f dep value fact r h = flat_map-in f known.outlines (dep.name, outline_of value) fact (outlined-in dep value r) h

  -- a symbol of a record that gives the fact
  symbol-out : (g : OutlineSymbol → Fact) (value : RecordValue) (fact : Fact) → Has (map g (map outline_symbol value.symbols)) fact → (s : Symbol) × Has value.symbols s × (g (outline_symbol s) ≡ fact)
  symbol-out g value fact h =
      let m = map-out g (map outline_symbol value.symbols) fact h in
      let n = map-out outline_symbol value.symbols m.0 m.1 in
      (n.0, n.1, ap g n.2 ∙ m.2)

  symbol-in : (g : OutlineSymbol → Fact) (value : RecordValue) (s : Symbol) (fact : Fact) → Has value.symbols s → g (outline_symbol s) ≡ fact → Has (map g (map outline_symbol value.symbols)) fact
  symbol-in g value s fact h e = map-in g (map outline_symbol value.symbols) (outline_symbol s) fact (map-in outline_symbol value.symbols s (outline_symbol s) h refl) e

  pub provided-those : (usr name : List ℕ) → IsProvider units usr name ↔ Has (flat_map provided known.outlines) (usr, name)
  provided-those usr name = (λ p. there p, λ h. back h)
    where
      there : IsProvider units usr name → Has (flat_map provided known.outlines) (usr, name)
      there p =
          let d = p.holds.dep in
          let v = p.holds.value in
          fact-in provided d v (usr, name) p.holds.of_units
          (symbol-in (λ (s : OutlineSymbol). (s.usr, d.name)) v p.symbol (usr, name) (has v.symbols p.symbol p.holds.holds) (λ i. (p.of_usr i, p.holds.has_name i)))

      back : Has (flat_map provided known.outlines) (usr, name) → IsProvider units usr name
      back h =
          let r = fact-out provided (usr, name) h in
          let s = symbol-out (λ (s : OutlineSymbol). (s.usr, r.dep.name)) r.value (usr, name) r.is_fact in
          record {
            symbol = s.0;
            holds = record { dep = r.dep; value = r.value; of_units = r.of_units; has_name = ap (λ (f : Fact). f.1) s.2; holds = contains r.value.symbols s.0 s.1 };
            of_usr = ap (λ (f : Fact). f.0) s.2;
          }

  -- a symbol that some record holds
  held-there : (symbol : Symbol) (f : List ℕ × Outline → List Fact) (fact : Fact) → ((name : List ℕ) (value : RecordValue) → Has value.symbols symbol → Has (f (name, outline_of value)) fact)
      → IsSymbol units symbol → Has (flat_map f known.outlines) fact
  held-there symbol f fact gives s = fact-in f s.holds.dep s.holds.value fact s.holds.of_units (gives s.holds.dep.name s.holds.value (has s.holds.value.symbols symbol s.holds.holds))

  held-back : (dep : RecordDep) (value : RecordValue) (symbol : Symbol) → IsRecord units dep value → Has value.symbols symbol → IsSymbol units symbol
  held-back dep value symbol r h = record { holder = dep.name; holds = record { dep = dep; value = value; of_units = r; has_name = refl; holds = contains value.symbols symbol h } }

  abbrev name_fact : OutlineSymbol → Fact
  name_fact s = (s.name, s.usr)

  pub naming-those : (name usr : List ℕ) → IsNamed units name usr ↔ Has (flat_map naming known.outlines) (name, usr)
  naming-those name usr = (λ p. there p, λ h. back h)
    where
      there : IsNamed units name usr → Has (flat_map naming known.outlines) (name, usr)
      there p = held-there p.symbol naming (name, usr) (λ n v h. symbol-in name_fact v p.symbol (name, usr) h (λ i. (p.of_name i, p.of_usr i))) p.is_symbol

      back : Has (flat_map naming known.outlines) (name, usr) → IsNamed units name usr
      back h =
          let r = fact-out naming (name, usr) h in
          let s = symbol-out name_fact r.value (name, usr) r.is_fact in
          record { symbol = s.0; is_symbol = held-back r.dep r.value s.0 r.of_units s.1; of_name = ap (λ (f : Fact). f.0) s.2; of_usr = ap (λ (f : Fact). f.1) s.2 }

  pub names-out : (name : List ℕ) → IsName units name → (usr : List ℕ) × Has (flat_map naming known.outlines) (name, usr)
  names-out name p = (p.symbol.usr, (naming-those name p.symbol.usr).0 (record { symbol = p.symbol; is_symbol = p.is_symbol; of_name = p.of_name; of_usr = refl }))

  pub names-back : (name usr : List ℕ) → Has (flat_map naming known.outlines) (name, usr) → IsName units name
  names-back name usr h = let n = (naming-those name usr).1 h in record { symbol = n.symbol; is_symbol = n.is_symbol; of_name = n.of_name }

  -- ---- code generation names

  abbrev code_fact : OutlineSymbol → Fact
  code_fact s = (s.codegen, s.usr)

  abbrev has_code : OutlineSymbol → Bool
  has_code s = not (length s.codegen == 0)

  coded-test : (codegen : List ℕ) → codegen ≢ [] → not (length codegen == 0) ≡ true
  coded-test [] ne = absurd (ne refl)
  coded-test (x ∷ xs) ne = grind arith

  coded-untest : (codegen : List ℕ) → not (length codegen == 0) ≡ true → codegen ≢ []
  coded-untest [] t e = absurd (cc)
  coded-untest (x ∷ xs) t e = absurd (cc)

  pub coding-those : (codegen usr : List ℕ) → IsCoded units codegen usr ↔ Has (flat_map coding known.outlines) (codegen, usr)
  coding-those codegen usr = (λ p. there p, λ h. back h)
    where
      there : IsCoded units codegen usr → Has (flat_map coding known.outlines) (codegen, usr)
      there p = held-there p.symbol coding (codegen, usr) gives p.is_symbol
        where
          gives : (name : List ℕ) (value : RecordValue) → Has value.symbols p.symbol → Has (coding (name, outline_of value)) (codegen, usr)
          gives name value h =
              let symbols : List OutlineSymbol = map outline_symbol value.symbols in
              let passes : has_code (outline_symbol p.symbol) ≡ true = coded-test p.symbol.codegen (λ e. p.not_empty (sym p.of_codegen ∙ e)) in
              map-in code_fact (filter has_code symbols) (outline_symbol p.symbol) (codegen, usr)
              (filter-in has_code symbols (outline_symbol p.symbol) (map-in outline_symbol value.symbols p.symbol (outline_symbol p.symbol) h refl) passes)
              (λ i. (p.of_codegen i, p.of_usr i))

      back : Has (flat_map coding known.outlines) (codegen, usr) → IsCoded units codegen usr
      back h =
          let r = fact-out coding (codegen, usr) h in
          let symbols : List OutlineSymbol = map outline_symbol r.value.symbols in
          let m = map-out code_fact (filter has_code symbols) (codegen, usr) r.is_fact in
          let f = filter-out has_code symbols m.0 m.1 in
          let n = map-out outline_symbol r.value.symbols m.0 f.0 in
          let is : code_fact (outline_symbol n.0) ≡ (codegen, usr) = ap code_fact n.2 ∙ m.2 in
          let of_codegen : n.0.codegen ≡ codegen = ap (λ (x : Fact). x.0) is in
          let passes : has_code (outline_symbol n.0) ≡ true = ap has_code n.2 ∙ f.1 in
          record {
            symbol = n.0;
            is_symbol = held-back r.dep r.value n.0 r.of_units n.1;
            of_codegen = of_codegen;
            not_empty = λ e. coded-untest n.0.codegen passes (of_codegen ∙ e);
            of_usr = ap (λ (x : Fact). x.1) is;
          }

  -- ---- relations

  related-out : (symbols : List Symbol) (relation : Relation) (usr : List ℕ) (o : Option Symbol) → slice_get symbols relation.symbol ≡ o → option_map (λ (s : Symbol). s.usr) o ≡ Some usr → (s : Symbol) × (slice_get symbols relation.symbol ≡ Some s) × (s.usr ≡ usr)
  related-out symbols relation usr None e f = absurd (cc)
  related-out symbols relation usr (Some s) e f = (s, e, cc)

  abbrev usrs_at : RecordValue → Occurrence → List (List ℕ)
  usrs_at value o = filter_map (related_usr value.symbols) o.relations

  pub relating-those : SetLaws → (usr name : List ℕ) → IsRelated units usr name ↔ Has (flat_map relating known.outlines) (usr, name)
  relating-those laws usr name = (λ p. there p, λ h. back h)
    where
      there : IsRelated units usr name → Has (flat_map relating known.outlines) (usr, name)
      there p =
          let d = p.relates.dep in
          let v = p.relates.value in
          let leads : related_usr v.symbols p.relates.relation ≡ Some usr = ap (option_map (λ (s : Symbol). s.usr)) p.relates.leads ∙ ap Some p.of_usr in
          let one = filter_map-in (related_usr v.symbols) p.relates.occurrence.relations p.relates.relation usr (has p.relates.occurrence.relations p.relates.relation p.relates.relates) leads in
          let all = flat_map-in (usrs_at v) v.occurrences p.relates.occurrence usr (has v.occurrences p.relates.occurrence p.relates.occurs) one in
          let set = has (sorted_set text_cmp (related_usrs v)) usr (((laws.sets (related_usrs v)).same usr).1 (contains (related_usrs v) usr all)) in
          fact-in relating d v (usr, name) p.relates.of_units
          (map-in (λ (u : List ℕ). (u, d.name)) (sorted_set text_cmp (related_usrs v)) usr (usr, name) set (λ i. (usr, p.relates.has_name i)))

      back : Has (flat_map relating known.outlines) (usr, name) → IsRelated units usr name
      back h =
          let r = fact-out relating (usr, name) h in
          let v = r.value in
          let m = map-out (λ (u : List ℕ). (u, r.dep.name)) (sorted_set text_cmp (related_usrs v)) (usr, name) r.is_fact in
          let u : m.0 ≡ usr = ap (λ (x : Fact). x.0) m.2 in
          let all = has (related_usrs v) m.0 (((laws.sets (related_usrs v)).same m.0).0 (contains (sorted_set text_cmp (related_usrs v)) m.0 m.1)) in
          let o = flat_map-out (usrs_at v) v.occurrences m.0 all in
          let k = filter_map-out (related_usr v.symbols) o.0.relations m.0 o.2 in
          let s = related-out v.symbols k.0 m.0 (slice_get v.symbols k.0.symbol) refl k.2 in
          record {
            symbol = s.0;
            relates = record {
              dep = r.dep;
              value = v;
              of_units = r.of_units;
              has_name = ap (λ (x : Fact). x.1) m.2;
              occurrence = o.0;
              occurs = contains v.occurrences o.0 o.1;
              relation = k.0;
              relates = contains o.0.relations k.0 k.1;
              leads = s.1;
            };
            of_usr = ◌∙◌ {a = s.0.usr} s.2 u;
          }

-- ---- units

module _ (units : Units) where
  unit-out : (f : List ℕ × UnitValue → List Fact) (fact : Fact) → Has (flat_map f (map bare units)) fact → (entry : List ℕ × StoredUnit) × Has units entry × Has (f (bare entry)) fact
  unit-out f fact h =
      let r = flat_map-out f (map bare units) fact h in
      let m = map-out bare units r.0 r.1 in
      (m.0, m.1, subst (λ (e : List ℕ × UnitValue). Has (f e) fact) (sym m.2) r.2)

  unit-in : (f : List ℕ × UnitValue → List Fact) (entry : List ℕ × StoredUnit) (fact : Fact) → Has units entry → Has (f (bare entry)) fact → Has (flat_map f (map bare units)) fact
  unit-in f entry fact h k = flat_map-in f (map bare units) (bare entry) fact (map-in bare units entry (bare entry) h refl) k

  abbrev place_fact : RecordDep → Fact
  place_fact dep = (dep.path, dep.name)

  abbrev path_fact : RecordDep → Fact
  path_fact dep = (dep.name, dep.path)

  pub placing-those : (path name : List ℕ) → ListsUnder units path name ↔ Has (flat_map placing (map bare units)) (path, name)
  placing-those path name = (λ p. there p, λ h. back h)
    where
      there : ListsUnder units path name → Has (flat_map placing (map bare units)) (path, name)
      there p = unit-in placing p.entry (path, name) (has units p.entry p.of_units)
          (map-in place_fact p.entry.1.unit.records p.dep (path, name) (has p.entry.1.unit.records p.dep p.lists) (λ i. (p.of_path i, p.has_name i)))

      back : Has (flat_map placing (map bare units)) (path, name) → ListsUnder units path name
      back h =
          let u = unit-out placing (path, name) h in
          let m = map-out place_fact u.0.1.unit.records (path, name) u.2 in
          record { entry = u.0; of_units = contains units u.0 u.1; dep = m.0; lists = contains u.0.1.unit.records m.0 m.1; of_path = ap (λ (x : Fact). x.0) m.2; has_name = ap (λ (x : Fact). x.1) m.2 }

  pub pathing-those : (name path : List ℕ) → ListsUnder units path name ↔ Has (flat_map pathing (map bare units)) (name, path)
  pathing-those name path = (λ p. there p, λ h. back h)
    where
      there : ListsUnder units path name → Has (flat_map pathing (map bare units)) (name, path)
      there p = unit-in pathing p.entry (name, path) (has units p.entry p.of_units)
          (map-in path_fact p.entry.1.unit.records p.dep (name, path) (has p.entry.1.unit.records p.dep p.lists) (λ i. (p.has_name i, p.of_path i)))

      back : Has (flat_map pathing (map bare units)) (name, path) → ListsUnder units path name
      back h =
          let u = unit-out pathing (name, path) h in
          let m = map-out path_fact u.0.1.unit.records (name, path) u.2 in
          record { entry = u.0; of_units = contains units u.0 u.1; dep = m.0; lists = contains u.0.1.unit.records m.0 m.1; of_path = ap (λ (x : Fact). x.1) m.2; has_name = ap (λ (x : Fact). x.0) m.2 }

  pub listing-those : (path name : List ℕ) → IsListing units path name ↔ Has (flat_map listing_facts (map bare units)) (path, name)
  listing-those path name = (λ p. there p, λ h. back h)
    where
      there-by : (stored : StoredUnit) → ListsPath stored path → Has (listing_facts (bare (name, stored))) (path, name)
      there-by stored (inl r) =
          append-left {X = Fact} (map (λ (dep : RecordDep). (dep.path, name)) stored.unit.records) (map (λ (file : FileDep). (file.path, name)) stored.unit.files) (path, name)
          (map-in (λ (dep : RecordDep). (dep.path, name)) stored.unit.records r.dep (path, name) (has stored.unit.records r.dep r.lists) (λ i. (r.of_path i, name)))
      there-by stored (inr r) =
          append-right {X = Fact} (map (λ (dep : RecordDep). (dep.path, name)) stored.unit.records) (map (λ (file : FileDep). (file.path, name)) stored.unit.files) (path, name)
          (map-in (λ (file : FileDep). (file.path, name)) stored.unit.files r.file (path, name) (has stored.unit.files r.file r.lists) (λ i. (r.of_path i, name)))

      there : IsListing units path name → Has (flat_map listing_facts (map bare units)) (path, name)
      there p = unit-in listing_facts (name, p.stored) (path, name) (has units (name, p.stored) p.of_units) (there-by p.stored p.lists)

      back-by : (entry : List ℕ × StoredUnit) → Has units entry
          → Has {X = Fact} (map (λ (dep : RecordDep). (dep.path, entry.0)) entry.1.unit.records) (path, name) ⊎ Has {X = Fact} (map (λ (file : FileDep). (file.path, entry.0)) entry.1.unit.files) (path, name) → IsListing units path name
      back-by entry h (inl k) =
          let m = map-out (λ (dep : RecordDep). (dep.path, entry.0)) entry.1.unit.records (path, name) k in
          let n : entry.0 ≡ name = ap (λ (x : Fact). x.1) m.2 in
          record {
            stored = entry.1;
            of_units = contains units (name, entry.1) (subst (λ (x : List ℕ). Has units (x, entry.1)) n h);
            lists = inl (record { dep = m.0; lists = contains entry.1.unit.records m.0 m.1; of_path = ap (λ (x : Fact). x.0) m.2 });
          }
      back-by entry h (inr k) =
          let m = map-out (λ (file : FileDep). (file.path, entry.0)) entry.1.unit.files (path, name) k in
          let n : entry.0 ≡ name = ap (λ (x : Fact). x.1) m.2 in
          record {
            stored = entry.1;
            of_units = contains units (name, entry.1) (subst (λ (x : List ℕ). Has units (x, entry.1)) n h);
            lists = inr (record { file = m.0; lists = contains entry.1.unit.files m.0 m.1; of_path = ap (λ (x : Fact). x.0) m.2 });
          }

      back : Has (flat_map listing_facts (map bare units)) (path, name) → IsListing units path name
      back h =
          let u = unit-out listing_facts (path, name) h in
          back-by u.0 u.1 (append-cases {X = Fact} (map (λ (dep : RecordDep). (dep.path, u.0.0)) u.0.1.unit.records) (map (λ (file : FileDep). (file.path, u.0.0)) u.0.1.unit.files) (path, name) u.2)
