-- The records that are listed are those of the state.
use Rattle.std.proofs.Common.{◌≡◌, ◌≢◌, ◌↔◌, ℕ, zero, suc, Bool, true, false, cond, List, [], ◌∷◌, map, length, refl, sym, ap, subst, ◌∙◌, Option, Some, None, is_some, IfSome, Contains, arith}
use Rattle.std.specs.declared.cmp.Ordering.TheVariants.{Greater}
use Rattle.std.specs.Ordering.{is_eq}
use Rattle.std.specs.Cmp.{tied_itself}
use Rattle.std.specs.Cmp.Lexicographic.{nat_list_cmp_total, same_text, texts_ties}
use Rattle.std.specs.FinMap.{find, entries, get, get-entries}
use Rattle.std.specs.Map.{keys_of, lookup}
use Rattle.std.specs.BTreeMap.{is_at}
use Rattle.std.specs.Option.{option_map}
use Rattle.ix_types.specs.Row.{text_cmp}
use Rattle.ix_dir.specs.declared.area.Area.TheVariants.{Records}
use Rattle.ix_dir.specs.declared.dir.Listed.{Listed}
use Rattle.ix_dir.specs.declared.moves.Move.{Move}
use Rattle.ix_dir.specs.Files.{File, Files, bytes_at, listed_entry, listed_of}
use Rattle.ix_dir.specs.Moves.{area_after}
use Rattle.ix_machine.specs.State as machine
use Rattle.ix_guard.specs.Guarding.{Guarding}
use Rattle.ix_guard.specs.Protection.{is_protected, IsFirstLoose}
use Rattle.ix_stops.specs.Stands.{FilesStand}

-- ---- keys of entries

at_itself : (q k : List ℕ) → k ≡ q → is_eq (text_cmp q k) ≡ true
at_itself q k is = subst (λ (n : List ℕ). is_eq (text_cmp q n) ≡ true) (sym is) (ap is_eq (tied_itself nat_list_cmp_total q))

module _ {V : Type 0} (q : List ℕ) where
  abbrev there : List (List ℕ × V) → Bool
  there es = is_some (lookup (is_at (text_cmp q)) es)

  behind : (b : Bool) (e : List ℕ × V) (es : List (List ℕ × V)) → there es ≡ true → is_some (cond b (Some e.1) (lookup (is_at (text_cmp q)) es)) ≡ true
  behind true e es is = refl
  behind false e es is = is

  here : (b : Bool) (e : List ℕ × V) (es : List (List ℕ × V)) → b ≡ true → is_some (cond b (Some e.1) (lookup (is_at (text_cmp q)) es)) ≡ true
  here true e es is = refl
  here false e es is = absurd (cc)

  pub found : (es : List (List ℕ × V)) → Contains (keys_of es) q → there es ≡ true
  found [] (k, below, is) = absurd (omega (arith, below))
  found (e ∷ es) (zero, below, is) = here (is_eq (text_cmp q e.0)) e es (at_itself q e.0 is)
  found (e ∷ es) (suc k, below, is) = behind (is_eq (text_cmp q e.0)) e es (found es (k, omega (arith, below), is))

  later : (e : List ℕ × V) (es : List (List ℕ × V)) → Contains (keys_of es) q → Contains (keys_of (e ∷ es)) q
  later e es (k, below, is) = (suc k, omega (arith, below), is)

  pub listed : (es : List (List ℕ × V)) → there es ≡ true → Contains (keys_of es) q
  listed [] is = absurd (cc)
  listed (e ∷ es) is =
      (elim (is_eq (text_cmp q e.0)) as (λ b. is_eq (text_cmp q e.0) ≡ b → is_some (cond b (Some e.1) (lookup (is_at (text_cmp q)) es)) ≡ true → Contains (keys_of (e ∷ es)) q) [
        | true ↦ λ at h. (zero, omega arith, sym (same_text q e.0 (sym (texts_ties q e.0 ∙ at))))
        | false ↦ λ at h. later e es (listed es h)
      ]) refl is

  as_lookup : (es : List (List ℕ × V)) → find text_cmp q es ≡ lookup (is_at (text_cmp q)) es
  as_lookup [] = refl
  as_lookup (e ∷ es) = ap (cond (is_eq (text_cmp q e.0)) (Some e.1)) (as_lookup es)

-- ---- names of records

names_of : (es : List (List ℕ × File)) → map (λ (one : Listed). one.name) (map listed_entry es) ≡ keys_of es
names_of [] = refl
names_of (e ∷ es) = ap (λ (rest : List (List ℕ)). e.0 ∷ rest) (names_of es)

some_map : {A B : Type 0} (f : A → B) (o : Option A) → is_some (option_map f o) ≡ is_some o
some_map f None = refl
some_map f (Some x) = refl

pub record LooseLaws : Type 0 where
  pub some : (guard : Guarding) (names : List (List ℕ)) (name : List ℕ) → IsFirstLoose guard names (Some name)
      ↔ (Contains names name × ((is_protected guard name ≡ false) × ((other : List ℕ) → Contains names other → is_protected guard other ≡ false → text_cmp name other ≢ Greater)))
  pub none : (guard : Guarding) (names : List (List ℕ)) → IsFirstLoose guard names None ↔ ((name : List ℕ) → Contains names name → is_protected guard name ≡ true)

module _ (records : machine.Files) (moves : List Move) (stand : FilesStand records moves) where
  abbrev files : Files
  files = area_after moves Records

  abbrev names : List (List ℕ)
  names = map (λ (one : Listed). one.name) (listed_of files)

  same_there : (q : List ℕ) → is_some (lookup (is_at (text_cmp q)) (entries files)) ≡ is_some (lookup (is_at (text_cmp q)) records)
  same_there q =
      ap is_some (sym (as_lookup q (entries files))) ∙ (ap is_some (sym (get-entries files q)) ∙ (sym (some_map (λ (f : File). f.bytes) (get files q)) ∙ ap is_some (sym (stand q))))

  to_records : (q : List ℕ) → Contains names q → Contains (keys_of records) q
  to_records q c = listed q records (sym (same_there q) ∙ found q (entries files) (subst (λ (ns : List (List ℕ)). Contains ns q) (names_of (entries files)) c))

  to_names : (q : List ℕ) → Contains (keys_of records) q → Contains names q
  to_names q c = subst (λ (ns : List (List ℕ)). Contains ns q) (sym (names_of (entries files))) (listed q (entries files) (same_there q ∙ found q records c))

  -- the first loose one of the listed names is that of the record files
  pub first_of_records : LooseLaws → (guard : Guarding) (first : Option (List ℕ)) → IsFirstLoose guard names first → IsFirstLoose guard (keys_of records) first
  first_of_records laws guard None loose = (laws.none guard (keys_of records)).1 (λ q c. (laws.none guard names).0 loose q (to_names q c))
  first_of_records laws guard (Some name) loose =
      let least = (laws.some guard names name).0 loose in
      let rest = least.1 in
      (laws.some guard (keys_of records) name).1 (to_records name least.0, (rest.0, λ other c free. rest.1 other (to_names other c) free))
