-- A look-up finds the row, and nothing where there is none.
use Rattle.std.proofs.Common.{◌≡◌, ◌↔◌, ℕ, zero, suc, nat_eq, true, List, [], ◌∷◌, Option, Some, None, refl, sym, ap, ◌∙◌, get_or}
use Rattle.std.specs.List.{Contains}
use Rattle.std.specs.Map.{lookup}
use Rattle.std.specs.Str.{bytes_eq}
use Rattle.std.specs.Cmp.{nat_eq_equiv}
use Rattle.std.specs.Cmp.Lexicographic.{nat_list_eq_equiv}
use Rattle.std.proofs.lemmas.Bool.{eqb-true}
use Rattle.std.proofs.lemmas.List.{length-map}
use Rattle.std.proofs.lemmas.Slice.Eq.{bytes_eq-Decides}
use Rattle.std.proofs.lemmas.Map.Views.{Contains-from_lookup, lookup-from_Contains}
use Rattle.ix_types.specs.Codes.{Table, name_of_code, code_of_name, by_name, IsCodeTable}

-- the tests with the key sought first
name_of_code-flip : (table : Table) (code : ℕ) → lookup (nat_eq code) table ≡ name_of_code table code
name_of_code-flip [] code = refl
name_of_code-flip (row ∷ rows) code = rw (nat_eq_equiv.symm code row.0, name_of_code-flip rows code) refl

code_of_name-flip : (table : Table) (name : List ℕ) → lookup (bytes_eq name) (by_name table) ≡ code_of_name table name
code_of_name-flip [] name = refl
code_of_name-flip (row ∷ rows) name = rw (nat_list_eq_equiv.symm name row.1, code_of_name-flip rows name) refl

exact_code : (x y : ℕ) → nat_eq x y ≡ true → x ≡ y
exact_code = eqb-true

exact_name : (x y : List ℕ) → bytes_eq x y ≡ true → x ≡ y
exact_name x y = (bytes_eq-Decides x y).0

get_or-by_name : (table : Table) (k code : ℕ) (name : List ℕ) → get_or (by_name table) k (name, code) ≡ ((get_or table k (code, name)).1, (get_or table k (code, name)).0)
get_or-by_name [] k code name = refl
get_or-by_name (row ∷ rows) zero code name = refl
get_or-by_name (row ∷ rows) (suc k) code name = get_or-by_name rows k code name

Contains-by_name : (table : Table) (code : ℕ) (name : List ℕ) → Contains table (code, name) → Contains (by_name table) (name, code)
Contains-by_name table code name (k, below, at) =
    (k, rw (length-map {B = List ℕ × ℕ} table (λ row. (row.1, row.0))) below, get_or-by_name table k code name ∙ ap (λ row. (row.1, row.0)) at)

Contains-from_by_name : (table : Table) (code : ℕ) (name : List ℕ) → Contains (by_name table) (name, code) → Contains table (code, name)
Contains-from_by_name table code name (k, below, at) =
    (k, rw (length-map {B = List ℕ × ℕ} table (λ row. (row.1, row.0))) at below, ap (λ row. (row.1, row.0)) (sym (get_or-by_name table k code name) ∙ at))

pub names_are_rows : (most : ℕ) (table : Table) (code : ℕ) (name : List ℕ) → IsCodeTable most table → (name_of_code table code ≡ Some name) ↔ Contains table (code, name)
names_are_rows most table code name ok =
    (λ e. Contains-from_lookup exact_code code name table (name_of_code-flip table code ∙ e), λ row. sym (name_of_code-flip table code) ∙ lookup-from_Contains nat_eq_equiv code name table ok.codes_differ row)

pub codes_are_rows : (most : ℕ) (table : Table) (code : ℕ) (name : List ℕ) → IsCodeTable most table → (code_of_name table name ≡ Some code) ↔ Contains table (code, name)
codes_are_rows most table code name ok = (
  λ e. Contains-from_by_name table code name (Contains-from_lookup exact_name name code (by_name table) (code_of_name-flip table name ∙ e)),
  λ row. sym (code_of_name-flip table name) ∙ lookup-from_Contains nat_list_eq_equiv name code (by_name table) ok.names_differ (Contains-by_name table code name row),
)

-- an answer that is no value is None
none_from_no_value : {X : Type 0} (o : Option X) → ((x : X) → o ≡ Some x → ⊥) → o ≡ None
none_from_no_value None never = refl
none_from_no_value (Some x) never = absurd (never x refl)

pub no_name_off_rows : (most : ℕ) (table : Table) (code : ℕ) → IsCodeTable most table → (name_of_code table code ≡ None) ↔ ((name : List ℕ) → ¬ Contains table (code, name))
no_name_off_rows most table code ok = (
  λ e name row. let found = (names_are_rows most table code name ok).1 row in cc,
  λ absent. none_from_no_value (name_of_code table code) (λ name e. absent name ((names_are_rows most table code name ok).0 e)),
)

pub no_code_off_rows : (most : ℕ) (table : Table) (name : List ℕ) → IsCodeTable most table → (code_of_name table name ≡ None) ↔ ((code : ℕ) → ¬ Contains table (code, name))
no_code_off_rows most table name ok = (
  λ e code row. let found = (codes_are_rows most table code name ok).1 row in cc,
  λ absent. none_from_no_value (code_of_name table name) (λ code e. absent code ((codes_are_rows most table code name ok).0 e)),
)
