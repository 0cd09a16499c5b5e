-- Rows as they lie in memory, and the table that contracts see of them.
use Rattle.std.proofs.Common.{◌≡◌, ℕ, cond, ◌<◌, ◌≤◌, ◌==◌, nat_eq, true, false, ◌||◌, List, [], ◌∷◌, ◌++◌, length, Option, Some, refl, sym, ap, ◌∙◌, arith, length-append}
use Rattle.std.specs.List.{find, list_any, IsDistinct}
use Rattle.std.specs.Map.{keys_of}
use Rattle.std.specs.Option.{option_map, is_some}
use Rattle.std.specs.Str.{bytes_eq}
use Rattle.std.specs.Cmp.{nat_eq_equiv}
use Rattle.std.specs.Cmp.Lexicographic.{nat_list_eq_equiv}
use Rattle.std.proofs.lemmas.Bool.{eqb-false}
use Rattle.std.proofs.lemmas.List.{map-append, length-map}
use Rattle.std.proofs.lemmas.Map.Keys.{IsDistinct-push}
use Rattle.ix_types.specs.declared.code_table.CodeRow.{CodeRow}
use Rattle.ix_types.specs.CodeRows.{seen}
use Rattle.ix_types.specs.Codes.{Table, has_code, has_name, name_of_code, code_of_name, by_name, IsCodeTable}

pub name_of_code-seen : (rows : List CodeRow) (code : ℕ) → name_of_code (seen rows) code ≡ option_map (λ row. row.name.now) (find (λ row. row.code == code) rows)
name_of_code-seen [] code = refl
name_of_code-seen (row ∷ rows) code =
    elim (row.code == code) as (λ b. cond b (Some row.name.now) (name_of_code (seen rows) code) ≡ option_map (λ r. r.name.now) (cond b (Some row) (find (λ r. r.code == code) rows))) [
      | true ↦ refl
      | false ↦ name_of_code-seen rows code
    ]

pub code_of_name-seen : (rows : List CodeRow) (name : List ℕ) → code_of_name (seen rows) name ≡ option_map (λ row. row.code) (find (λ row. bytes_eq row.name.now name) rows)
code_of_name-seen [] name = refl
code_of_name-seen (row ∷ rows) name =
    elim (bytes_eq row.name.now name) as (λ b. cond b (Some row.code) (code_of_name (seen rows) name) ≡ option_map (λ r. r.code) (cond b (Some row) (find (λ r. bytes_eq r.name.now name) rows))) [
      | true ↦ refl
      | false ↦ code_of_name-seen rows name
    ]

pub has_code-seen : (rows : List CodeRow) (code : ℕ) → has_code (seen rows) code ≡ is_some (find (λ row. row.code == code) rows)
has_code-seen [] code = refl
has_code-seen (row ∷ rows) code =
    elim (row.code == code) as (λ b. (b || has_code (seen rows) code) ≡ is_some (cond b (Some row) (find (λ r. r.code == code) rows))) [
      | true ↦ refl
      | false ↦ has_code-seen rows code
    ]

pub has_name-seen : (rows : List CodeRow) (name : List ℕ) → has_name (seen rows) name ≡ is_some (find (λ row. bytes_eq row.name.now name) rows)
has_name-seen [] name = refl
has_name-seen (row ∷ rows) name =
    elim (bytes_eq row.name.now name) as (λ b. (b || has_name (seen rows) name) ≡ is_some (cond b (Some row) (find (λ r. bytes_eq r.name.now name) rows))) [
      | true ↦ refl
      | false ↦ has_name-seen rows name
    ]

-- what a search in the slice of the rows found
pub name_of_found : (slice rows : List CodeRow) (table : Table) (code : ℕ) (found : Option CodeRow) → slice ≡ rows → seen rows ≡ table → found ≡ find (λ row. row.code == code) slice → option_map (λ row. row.name.now) found ≡ name_of_code table code
name_of_found slice rows table code found same view is_found =
    ap (option_map (λ row. row.name.now)) is_found ∙ sym (name_of_code-seen slice code) ∙ ap (λ xs. name_of_code (seen xs) code) same ∙ ap (λ t. name_of_code t code) view

pub code_of_found : (slice rows : List CodeRow) (table : Table) (name : List ℕ) (found : Option CodeRow) → slice ≡ rows → seen rows ≡ table → found ≡ find (λ row. bytes_eq row.name.now name) slice → option_map (λ row. row.code) found ≡ code_of_name table name
code_of_found slice rows table name found same view is_found =
    ap (option_map (λ row. row.code)) is_found ∙ sym (code_of_name-seen slice name) ∙ ap (λ xs. code_of_name (seen xs) name) same ∙ ap (λ t. code_of_name t name) view

pub has_code_found : (slice rows : List CodeRow) (table : Table) (code : ℕ) (found : Option CodeRow) → slice ≡ rows → seen rows ≡ table → found ≡ find (λ row. row.code == code) slice → is_some found ≡ has_code table code
has_code_found slice rows table code found same view is_found =
    ap is_some is_found ∙ sym (has_code-seen slice code) ∙ ap (λ xs. has_code (seen xs) code) same ∙ ap (λ t. has_code t code) view

pub has_name_found : (slice rows : List CodeRow) (table : Table) (name : List ℕ) (found : Option CodeRow) → slice ≡ rows → seen rows ≡ table → found ≡ find (λ row. bytes_eq row.name.now name) slice → is_some found ≡ has_name table name
has_name_found slice rows table name found same view is_found =
    ap is_some is_found ∙ sym (has_name-seen slice name) ∙ ap (λ xs. has_name (seen xs) name) same ∙ ap (λ t. has_name t name) view

-- the tests of the keys, with the key sought first
key_of_code : (table : Table) (code : ℕ) → list_any (nat_eq code) (keys_of table) ≡ has_code table code
key_of_code [] code = refl
key_of_code (row ∷ rows) code = rw (nat_eq_equiv.symm code row.0, key_of_code rows code) refl

key_of_name : (table : Table) (name : List ℕ) → list_any (bytes_eq name) (keys_of (by_name table)) ≡ has_name table name
key_of_name [] name = refl
key_of_name (row ∷ rows) name = rw (nat_list_eq_equiv.symm name row.1, key_of_name rows name) refl

keys_by_name-push : (table : Table) (code : ℕ) (name : List ℕ) → keys_of (by_name (table ++ (code, name) ∷ [])) ≡ keys_of (by_name table) ++ name ∷ []
keys_by_name-push [] code name = refl
keys_by_name-push (row ∷ rows) code name = ap (λ names. row.1 ∷ names) (keys_by_name-push rows code name)

-- a row more, whose code and name no row has
pub IsCodeTable-push : (most : ℕ) (table : Table) (code : ℕ) (name : List ℕ) → IsCodeTable most table → length table < most → has_code table code ≡ false → has_name table name ≡ false → IsCodeTable most (table ++ (code, name) ∷ [])
IsCodeTable-push most table code name ok room no_code no_name = record {
  fits = omega (arith, length-append table ((code, name) ∷ []));
  codes_differ = rw (map-append (λ row. row.0) table ((code, name) ∷ []))
      (IsDistinct-push nat_eq_equiv (keys_of table) code ok.codes_differ (key_of_code table code ∙ no_code));
  names_differ = rw (keys_by_name-push table code name)
      (IsDistinct-push nat_list_eq_equiv (keys_of (by_name table)) name ok.names_differ (key_of_name table name ∙ no_name));
}

pub IsCodeTable-nil : (most : ℕ) → IsCodeTable most []
unfolding IsDistinct
IsCodeTable-nil most = record { fits = omega arith; codes_differ = tt; names_differ = tt }

pub IsCodeTable-seen_push : (most : ℕ) (rows new : List CodeRow) (table : Table) (row : CodeRow) → IsCodeTable most (seen rows) → seen rows ≡ table → new ≡ rows ++ row ∷ [] → length rows ≤ most → (length rows == most) ≡ false → has_code table row.code ≡ false → has_name table row.name.now ≡ false → IsCodeTable most (seen new)
IsCodeTable-seen_push most rows new table row ok view is_new fits not_full no_code no_name =
    let room : length (seen rows) < most = omega (arith, length-map {B = ℕ × List ℕ} rows (λ r. (r.code, r.name.now)), eqb-false (length rows) most not_full) in
    rw (is_new, map-append {B = ℕ × List ℕ} (λ r. (r.code, r.name.now)) rows (row ∷ []))
    (IsCodeTable-push most (seen rows) row.code row.name.now ok room (ap (λ t. has_code t row.code) view ∙ no_code) (ap (λ t. has_name t row.name.now) view ∙ no_name))
