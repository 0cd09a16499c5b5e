-- Stamps by name as a list in order, and as a finite map.
use Rattle.std.proofs.Common.{◌≡◌, ℕ, cond, List, [], ◌∷◌, map, refl, sym, ap, ◌∙◌, Some, IsTrue}
use Rattle.std.specs.Map.{keys_of, lookup}
use Rattle.std.specs.Cmp.Lexicographic.{nat_list_cmp_total, texts_ties}
use Rattle.std.specs.FinMap.{find, is_sorted, entries, from_sorted, empty, get, get-empty, entries-from_sorted, get-from_sorted, same_map, slice_cmp-IsAntisymmetric, nat_cmp-IsAntisymmetric}
use Rattle.ix_types.specs.Row.{text_cmp}
use Rattle.ix_dir.specs.Moves.{same_name}
use Rattle.ix_dir.proofs.Door.{told, find_lookup}

pub from_none : from_sorted {R = text_cmp} [] ≡ empty {X = ℕ}
from_none =
    same_map nat_list_cmp_total (slice_cmp-IsAntisymmetric nat_cmp-IsAntisymmetric) _ _
    (λ q. get-from_sorted text_cmp [] q tt ∙ sym (get-empty text_cmp q))

pub found : (es : List (List ℕ × ℕ)) (q : List ℕ) → IsTrue (is_sorted text_cmp es) → lookup (same_name q) es ≡ get (from_sorted {R = text_cmp} es) q
found es q h = sym (get-from_sorted text_cmp es q (told _ h) ∙ find_lookup q es)

pub keys_sorted : (es : List (List ℕ × ℕ)) → IsTrue (is_sorted text_cmp es) → map (λ e. e.0) (entries (from_sorted {R = text_cmp} es)) ≡ keys_of es
keys_sorted es h = ap (map (λ e. e.0)) (entries-from_sorted text_cmp es (told _ h))
