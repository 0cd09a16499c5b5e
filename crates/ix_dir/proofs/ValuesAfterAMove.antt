-- The values of a name, and the names that were put, after one move more.
use Rattle.std.proofs.Common.{◌≡◌, ℕ, zero, suc, ◌+◌, ◌-◌, ◌<◌, ◌≤◌, Bool, true, false, cond, ◌&&◌, ◌||◌, List, [], ◌∷◌, ◌++◌, length, map, take, drop, get_or, refl, sym, ap, ◌∙◌, Option, Some, None, is_some, arith}
use Rattle.std.specs.List.{slice_get, list_any}
use Rattle.std.specs.Ordering.{eq_by_cmp}
use Rattle.std.specs.Cmp.Lexicographic.{nat_list_cmp_total, nat_list_eq_equiv, texts_ties}
use Rattle.std.specs.FinMap.{get, insert, get-insert}
use Rattle.std.proofs.lemmas.List.{take_more, map-append}
use Rattle.std.proofs.lemmas.List.Sums.{fold-append}
use Rattle.std.proofs.lemmas.Option.{slice_get-get_or}
use Rattle.ix_dir.specs.declared.area.Area.{Area}
use Rattle.ix_dir.specs.Crash.{puts_step}
use Rattle.ix_dir.specs.Files.{Contents}
use Rattle.ix_types.specs.Row.{text_cmp}
use Rattle.ix_dir.specs.Images.{Value, values_of, values_step, last_alone}
use Rattle.ix_dir.specs.Moves.{Move, Renamed, Removed, Synced, Placed, same_area, same_name}
use Rattle.ix_dir.specs.ValuesByNumber.{value_at, numbers_step, puts_name}

pub values_of-append : (moves : List Move) (m : Move) (area : Area) (name : List ℕ) → values_of (moves ++ m ∷ []) area name ≡ values_step area name (values_of moves area name) m
values_of-append moves m area name = fold-append (values_step area name) (None ∷ []) moves (m ∷ [])

map-drop : {A B : Type 0} (f : A → B) (n : ℕ) (xs : List A) → map f (drop n xs) ≡ drop n (map f xs)
map-drop f zero xs = refl
map-drop f (suc n) [] = refl
map-drop f (suc n) (x ∷ xs) = map-drop f n xs

pub take_full : {A : Type 0} (xs : List A) (n : ℕ) → length xs ≤ n → take n xs ≡ xs
take_full [] zero h = refl
take_full [] (suc n) h = refl
take_full (x ∷ xs) zero h = absurd (omega arith)
take_full (x ∷ xs) (suc n) h = ap (λ rest. x ∷ rest) (take_full xs n (omega arith))

pub any_map : {A B : Type 0} (p : B → Bool) (f : A → B) (xs : List A) → list_any (λ x. p (f x)) xs ≡ list_any p (map f xs)
any_map p f [] = refl
any_map p f (x ∷ xs) = ap (λ b. p (f x) || b) (any_map p f xs)

map-length : {A B : Type 0} (f : A → B) (xs : List A) → length (map f xs) ≡ length xs
map-length f [] = refl
map-length f (x ∷ xs) = ap suc (map-length f xs)

inserted : (b : Bool) (old : Contents) (n q bytes : List ℕ) → is_some (get (cond b (insert old n bytes) old) q) ≡ ((b && same_name n q) || is_some (get old q))
inserted true old n q bytes =
    ap is_some (get-insert nat_list_cmp_total old n bytes q) ∙ tested (same_name n q) (eq_by_cmp text_cmp q n) (sym (texts_ties q n) ∙ nat_list_eq_equiv.symm q n) where
      tested : (s t : Bool) → t ≡ s → is_some (cond t (Some bytes) (get old q)) ≡ (s || is_some (get old q))
      tested true t e = rw e refl
      tested false t e = rw e refl
inserted false old n q bytes = refl

pub put_step : (area : Area) (q : List ℕ) (old : Contents) (m : Move) → is_some (get (puts_step area old m) q) ≡ (puts_name area q m || is_some (get old q))
put_step area q old (Renamed a n bytes stamp) = inserted (same_area area a) old n q bytes
put_step area q old (Removed a n) = refl
put_step area q old (Synced a) = refl
put_step area q old (Placed a n bytes stamp) = inserted (same_area area a) old n q bytes

module _ (moves : List Move) where
  appended : (b : Bool) (numbers : List (Option ℕ)) (number : Option ℕ) (v : Value) → value_at moves number ≡ v
      → map (value_at moves) (cond b (numbers ++ number ∷ []) numbers) ≡ cond b (map (value_at moves) numbers ++ v ∷ []) (map (value_at moves) numbers)
  appended true numbers number v e = map-append (value_at moves) numbers (number ∷ []) ∙ ap (λ x. map (value_at moves) numbers ++ x ∷ []) e
  appended false numbers number v e = refl

  lasting : (b : Bool) (numbers : List (Option ℕ)) → map (value_at moves) (cond b (last_alone numbers) numbers) ≡ cond b (last_alone (map (value_at moves) numbers)) (map (value_at moves) numbers)
  lasting true numbers = map-drop (value_at moves) (length numbers - 1) numbers ∙ ap (λ n. drop (n - 1) (map (value_at moves) numbers)) (sym (map-length (value_at moves) numbers))
  lasting false numbers = refl

  placing : (b : Bool) (numbers : List (Option ℕ)) (number : Option ℕ) (v : Value) → value_at moves number ≡ v
      → map (value_at moves) (cond b (number ∷ []) numbers) ≡ cond b (v ∷ []) (map (value_at moves) numbers)
  placing true numbers number v e = ap (λ x. x ∷ []) e
  placing false numbers number v e = refl

  step : (area : Area) (name : List ℕ) (numbers : List (Option ℕ)) (k : ℕ) (m : Move) → slice_get moves k ≡ Some m
      → map (value_at moves) (numbers_step area name numbers k m) ≡ values_step area name (map (value_at moves) numbers) m
  step area name numbers k (Renamed a n bytes stamp) at = appended _ numbers (Some k) (Some bytes) (rw at refl)
  step area name numbers k (Removed a n) at = appended _ numbers None None refl
  step area name numbers k (Synced a) at = lasting _ numbers
  step area name numbers k (Placed a n bytes stamp) at = placing _ numbers (Some k) (Some bytes) (rw at refl)

  at_number : (k : ℕ) (m : Move) → k < length moves → m ≡ get_or moves k m → slice_get moves k ≡ Some m
  at_number k m lt is = slice_get-get_or moves k m lt ∙ ap Some (sym is)

  taken : (k : ℕ) (m : Move) → k < length moves → m ≡ get_or moves k m → take (k + 1) moves ≡ take k moves ++ m ∷ []
  taken k m lt is = take_more moves k m lt ∙ ap (λ x. take k moves ++ x ∷ []) (sym is)

  pub values_more : (area : Area) (name : List ℕ) (numbers : List (Option ℕ)) (k : ℕ) (m : Move) → k < length moves → m ≡ get_or moves k m
      → map (value_at moves) numbers ≡ values_of (take k moves) area name → map (value_at moves) (numbers_step area name numbers k m) ≡ values_of (take (k + 1) moves) area name
  values_more area name numbers k m lt is so_far =
      step area name numbers k m (at_number k m lt is)
      ∙ ap (λ values. values_step area name values m) so_far
      ∙ sym (values_of-append (take k moves) m area name)
      ∙ ap (λ ms. values_of ms area name) (sym (taken k m lt is))
