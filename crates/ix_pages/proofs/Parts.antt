-- What a put, a removal and a look-up make of pairs that are parted by the key.
use Rattle.std.proofs.Common.{◌≡◌, List, [], ◌∷◌, ◌++◌, map, refl, ◌∙◌, ap, subst, Option, Some, None}
use Rattle.std.specs.Option.{option_map, option_to_list}
use Rattle.std.specs.List.{AllByRecursion}
use Rattle.std.specs.declared.cmp.Ordering.{Ordering}
use Rattle.std.specs.declared.cmp.Ordering.TheVariants.{Less, Greater}
use Rattle.std.specs.Ordering.{is_le}
use Rattle.std.proofs.lemmas.List.Elements.{filter-append}
use Rattle.std.proofs.lemmas.List.{map-append, append_assoc}
use Rattle.ix_pages.specs.Pairs.{IsParted, with_pair, without_key, look_up, from_key}
use Rattle.ix_pages.proofs.Rising.{with_pair_right, without_key_right, without_key_before, look_up_right, look_up_before, from_key_before, from_key_behind}

module _ {K V : Type 0} (cmp : K → K → Ordering) where
  with_pair_before : (new : K × V) (ys : List (K × V)) → AllByRecursion (λ y. cmp new.0 y.0 ≡ Less) ys → with_pair cmp ys new ≡ new ∷ ys
  with_pair_before new [] greater = refl
  with_pair_before new (y ∷ ys) greater = rw greater.0 refl

  pub with_parted : (new : K × V) (es lesser : List (K × V)) (same : Option (K × V)) (greater : List (K × V)) → IsParted cmp new.0 es lesser same greater → with_pair cmp es new ≡ lesser ++ new ∷ greater
  with_parted new es lesser None greater parted =
      ap (λ es. with_pair cmp es new) parted.all ∙ with_pair_right cmp new lesser greater parted.are_lesser ∙ ap (λ ys. lesser ++ ys) (with_pair_before new greater parted.are_greater)
  with_parted new es lesser (Some y) greater parted =
      ap (λ es. with_pair cmp es new) parted.all ∙ with_pair_right cmp new lesser (y ∷ greater) parted.are_lesser ∙ ap (λ ys. lesser ++ ys) (rw parted.is_same refl)

  pub with_parted_at : (key : K) (new : K × V) (es lesser : List (K × V)) (same : Option (K × V)) (greater : List (K × V)) → key ≡ new.0 → IsParted cmp key es lesser same greater → with_pair cmp es new ≡ lesser ++ new ∷ greater
  with_parted_at key new es lesser same greater at parted = with_parted new es lesser same greater (subst (λ k. IsParted cmp k es lesser same greater) at parted)

  pub without_parted : (key : K) (es lesser : List (K × V)) (same : Option (K × V)) (greater : List (K × V)) → IsParted cmp key es lesser same greater → without_key cmp es key ≡ lesser ++ greater
  without_parted key es lesser None greater parted =
      ap (λ es. without_key cmp es key) parted.all ∙ without_key_right cmp key lesser greater parted.are_lesser ∙ ap (λ ys. lesser ++ ys) (without_key_before cmp key greater parted.are_greater)
  without_parted key es lesser (Some y) greater parted =
      ap (λ es. without_key cmp es key) parted.all ∙ without_key_right cmp key lesser (y ∷ greater) parted.are_lesser ∙ ap (λ ys. lesser ++ ys) (rw parted.is_same refl)

  pub look_up_parted : (key : K) (es lesser : List (K × V)) (same : Option (K × V)) (greater : List (K × V)) → IsParted cmp key es lesser same greater → look_up cmp es key ≡ option_map (λ pair. pair.1) same
  look_up_parted key es lesser None greater parted =
      ap (λ es. look_up cmp es key) parted.all ∙ look_up_right cmp key lesser greater parted.are_lesser ∙ look_up_before cmp key greater parted.are_greater
  look_up_parted key es lesser (Some y) greater parted =
      ap (λ es. look_up cmp es key) parted.all ∙ look_up_right cmp key lesser (y ∷ greater) parted.are_lesser ∙ rw parted.is_same refl

  from_key_right : (key : K) (xs ys : List (K × V)) → AllByRecursion (λ x. cmp key x.0 ≡ Greater) xs → from_key cmp (xs ++ ys) key ≡ from_key cmp ys key
  from_key_right key xs ys lesser = filter-append (λ pair. is_le (cmp key pair.0)) xs ys ∙ ap (λ zs. zs ++ from_key cmp ys key) (from_key_behind cmp key xs lesser)

  pub from_key_parted : (key : K) (es lesser : List (K × V)) (same : Option (K × V)) (greater : List (K × V)) → IsParted cmp key es lesser same greater → from_key cmp es key ≡ option_to_list same ++ greater
  from_key_parted key es lesser None greater parted =
      ap (λ es. from_key cmp es key) parted.all ∙ from_key_right key lesser greater parted.are_lesser ∙ from_key_before cmp key greater parted.are_greater
  from_key_parted key es lesser (Some y) greater parted =
      ap (λ es. from_key cmp es key) parted.all ∙ from_key_right key lesser (y ∷ greater) parted.are_lesser ∙ rw parted.is_same (ap (λ ys. y ∷ ys) (from_key_before cmp key greater parted.are_greater))

-- a page made of the pairs in front, a new one, and those behind
pub made_with : {X Y : Type 0} (f : X → Y) (p0 p1 p2 p3 lesser greater : List X) (e : X) (new : Y) → p0 ≡ [] → map f p1 ≡ map f p0 ++ map f lesser → p2 ≡ p1 ++ e ∷ [] → f e ≡ new → map f p3 ≡ map f p2 ++ map f greater → map f p3 ≡ map f lesser ++ new ∷ map f greater
made_with f p0 p1 p2 p3 lesser greater e new none front pushed same back =
    let one : map f p1 ≡ map f lesser = front ∙ ap (λ p. map f p ++ map f lesser) none in
    back
    ∙ ap (λ p. map f p ++ map f greater) pushed
    ∙ ap (λ p. p ++ map f greater) (map-append f p1 (e ∷ []))
    ∙ append_assoc (map f p1) (f e ∷ []) (map f greater)
    ∙ ap (λ p. p ++ (f e ∷ map f greater)) one
    ∙ ap (λ y. map f lesser ++ (y ∷ map f greater)) same

-- the same without a new one
pub made_without : {X Y : Type 0} (f : X → Y) (p0 p1 p2 lesser greater : List X) → p0 ≡ [] → map f p1 ≡ map f p0 ++ map f lesser → map f p2 ≡ map f p1 ++ map f greater → map f p2 ≡ map f lesser ++ map f greater
made_without f p0 p1 p2 lesser greater none front back =
    back ∙ ap (λ p. p ++ map f greater) (front ∙ ap (λ p. map f p ++ map f lesser) none)
