-- What a stop leaves from the second sync of an opening on.
use Rattle.std.proofs.Common.{◌≡◌, ◌⊎◌, inl, inr, ℕ, zero, suc, ◌+◌, ◌≤◌, List, [], ◌∷◌, ◌++◌, length, take, drop, Option, Some, refl, sym, ap, subst, ◌∙◌, arith}
use Rattle.std.proofs.lemmas.List.{length-append, take-append-le}
use Rattle.std.proofs.Math.ListN.{drop_of_length-le}
use Rattle.std.proofs.Math.Seq.{take-length}
use Rattle.ix_dir.specs.declared.moves.Move.{Move}
use Rattle.ix_dir.specs.Crash.{standing}
use Rattle.ix_dir.specs.Images.{Image, IsImage}
use Rattle.ix_model.specs.declared.publication.Publication.{Publication}
use Rattle.ix_model.specs.Units.{NamesRise, units_at}
use Rattle.ix_machine.specs.Counts.{UnitsMove, acknowledged, made, mark_with}
use Rattle.ix_machine.specs.Needs.{visible}
use Rattle.ix_machine.specs.Run.{Opening, begun}
use Rattle.ix_machine.specs.State.{State}
use Rattle.ix_opening.specs.AfterOpening.{IsFront, names_of, opening_moves, removals}
use Rattle.ix_opening.specs.Found.{opening_of}
use Rattle.ix_stops.specs.Changes.{units_moves}
use Rattle.ix_stops.specs.Prefixes.{CountsFrom, IsPrefixAt}
use Rattle.ix_facts.specs.Given.{StepLaws}
use Rattle.ix_facts.specs.Runs.{Called, Store, after_calls}
use Rattle.ix_facts.proofs.Lasting.{added_on}
use Rattle.ix_facts.proofs.Playing.{PlaysTo, image_at}

-- what is taken of openings
pub record Laws : Type 0 where
  pub images : (name_of : List ℕ → List ℕ) (before now : List Move) (moment : ℕ) (image : Image) → IsFront name_of before now → length before + 2 ≤ moment → moment ≤ length now → IsImage (take moment now) image → (opening_of name_of image).units ≡ (opening_of name_of (standing before)).units
  pub rise : (name_of : List ℕ → List ℕ) (image : Image) → NamesRise (opening_of name_of image).units
  pub visible : (opening : Opening) (lanes : ℕ) → NamesRise opening.units → visible (begun opening lanes) ≡ opening.units
  pub prefix : (earlier later : List Publication) (n : ℕ) → n ≤ length earlier → units_at (earlier ++ later) n ≡ units_at earlier n

at_least_two : (name_of : List ℕ → List ℕ) (start : List Move) → 2 ≤ length (opening_moves name_of start)
at_least_two name_of start =
    let n : length (opening_moves name_of start) ≡ suc (suc (length (removals (names_of (opening_of name_of (standing start)).refused)))) = refl in
    omega (arith, n)

takes_less : (n : ℕ) (xs : List Move) → length (take n xs) ≤ n
takes_less zero [] = omega arith
takes_less zero (x ∷ xs) = omega arith
takes_less (suc n) [] = omega arith
takes_less (suc n) (x ∷ xs) = let less = takes_less n xs in omega (arith, less)

either : (a b : ℕ) → (a ≤ b) ⊎ (b ≤ a)
either zero b = inl (omega arith)
either (suc a) zero = inr (omega arith)
either (suc a) (suc b) = elim (either a b) as (λ _. (suc a ≤ suc b) ⊎ (suc b ≤ suc a)) [
  | inl less ↦ inl (omega (arith, less))
  | inr more ↦ inr (omega (arith, more))
]

whole_front : (name_of : List ℕ → List ℕ) (start before : List Move) → before ≡ start ++ opening_moves name_of start → IsFront name_of start before
whole_front name_of start before is = record { count = length (opening_moves name_of start); made = is ∙ ap (λ (ms : List Move). start ++ ms) (sym (take-length (opening_moves name_of start))) }

module _ (steps : StepLaws) (name_of : List ℕ → List ℕ) (s : State) (first last : Store) (calls : List Called) (before now : List Move) (all : PlaysTo steps name_of s first calls last) (was : first.dir.moves ≡ Some before) (is : last.dir.moves ≡ Some now) where
  -- up to the start of the run its moves are those from before it
  in_front : (moment : ℕ) → moment ≤ length before → take moment now ≡ take moment before
  in_front moment within =
      let adds = added_on steps name_of s first last calls before now all was is in
      ap (take moment) adds.added ∙ take-append-le moment before adds.more within

module _ (steps : StepLaws) (early : (name_of : List ℕ → List ℕ) (before now : List Move) (moment : ℕ) (image : Image) → IsFront name_of before now → length before ≤ moment → moment ≤ length before + 2 → IsImage (take moment now) image → IsImage before image) where
  pub early_at : (name_of : List ℕ → List ℕ) (s : State) (first last : Store) (calls : List Called) (start before now : List Move) → PlaysTo steps name_of s first calls last → first.dir.moves ≡ Some before → last.dir.moves ≡ Some now
      → before ≡ start ++ opening_moves name_of start → (moment : ℕ) (image : Image) → length start ≤ moment → moment ≤ length start + 2 → IsImage (take moment now) image → IsImage start image
  early_at name_of s first last calls start before now all was is opened moment image since within left =
      let two = at_least_two name_of start in
      let n = length-append start (opening_moves name_of start) in
      let m : length before ≡ length (start ++ opening_moves name_of start) = ap (λ (ms : List Move). length ms) opened in
      early name_of start before moment image (whole_front name_of start before opened) since within
      (subst (λ (ms : List Move). IsImage ms image) (in_front steps name_of s first last calls before now all was is moment (omega (arith, two, n, m, within))) left)

module _ (steps : StepLaws) (laws : Laws) (name_of : List ℕ → List ℕ) (s : State) (lanes : ℕ) (first last : Store) (calls : List Called) (start before now : List Move) (begins : s ≡ begun (opening_of name_of (standing start)) lanes)
    (all : PlaysTo steps name_of s first calls last) (was : first.dir.moves ≡ Some before) (is : last.dir.moves ≡ Some now) (opened : before ≡ start ++ opening_moves name_of start)
    (counts : CountsFrom (length before) (length s.publications) s.publications before) where
  abbrev later : List Publication
  later = (after_calls name_of s calls).publications

  abbrev pub HasUnits : List Move → Image → Type 0
  HasUnits moves image =
      (count : ℕ) × (acknowledged later (length s.publications) (units_moves (drop (length before) moves)) ≤ count)
      × (count ≤ made later (length s.publications) (units_moves (drop (length before) moves)))
      × ((opening_of name_of image).units ≡ units_at later count)

  -- the units that opening found
  found : (opening_of name_of (standing start)).units ≡ units_at later (length s.publications)
  found =
      sym (laws.visible (opening_of name_of (standing start)) lanes (laws.rise name_of (standing start)))
      ∙ ap visible (sym begins)
      ∙ sym (laws.prefix s.publications all.grows.more (length s.publications) (omega arith))
      ∙ ap (λ (ps : List Publication). units_at ps (length s.publications)) (sym all.grows.grown)

  -- in the opening
  in_opening : (moment : ℕ) (image : Image) → length start + 2 ≤ moment → moment ≤ length before → IsImage (take moment now) image → HasUnits (take moment now) image
  in_opening moment image since within left =
      let front = in_front steps name_of s first last calls before now all was is moment within in
      let less = takes_less moment before in
      let none : units_moves (drop (length before) (take moment now)) ≡ [] =
      ap (λ (ms : List Move). units_moves (drop (length before) ms)) front ∙ ap (λ (ms : List Move). units_moves ms) (drop_of_length-le (take moment before) (omega (arith, less, within))) in
      let grown : length later ≡ length s.publications + length all.grows.more = ap (λ (ps : List Publication). length ps) all.grows.grown ∙ length-append s.publications all.grows.more in
      let mark = steps.marks (length s.publications) later (omega (arith, grown)) in
      let least : acknowledged later (length s.publications) (units_moves (drop (length before) (take moment now))) ≡ length s.publications = ap (λ (us : List UnitsMove). acknowledged later (length s.publications) us) none ∙ mark in
      let most : made later (length s.publications) (units_moves (drop (length before) (take moment now))) ≡ length s.publications = ap (λ (us : List UnitsMove). made later (length s.publications) us) none ∙ mark in (
        length s.publications,
        omega (arith, least),
        omega (arith, most),
        laws.images name_of start before moment image (whole_front name_of start before opened) since within (subst (λ (ms : List Move). IsImage ms image) front left) ∙ found,
      )

  in_run : (moment : ℕ) (image : Image) → length before ≤ moment → moment ≤ length now → IsImage (take moment now) image → HasUnits (take moment now) image
  in_run moment image since within left =
      let p : IsPrefixAt name_of later (length before) (length s.publications) (take moment now) image = image_at steps name_of s first last calls before now moment image all was is counts since within left in
      (p.count, p.enough, p.within, p.units)

  pub units_since : (moment : ℕ) (image : Image) → length start + 2 ≤ moment → moment ≤ length now → IsImage (take moment now) image → HasUnits (take moment now) image
  units_since moment image since within left = elim (either moment (length before)) as (λ _. HasUnits (take moment now) image) [
    | inl early ↦ in_opening moment image since early left
    | inr late ↦ in_run moment image late within left
  ]
