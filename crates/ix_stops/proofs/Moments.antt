-- The moments of a step, each with the publications that are made by then.
use Rattle.std.proofs.Common.{◌≡◌, ◌⊎◌, inl, inr, ℕ, zero, suc, ◌+◌, ◌-◌, ◌≤◌, List, [], ◌∷◌, ◌++◌, length, take, drop, fold, sym, ap, subst, ◌∙◌, Option, arith}
use Rattle.std.proofs.lemmas.List.{length-append, take-append-le, drop-append-le, take-append-drop}
use Rattle.std.proofs.lemmas.List.Elements.{filter_map-append}
use Rattle.std.proofs.lemmas.List.Sums.{fold-append}
use Rattle.std.proofs.Math.Seq.{take-append-add, take-length}
use Rattle.ix_dir.specs.declared.area.Area.TheVariants.{Units, Records}
use Rattle.ix_dir.specs.declared.moves.Move.{Move}
use Rattle.ix_dir.specs.declared.moves.Move.TheVariants as move
use Rattle.ix_dir.specs.Images.{Image, IsImage}
use Rattle.ix_model.specs.declared.publication.Publication.{Publication}
use Rattle.ix_model.specs.Units.{units_at}
use Rattle.ix_machine.specs.Counts.{UnitsMove, Changed, Synced, Changes, counted, changes_after}
use Rattle.ix_stops.specs.Changes.{units_move, units_moves, waiting_step, waiting}
use Rattle.ix_stops.specs.OnDisk.{IsOnDisk}
use Rattle.ix_stops.specs.Prefixes.{CountsFrom, IsPrefixAt, LeavesPrefixes}
use Rattle.ix_stops.specs.Given.{Laws}
use Rattle.ix_stops.proofs.Prefix.{prefix_left}

-- ---- counts

-- what is made and not acknowledged waits
pub waits_from : (moves : List Move) (c : Changes) (n : ℕ) → c.acknowledged + n ≡ c.made → (fold counted c (units_moves moves)).acknowledged + fold waiting_step n moves ≡ (fold counted c (units_moves moves)).made
waits_from [] c n e = e
waits_from (move.Renamed Units name bytes stamp ∷ moves) c n e = waits_from moves (counted c Changed) (suc n) (omega (arith, e))
waits_from (move.Renamed Records name bytes stamp ∷ moves) c n e = waits_from moves c n e
waits_from (move.Removed Units name ∷ moves) c n e = waits_from moves (counted c Changed) (suc n) (omega (arith, e))
waits_from (move.Removed Records name ∷ moves) c n e = waits_from moves c n e
waits_from (move.Synced Units ∷ moves) c n e = waits_from moves (counted c Synced) 0 (omega arith)
waits_from (move.Synced Records ∷ moves) c n e = waits_from moves c n e
waits_from (move.Placed area name bytes stamp ∷ moves) c n e = waits_from moves c n e

made_alike : (moves : List UnitsMove) (c d : Changes) → c.made ≡ d.made → (fold counted c moves).made ≡ (fold counted d moves).made
made_alike [] c d e = e
made_alike (Changed ∷ moves) c d e = made_alike moves (counted c Changed) (counted d Changed) (ap suc e)
made_alike (Synced ∷ moves) c d e = made_alike moves (counted c Synced) (counted d Synced) e

abbrev pub none_yet : ℕ → Changes
none_yet base = record { made = base; acknowledged = base }

one_more : (j n : ℕ) → j ≤ n + 1 → (j ≤ n) ⊎ (j ≡ n + 1)
one_more zero n h = inl (omega arith)
one_more (suc j) zero h = inr (omega (arith, h))
one_more (suc j) (suc n) h = elim (one_more j n (omega (arith, h))) as (λ _. (suc j ≤ suc n) ⊎ (suc j ≡ suc n + 1)) [
  | inl below ↦ inl (omega (arith, below))
  | inr same ↦ inr (omega (arith, same))
]

-- ---- the moments of a step

module _ (laws : Laws) (name_of : List ℕ → List ℕ) (earlier publications : List Publication) (before : List Move) where
  -- so many moves behind the start, some of the publications are on disk
  pub record Reached (more : List Move) : Type 0 where
    pub pending : Option ℕ
    pub so_far : List Publication
    pub later : List Publication
    pub parts : so_far ++ later ≡ publications
    pub disk : IsOnDisk name_of pending so_far (before ++ more)
    pub count : (changes_after (length earlier) (units_moves more)).made ≡ length so_far

  module _ (from base : ℕ) (counts : CountsFrom from base earlier before) (more : List Move) where
    abbrev now : List Move
    now = before ++ more

    abbrev since : List UnitsMove
    since = units_moves (drop from now)

    made_on : (changes_after base since).made ≡ (changes_after (length earlier) (units_moves more)).made
    made_on =
        ap (λ (ms : List Move). (changes_after base (units_moves ms)).made) (drop-append-le from before more counts.within)
        ∙ ap (λ (us : List UnitsMove). (changes_after base us).made) (filter_map-append units_move (drop from before) more)
        ∙ ap (λ (c : Changes). c.made) (fold-append counted (none_yet base) (units_moves (drop from before)) (units_moves more))
        ∙ made_alike (units_moves more) (changes_after base (units_moves (drop from before))) (none_yet (length earlier)) counts.each

    none_waited : waiting (take from now) ≡ 0
    none_waited = ap waiting (take-append-le from before more counts.within) ∙ counts.none_waits

    waiting_is : waiting now ≡ fold waiting_step 0 (drop from now)
    waiting_is =
        ap waiting (sym (take-append-drop from now))
        ∙ fold-append waiting_step 0 (take from now) (drop from now)
        ∙ ap (λ n. fold waiting_step n (drop from now)) none_waited

    counted_on : (changes_after (length earlier) (units_moves more)).made ≡ length publications → CountsFrom from base publications now
    counted_on count =
        let n : length now ≡ length before + length more = length-append before more in
        let within = counts.within in
        record { within = omega (arith, n, within); none_waits = none_waited; each = made_on ∙ count }

    prefix_at : (reached : Reached more) (image : Image) → IsImage now image → IsPrefixAt name_of publications from base now image
    prefix_at reached image left =
        let made_is : (changes_after base since).made ≡ length reached.so_far = made_on ∙ reached.count in
        let r = prefix_left laws name_of reached.so_far now image left reached.pending reached.disk in
        let all : length reached.so_far + length reached.later ≡ length publications = sym (length-append reached.so_far reached.later) ∙ ap length reached.parts in
        let known : (changes_after base since).acknowledged + fold waiting_step 0 (drop from now) ≡ (changes_after base since).made = waits_from (drop from now) (none_yet base) 0 (omega arith) in
        let made_small : (changes_after base since).made ≤ length publications = omega (arith, made_is, all) in
        let known_small : (changes_after base since).acknowledged ≤ length publications = omega (arith, made_small, known) in
        let made_mark = laws.marks (changes_after base since).made publications made_small in
        let known_mark = laws.marks (changes_after base since).acknowledged publications known_small in
        let enough = r.enough in
        let within = r.within in
        record {
          count = r.count;
          enough = omega (arith, enough, known, known_mark, made_is, waiting_is);
          within = omega (arith, within, made_mark, made_is);
          units = r.units ∙ sym (laws.prefix reached.so_far reached.later r.count within) ∙ ap (λ ps. units_at ps r.count) reached.parts;
          refused = r.refused;
        }

  -- ---- all of them

  abbrev pub AllReached : List Move → Type 0
  AllReached more = (j : ℕ) → j ≤ length more → Reached (take j more)

  pub at_start : Reached [] → AllReached []
  at_start reached zero small = reached
  at_start reached (suc j) small = absurd (omega (arith, small))

  pub and_then : (more : List Move) (m : Move) → AllReached more → Reached (more ++ m ∷ []) → AllReached (more ++ m ∷ [])
  and_then more m all last j small =
      let n : length (more ++ m ∷ []) ≡ length more + 1 = length-append more (m ∷ []) in
      elim (one_more j (length more) (omega (arith, n, small))) as (λ _. Reached (take j (more ++ m ∷ []))) [
        | inl h ↦ subst Reached (sym (take-append-le j more (m ∷ []) h)) (all j h)
        | inr h ↦ subst Reached (sym (ap (λ k. take k (more ++ m ∷ [])) (h ∙ sym n) ∙ take-length (more ++ m ∷ []))) last
      ]

  pub leaves : (more : List Move) → AllReached more → (changes_after (length earlier) (units_moves more)).made ≡ length publications → LeavesPrefixes name_of earlier publications before (before ++ more)
  leaves more all count = record {
    counted = λ from base counts. counted_on from base counts more count;
    left = λ from base counts moment image since within left.
        let j = moment - length before in
        let n : length (before ++ more) ≡ length before + length more = length-append before more in
        let e : moment ≡ length before + (moment - length before) = omega (arith, since) in
        let up_to : take moment (before ++ more) ≡ before ++ take j more = ap (λ k. take k (before ++ more)) e ∙ take-append-add before more j in
        subst (λ (ms : List Move). IsPrefixAt name_of publications from base ms image) (sym up_to)
        (prefix_at from base counts (take j more) (all j (omega (arith, n, within))) image (subst (λ (ms : List Move). IsImage ms image) up_to left));
  }
