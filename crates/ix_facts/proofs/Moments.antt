-- The moments of a step: what is made and acknowledged by then.
use Rattle.std.proofs.Common.{◌≡◌, ℕ, suc, ◌+◌, ◌-◌, ◌≤◌, List, [], ◌∷◌, ◌++◌, length, take, drop, fold, Option, Some, sym, ap, subst, ◌∙◌, arith}
use Rattle.std.proofs.lemmas.List.{append_assoc, length-append, drop-append-le, take-append-drop}
use Rattle.std.proofs.lemmas.List.Elements.{filter_map-append}
use Rattle.std.proofs.lemmas.List.Sums.{fold-append}
use Rattle.std.proofs.Math.Seq.{drop-length, take-append-add, take-length}
use Rattle.std.specs.List.{count_by}
use Rattle.ix_dir.specs.declared.moves.Move.{Move}
use Rattle.ix_dir.specs.Images.{Image, IsImage}
use Rattle.ix_dir.specs.State.{DirState}
use Rattle.ix_dir.specs.WhatAChangeLeaves.{Adds, AddsTo, IfTold}
use Rattle.ix_shelf.specs.Shelf.{OnShelf}
use Rattle.ix_model.specs.declared.publication.Publication.{Publication}
use Rattle.ix_model.specs.Units.{units_after, units_at}
use Rattle.ix_machine.specs.declared.event.Outcome.{Outcome}
use Rattle.ix_machine.specs.Counts.{Changed, Changes, Synced, UnitsMove, acknowledged, changes_after, counted, is_change}
use Rattle.ix_machine.specs.Given.{Given}
use Rattle.ix_machine.specs.State.{State}
use Rattle.ix_ledger.specs.Kept.{Kept}
use Rattle.ix_opening.specs.Found.{opening_of}
use Rattle.ix_stops.specs.Changes.{units_move, units_moves, waiting}
use Rattle.ix_stops.specs.Prefixes.{CountsFrom, IsPrefix, IsPrefixAt, LeavesPrefixes}
use Rattle.ix_library.specs.declared.known.KnownStamps.{KnownStamps}
use Rattle.ix_library.specs.StandsFor.{Takes}
use Rattle.ix_facts.specs.Given.{StepLaws}

-- ---- counts

pub made_rises : (moves : List UnitsMove) (c : Changes) → c.made ≤ (fold counted c moves).made
made_rises [] c = omega arith
made_rises (Changed ∷ moves) c = let rest = made_rises moves (counted c Changed) in omega (arith, rest)
made_rises (Synced ∷ moves) c = made_rises moves (counted c Synced)

-- what is acknowledged is made, and stays acknowledged
pub acknowledged_rises : (moves : List UnitsMove) (c : Changes) → c.acknowledged ≤ c.made → c.acknowledged ≤ (fold counted c moves).acknowledged
acknowledged_rises [] c h = omega arith
acknowledged_rises (Changed ∷ moves) c h = acknowledged_rises moves (counted c Changed) (omega (arith, h))
acknowledged_rises (Synced ∷ moves) c h = let rest = acknowledged_rises moves (counted c Synced) (omega arith) in omega (arith, rest, h)

pub acknowledged_within : (moves : List UnitsMove) (c : Changes) → c.acknowledged ≤ c.made → (fold counted c moves).acknowledged ≤ (fold counted c moves).made
acknowledged_within [] c h = h
acknowledged_within (Changed ∷ moves) c h = acknowledged_within moves (counted c Changed) (omega (arith, h))
acknowledged_within (Synced ∷ moves) c h = acknowledged_within moves (counted c Synced) (omega arith)

abbrev pub none_yet : ℕ → Changes
none_yet base = record { made = base; acknowledged = base }

module _ (from base : ℕ) (before : List Move) (within : from ≤ length before) where
  abbrev pub Since : List Move → Changes
  Since moves = changes_after base (units_moves (drop from moves))

  -- the changes with more moves behind
  pub parts : (more : List Move) → Since (before ++ more) ≡ fold counted (Since before) (units_moves more)
  parts more =
      ap (λ (ms : List Move). changes_after base (units_moves ms)) (drop-append-le from before more within)
      ∙ ap (λ (us : List UnitsMove). changes_after base us) (filter_map-append units_move (drop from before) more)
      ∙ fold-append counted (none_yet base) (units_moves (drop from before)) (units_moves more)

-- ---- a step

module _ (laws : StepLaws) (name_of : List ℕ → List ℕ) (s : State) (later : List Publication) (before more : List Move) (leaves : LeavesPrefixes name_of s.publications later before (before ++ more)) where
  module _ (from base : ℕ) (counts : CountsFrom from base s.publications before) where
    -- as many changes as publications
    pub as_published : ((opened : ℕ) (moves : List UnitsMove) → (changes_after opened moves).made ≡ opened + count_by is_change moves) → length s.publications + count_by is_change (units_moves more) ≡ length later
    as_published count =
        let each : (changes_after base (units_moves (drop from (before ++ more)))).made ≡ length later = (leaves.counted from base counts).each in
        let start : (changes_after base (units_moves (drop from before))).made ≡ length s.publications = counts.each in
        let all : changes_after base (units_moves (drop from (before ++ more))) ≡ fold counted (changes_after base (units_moves (drop from before))) (units_moves more) = parts from base before counts.within more in
        let added = made_on (units_moves more) (changes_after base (units_moves (drop from before))) (length s.publications) start in
        sym (count (length s.publications) (units_moves more)) ∙ sym added ∙ sym (ap (λ (c : Changes). c.made) all) ∙ each
      where
        made_on : (us : List UnitsMove) (c : Changes) (n : ℕ) → c.made ≡ n → (fold counted c us).made ≡ (changes_after n us).made
        made_on us c n is = alike us c (none_yet n) is
          where
            alike : (us : List UnitsMove) (c d : Changes) → c.made ≡ d.made → (fold counted c us).made ≡ (fold counted d us).made
            alike [] c d e = e
            alike (Changed ∷ us) c d e = alike us (counted c Changed) (counted d Changed) (ap suc e)
            alike (Synced ∷ us) c d e = alike us (counted c Synced) (counted d Synced) e

    -- where none is made, each moment has those that were acknowledged before the step, at least
    pub between : later ≡ s.publications → (moment : ℕ) (image : Image) → length before ≤ moment → moment ≤ length (before ++ more) → IsImage (take moment (before ++ more)) image
        → IsPrefix name_of s.publications (acknowledged s.publications base (units_moves (drop from before))) (length s.publications) image
    between same moment image since within left =
        let n : length (before ++ more) ≡ length before + length more = length-append before more in
        let j = moment - length before in
        let e : moment ≡ length before + (moment - length before) = omega (arith, since) in
        let front : take moment (before ++ more) ≡ before ++ take j more = ap (λ k. take k (before ++ more)) e ∙ take-append-add before more j in
        let p : IsPrefixAt name_of s.publications from base (before ++ take j more) image =
        subst (λ (ps : List Publication). IsPrefixAt name_of ps from base (before ++ take j more) image) same
        (subst (λ (ms : List Move). IsPrefixAt name_of later from base ms image) front (leaves.left from base counts moment image since within left)) in
        let start : Changes = changes_after base (units_moves (drop from before)) in
        let here : Changes = changes_after base (units_moves (drop from (before ++ take j more))) in
        let end : Changes = changes_after base (units_moves (drop from (before ++ more))) in
        let to_here : here ≡ fold counted start (units_moves (take j more)) = parts from base before counts.within (take j more) in
        let here_made = ap (λ (c : Changes). c.made) to_here in
        let here_known = ap (λ (c : Changes). c.acknowledged) to_here in
        let each : end.made ≡ length s.publications = (leaves.counted from base counts).each ∙ ap length same in
        let split : before ++ more ≡ (before ++ take j more) ++ drop j more = ap (λ (ms : List Move). before ++ ms) (sym (take-append-drop j more)) ∙ sym (append_assoc before (take j more) (drop j more)) in
        let begin = counts.within in
        let longer : from ≤ length (before ++ take j more) = let m = length-append before (take j more) in omega (arith, m, begin) in
        let to_end : end.made ≡ (fold counted here (units_moves (drop j more))).made =
        ap (λ (ms : List Move). (changes_after base (units_moves (drop from ms))).made) split ∙ ap (λ (c : Changes). c.made) (parts from base (before ++ take j more) longer (drop j more)) in
        let less = made_rises (units_moves (drop j more)) here in
        let start_within = acknowledged_within (units_moves (drop from before)) (none_yet base) (omega arith) in
        let rises = acknowledged_rises (units_moves (take j more)) start start_within in
        let here_within = acknowledged_within (units_moves (drop from (before ++ take j more))) (none_yet base) (omega arith) in
        let a = laws.marks start.acknowledged s.publications (omega (arith, rises, here_known, here_within, less, to_end, each)) in
        let b = laws.marks here.acknowledged s.publications (omega (arith, here_within, less, to_end, each)) in
        let c = laws.marks here.made s.publications (omega (arith, less, to_end, each)) in
        let enough = p.enough in
        let most = p.within in
        record {
          count = p.count;
          enough = omega (arith, enough, a, b, rises, here_known);
          within = omega (arith, most, c, less, to_end, each);
          units = p.units;
          refused = p.refused;
        }

  -- counted from the start of the step, where nothing waits there
  pub counts_here : waiting before ≡ 0 → CountsFrom (length before) (length s.publications) s.publications before
  counts_here none = record {
    within = omega arith;
    none_waits = ap waiting (take-length before) ∙ none;
    each = ap (λ (ms : List Move). (changes_after (length s.publications) (units_moves ms)).made) (drop-length before);
  }

  pub all_there : later ≡ s.publications → waiting before ≡ 0 → (moment : ℕ) (image : Image) → length before ≤ moment → moment ≤ length (before ++ more) → IsImage (take moment (before ++ more)) image
      → ((opening_of name_of image).units ≡ units_after s.publications) × ((opening_of name_of image).refused ≡ [])
  all_there same none moment image since within left =
      let p = between (length before) (length s.publications) (counts_here none) same moment image since within left in
      let nothing : units_moves (drop (length before) before) ≡ [] = ap units_moves (drop-length before) in
      let least : acknowledged s.publications (length s.publications) (units_moves (drop (length before) before)) ≡ length s.publications =
      ap (acknowledged s.publications (length s.publications)) nothing ∙ laws.marks (length s.publications) s.publications (omega arith) in
      let enough = p.enough in
      let most = p.within in
      let all : p.count ≡ length s.publications = omega (arith, enough, most, least) in
      (p.units ∙ ap (units_at s.publications) all, p.refused)

-- ---- of a library

module _ (laws : StepLaws) (name_of : List ℕ → List ℕ) (s : State) (lane : ℕ) (given : Given) (flag outcome : Outcome) (dir after : DirState) (kept : Kept) (shelf : OnShelf) (known : KnownStamps) (before now : List Move)
    (takes : Takes name_of s lane given flag outcome dir kept shelf known after) (was : dir.moves ≡ Some before) (is : after.moves ≡ Some now) where
  pub added : Adds before now
  added = subst (λ (o : Option (List Move)). AddsTo (Some before) o) is (subst (λ (o : Option (List Move)). AddsTo o after.moves) was takes.adds)

  pub left_here : LeavesPrefixes name_of s.publications takes.next.publications before now
  left_here =
      subst (λ (o : Option (List Move)). IfTold (Some before) o (LeavesPrefixes name_of s.publications takes.next.publications)) is
      (subst (λ (o : Option (List Move)). IfTold o after.moves (LeavesPrefixes name_of s.publications takes.next.publications)) was takes.leaves)

  pub none_made_synced : takes.next.publications ≡ s.publications → (moment : ℕ) (image : Image) → waiting before ≡ 0 → length before ≤ moment → moment ≤ length now → IsImage (take moment now) image
      → ((opening_of name_of image).units ≡ units_after s.publications) × ((opening_of name_of image).refused ≡ [])
  none_made_synced same moment image none since within left =
      let is_more : now ≡ before ++ added.more = added.added in
      all_there laws name_of s takes.next.publications before added.more (subst (λ (ms : List Move). LeavesPrefixes name_of s.publications takes.next.publications before ms) is_more left_here) same none moment image since
      (subst (λ (ms : List Move). moment ≤ length ms) is_more within) (subst (λ (ms : List Move). IsImage (take moment ms) image) is_more left)

  pub none_made_between : takes.next.publications ≡ s.publications → (from base : ℕ) → CountsFrom from base s.publications before → (moment : ℕ) (image : Image) → length before ≤ moment → moment ≤ length now → IsImage (take moment now) image
      → IsPrefix name_of s.publications (acknowledged s.publications base (units_moves (drop from before))) (length s.publications) image
  none_made_between same from base counts moment image since within left =
      let is_more : now ≡ before ++ added.more = added.added in
      between laws name_of s takes.next.publications before added.more (subst (λ (ms : List Move). LeavesPrefixes name_of s.publications takes.next.publications before ms) is_more left_here) from base counts same moment image since
      (subst (λ (ms : List Move). moment ≤ length ms) is_more within) (subst (λ (ms : List Move). IsImage (take moment ms) image) is_more left)
