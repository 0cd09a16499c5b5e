-- What the definitions say, in other words.
use Rattle.std.proofs.Common.{◌≡◌, ℕ, ◌+◌, ◌≤◌, List, [], length, take, drop, fold, sym, ap, subst, ◌∙◌, None, arith}
use Rattle.std.proofs.lemmas.List.{take-append-drop}
use Rattle.std.proofs.lemmas.List.Sums.{fold-append}
use Rattle.std.proofs.Math.Seq.{take-length}
use Rattle.ix_dir.specs.declared.area.Area.TheVariants.{Units}
use Rattle.ix_dir.specs.declared.moves.Move.{Move}
use Rattle.ix_dir.specs.Crash.{IsSettledIn}
use Rattle.ix_dir.specs.Images.{Image, IsImage}
use Rattle.ix_model.specs.declared.publication.Publication.{Publication}
use Rattle.ix_model.specs.Units.{units_at, units_after}
use Rattle.ix_machine.specs.Counts.{changes_after}
use Rattle.ix_machine.specs.State.{State}
use Rattle.ix_opening.specs.Found.{opening_of}
use Rattle.ix_stops.specs.Changes.{units_moves, waiting_step, waiting}
use Rattle.ix_stops.specs.Given.{Laws}
use Rattle.ix_stops.specs.OnDisk.{OnePends}
use Rattle.ix_stops.specs.Prefixes.{CountsFrom, IsPrefixAt, LeavesPrefixes}
use Rattle.ix_stops.specs.Stands.{StandsOnDisk}
use Rattle.ix_stops.proofs.Moments.{waits_from, none_yet}

module _ (laws : Laws) (name_of : List ℕ → List ℕ) (earlier publications : List Publication) (before now : List Move) (from base : ℕ) (leaves : LeavesPrefixes name_of earlier publications before now)
    (counts : CountsFrom from base earlier before) (within : length before ≤ length now) (none : waiting now ≡ 0) (image : Image) (left : IsImage now image) where
  at_end : IsPrefixAt name_of publications from base now image
  at_end =
      subst (λ (ms : List Move). IsPrefixAt name_of publications from base ms image) (take-length now)
      (leaves.left from base counts (length now) image within (omega arith) (subst (λ (ms : List Move). IsImage ms image) (sym (take-length now)) left))

  all_of_them : at_end.count ≡ length publications
  all_of_them =
      let c = leaves.counted from base counts in
      let none_waited = c.none_waits in
      let each = c.each in
      let since = units_moves (drop from now) in
      let rest : waiting now ≡ fold waiting_step 0 (drop from now) =
      ap waiting (sym (take-append-drop from now)) ∙ fold-append waiting_step 0 (take from now) (drop from now) ∙ ap (λ n. fold waiting_step n (drop from now)) none_waited in
      let known : (changes_after base since).acknowledged + fold waiting_step 0 (drop from now) ≡ (changes_after base since).made = waits_from (drop from now) (none_yet base) 0 (omega arith) in
      let a = laws.marks (changes_after base since).acknowledged publications (omega (arith, known, each)) in
      let b = laws.marks (changes_after base since).made publications (omega (arith, each)) in
      let enough = at_end.enough in
      let most = at_end.within in
      omega (arith, enough, most, a, b, known, each, rest, none)

  pub synced_units : (opening_of name_of image).units ≡ units_after publications
  synced_units = at_end.units ∙ ap (units_at publications) all_of_them

  pub synced_refused : (opening_of name_of image).refused ≡ []
  synced_refused = at_end.refused

pub settled_where_none_pends : (name_of : List ℕ → List ℕ) (s : State) (moves : List Move) → StandsOnDisk name_of s moves → s.pending ≡ None → IsSettledIn Units moves
settled_where_none_pends name_of s moves stands none = subst (λ p. OnePends name_of p s.publications moves) none stands.disk.one_pending
