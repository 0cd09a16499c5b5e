-- What each step of the machine changes in the guard of its state.
use Rattle.std.proofs.Common.{◌≡◌, ℕ, zero, suc, ◌≤◌, true, List, [], ◌∷◌, ◌++◌, length, map, set, fold, replicate, Option, Some, None, option_map, slice_index_or, IfSome, refl, sym, ap, ◌∙◌, arith}
use Rattle.std.proofs.lemmas.List.{map-set, take-append-le}
use Rattle.std.proofs.lemmas.List.Sums.{fold-append}
use Rattle.std.proofs.Math.Seq.{take-length, map-set_same}
use Rattle.ix_unit.specs.declared.value.UnitValue.{UnitValue}
use Rattle.ix_model.specs.declared.publication.Publication.{Publication}
use Rattle.ix_types.specs.Row.{text_cmp}
use Rattle.ix_model.specs.SortedSet.{IsSortedSetOf, sorted_set}
use Rattle.ix_model.specs.Units.{Units, changed, units_at, units_after}
use Rattle.ix_machine.specs.Needs.{option_any, has_name, visible, seen_at}
use Rattle.ix_machine.specs.Run.{Opening, begun}
use Rattle.ix_machine.specs.Sound.{MarksInOrder}
use Rattle.ix_machine.specs.State.{State, Import, with_staged}
use Rattle.ix_machine.specs.State as state
use Rattle.ix_machine.specs.Step.{with_lease, holding, publishing, noted, install_mark, stage}
use Rattle.ix_guard.specs.Counts.{Counts}
use Rattle.ix_guard.specs.Guarding.{Guarding, Lease, guarding_nothing, with_put, lease_of}
use Rattle.ix_guard.specs.Guarding as guard
use Rattle.ix_guard.specs.Listing.{need_list_of}
use Rattle.ix_guard.specs.OfMachine.{lease_for, guarding_of}
use Rattle.ix_guard.proofs.AsMachine.{lease_at, among_sorted}
use Rattle.ix_guard.proofs.Leasing.{noted_pairs}

-- ---- leases

pub lease_set : (s : State) (lane : ℕ) (o : Option state.Lease) → guarding_of (with_lease s lane o) ≡ record (guarding_of s) { leases = set (guarding_of s).leases lane (option_map lease_for o) }
lease_set s lane o = ap (λ (ls : List (Option Lease)). record (guarding_of s) { leases = ls }) (map-set (option_map lease_for) s.leases lane o)

module _ (sets : (texts : List (List ℕ)) → IsSortedSetOf text_cmp texts (sorted_set text_cmp texts)) where
  lease_noted : (name : List ℕ) (o : Option state.Lease) → option_any (λ (l : state.Lease). has_name name l.names) o ≡ true
      → option_map lease_for (option_map (state.with_put name) o) ≡ option_map (with_put name) (option_map lease_for o)
  lease_noted name None leased = refl
  lease_noted name (Some l) leased = ap Some (sym (noted_pairs l.put name (sorted_set text_cmp l.names) (sets l.names).rises (among_sorted sets name l.names ∙ leased)))

  pub note_step : (s : State) (lane : ℕ) (name : List ℕ) → option_any (λ (l : state.Lease). has_name name l.names) (state.lease_of s lane) ≡ true
      → guarding_of (noted s lane name) ≡ record (guarding_of s) { leases = set (guarding_of s).leases lane (option_map (with_put name) (guard.lease_of (guarding_of s) lane)) }
  note_step s lane name leased =
      lease_set s lane (option_map (state.with_put name) (state.lease_of s lane))
      ∙ ap (λ (o : Option Lease). record (guarding_of s) { leases = set (guarding_of s).leases lane o })
      (lease_noted name (state.lease_of s lane) leased ∙ ap (option_map (with_put name)) (sym (lease_at s.leases lane)))

lease_staged : (unit : UnitValue) (o : Option state.Lease) → option_map lease_for (option_map (with_staged unit) o) ≡ option_map lease_for o
lease_staged unit None = refl
lease_staged unit (Some l) = refl

pub stage_step : (s : State) (lane : ℕ) (unit : UnitValue) → guarding_of (stage s lane unit).plain.state ≡ guarding_of s
stage_step s lane unit =
    ap (λ (ls : List (Option Lease)). record (guarding_of s) { leases = ls })
    (map-set_same (option_map lease_for) s.leases lane (option_map (with_staged unit) (state.lease_of s lane)) None (lease_staged unit (state.lease_of s lane)))

-- ---- holds

pub hold_set : (s : State) (lane : ℕ) (o : Option ℕ) → guarding_of (holding s lane o) ≡ record (guarding_of s) { held = set (guarding_of s).held lane (option_map (λ mark. need_list_of (seen_at s mark)) o) }
hold_set s lane o = ap (λ (hs : List (Option Counts)). record (guarding_of s) { held = hs }) (map-set (option_map (λ mark. need_list_of (seen_at s mark))) s.held lane o)

pub install_step : (s : State) (lane mark : ℕ)
    → guarding_of (install_mark s lane mark).plain.state ≡ record (guarding_of s) { import = None; current = need_list_of (seen_at s mark); held = set (guarding_of s).held lane (Some (need_list_of (seen_at s mark))) }
install_step s lane mark =
    ap (λ (hs : List (Option Counts)). record (guarding_of s) { import = None; current = need_list_of (seen_at s mark); held = hs }) (map-set (option_map (λ m. need_list_of (seen_at s m))) s.held lane (Some mark))

-- ---- one publication more

whole : (ps : List Publication) → units_at ps (length ps) ≡ fold changed [] ps
whole ps = ap (fold changed []) (take-length ps)

pub last_changes : (ps : List Publication) (p : Publication) → units_at (ps ++ p ∷ []) (length (ps ++ p ∷ [])) ≡ changed (units_at ps (length ps)) p
last_changes ps p = whole (ps ++ p ∷ []) ∙ (fold-append changed [] ps (p ∷ []) ∙ ap (λ (units : Units). changed units p) (sym (whole ps)))

module _ (ps : List Publication) (p : Publication) where
  stays : (n : ℕ) → n ≤ length ps → need_list_of (units_at (ps ++ p ∷ []) n) ≡ need_list_of (units_at ps n)
  stays n below = ap (λ (taken : List Publication). need_list_of (fold changed [] taken)) (take-append-le n ps (p ∷ []) below)

  one_stays : (o : Option ℕ) → IfSome o (λ n. n ≤ length ps) → option_map (λ n. need_list_of (units_at (ps ++ p ∷ []) n)) o ≡ option_map (λ n. need_list_of (units_at ps n)) o
  one_stays None below = refl
  one_stays (Some n) below = ap Some (stays n below)

  import_stays : (o : Option Import) → IfSome o (λ i. i.mark ≤ length ps) → option_map (λ (i : Import). need_list_of (units_at (ps ++ p ∷ []) i.mark)) o ≡ option_map (λ (i : Import). need_list_of (units_at ps i.mark)) o
  import_stays None below = refl
  import_stays (Some i) below = ap Some (stays i.mark below)

  held_stay : (held : List (Option ℕ)) → ((lane : ℕ) → IfSome (slice_index_or held lane None) (λ n. n ≤ length ps))
      → map (option_map (λ n. need_list_of (units_at (ps ++ p ∷ []) n))) held ≡ map (option_map (λ n. need_list_of (units_at ps n))) held
  held_stay [] below = refl
  held_stay (o ∷ held) below =
      ap (λ (c : Option Counts). c ∷ map (option_map (λ n. need_list_of (units_at (ps ++ p ∷ []) n))) held) (one_stays o (below zero))
      ∙ ap (λ (cs : List (Option Counts)). option_map (λ n. need_list_of (units_at ps n)) o ∷ cs) (held_stay held (λ lane. below (suc lane)))

if_weaker : {X : Type 0} (P Q : X → Type 0) (o : Option X) → ((x : X) → P x → Q x) → IfSome o P → IfSome o Q
if_weaker P Q None f h = h
if_weaker P Q (Some x) f h = f x h

pub publish_step : (s : State) (p : Publication) (pending : Option ℕ) → MarksInOrder s
    → guarding_of (publishing s p pending) ≡ record (guarding_of s) { visible = need_list_of (changed (visible s) p); unsynced = option_map (λ mark. need_list_of (units_at (s.publications ++ p ∷ []) mark)) pending }
publish_step s p pending marks = λ i. record (guarding_of s) {
  visible = need_list_of (last_changes s.publications p i);
  unsynced = option_map (λ mark. need_list_of (units_at (s.publications ++ p ∷ []) mark)) pending;
  import = import_stays s.publications p s.import (if_weaker (λ (o : Import). (s.current ≤ o.mark) × (o.mark ≤ length s.publications)) (λ (o : Import). o.mark ≤ length s.publications) s.import (λ o h. h.1) marks.imported) i;
  current = stays s.publications p s.current marks.current i;
  held = held_stay s.publications p s.held (λ lane. if_weaker (λ n. n ≤ s.current) (λ n. n ≤ length s.publications) (slice_index_or s.held lane None) (λ n h. let c = marks.current in omega (arith, h, c)) (marks.held lane)) i;
}

pub pending_step : (s : State) (p : Publication) → MarksInOrder s
    → guarding_of (publishing s p (Some (length s.publications))) ≡ record (guarding_of s) { visible = need_list_of (changed (visible s) p); unsynced = Some (guarding_of s).visible }
pending_step s p marks =
    publish_step s p (Some (length s.publications)) marks
    ∙ ap (λ (list : Counts). record (guarding_of s) { visible = need_list_of (changed (visible s) p); unsynced = Some list }) (stays s.publications p (length s.publications) (omega arith))

-- ---- opening

map_none : {X Y : Type 0} (f : X → Y) (n : ℕ) → map (option_map f) (replicate n None) ≡ replicate n None
map_none f zero = refl
map_none f (suc n) = ap (λ (os : List (Option _)). None ∷ os) (map_none f n)

pub nothing_of : need_list_of [] ≡ []
unfolding need_list_of
nothing_of = refl

pub begin_step : (opening : Opening) (lanes : ℕ) → guarding_of (begun opening lanes) ≡ record (guarding_nothing lanes) { visible = need_list_of (units_after (begun opening lanes).publications) }
begin_step opening lanes = λ i. record {
  leases = map_none lease_for lanes i;
  visible = need_list_of (units_after (begun opening lanes).publications);
  unsynced = None;
  import = None;
  current = nothing_of i;
  held = map_none (λ mark. need_list_of (seen_at (begun opening lanes) mark)) lanes i;
}
