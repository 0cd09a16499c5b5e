-- What is known of the unit files stays known while publications and moves are only added.
use Rattle.std.proofs.Common.{◌≡◌, ℕ, ◌≤◌, List, [], ◌∷◌, ◌++◌, length, refl, sym, ap, subst, ◌∙◌, Option, Some, None, IfSome, arith}
use Rattle.std.specs.Option.{option_map}
use Rattle.std.specs.FinMap.{get, get-empty, empty, same_map, slice_cmp-IsAntisymmetric, nat_cmp-IsAntisymmetric}
use Rattle.std.specs.Cmp.Lexicographic.{nat_list_cmp_total}
use Rattle.ix_types.specs.Row.{text_cmp}
use Rattle.ix_dir.specs.declared.area.Area.TheVariants.{Units}
use Rattle.ix_dir.specs.declared.moves.Move.{Move}
use Rattle.ix_dir.specs.Crash.{standing}
use Rattle.ix_dir.specs.Files.{File, Files, bytes_at, contents_of}
use Rattle.ix_dir.specs.Moves.{area_after}
use Rattle.ix_dir.specs.WhatAChangeLeaves.{Adds, AddsTo}
use Rattle.ix_cabinet.specs.Scan.{StampMap, stamps_in}
use Rattle.ix_model.specs.declared.publication.Publication.{Publication}
use Rattle.ix_model.specs.Units as model
use Rattle.ix_model.specs.Units.{units_at}
use Rattle.ix_machine.specs.Needs.{seen_at}
use Rattle.ix_machine.specs.Run.{Opening, begun}
use Rattle.ix_machine.specs.Sound.{MarksInOrder}
use Rattle.ix_machine.specs.State.{Import, State}
use Rattle.ix_stops.specs.UnitFiles.{IsSpelledUnder, Spell}
use Rattle.ix_changes.specs.Stamps.{AreStampsOf}
use Rattle.ix_library.specs.declared.known.KnownStamps.{KnownStamps}
use Rattle.ix_library.specs.Given.{Laws}
use Rattle.ix_library.specs.KnownUnits.{AreStampsOfImport, KnowsUnits}

-- the marks stay, and publications are only added
pub record Stays (s next : State) : Type 0 where
  pub current : next.current ≡ s.current
  pub import : next.import ≡ s.import
  pub more : List Publication
  pub grown : next.publications ≡ s.publications ++ more

module _ (laws : Laws) (name_of : List ℕ → List ℕ) (s next : State) (stays : Stays s next) where
  seen_stays : (mark : ℕ) → mark ≤ length s.publications → seen_at next mark ≡ seen_at s mark
  seen_stays mark within = ap (λ (ps : List Publication). units_at ps mark) stays.grown ∙ laws.prefix s.publications stays.more mark within

  stamps_at : (mark : ℕ) (stamps : StampMap) (before now : List Move) → mark ≤ length s.publications → AreStampsOf name_of (seen_at s mark) stamps before → Adds before now → AreStampsOf name_of (seen_at next mark) stamps now
  stamps_at mark stamps before now within are adds =
      subst (λ (us : model.Units). AreStampsOf name_of us stamps now) (sym (seen_stays mark within)) (laws.stay name_of (seen_at s mark) stamps before now are adds)

  import_stays : (o : Option Import) (known : Option StampMap) (before now : List Move) → IfSome o (λ (i : Import). (s.current ≤ i.mark) × (i.mark ≤ length s.publications)) → AreStampsOfImport name_of s o known before → Adds before now
      → AreStampsOfImport name_of next o known now
  import_stays None None before now within are adds = tt
  import_stays None (Some stamps) before now within are adds = absurd are
  import_stays (Some i) None before now within are adds = absurd are
  import_stays (Some i) (Some stamps) before now within are adds = stamps_at i.mark stamps before now within.1 are adds

  -- what is known of the units stays known
  pub units_stay : MarksInOrder s → (known : KnownStamps) (before now : List Move) → KnowsUnits name_of s known before → Adds before now → KnowsUnits name_of next known now
  units_stay marks known before now knows adds = record {
    current = subst (λ (mark : ℕ). AreStampsOf name_of (seen_at next mark) known.current now) (sym stays.current) (stamps_at s.current known.current before now marks.current knows.current adds);
    import = subst (λ (o : Option Import). AreStampsOfImport name_of next o known.import now) (sym stays.import) (import_stays s.import known.import before now marks.imported knows.import adds);
  }

  pub told_stay : MarksInOrder s → (known : KnownStamps) (before now : Option (List Move)) → IfSome before (KnowsUnits name_of s known) → AddsTo before now → IfSome now (KnowsUnits name_of next known)
  told_stay marks known None None knows adds = tt
  told_stay marks known None (Some n) knows adds = absurd adds
  told_stay marks known (Some b) None knows adds = absurd adds
  told_stay marks known (Some b) (Some n) knows adds = units_stay marks known b n knows adds

-- ---- at first

pub record NoneLaws : Type 0 where
  pub contents : (files : Files) (name : List ℕ) → get (contents_of files) name ≡ bytes_at files name
  pub stamp_of : (files : Files) (name : List ℕ) → get (stamps_in files) name ≡ option_map (λ f. f.stamp) (get files name)

module _ (laws : NoneLaws) (name_of : List ℕ → List ℕ) where
  no_stamps : stamps_in empty ≡ empty
  no_stamps = same_map nat_list_cmp_total (slice_cmp-IsAntisymmetric nat_cmp-IsAntisymmetric) (stamps_in empty) empty
      (λ name. laws.stamp_of empty name ∙ ap (option_map (λ (f : File). f.stamp)) (get-empty text_cmp name) ∙ sym (get-empty text_cmp name))

  no_units : Spell name_of (contents_of empty) []
  no_units name = subst (λ v. IsSpelledUnder name_of name v None) (sym (laws.contents empty name ∙ ap (option_map (λ (f : File). f.bytes)) (get-empty text_cmp name))) tt

  -- an opening knows of no units, which are those at its current mark
  pub none_known : (opening : Opening) (lanes : ℕ) (known : KnownStamps) (moves : List Move) → known.current ≡ empty → known.import ≡ None → KnowsUnits name_of (begun opening lanes) known moves
  none_known opening lanes known moves current import = record {
    current = record { moment = 0; within = omega arith; stamped = current ∙ sym no_stamps; spelled = no_units };
    import = subst (λ (o : Option StampMap). AreStampsOfImport name_of (begun opening lanes) None o moves) (sym import) tt;
  }
