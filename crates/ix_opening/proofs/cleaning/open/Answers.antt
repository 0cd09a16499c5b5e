use Rattle.std.proofs.Common.{◌≡◌, ℕ, ◌+◌, ◌≤◌, List, [], ◌++◌, length, take, ap, sym, subst, ◌∙◌, IfSome}
use Rattle.std.specs.FinMap.{entries}
use Rattle.ix_dir.specs.declared.area.Area.TheVariants.{Units, Records}
use Rattle.ix_dir.specs.declared.moves.Move.{Move}
use Rattle.ix_dir.specs.Crash.{standing, IsSettled}
use Rattle.ix_dir.specs.Files.{bytes_at}
use Rattle.ix_dir.specs.Images.{Image, IsImage}
use Rattle.ix_dir.specs.Moves.{area_after}
use Rattle.ix_dir.specs.WhatAChangeLeaves.{IfTold}
use Rattle.ix_machine.specs.Run.{IsSoundOpening}
use Rattle.ix_opening.specs.AfterOpening.{opening_moves, sound_bytes}
use Rattle.ix_opening.specs.Found.{IsFound, Tells, opening_of}
use Rattle.ix_opening.proofs.AllFound.{told_exactly, told_begins}
use Rattle.ix_opening.proofs.MovesMade.{front_adds, still_areas, front_told, told_map, on_ok, if_ok, on_ok_of}
use Rattle.ix_opening.proofs.UnitsAlone.{ok_alone}
use Rattle.ix_opening.proofs.cleaning.open.Goals as goal

pub returns-clause-opening : goal.returns-clause-opening
returns-clause-opening g c =
    let name_of = g.N.Naming.name_of in
    let moves = (g.D.Dir.state c.args.dir.now).moves in
    if_ok c.sync_and_clean.result (IsFound name_of moves) (λ found. IfSome moves (λ m. Tells found (opening_of name_of (standing m)))) (λ found is. told_exactly name_of found moves is) c.sync_and_clean.ensures.found

pub returns-clause-begins : goal.returns-clause-begins
returns-clause-begins g c =
    let name_of = g.N.Naming.name_of in
    let moves = (g.D.Dir.state c.args.dir.now).moves in
    on_ok_of c.sync_and_clean.result (IsFound name_of moves) (IfSome moves (λ m. IsSoundOpening name_of (opening_of name_of (standing m)))) (λ found is. told_begins name_of found moves is) c.sync_and_clean.ensures.found

pub returns-clause-records : goal.returns-clause-records
returns-clause-records g c =
    front_told g.N.Naming.name_of (λ before now. standing now Records ≡ standing before Records) (λ b n front. c.opening_leaves_sound_files.ensures.records g.N.Naming.name_of b n front)
    (g.D.Dir.state c.args.dir.now).moves (g.D.Dir.state c.sync_and_clean.new.dir).moves c.sync_and_clean.ensures.front

pub returns-clause-kept : goal.returns-clause-kept
returns-clause-kept g c =
    let name_of = g.N.Naming.name_of in
    front_told name_of (λ before now. (opening_of name_of (standing now)).units ≡ (opening_of name_of (standing before)).units) (λ b n front. c.a_stop_keeps_sound_units.ensures.standing name_of b n front)
    (g.D.Dir.state c.args.dir.now).moves (g.D.Dir.state c.sync_and_clean.new.dir).moves c.sync_and_clean.ensures.front

pub returns-clause-images : goal.returns-clause-images
returns-clause-images g c =
    let name_of = g.N.Naming.name_of in
    front_told name_of
    (λ before now. (moment : ℕ) (image : Image) → length before + 2 ≤ moment → moment ≤ length now → IsImage (take moment now) image → (opening_of name_of image).units ≡ (opening_of name_of (standing before)).units)
    (λ b n front. λ moment image within there left. c.a_stop_keeps_sound_units.ensures.images name_of b n moment image front within there left)
    (g.D.Dir.state c.args.dir.now).moves (g.D.Dir.state c.sync_and_clean.new.dir).moves c.sync_and_clean.ensures.front

pub returns-clause-left : goal.returns-clause-left
returns-clause-left g c =
    let name_of = g.N.Naming.name_of in
    let before = (g.D.Dir.state c.args.dir.now).moves in
    let now = (g.D.Dir.state c.sync_and_clean.new.dir).moves in
    let made : List Move → List Move → Type 0 = λ b n. n ≡ b ++ opening_moves name_of b in
    let left : List Move → List Move → Type 0 = λ b n. (name : List ℕ) → bytes_at (area_after n Units) name ≡ sound_bytes name_of (entries (standing b Records)) name (bytes_at (area_after b Units) name) in
    on_ok c.sync_and_clean.result (IfTold before now made) (IfTold before now left)
    (told_map made left (λ b n is. λ name. ap (λ (ms : List Move). bytes_at (area_after ms Units) name) is ∙ c.opening_leaves_sound_files.ensures.units name_of b name) before now) c.sync_and_clean.ensures.moves

pub returns-clause-again : goal.returns-clause-again
returns-clause-again g c =
    let name_of = g.N.Naming.name_of in
    let before = (g.D.Dir.state c.args.dir.now).moves in
    let now = (g.D.Dir.state c.sync_and_clean.new.dir).moves in
    let made : List Move → List Move → Type 0 = λ b n. n ≡ b ++ opening_moves name_of b in
    let none : List Move → List Move → Type 0 = λ b n. (opening_of name_of (standing n)).refused ≡ [] in
    on_ok c.sync_and_clean.result (IfTold before now made) (IfTold before now none)
    (told_map made none (λ b n is. ap (λ (ms : List Move). (opening_of name_of (standing ms)).refused) is ∙ c.a_second_opening_finds_the_same.ensures.refused name_of b) before now) c.sync_and_clean.ensures.moves

pub returns-clause-settled : goal.returns-clause-settled
returns-clause-settled g c =
    let name_of = g.N.Naming.name_of in
    let before = (g.D.Dir.state c.args.dir.now).moves in
    let now = (g.D.Dir.state c.sync_and_clean.new.dir).moves in
    let made : List Move → List Move → Type 0 = λ b n. n ≡ b ++ opening_moves name_of b in
    let settled : List Move → List Move → Type 0 = λ b n. IsSettled n in
    on_ok c.sync_and_clean.result (IfTold before now made) (IfTold before now settled)
    (told_map made settled (λ b n is. subst IsSettled (sym is) (c.opening_leaves_sound_files.ensures.settled name_of b)) before now) c.sync_and_clean.ensures.moves

pub returns-clause-wanting : goal.returns-clause-wanting
returns-clause-wanting g c is =
    still_areas c.sync_leaves.ensures.areas (g.D.Dir.state c.args.dir.now).moves (g.D.Dir.state c.sync_and_clean.new.dir).moves (c.sync_and_clean.ensures.wanting is)

pub returns-clause-holds : goal.returns-clause-holds
returns-clause-holds g c =
    ok_alone c.sync_and_clean.result g.N.Naming.name_of (g.D.Dir.state c.args.dir.now).moves (g.D.Dir.state c.sync_and_clean.new.dir).moves (returns-clause-opening g c) c.sync_and_clean.ensures.at c.sync_and_clean.ensures.units
    (returns-clause-left g c)

pub returns-clause-added : goal.returns-clause-added
returns-clause-added g c = front_adds g.N.Naming.name_of (g.D.Dir.state c.args.dir.now).moves (g.D.Dir.state c.sync_and_clean.new.dir).moves c.sync_and_clean.ensures.front

pub returns-clause-early : goal.returns-clause-early
returns-clause-early g c =
    let name_of = g.N.Naming.name_of in
    front_told name_of
    (λ before now. (moment : ℕ) (image : Image) → length before ≤ moment → moment ≤ length before + 2 → IsImage (take moment now) image → IsImage before image)
    (λ b n front. λ moment image from to left. c.early_images_are_those_handed_in.ensures name_of b n moment image front from to left)
    (g.D.Dir.state c.args.dir.now).moves (g.D.Dir.state c.sync_and_clean.new.dir).moves c.sync_and_clean.ensures.front

pub returns-clause-end_units : goal.returns-clause-end_units
returns-clause-end_units g c =
    let name_of = g.N.Naming.name_of in
    let before = (g.D.Dir.state c.args.dir.now).moves in
    let now = (g.D.Dir.state c.sync_and_clean.new.dir).moves in
    let made : List Move → List Move → Type 0 = λ b n. n ≡ b ++ opening_moves name_of b in
    let same : List Move → List Move → Type 0 = λ b n. (image : Image) → IsImage n image → (opening_of name_of image).units ≡ (opening_of name_of (standing b)).units in
    on_ok c.sync_and_clean.result (IfTold before now made) (IfTold before now same)
    (told_map made same (λ b n is. λ image left. c.a_crash_after_the_end_leaves_sound_units.ensures.units name_of b image (subst (λ (ms : List Move). IsImage ms image) is left)) before now)
    c.sync_and_clean.ensures.moves

pub returns-clause-end_refused : goal.returns-clause-end_refused
returns-clause-end_refused g c =
    let name_of = g.N.Naming.name_of in
    let before = (g.D.Dir.state c.args.dir.now).moves in
    let now = (g.D.Dir.state c.sync_and_clean.new.dir).moves in
    let made : List Move → List Move → Type 0 = λ b n. n ≡ b ++ opening_moves name_of b in
    let none : List Move → List Move → Type 0 = λ b n. (image : Image) → IsImage n image → (opening_of name_of image).refused ≡ [] in
    on_ok c.sync_and_clean.result (IfTold before now made) (IfTold before now none)
    (told_map made none (λ b n is. λ image left. c.a_crash_after_the_end_leaves_sound_units.ensures.refused name_of b image (subst (λ (ms : List Move). IsImage ms image) is left)) before now)
    c.sync_and_clean.ensures.moves
