use Rattle.std.proofs.Common.{List, ◌++◌, length, sym, ap, ◌∙◌}
use Rattle.std.proofs.Math.Seq.{take-length}
use Rattle.ix_dir.specs.declared.area.Area.TheVariants.{Records}
use Rattle.ix_dir.specs.declared.moves.Move.{Move}
use Rattle.ix_dir.specs.Crash.{standing}
use Rattle.ix_dir.specs.Moves.{area_after}
use Rattle.ix_opening.specs.AfterOpening.{opening_moves}
use Rattle.ix_facts.proofs.Opened.{begun_alike, same_contents, two_syncs}
use Rattle.ix_facts.proofs.stops.a_second_opening_begins_the_same.Goals as goal

pub returns-clause-standing : goal.returns-clause-standing
returns-clause-standing c name_of moves lanes =
    let now : List Move = moves ++ opening_moves name_of moves in
    begun_alike name_of (standing now) (standing moves) lanes (c.a_second_opening_finds_the_same.ensures.units name_of moves)
    (c.opening_leaves_sound_files.ensures.records name_of moves now (record { count = length (opening_moves name_of moves); made = ap (λ (ms : List Move). moves ++ ms) (sym (take-length (opening_moves name_of moves))) }))

pub returns-clause-stopped : goal.returns-clause-stopped
returns-clause-stopped c name_of moves lanes image left =
    let now : List Move = moves ++ opening_moves name_of moves in
    begun_alike name_of image (standing moves) lanes (c.a_crash_after_the_end_leaves_sound_units.ensures.units name_of moves image left)
    (
    same_contents (image Records) (standing now Records) (λ name. c.settled_area_leaves_what_stands.ensures now Records image name (c.opening_leaves_sound_files.ensures.settled name_of moves Records) left ∙ sym (c.contents_have_bytes.ensures (area_after now Records) name))
    ∙ c.opening_leaves_sound_files.ensures.records name_of moves now (record { count = length (opening_moves name_of moves); made = ap (λ (ms : List Move). moves ++ ms) (sym (take-length (opening_moves name_of moves))) })
    )

pub returns-clause-moves : goal.returns-clause-moves
returns-clause-moves c name_of moves = two_syncs name_of (moves ++ opening_moves name_of moves) (c.a_second_opening_finds_the_same.ensures.refused name_of moves)

pub returns-clause-standing_refused : goal.returns-clause-standing_refused
returns-clause-standing_refused c name_of moves = c.a_second_opening_finds_the_same.ensures.refused name_of moves

pub returns-clause-stopped_refused : goal.returns-clause-stopped_refused
returns-clause-stopped_refused c name_of moves image left = c.a_crash_after_the_end_leaves_sound_units.ensures.refused name_of moves image left

pub returns-clause-ended_early : goal.returns-clause-ended_early
returns-clause-ended_early c name_of before now lanes front = begun_alike name_of (standing now) (standing before) lanes (c.a_stop_keeps_sound_units.ensures.standing name_of before now front) (c.opening_leaves_sound_files.ensures.records name_of before now front)
