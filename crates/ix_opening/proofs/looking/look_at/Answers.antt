use Rattle.std.proofs.Common.{◌≡◌, Some, IfSome, ap, sym, ◌∙◌, subst}
use Rattle.ix_dir.specs.declared.area.Area.TheVariants.{Units}
use Rattle.ix_dir.specs.Files.{bytes_at}
use Rattle.ix_dir.specs.Moves.{area_after}
use Rattle.ix_opening.specs.Judged.{IsJudged, IsUnitOf}
use Rattle.ix_opening.specs.Known.{AreRead, Agrees, state_of}
use Rattle.ix_opening.proofs.Steps.{so_far_more}
use Rattle.ix_opening.proofs.UnitsMore.{units_at, units_named}
use Rattle.ix_opening.proofs.looking.look_at.Goals as goal

pub returns-in_err-judged-clause-finds : goal.returns-in_err-judged-clause-finds
returns-in_err-judged-clause-finds g c = λ n small h. c.judge.ensures.finds n small (c.read_file.ensures.finds n small h)

pub returns-in_err-note-clause-finds : goal.returns-in_err-note-clause-finds
returns-in_err-note-clause-finds g c = λ n small h. c.judge.ensures.finds n small (c.read_file.ensures.finds n small h)

pub returns-clause-noted : goal.returns-clause-noted
returns-clause-noted g c =
    let name_of = g.N.Naming.name_of in
    let moves = (g.D.Dir.state c.args.dir.now).moves in
    let bytes = c.in-Some.bytes in
    record {
      given = Some bytes;
      stands = subst (λ o. IfSome moves (λ m. o ≡ bytes_at (area_after m Units) c.args.name)) c.in-Some.is c.in_ok-bytes.ensures.bytes;
      more = λ files records agrees so_far.
          let known = subst (λ k. Agrees name_of k.entries records) c.in_ok-note.ensures.known agrees in
          let is = subst (λ b. IsJudged name_of records c.args.name b c.in_ok-judged.judged) c.as_slice.ensures (c.in_ok-judged.ensures.judged records known) in
          so_far_more name_of files records c.args.name bytes c.args.look.now c.note.new.look c.in_ok-judged.judged is c.in_ok-note.ensures.units c.in_ok-note.ensures.refused so_far;
    }

pub returns-clause-at : goal.returns-clause-at
returns-clause-at g c =
    let name_of = g.N.Naming.name_of in
    let moves = (g.D.Dir.state c.args.dir.now).moves in
    let stands = subst (λ o. IfSome moves (λ m. o ≡ bytes_at (area_after m Units) c.args.name)) c.in-Some.is c.in_ok-bytes.ensures.bytes in
    let of = subst (λ b. IsUnitOf name_of c.args.name b c.in_ok-judged.judged) c.as_slice.ensures c.in_ok-judged.ensures.unit in
    units_at name_of c.args.name c.in-Some.bytes moves c.in_ok-judged.judged c.args.look.now.units.items c.note.new.look.units.items c.in_ok-note.ensures.units of stands

pub returns-clause-units : goal.returns-clause-units
returns-clause-units g c =
    let name_of = g.N.Naming.name_of in
    let of = subst (λ b. IsUnitOf name_of c.args.name b c.in_ok-judged.judged) c.as_slice.ensures c.in_ok-judged.ensures.unit in
    units_named name_of c.args.name c.in-Some.bytes c.in_ok-judged.judged c.args.look.now.units.items c.note.new.look.units.items c.in_ok-note.ensures.units of

pub returns-clause-kept : goal.returns-clause-kept
returns-clause-kept g c name state is = ap (λ k. state_of k.entries name) c.in_ok-note.ensures.known ∙ c.in_ok-judged.ensures.kept name state is

pub returns-clause-read : goal.returns-clause-read
returns-clause-read g c all =
    let name_of = g.N.Naming.name_of in
    let moves : (g.D.Dir.state c.read_file.new.dir).moves ≡ (g.D.Dir.state c.args.dir.now).moves = ap (λ d. d.moves) c.read_file.ensures.state in
    let read = c.in_ok-judged.ensures.read (subst (λ m. AreRead name_of m c.args.look.now.known.entries) (sym moves) all) in
    subst (λ k. AreRead name_of (g.D.Dir.state c.args.dir.now).moves k.entries) (sym c.in_ok-note.ensures.known) (subst (λ m. AreRead name_of m c.judge.new.known.entries) moves read)

pub returns-clause-finds : goal.returns-clause-finds
returns-clause-finds g c = λ n small h. c.judge.ensures.finds n small (c.read_file.ensures.finds n small h)
