use Rattle.std.proofs.Common.{◌≡◌, ◌≤◌, IfSome, All, rules, arith, ap, sym, subst, ◌++◌}
use Rattle.ix_dir.specs.declared.area.Area.TheVariants.{Units}
use Rattle.ix_dir.specs.Files.{bytes_at}
use Rattle.ix_dir.specs.Moves.{area_after}
use Rattle.ix_cabinet.specs.Scan.{IsUnitAt}
use Rattle.ix_opening.specs.Known.{AreRead}
use Rattle.ix_opening.specs.Steps.{given_file}
use Rattle.ix_opening.proofs.AllFound.{told_exactly, told_begins, units_rise, refused_rise}
use Rattle.ix_opening.proofs.Steps.{given_more, agreed}
use Rattle.ix_opening.proofs.UnitsMore.{applied, looked}
use Rattle.ix_opening.proofs.looking.look.Goals as goal

pub returns-in_err-look_at-clause-finds : goal.returns-in_err-look_at-clause-finds
returns-in_err-look_at-clause-finds g c = λ n small h.
    c.in_err-look_at.ensures.finds n small (c.loop-one.invariant.finds n small (subst (λ x. n ≤ x) (sym (ap (λ d. d.finds) c.list.ensures.state)) h))

pub loop-one-preserved : goal.loop-one-preserved
loop-one-preserved g c =
    let name_of = g.N.Naming.name_of in
    let before = c.loop-one.invariant in
    let done = c.in_ok-look_at.ensures in
    let one = c.one-item.result in
    let start = (g.D.Dir.state c.list.new.self).moves in
    let moves : (g.D.Dir.state c.loop-one.dir).moves ≡ start = ap (λ d. d.moves) before.state in
    let stands = subst (λ mv. IfSome mv (λ m. done.noted.given ≡ bytes_at (area_after m Units) one.name)) moves done.noted.stands in
    record {
      files = before.files ++ given_file one.name done.noted.given;
      given = given_more start c.as_slice-one-items.result.now c.loop-one.one-index one before.files done.noted.given (omega arith) c.one-item.is before.given stands;
      so_far = λ records agrees. done.noted.more before.files records agrees (before.so_far records (agreed name_of c.loop-one.look.known.entries c.look_at.new.look.known.entries records done.kept agrees));
      read = subst (λ m. AreRead name_of m c.look_at.new.look.known.entries) moves (done.read (subst (λ m. AreRead name_of m c.loop-one.look.known.entries) (sym moves) before.read));
      at = applied start _ (λ m. All (IsUnitAt (area_after m Units)) c.loop-one.look.units.items) (λ m. All (IsUnitAt (area_after m Units)) c.look_at.new.look.units.items) moves done.at before.at;
      units = done.units before.units;
      state = search rules;
      finds = λ n small h. done.finds n small (before.finds n small h);
    }

pub returns-clause-found : goal.returns-clause-found
returns-clause-found g c =
    let inv = c.loop-one.invariant in
    looked g.N.Naming.name_of (g.D.Dir.state c.args.dir.now).moves (g.D.Dir.state c.list.new.self).moves c.in_ok-listed.listed c.as_slice-one-items.result.now c.loop-one.one-index inv.files c.loop-one.look _
    (ap (λ d. d.moves) c.list.ensures.state) c.as_slice-one-items.ensures (omega arith) c.in_ok-listed.ensures.listed c.in_ok-listed.ensures.rising inv.given inv.read inv.so_far c.of.ensures c.of-2.ensures

pub returns-clause-opening : goal.returns-clause-opening
returns-clause-opening g c = told_exactly g.N.Naming.name_of _ (g.D.Dir.state c.args.dir.now).moves (returns-clause-found g c)

pub returns-clause-begins : goal.returns-clause-begins
returns-clause-begins g c = told_begins g.N.Naming.name_of _ (g.D.Dir.state c.args.dir.now).moves (returns-clause-found g c)

pub returns-clause-units_rise : goal.returns-clause-units_rise
returns-clause-units_rise g c = units_rise g.N.Naming.name_of (g.D.Dir.state c.args.dir.now).moves _ (returns-clause-found g c)

pub returns-clause-refused_rise : goal.returns-clause-refused_rise
returns-clause-refused_rise g c = refused_rise g.N.Naming.name_of (g.D.Dir.state c.args.dir.now).moves _ (returns-clause-found g c)

pub returns-clause-at : goal.returns-clause-at
returns-clause-at g c =
    subst (λ units. IfSome (g.D.Dir.state c.args.dir.now).moves (λ m. All (IsUnitAt (area_after m Units)) units)) (sym c.of.ensures)
    (subst (λ mv. IfSome mv (λ m. All (IsUnitAt (area_after m Units)) c.loop-one.look.units.items)) (ap (λ d. d.moves) c.list.ensures.state) c.loop-one.invariant.at)

pub returns-clause-finds : goal.returns-clause-finds
returns-clause-finds g c = λ n small h. c.loop-one.invariant.finds n small (subst (λ x. n ≤ x) (sym (ap (λ d. d.finds) c.list.ensures.state)) h)
