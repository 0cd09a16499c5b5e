use Rattle.std.proofs.Common.{◌≡◌, [], IfSome, OnOk, sym, ap, subst, ◌∙◌, Some, IsSome, is_some, unwrap_or}
use Rattle.ix_dir.specs.declared.area.Area.TheVariants.{Units}
use Rattle.ix_dir.specs.State.{staged_bytes}
use Rattle.ix_dir.specs.WhatAChangeLeaves.{LeavesAt}
use Rattle.ix_types.specs.Name.{sha_name}
use Rattle.ix_unit.specs.Spelling.{UnitSpelling}
use Rattle.ix_cabinet.specs.Scan.{HoldsUnits, IsUnitFile}
use Rattle.ix_cabinet.proofs.HeldAfterAChange.{held_after}
use Rattle.ix_cabinet.proofs.tests.publish.Goals as goal

pub returns : goal.returns
returns g c =
    let unit = c.unit_of-unit.result in
    let name = c.name.result in
    let first = g.D.Dir.state c.args.dir.now in
    let staged = g.D.Dir.state c.stage_unit.new.dir in
    let ready = g.D.Dir.state c.reserve.new.self in
    let now = g.D.Dir.state c.publish_unit.new.dir in
    let bytes = staged_bytes ready 0 in
    let moves : ready.moves ≡ first.moves = ap (λ d. d.moves) c.reserve.ensures.others ∙ ap (λ d. d.moves) c.stage_unit.ensures.state in
    let held = subst (λ m. IfSome m (HoldsUnits sha_name)) (sym moves) c.requires in
    let told : (b : _) → ready.moves ≡ Some b → IsSome first.moves = λ b is. ap is_some (sym moves ∙ is) in
    let given : IsSome first.moves → UnitSpelling (staged_bytes staged 0) unit = subst (λ r. OnOk r (IsSome first.moves → UnitSpelling (staged_bytes staged 0) unit)) c.expect.ensures c.stage_unit.ensures.bytes in
    let spelled : (b : _) → ready.moves ≡ Some b → UnitSpelling bytes unit = λ b is. subst (λ d. UnitSpelling (staged_bytes d 0) unit) (sym c.reserve.ensures.others) (given (told b is)) in
    let file : (b : _) → ready.moves ≡ Some b → IsUnitFile sha_name name bytes = λ b is. record { unit = unit; spelled = spelled b is; named = c.name.ensures ∙ ap sha_name c.bytes.ensures.value } in
    let law = c.changes_keep_units.ensures.put in
    held_after (HoldsUnits sha_name) (LeavesAt Units name (Some bytes)) ready now c.publish_unit.result (λ b n is h l. law sha_name name bytes b n h (file b is) l) held c.publish_unit.ensures.added c.publish_unit.ensures.failed c.publish_unit.ensures.left
