use Rattle.std.proofs.Common.{ap, ◌∙◌, arith}
use Rattle.std.specs.Map.{lookup}
use Rattle.ix_dir.specs.Moves.{same_name}
use Rattle.ix_cabinet.proofs.NamesRise.{is_new}
use Rattle.ix_cabinet.proofs.stamps.index_of.Goals as goal

pub add-requires : goal.add-requires
add-requires c =
    let one = c.one-item.result in
    ap (lookup (same_name one.name)) c.loop-one.invariant ∙ is_new c.args.listed.now c.loop-one.one-index one c.requires (omega arith) c.one-item.is
