use Rattle.std.proofs.Common.{subst, sym, arith}
use Rattle.hex.specs.Hex.{encode_lower}
use Rattle.ix_types.specs.Name.{IsFileName}
use Rattle.ix_types.proofs.Hex.{hex_is_name}
use Rattle.ix_types.proofs.name.name_in_hex.Goals as goal

pub unreachable-requires : goal.unreachable-requires
unreachable-requires c =
    let is_name : IsFileName (encode_lower c.args.digest.now) =
    hex_is_name c.args.digest.now (λ i. omega (arith, c.type_inv.digest i)) c.requires in
    let named = subst IsFileName (sym c.in-Ok.ensures.written) is_name in
    cc (c.in-None.ensures.known.1 named)
