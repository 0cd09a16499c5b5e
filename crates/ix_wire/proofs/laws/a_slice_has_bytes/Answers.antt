use Rattle.std.proofs.Common.{arith}
use Rattle.ix_wire.proofs.laws.a_slice_has_bytes.Goals as goal

pub returns : goal.returns
returns c = λ i. omega (arith, c.type_inv.bytes i)
