use Rattle.std.proofs.Common.{◌≡◌, ◌<◌, ◌^◌, bit_or, true, false}
use Rattle.std.proofs.lemmas.Nat.{or_lt}
use Rattle.ix_jobs.proofs.records.either.Goals as goal

pub unreachable-requires : goal.unreachable-requires
unreachable-requires c =
    let within : bit_or c.bits.result c.bits-2.result < 2 ^ 19 = or_lt 19 c.bits.result c.bits-2.result c.bits.ensures.known c.bits-2.ensures.known in
    let some : false ≡ true = c.in-None.ensures.known.1 within in
    cc
