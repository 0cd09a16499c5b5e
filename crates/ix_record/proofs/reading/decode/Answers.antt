use Rattle.std.proofs.Common.{arith}
use Rattle.ix_wire.specs.Input.{start}
use Rattle.ix_record.specs.Gives.{Gives}
use Rattle.ix_record.specs.Reading.{record_at}
use Rattle.ix_record.proofs.Faults.{decoded_is_spelled, spelled_is_decoded, fault_is_answered}
use Rattle.ix_record.proofs.reading.decode.Goals as goal

pub returns-clause-found : goal.returns-clause-found
returns-clause-found c =
    let given : Gives c.read_record.result c.read_record.new.cursor (record_at (start c.args.bytes.now)) = rw (← c.new-cursor.ensures) c.read_record.ensures in
    decoded_is_spelled c.args.bytes.now c.read_record.result c.read_record.new.cursor (λ i. omega (arith, c.type_inv.bytes i)) given

pub returns-clause-only : goal.returns-clause-only
returns-clause-only c =
    let given : Gives c.read_record.result c.read_record.new.cursor (record_at (start c.args.bytes.now)) = rw (← c.new-cursor.ensures) c.read_record.ensures in
    spelled_is_decoded c.args.bytes.now c.read_record.result c.read_record.new.cursor given

pub returns-clause-fault : goal.returns-clause-fault
returns-clause-fault c =
    let given : Gives c.read_record.result c.read_record.new.cursor (record_at (start c.args.bytes.now)) = rw (← c.new-cursor.ensures) c.read_record.ensures in
    fault_is_answered c.args.bytes.now c.read_record.result c.read_record.new.cursor given
