use Rattle.std.proofs.Common.{◌≡◌, ◌++◌, take, drop, map}
use Rattle.ix_answers.specs.Pattern.{folded_byte}
use Rattle.ix_query.proofs.pattern.fold_bytes.Given as goal

-- the bytes so far are folded, and the others are as they were
abbrev pub invariant-loop-byte : goal.invariant-loop-byte
invariant-loop-byte l = l.bytes ≡ map folded_byte (take l.byte-index l.initial.bytes) ++ drop l.byte-index l.initial.bytes
