use Rattle.std.proofs.Common.{sym, rules}
use Rattle.std.specs.Ordering.{is_lt}
use Rattle.std.proofs.lemmas.List.Sorted.{IsPartitionPoint-from_clause}
use Rattle.ix_types.specs.Row.{text_cmp}
use Rattle.ix_record.specs.declared.value.Symbol.{Symbol}
use Rattle.ix_jobs.proofs.Index.{counted, parted}
use Rattle.ix_jobs.proofs.records.lesser.Goals as goal

pub returns-clause-count : goal.returns-clause-count
returns-clause-count c =
    sym (counted (λ (s : Symbol). is_lt (text_cmp s.usr c.args.usr.now)) c.args.symbols.now c.partition_point.result c.partition_point.ensures.bound
    (IsPartitionPoint-from_clause (λ (s : Symbol). is_lt (text_cmp s.usr c.args.usr.now)) c.args.symbols.now c.partition_point.result c.partition_point.ensures.partitioned
    (parted c.args.symbols.now c.args.usr.now c.requires)
    (λ a r f called. search rules)))
