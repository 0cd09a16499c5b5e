use Rattle.std.proofs.Common.{◌∙◌, ap, length}
use Rattle.std.proofs.lemmas.List.Sorted.{length_permutation}
use Rattle.ix_record.specs.declared.value.Symbol.{Symbol}
use Rattle.std.proofs.Common.{List}
use Rattle.ix_jobs.specs.Made.{symbol_of}
use Rattle.ix_jobs.proofs.Sorting.{sorted_symbols}
use Rattle.ix_jobs.proofs.Sizes.{mapped_length}
use Rattle.ix_jobs.proofs.records.symbols_of.Goals as goal

pub returns-clause-symbols : goal.returns-clause-symbols
returns-clause-symbols c =
    sorted_symbols c.args.plans.now c.in_ok-symbols.symbols.items c.by_usr.result.items c.requires c.in_ok-symbols.ensures c.by_usr.ensures.moved c.by_usr.ensures.sorted

pub returns-clause-len : goal.returns-clause-len
returns-clause-len c =
    length_permutation c.in_ok-symbols.symbols.items c.by_usr.result.items c.by_usr.ensures.moved
    ∙ (ap (λ (xs : List Symbol). length xs) c.in_ok-symbols.ensures ∙ mapped_length symbol_of c.args.plans.now)
