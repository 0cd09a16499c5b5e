use Rattle.ix_allowed.proofs.Needed.{asked_needed, fresh_needed, of_query}
use Rattle.ix_allowed.proofs.laws.what_is_loaded_is_needed.Goals as goal

pub returns-clause-query : goal.returns-clause-query
returns-clause-query c query units name contained =
    let n = c.needs_are_those.ensures in
    of_query (record {
      defined = n.defined;
      refs = n.refs;
      occ = n.occ;
      rel = n.rel;
      callers = n.callers;
      overrides = n.overrides;
      symbols = n.symbols;
      by_name = n.name;
      codegen = n.codegen;
      pattern = n.pattern;
      incoming = n.incoming;
      outgoing = n.outgoing;
      supertypes = n.supertypes;
      subtypes = n.subtypes;
    }) units name query contained

pub returns-clause-asked : goal.returns-clause-asked
returns-clause-asked c query units loaded name e =
    let n = c.needs_are_those.ensures in
    asked_needed (record {
      defined = n.defined;
      refs = n.refs;
      occ = n.occ;
      rel = n.rel;
      callers = n.callers;
      overrides = n.overrides;
      symbols = n.symbols;
      by_name = n.name;
      codegen = n.codegen;
      pattern = n.pattern;
      incoming = n.incoming;
      outgoing = n.outgoing;
      supertypes = n.supertypes;
      subtypes = n.subtypes;
    }) units name query loaded e

pub returns-clause-imported : goal.returns-clause-imported
returns-clause-imported c before after place name e = fresh_needed c.answers_are_sorted_sets.ensures.texts before after place name e
