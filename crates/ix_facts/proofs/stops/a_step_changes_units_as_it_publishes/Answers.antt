use Rattle.std.proofs.Common.{◌++◌}
use Rattle.ix_facts.proofs.Moments.{as_published, left_here}
use Rattle.ix_facts.proofs.Publishing.{one_or_none}
use Rattle.ix_facts.proofs.stops.a_step_changes_units_as_it_publishes.Goals as goal

pub returns-clause-moves : goal.returns-clause-moves
returns-clause-moves c name_of s lane given flag outcome dir after kept shelf known before more from base takes was is counts =
    as_published c.given_of_steps.ensures name_of s takes.next.publications before more
    (left_here c.given_of_steps.ensures name_of s lane given flag outcome dir after kept shelf known before (before ++ more) takes was is) from base counts c.acknowledged_changes_are_synced.ensures.made

pub returns-clause-publications : goal.returns-clause-publications
returns-clause-publications c name_of s lane given flag stepped =
    let changes = c.calls_change_what_they_name.ensures in
    let refusals = c.refusals_change_nothing_else.ensures in
    let flags = c.a_flag_is_the_outcome.ensures in
    one_or_none (record {
      lease = changes.lease;
      put = changes.put;
      stage = changes.stage;
      scan = changes.scan;
      load = changes.load;
      install = changes.install;
      adopt = changes.adopt;
      release = changes.release;
      collect = changes.collect;
      refused = refusals.refused;
      unsynced = refusals.unsynced;
      only = flags.only;
      outcome = flags.outcome;
      each = flags.each;
    }) name_of s lane given flag stepped
