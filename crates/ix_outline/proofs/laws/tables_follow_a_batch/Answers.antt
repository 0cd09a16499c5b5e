use Rattle.std.proofs.Common.{[], refl}
use Rattle.ix_outline.proofs.Members.{has}
use Rattle.ix_outline.proofs.Joined.{tables-after}
use Rattle.ix_outline.proofs.laws.tables_follow_a_batch.Goals as goal

pub returns-clause-empty : goal.returns-clause-empty
returns-clause-empty c = record {
  units_are = refl;
  whole = λ entry h. absurd (has [] entry h);
  kept = λ dep value r. absurd (has [] r.entry r.of_units);
  only = λ name outline e. absurd (cc);
}

pub returns-clause-follow : goal.returns-clause-follow
returns-clause-follow c = λ puts gone bodies units later known are follows unit_names outline_names.
    tables-after c.batches_lead.ensures.stays puts gone bodies units later known are follows unit_names outline_names
