use Rattle.ix_facts.proofs.given.given_of_ledger.Goals as goal

pub returns : goal.returns
returns c = record {
  leases = c.the_ledger_follows_the_machine.ensures.leases;
  notes = c.the_ledger_follows_the_machine.ensures.notes;
  drops = c.the_ledger_follows_the_machine.ensures.drops;
  stages = c.the_ledger_follows_the_machine.ensures.stages;
  changes = c.the_ledger_follows_the_machine.ensures.changes;
  pends = c.the_ledger_follows_the_machine.ensures.pends;
  settles = c.the_ledger_follows_the_machine.ensures.settles;
  scans = c.the_ledger_follows_the_machine.ensures.scans;
  closes = c.the_ledger_follows_the_machine.ensures.closes;
  installs = c.the_ledger_follows_the_machine.ensures.installs;
  adopts = c.the_ledger_follows_the_machine.ensures.adopts;
  releases = c.the_ledger_follows_the_machine.ensures.releases;
}
