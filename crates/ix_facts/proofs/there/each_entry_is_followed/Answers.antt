use Rattle.ix_facts.proofs.Followed.{after_adopt, after_collect, after_install, after_lease, after_load, after_publish, after_put, after_release, after_remove, after_scan, after_stage}
use Rattle.std.proofs.Common.{◌∙◌}
use Rattle.ix_facts.proofs.there.each_entry_is_followed.Goals as goal

pub returns-clause-leases : goal.returns-clause-leases
returns-clause-leases c name_of s lane names kept now dir after at is slots = record { keeps = after_lease c.given_of_ledger.ensures name_of s lane now names kept at.keeps is; slots = slots at.slots }

pub returns-clause-puts : goal.returns-clause-puts
returns-clause-puts c name_of s lane body result kept now dir after at leased is slots = record { keeps = after_put c.given_of_ledger.ensures name_of s lane now c.given_of_guard.ensures body result kept at.keeps leased is; slots = slots at.slots }

pub returns-clause-stages : goal.returns-clause-stages
returns-clause-stages c name_of s lane unit result kept now dir after at put is slots = record { keeps = after_stage c.given_of_ledger.ensures name_of s lane now unit result kept at.keeps put is; slots = slots at.slots }

pub returns-clause-publishes : goal.returns-clause-publishes
returns-clause-publishes c name_of s lane result kept now dir after marks at staged answer is slots = record { keeps = after_publish c.given_of_ledger.ensures name_of s lane now marks result kept at.keeps staged answer is; slots = slots }

pub returns-clause-removes : goal.returns-clause-removes
returns-clause-removes c name_of s lane output result kept now dir after marks at answer is slots = record { keeps = after_remove c.given_of_ledger.ensures name_of s lane now marks output result kept at.keeps answer is; slots = slots at.slots }

pub returns-clause-scans : goal.returns-clause-scans
returns-clause-scans c name_of s lane result kept now dir after at is slots = record { keeps = after_scan c.given_of_ledger.ensures name_of s lane now result kept at.keeps is; slots = slots at.slots }

pub returns-clause-loads : goal.returns-clause-loads
returns-clause-loads c name_of s lane name purpose result kept now dir after at is slots = record { keeps = after_load c.given_of_ledger.ensures name_of s lane now name purpose result kept at.keeps is; slots = slots at.slots }

pub returns-clause-installs : goal.returns-clause-installs
returns-clause-installs c name_of s lane mark kept now dir after at is slots = record { keeps = after_install c.given_of_ledger.ensures name_of s lane now mark kept at.keeps is; slots = slots at.slots }

pub returns-clause-adopts : goal.returns-clause-adopts
returns-clause-adopts c name_of s lane mark kept now dir after at is slots = record { keeps = after_adopt c.given_of_ledger.ensures name_of s lane now mark kept at.keeps is; slots = slots at.slots }

pub returns-clause-releases : goal.returns-clause-releases
returns-clause-releases c name_of s lane kept now dir after at is slots = record { keeps = after_release c.given_of_ledger.ensures name_of s lane now kept at.keeps is; slots = slots at.slots }

pub returns-clause-collects : goal.returns-clause-collects
returns-clause-collects c name_of s lane result kept now dir after at is slots = record { keeps = after_collect c.given_of_ledger.ensures name_of s lane now result kept at.keeps is; slots = slots at.slots }

pub returns-clause-wanting : goal.returns-clause-wanting
returns-clause-wanting c s kept now dir after at is slots = record { keeps = is ∙ at.keeps; slots = slots at.slots }
