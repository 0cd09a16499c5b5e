use Rattle.ix_import.proofs.Least.{least_under}
use Rattle.ix_import.proofs.importer.Importer.next_new.Goals as goal

pub returns-clause-least : goal.returns-clause-least
returns-clause-least c = least_under c.args.self.now.import c.first_new.result c.first_new.ensures
