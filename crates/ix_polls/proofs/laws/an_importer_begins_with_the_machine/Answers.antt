use Rattle.std.proofs.Common.{Option, sym, subst, None}
use Rattle.ix_model.specs.Units.{Units}
use Rattle.ix_machine.specs.Run.{begun}
use Rattle.ix_outline.specs.Known.{AreTables}
use Rattle.ix_import.specs.Importing.{Opened}
use Rattle.ix_polls.specs.Following.{AreOpen}
use Rattle.ix_polls.proofs.laws.an_importer_begins_with_the_machine.Goals as goal

pub returns : goal.returns
returns c opening lanes importer number closed tables = record {
  number = number;
  tables = subst (λ (us : Units). AreTables us importer.known) (sym (c.the_latest_publication_stands.ensures.none (begun opening lanes).publications)) tables;
  opened = subst (λ (o : Option Opened). AreOpen (begun opening lanes) None o) (sym closed) tt;
}
