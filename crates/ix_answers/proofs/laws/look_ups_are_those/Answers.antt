use Rattle.ix_answers.proofs.Selected.{providers-those, related-those, named-those, names-those, coded-those, in_path-those, paths-those, listing-those}
use Rattle.ix_answers.proofs.laws.look_ups_are_those.Goals as goal

pub returns-clause-providers : goal.returns-clause-providers
returns-clause-providers c = providers-those

pub returns-clause-related : goal.returns-clause-related
returns-clause-related c = related-those

pub returns-clause-named : goal.returns-clause-named
returns-clause-named c = named-those

pub returns-clause-names : goal.returns-clause-names
returns-clause-names c = names-those

pub returns-clause-coded : goal.returns-clause-coded
returns-clause-coded c = coded-those

pub returns-clause-in_path : goal.returns-clause-in_path
returns-clause-in_path c = in_path-those

pub returns-clause-paths : goal.returns-clause-paths
returns-clause-paths c = paths-those

pub returns-clause-listing : goal.returns-clause-listing
returns-clause-listing c = listing-those
