use Rattle.ix_answers.proofs.Rising.{providers-rise, related-rise, named-rise, names-rise, coded-rise, in_path-rise, paths-rise, listing-rise, answers-rise}
use Rattle.ix_answers.proofs.laws.all_is_sorted.Goals as goal

pub returns-clause-providers : goal.returns-clause-providers
returns-clause-providers c = providers-rise

pub returns-clause-related : goal.returns-clause-related
returns-clause-related c = related-rise

pub returns-clause-named : goal.returns-clause-named
returns-clause-named c = named-rise

pub returns-clause-names : goal.returns-clause-names
returns-clause-names c = names-rise

pub returns-clause-coded : goal.returns-clause-coded
returns-clause-coded c = coded-rise

pub returns-clause-in_path : goal.returns-clause-in_path
returns-clause-in_path c = in_path-rise

pub returns-clause-paths : goal.returns-clause-paths
returns-clause-paths c = paths-rise

pub returns-clause-listing : goal.returns-clause-listing
returns-clause-listing c = listing-rise

pub returns-clause-answers : goal.returns-clause-answers
returns-clause-answers c = answers-rise c.answers_are_sorted_sets.ensures.rows
