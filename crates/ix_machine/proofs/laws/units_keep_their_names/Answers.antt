use Rattle.std.proofs.Common.{length}
use Rattle.ix_machine.proofs.Named.{seen-named, none-under, takes_unit_away}
use Rattle.ix_machine.proofs.NamesKept.{found_named, run_named}
use Rattle.ix_machine.proofs.laws.units_keep_their_names.Goals as goal

pub returns-clause-found : goal.returns-clause-found
returns-clause-found c = λ name_of units records. found_named name_of records units

pub returns-clause-named : goal.returns-clause-named
returns-clause-named c = λ name_of found lanes turns s mark named leads. seen-named name_of s mark (run_named name_of found lanes turns s named leads)

pub returns-clause-free : goal.returns-clause-free
returns-clause-free c = λ name_of found lanes turns s output named leads only without.
    none-under name_of output only _ (seen-named name_of s (length s.publications) (run_named name_of found lanes turns s named leads)) without

pub returns-clause-gone : goal.returns-clause-gone
returns-clause-gone c = λ name_of found lanes turns s lane output stepped named leads e made.
    (takes_unit_away name_of s output stepped (run_named name_of found lanes turns s named leads) e made).gone

pub returns-clause-others : goal.returns-clause-others
returns-clause-others c = λ name_of found lanes turns s lane output stepped named leads e made.
    (takes_unit_away name_of s output stepped (run_named name_of found lanes turns s named leads) e made).others
