use Rattle.ix_import.proofs.laws.an_import_begins.Goals as goal

pub returns : goal.returns
returns c units later scan leads rises whole one rising fresh = record { leads = leads; rises = rises; whole = whole; one = one; fresh = fresh; rising = rising }
