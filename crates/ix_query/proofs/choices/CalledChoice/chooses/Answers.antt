use Rattle.ix_query.proofs.choices.CalledChoice.chooses.Goals as goal

pub returns : goal.returns
returns c = c.chooses_anywhere.ensures c.args._path.now
