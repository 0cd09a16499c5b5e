use Rattle.std.proofs.Common.{refl}
use Rattle.ix_shelf.proofs.PutAnswers.{equal, differs}
use Rattle.ix_shelf.proofs.laws.put_answers.Goals as goal

pub returns-clause-same : goal.returns-clause-same
returns-clause-same c protected body = rw (equal body.bytes) refl

pub returns-clause-protected : goal.returns-clause-protected
returns-clause-protected c body there apart = rw (differs there body.bytes apart) refl

pub returns-clause-other : goal.returns-clause-other
returns-clause-other c body there apart = rw (differs there body.bytes apart) refl
