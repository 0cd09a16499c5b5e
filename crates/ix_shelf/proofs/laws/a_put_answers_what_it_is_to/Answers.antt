use Rattle.ix_shelf.proofs.PutAnswers.{wanted, answers}
use Rattle.ix_shelf.proofs.laws.a_put_answers_what_it_is_to.Goals as goal

pub returns : goal.returns
returns c result want = (wanted result want, answers result want)
