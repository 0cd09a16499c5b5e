use Rattle.ix_import.proofs.Least.{is_least}
use Rattle.ix_import.proofs.Nexts.{next_there, next_least, next_none}
use Rattle.ix_import.proofs.laws.the_next_name_is_the_least.Goals as goal

pub returns : goal.returns
returns c = record {
  there = λ fresh taken name e. next_there taken fresh name e;
  least = λ fresh taken name other rise e there less. next_least taken fresh name other there.0 rise e there.1 there.2 less;
  none = λ fresh taken name e there. next_none taken fresh there.0 name e there.1 there.2;
  those = λ fresh taken name rise. is_least fresh taken name rise;
}
