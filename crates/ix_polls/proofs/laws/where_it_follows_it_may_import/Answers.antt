use Rattle.std.proofs.Common.{Option, Some, None, IfSome}
use Rattle.ix_polls.proofs.laws.where_it_follows_it_may_import.Goals as goal

where_told : {X : Type 0} (P : Type 0) (o : Option X) → P → IfSome o (λ _. P)
where_told P None p = tt
where_told P (Some x) p = p

pub returns : goal.returns
returns c name_of s kept shelf known dir importer stands imports = where_told _ dir.moves (s, stands, imports)
