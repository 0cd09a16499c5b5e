use Rattle.std.proofs.Common.{◌==◌, ap, ◌∙◌, eq-eqb, Option, Some, None, IfSome}
use Rattle.ix_machine.specs.Needs.{option_any}
use Rattle.ix_machine.specs.State.{Import}
use Rattle.ix_ledger.specs.Kept.{Kept}
use Rattle.ix_library.proofs.look_laws.looks_may_be_made.Goals as goal

-- what holds of any state holds where there are moves
where_told : {X : Type 0} (P : Type 0) (o : Option X) → P → IfSome o (λ _. P)
where_told P None p = tt
where_told P (Some x) p = p

pub returns-clause-scan : goal.returns-clause-scan
returns-clause-scan c name_of s kept shelf known dir stands = where_told _ dir.moves (s, stands)

pub returns-clause-load : goal.returns-clause-load
returns-clause-load c name_of s kept shelf known dir lane name purpose stands may = where_told _ dir.moves (s, stands, may)

pub returns-clause-install : goal.returns-clause-install
returns-clause-install c name_of s kept shelf known dir lane stands opened =
    ap (option_any (λ (i : Import). i.lane == lane)) (ap (λ (k : Kept). k.import) stands.keeps.is ∙ opened.is_open) ∙ eq-eqb opened.open_import.lane lane opened.own
