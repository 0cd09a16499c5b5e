use Rattle.std.proofs.Common.{◌≡◌, ap, sym, ◌∙◌, length, arith, take}
use Rattle.std.specs.Option.{option_map}
use Rattle.ix_opening.specs.AfterOpening.{IsCleanedInPart, names_of, without}
use Rattle.ix_opening.proofs.Cleaned.{any_err}
use Rattle.ix_opening.proofs.RecordsOfAUnit.{take_full}
use Rattle.ix_opening.proofs.cleaning.clean.Goals as goal

pub returns-in_err-sync-clause-part : goal.returns-in_err-sync-clause-part
returns-in_err-sync-clause-part g c =
    let refused = c.args.refused.now in
    let start = (g.D.Dir.state c.args.dir.now).moves in
    let room : (g.D.Dir.state c.reserve.new.self).moves ≡ start = ap (λ d. d.moves) c.in_ok-reserve.ensures.others in
    let all : option_map (without (names_of refused)) start ≡ option_map (without (names_of (take (length refused) refused))) start = ap (λ xs. option_map (without (names_of xs)) start) (sym (take_full refused (length refused) (omega arith))) in
    let part : IsCleanedInPart refused start (g.D.Dir.state c.sync.new.self).moves = record {
      count = length refused;
      removed = ap (λ d. d.moves) c.in_err-sync.ensures.failed ∙ (c.in_ok-remove_all.ensures.removed ∙ (ap (option_map (without (names_of refused))) room ∙ all));
    } in
    any_err c.from_residual-in_err-sync.result (IsCleanedInPart refused start (g.D.Dir.state c.sync.new.self).moves) part
