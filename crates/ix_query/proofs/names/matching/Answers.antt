use Rattle.std.proofs.Common.{◌≡◌, ℕ, List, sym, ap, ◌∙◌}
use Rattle.ix_lookups.specs.Found.{Found}
use Rattle.ix_answers.specs.Pattern.{matches, folded, stands_at}
use Rattle.ix_query.proofs.Grown.{matched_more}
use Rattle.ix_query.proofs.names.matching.Goals as goal

pub loop-place-preserved : goal.loop-place-preserved
loop-place-preserved g c =
    let found : Found = g.L.Lookups.found c.args.lookups.now in
    let wanted : c.deref.result.now ≡ folded c.args.fold c.args.text.now = c.deref.ensures.value ∙ c.in_ok-wanted.ensures.value in
    let is : c.in_ok-is_match-in-Some.is_match ≡ matches c.args.text.now c.args.start c.args.end c.args.fold c.in-Some.name.now =
    c.in_ok-is_match-in-Some.ensures ∙ ap (λ (text : List ℕ). stands_at c.args.start c.args.end text (folded c.args.fold c.in-Some.name.now)) wanted in
    matched_more (λ (name : List ℕ). found.named name) (matches c.args.text.now c.args.start c.args.end c.args.fold) found.names c.loop-place.place c.in-Some.name.now (sym c.in-Some.ensures)
    c.in_ok-is_match-in-Some.is_match is c.loop-place.usrs.items c.append_named.new.out.items c.loop-place.invariant c.in_ok-append_named-in-Some.ensures
