use Rattle.std.proofs.Common.{ap, sym, ◌∙◌, subst, not, map, rules}
use Rattle.std.specs.List.Sorted.{IsStrictlySortedBy}
use Rattle.ix_types.specs.Row.{text_cmp}
use Rattle.ix_cabinet.specs.Scan.{is_known}
use Rattle.ix_cabinet.proofs.WhatAListSays.{changed_names}
use Rattle.ix_cabinet.proofs.NamesRise.{some_rise}
use Rattle.ix_cabinet.proofs.scanning.scan_listed.Goals as goal

pub returns-clause-changed : goal.returns-clause-changed
returns-clause-changed g c =
    let known = c.args.known.now in
    ap (map (λ p. p.name)) c.of-2.ensures ∙ c.in_ok-puts.ensures.names ∙ changed_names known c.in_ok-stamps.stamps c.args.listed.now c.requires.rising (search rules)

pub returns-clause-puts_rise : goal.returns-clause-puts_rise
returns-clause-puts_rise g c =
    let known = c.args.known.now in
    subst (IsStrictlySortedBy text_cmp) (sym (ap (map (λ p. p.name)) c.of-2.ensures ∙ c.in_ok-puts.ensures.names)) (some_rise (λ one. not (is_known known one)) c.args.listed.now c.requires.rising)
