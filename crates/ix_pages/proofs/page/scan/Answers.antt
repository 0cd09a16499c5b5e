use Rattle.std.proofs.Common.{◌≡◌, ◌∙◌, ◌+◌, ◌∷◌, map, drop, sym, ap, subst}
use Rattle.std.proofs.lemmas.List.{drop_all}
use Rattle.ix_pages.specs.Pairs.{IsRising, look_up}
use Rattle.ix_pages.specs.Tree.{pair_of}
use Rattle.ix_pages.proofs.Blocks.{look_up_first, look_up_gone, look_up_later}
use Rattle.ix_pages.proofs.Changing.{next_of}
use Rattle.ix_pages.proofs.page.scan.Goals as goal

pub loop-entry-preserved : goal.loop-entry-preserved
loop-entry-preserved g c =
    let entry = c.entry-item.result in
    let i = c.loop-entry.entry-index in
    let es = c.args.entries.now in
    let next : map pair_of (drop i es) ≡ pair_of entry ∷ map pair_of (drop (i + 1) es) = next_of pair_of es i entry c.loop-entry-test.true ∙ ap (λ e. pair_of e ∷ map pair_of (drop (i + 1) es)) (sym c.entry-item.is) in
    let at = c.cmp-order.ensures ∙ ap (λ e. g.K.Ord.cmp c.args.key.now e.key) c.deref.ensures in (
      (subst (IsRising g.K.Ord.cmp) next c.loop-entry.invariant.0).1,
      look_up_later g.met.K.Ord.total pair_of c.args.key.now (drop i es) entry (drop (i + 1) es) c.cmp-order.result next at (sym c.is_eq.ensures ∙ c.if-is_eq.false) ∙ c.loop-entry.invariant.1,
    )

pub returns-then-is_eq : goal.returns-then-is_eq
returns-then-is_eq g c =
    let entry = c.entry-item.result in
    let i = c.loop-entry.entry-index in
    let es = c.args.entries.now in
    let next : map pair_of (drop i es) ≡ pair_of entry ∷ map pair_of (drop (i + 1) es) = next_of pair_of es i entry c.loop-entry-test.true ∙ ap (λ e. pair_of e ∷ map pair_of (drop (i + 1) es)) (sym c.entry-item.is) in
    let at = c.cmp-order.ensures ∙ ap (λ e. g.K.Ord.cmp c.args.key.now e.key) c.deref.ensures in
    look_up_first g.met.K.Ord.total pair_of c.args.key.now (drop i es) entry (drop (i + 1) es) c.cmp-order.result next at (sym c.is_eq.ensures ∙ c.if-is_eq.true) ∙ c.loop-entry.invariant.1

pub returns-then-is_lt : goal.returns-then-is_lt
returns-then-is_lt g c =
    let entry = c.entry-item.result in
    let i = c.loop-entry.entry-index in
    let es = c.args.entries.now in
    let next : map pair_of (drop i es) ≡ pair_of entry ∷ map pair_of (drop (i + 1) es) = next_of pair_of es i entry c.loop-entry-test.true ∙ ap (λ e. pair_of e ∷ map pair_of (drop (i + 1) es)) (sym c.entry-item.is) in
    let at = c.cmp-order.ensures ∙ ap (λ e. g.K.Ord.cmp c.args.key.now e.key) c.deref.ensures in
    look_up_gone g.met.K.Ord.total pair_of c.args.key.now (drop i es) entry (drop (i + 1) es) c.cmp-order.result next c.loop-entry.invariant.0 at (sym c.is_lt.ensures ∙ c.if-is_lt.true) ∙ c.loop-entry.invariant.1

pub returns : goal.returns
returns g c =
    ap (λ es. look_up g.K.Ord.cmp (map pair_of es) c.args.key.now) (sym (drop_all c.loop-entry.entry-index c.args.entries.now c.loop-entry-test.false)) ∙ c.loop-entry.invariant.1
