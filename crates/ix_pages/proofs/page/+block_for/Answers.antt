use Rattle.std.proofs.Common.{rules, ◌≡◌, ◌∙◌, ◌<◌, length, map, sym, ap, subst, true, Greater, arith}
use Rattle.std.specs.Ordering.{is_le}
use Rattle.ix_pages.specs.Pairs.{IsRising, look_up}
use Rattle.ix_pages.specs.Tree.{pair_of}
use Rattle.ix_pages.proofs.Blocks.{from_gt, le_from_gt, rising_dropped_from, rising_taken_from, skip_block, keep_block}
use Rattle.ix_pages.proofs.page.+block_for.Goals as goal

pub block_for-requires : goal.block_for-requires
block_for-requires g t c κs within =
    let rising : IsRising g.K.Ord.cmp (map pair_of c.split_at.result.1.now) = subst (λ es. IsRising g.K.Ord.cmp (map pair_of es)) (sym c.split_at.ensures.back) (rising_dropped_from g.met.K.Ord.total pair_of 8 c.args.entries.now c.requires) in
    let smaller : length c.split_at.result.1.now < length c.args.entries.now = omega (arith, c.split_at.ensures.back_len) in
    search rules

pub returns-then-is_gt : goal.returns-then-is_gt
returns-then-is_gt g t c =
    let item = c.index-entries-7.result in
    let at = c.cmp.ensures ∙ ap (λ e. g.K.Ord.cmp c.args.key.now e.key) c.deref.ensures in
    let order : g.K.Ord.cmp c.args.key.now (pair_of item).0 ≡ Greater = sym at ∙ from_gt c.cmp.result (sym c.is_gt.ensures ∙ c.if-is_gt.true) in
    let greater = subst (λ e. g.K.Ord.cmp c.args.key.now (pair_of e).0 ≡ Greater) c.index-entries-7.is order in
    record {
      rising = c.block_for.ensures.rising;
      value = c.block_for.ensures.value ∙ ap (λ es. look_up g.K.Ord.cmp (map pair_of es) c.args.key.now) c.split_at.ensures.back ∙ skip_block g.met.K.Ord.total pair_of c.args.key.now 7 c.args.entries.now item (omega arith) c.requires greater;
    }

pub returns : goal.returns
returns g t c =
    let item = c.index-entries-7.result in
    let at = c.cmp.ensures ∙ ap (λ e. g.K.Ord.cmp c.args.key.now e.key) c.deref.ensures in
    let order : is_le (g.K.Ord.cmp c.args.key.now (pair_of item).0) ≡ true = ap is_le (sym at) ∙ le_from_gt c.cmp.result (sym c.is_gt.ensures ∙ c.if-is_gt.false) in
    let least = subst (λ e. is_le (g.K.Ord.cmp c.args.key.now (pair_of e).0) ≡ true) c.index-entries-7.is order in
    record {
      rising = subst (λ es. IsRising g.K.Ord.cmp (map pair_of es)) (sym c.split_at.ensures.front) (rising_taken_from g.met.K.Ord.total pair_of 8 c.args.entries.now c.requires);
      value = ap (λ es. look_up g.K.Ord.cmp (map pair_of es) c.args.key.now) c.split_at.ensures.front ∙ keep_block g.met.K.Ord.total pair_of c.args.key.now 7 c.args.entries.now item (omega arith) c.requires least;
    }
