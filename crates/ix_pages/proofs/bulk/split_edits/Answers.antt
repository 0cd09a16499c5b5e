use Rattle.std.proofs.Common.{rules, ap, ◌∙◌, map}
use Rattle.std.proofs.lemmas.Fn.{always_returns_same}
use Rattle.ix_pages.specs.Edits.{change_of, key_of_edit}
use Rattle.ix_pages.proofs.Edits.{split_present, split_absent, split_before, split_behind, rising_taken, rising_dropped}
use Rattle.ix_pages.proofs.bulk.split_edits.Goals as goal

pub returns-in-Ok-clause-before : goal.returns-in-Ok-clause-before
returns-in-Ok-clause-before g c =
    let by_key = c.in-Ok.ensures.position (λ e. g.K.Ord.cmp (key_of_edit e) c.args.key.now) (always_returns_same _ _ _ (λ a r h called. search rules)) in
    ap (map change_of) c.split_at.ensures.front
    ∙ split_before g.met.K.Ord.total c.args.key.now c.args.edits.now c.in-Ok.at (split_present g.met.K.Ord.total c.args.key.now c.args.edits.now c.in-Ok.at c.requires c.in-Ok.ensures.bound by_key)

pub returns-in-Ok-clause-behind : goal.returns-in-Ok-clause-behind
returns-in-Ok-clause-behind g c =
    let by_key = c.in-Ok.ensures.position (λ e. g.K.Ord.cmp (key_of_edit e) c.args.key.now) (always_returns_same _ _ _ (λ a r h called. search rules)) in
    ap (map change_of) c.split_at.ensures.back
    ∙ split_behind g.met.K.Ord.total c.args.key.now c.args.edits.now c.in-Ok.at (split_present g.met.K.Ord.total c.args.key.now c.args.edits.now c.in-Ok.at c.requires c.in-Ok.ensures.bound by_key)

pub returns-in-Ok-clause-rising_before : goal.returns-in-Ok-clause-rising_before
returns-in-Ok-clause-rising_before g c = rw c.split_at.ensures.front (rising_taken g.met.K.Ord.total c.args.edits.now c.in-Ok.at c.requires)

pub returns-in-Ok-clause-rising_behind : goal.returns-in-Ok-clause-rising_behind
returns-in-Ok-clause-rising_behind g c = rw c.split_at.ensures.back (rising_dropped g.met.K.Ord.total c.args.edits.now c.in-Ok.at c.requires)

pub returns-in-Err-clause-before : goal.returns-in-Err-clause-before
returns-in-Err-clause-before g c =
    let by_key = c.in-Err.ensures.position (λ e. g.K.Ord.cmp (key_of_edit e) c.args.key.now) (always_returns_same _ _ _ (λ a r h called. search rules)) in
    ap (map change_of) c.split_at-in-Err.ensures.front
    ∙ split_before g.met.K.Ord.total c.args.key.now c.args.edits.now c.in-Err.at (split_absent g.met.K.Ord.total c.args.key.now c.args.edits.now c.in-Err.at c.requires c.in-Err.ensures.bound by_key)

pub returns-in-Err-clause-behind : goal.returns-in-Err-clause-behind
returns-in-Err-clause-behind g c =
    let by_key = c.in-Err.ensures.position (λ e. g.K.Ord.cmp (key_of_edit e) c.args.key.now) (always_returns_same _ _ _ (λ a r h called. search rules)) in
    ap (map change_of) c.split_at-in-Err.ensures.back
    ∙ split_behind g.met.K.Ord.total c.args.key.now c.args.edits.now c.in-Err.at (split_absent g.met.K.Ord.total c.args.key.now c.args.edits.now c.in-Err.at c.requires c.in-Err.ensures.bound by_key)

pub returns-in-Err-clause-rising_before : goal.returns-in-Err-clause-rising_before
returns-in-Err-clause-rising_before g c = rw c.split_at-in-Err.ensures.front (rising_taken g.met.K.Ord.total c.args.edits.now c.in-Err.at c.requires)

pub returns-in-Err-clause-rising_behind : goal.returns-in-Err-clause-rising_behind
returns-in-Err-clause-rising_behind g c = rw c.split_at-in-Err.ensures.back (rising_dropped g.met.K.Ord.total c.args.edits.now c.in-Err.at c.requires)
