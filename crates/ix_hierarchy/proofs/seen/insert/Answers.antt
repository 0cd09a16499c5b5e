use Rattle.std.proofs.Common.{◌≡◌, ◌||◌, ℕ, List, OnOk, sym, ◌∙◌, subst}
use Rattle.std.specs.Str.{bytes_eq}
use Rattle.ix_types.specs.Row.{text_cmp}
use Rattle.ix_model.specs.SortedSet.{add_once}
use Rattle.ix_answers.specs.Lookups.{is_among}
use Rattle.ix_hierarchy.proofs.Among.{insert-adds, inserted-among}
use Rattle.ix_hierarchy.proofs.seen.insert.Goals.{in-Ok, in-Err}
use Rattle.ix_hierarchy.proofs.seen.insert.Goals as goal

pub returns-clause-keys : goal.returns-clause-keys
returns-clause-keys c = elim c.match-insert.branch [
  | in-Ok w ↦ subst (λ r. OnOk r (c.insert.new.self.keys ≡ add_once text_cmp c.args.usr c.args.set.now.keys)) (sym w.result-is) (w.in-Ok.ensures.keys ∙ insert-adds c.args.usr c.args.set.now.keys)
  | in-Err w ↦ subst (λ r. OnOk r (c.insert.new.self.keys ≡ add_once text_cmp c.args.usr c.args.set.now.keys)) (sym w.result-is) tt
]

pub returns-clause-among : goal.returns-clause-among
returns-clause-among c = elim c.match-insert.branch [
  | in-Ok w ↦ subst (λ r. OnOk r ((other : List ℕ) → is_among c.insert.new.self.keys other ≡ (bytes_eq c.args.usr other || is_among c.args.set.now.keys other))) (sym w.result-is)
      (inserted-among c.args.usr c.args.set.now.keys c.insert.new.self.keys w.in-Ok.ensures.updates.0)
  | in-Err w ↦ subst (λ r. OnOk r ((other : List ℕ) → is_among c.insert.new.self.keys other ≡ (bytes_eq c.args.usr other || is_among c.args.set.now.keys other))) (sym w.result-is) tt
]
