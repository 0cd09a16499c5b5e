use Rattle.std.proofs.Common.{Global, ◌∙◌}
use Rattle.std.specs.Option.{option_copied}
use Rattle.std.specs.declared.sync.Arc.{Arc}
use Rattle.ix_record.specs.declared.value.RecordValue.{RecordValue}
use Rattle.ix_lookups.specs.Loaded.{body_named}
use Rattle.ix_hierarchy.proofs.Passed.{loaded-is, viewed-some, copied-some}
use Rattle.ix_hierarchy.proofs.level.is_loaded.Goals as goal

pub returns : goal.returns
returns c =
    c.is_some.ensures
    ∙ (copied-some c.get.result
    ∙ (viewed-some (λ (body : Arc RecordValue Global). body.value) (option_copied c.get.result) (body_named c.args.name.now c.args.bodies.now) c.get.ensures ∙ loaded-is c.args.name.now c.args.bodies.now))
