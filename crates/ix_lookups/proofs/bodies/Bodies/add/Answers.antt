use Rattle.std.proofs.Common.{Global, ap, sym, ◌∙◌}
use Rattle.std.specs.Str.{bytes_eq}
use Rattle.std.specs.Option.{option_map}
use Rattle.std.specs.declared.sync.Arc.{Arc}
use Rattle.ix_record.specs.declared.value.RecordValue.{RecordValue}
use Rattle.ix_lookups.specs.Loaded.{Loaded, body_named}
use Rattle.ix_lookups.proofs.ByName.{viewed, differ}
use Rattle.ix_lookups.proofs.bodies.Bodies.add.Goals as goal

pub returns-clause-added : goal.returns-clause-added
returns-clause-added c =
    sym (viewed (λ (body : Arc RecordValue Global). body.value) (bytes_eq c.args.name) c.insert.new.self.entries)
    ∙ ap (option_map (λ (body : Arc RecordValue Global). body.value)) c.in-Ok.ensures.updates.1

pub returns-clause-others : goal.returns-clause-others
returns-clause-others c other ne =
    sym (viewed (λ (body : Arc RecordValue Global). body.value) (bytes_eq other) c.insert.new.self.entries)
    ∙ (ap (option_map (λ (body : Arc RecordValue Global). body.value)) (c.in-Ok.ensures.updates.2 other (differ c.args.name other ne))
    ∙ (viewed (λ (body : Arc RecordValue Global). body.value) (bytes_eq other) c.self.inside.bodies.entries ∙ ap (λ (bodies : Loaded). body_named other bodies) c.self.view_is))
