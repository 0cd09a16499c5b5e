use Rattle.std.proofs.Common.{Global, ap, ◌∙◌}
use Rattle.std.specs.Str.{bytes_eq}
use Rattle.std.specs.Option.{option_map}
use Rattle.std.specs.declared.sync.Arc.{Arc}
use Rattle.ix_record.specs.declared.value.RecordValue.{RecordValue}
use Rattle.ix_lookups.specs.Loaded.{Loaded, body_named}
use Rattle.ix_lookups.proofs.ByName.{viewed}
use Rattle.ix_lookups.proofs.bodies.Bodies.get.Goals as goal

pub returns : goal.returns
returns c =
    let name = c.args.name.now in
    ap (option_map (λ (body : Arc RecordValue Global). body.value)) c.get.ensures.value
    ∙ (viewed (λ (body : Arc RecordValue Global). body.value) (bytes_eq name) c.self.inside.bodies.entries ∙ ap (λ (bodies : Loaded). body_named name bodies) c.self.view_is)
