use Rattle.std.proofs.Common.{ℕ, List, IsSome}
use Rattle.ix_types.specs.declared.row.Query.{Query}
use Rattle.ix_model.specs.Units.{Units}
use Rattle.ix_lookups.specs.Loaded.{Loaded, body_named}
use Rattle.ix_query.specs.Asked as plain
use Rattle.ix_query.specs.Asked.{Asked}
use Rattle.ix_levels.specs.Trail as walk
use Rattle.ix_levels.specs.Trail.{Trail}
use Rattle.ix_asking.specs.Open.{IsOpen, IsSafe}
use Rattle.ix_asking.specs.declared.open_ask.OpenAsk.{OpenAsk}
use Rattle.ix_asking.specs.declared.open_ask.OpenAsk.TheVariants.{Plain, Walk}
use Rattle.ix_asking.proofs.laws.loading_keeps_asks_open.Goals as goal

-- nothing that was loaded goes
abbrev Stays : Loaded → Loaded → Type 0
Stays before after = (name : List ℕ) → IsSome (body_named name before) → IsSome (body_named name after)

stays_open : ((asked : Asked) (before after : Loaded) → Stays before after → plain.IsOpenOver asked before → plain.IsOpenOver asked after)
    → ((query : Query) (units : Units) (before after : Loaded) (trail : Trail) → Stays before after → walk.IsOpenOver query units before trail → walk.IsOpenOver query units after trail)
    → (query : Query) (units : Units) (before after : Loaded) (ask : OpenAsk) → Stays before after → IsOpen query units before ask → IsOpen query units after ask
stays_open questions walks query units before after (Plain asked) stays is = record { is_plain = is.is_plain; needs = is.needs; passed = questions asked before after stays is.passed }
stays_open questions walks query units before after (Walk trail) stays is = walks query units before after trail stays is

stays_safe : ((asked : Asked) (before after : Loaded) → Stays before after → plain.IsOpenOver asked before → plain.IsOpenOver asked after)
    → (query : Query) (before after : Loaded) (ask : OpenAsk) → Stays before after → IsSafe query before ask → IsSafe query after ask
stays_safe questions query before after (Plain asked) stays is = (is.0, questions asked before after stays is.1)
stays_safe questions query before after (Walk trail) stays is = is

pub returns-clause-over : goal.returns-clause-over
returns-clause-over c = stays_open c.loading_keeps_questions_open.ensures c.loading_keeps_walks_open.ensures

pub returns-clause-safe : goal.returns-clause-safe
returns-clause-safe c = stays_safe c.loading_keeps_questions_open.ensures
