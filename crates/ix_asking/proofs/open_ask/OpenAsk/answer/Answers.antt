use Rattle.std.proofs.Common.{◌≡◌, ◌↔◌, Some, None, IfOk, ℕ, List, Result, Ok, Err, subst, sym}
use Rattle.ix_types.specs.declared.row.Query.{Query}
use Rattle.ix_types.specs.declared.row.Row.{Row}
use Rattle.ix_model.specs.Units.{Units}
use Rattle.ix_answers.specs.Answers.{answer}
use Rattle.ix_answers.specs.Needs.{next_need}
use Rattle.ix_lookups.specs.Found.{Found, found_in}
use Rattle.ix_lookups.specs.Loaded.{Loaded, loaded_names}
use Rattle.ix_levels.specs.Trail as walk
use Rattle.ix_levels.specs.Trail.{Trail}
use Rattle.ix_needs.specs.Premises.{Holds, AreNeedsLoaded}
use Rattle.ix_asking.specs.Open.{IsOpen, IsAnswered}
use Rattle.ix_asking.specs.declared.open_ask.OpenAsk.{OpenAsk}
use Rattle.ix_asking.specs.declared.open_ask.OpenAsk.TheVariants.{Plain, Walk}
use Rattle.ix_asking.proofs.open_ask.OpenAsk.answer.Goals as goal

abbrev Right : Query → Found → Loaded → OpenAsk → List Row → Type 0
Right query found bodies ask rows =
    (units : Units) → found ≡ found_in units → Holds units bodies → IsOpen query units bodies ask → IsAnswered ask → next_need query units (loaded_names bodies) ≡ None → rows ≡ answer query units

plain_right : {E : Type 0} (query : Query) (found : Found) (bodies : Loaded) (ask : OpenAsk) (r : Result (List Row) E)
    → ((units : Units) → (next_need query units (loaded_names bodies) ≡ None) ↔ AreNeedsLoaded query units bodies)
    → IfOk r (λ rows. (units : Units) → found ≡ found_in units → Holds units bodies → AreNeedsLoaded query units bodies → rows ≡ answer query units)
    → IfOk r (Right query found bodies ask)
plain_right query found bodies ask (Ok rows) all is = λ units same holds opened done lacks. is units same holds ((all units).0 lacks)
plain_right query found bodies ask (Err e) all is = tt

walk_right : {E : Type 0} (query : Query) (found : Found) (bodies : Loaded) (trail : Trail) (r : Result (List Row) E)
    → IfOk r (λ rows. (query : Query) (units : Units) (bodies : Loaded) → walk.IsOpenOver query units bodies trail → walk.IsDone trail → rows ≡ answer query units)
    → IfOk r (Right query found bodies (Walk trail))
walk_right query found bodies trail (Ok rows) is = λ units same holds opened done lacks. is query units bodies opened done
walk_right query found bodies trail (Err e) is = tt

pub returns-in-Plain : goal.returns-in-Plain
returns-in-Plain g c =
    plain_right c.args.query.now (g.L.Lookups.found c.args.lookups.now) c.args.bodies.now c.args.self c.answer.result (λ units. c.the_next_need_is_that.ensures.none c.args.query.now units (loaded_names c.args.bodies.now)) c.answer.ensures

pub returns-in-Walk : goal.returns-in-Walk
returns-in-Walk g c =
    subst (λ ask. IfOk c.into_answer.result (Right c.args.query.now (g.L.Lookups.found c.args.lookups.now) c.args.bodies.now ask)) (sym c.in-Walk.is)
    (walk_right c.args.query.now (g.L.Lookups.found c.args.lookups.now) c.args.bodies.now c.in-Walk.walk c.into_answer.result c.into_answer.ensures)
