-- What an ask comes to, by what the held version answers.
use Rattle.std.proofs.Common.{◌≡◌, ℕ, if◌then◌else◌, List, Option, Some, None, is_none, IfSome, refl, sym, ap, ◌∙◌, subst}
use Rattle.std.specs.Option.{option_and_then}
use Rattle.ix_types.specs.Row.{text_cmp}
use Rattle.ix_types.specs.declared.row.Query.{Query}
use Rattle.ix_types.specs.declared.row.Row.{Row}
use Rattle.ix_model.specs.SortedSet.{sorted_set, IsSortedSetOf}
use Rattle.ix_model.specs.Units.{Units}
use Rattle.ix_answers.specs.Answers.{answer}
use Rattle.ix_answers.specs.Needs.{next_need}
use Rattle.ix_lookups.specs.Loaded.{loaded_names}
use Rattle.ix_needs.specs.Premises.{Holds}
use Rattle.ix_outline.specs.Known.{AreTables}
use Rattle.ix_tables.specs.declared.tables.Version.{Version}
use Rattle.ix_asking.specs.Open.{IsOpen}
use Rattle.ix_asking.specs.declared.open_ask.OpenAsk.{OpenAsk}
use Rattle.ix_held.specs.Next.{IsNext}
use Rattle.ix_held.specs.declared.asks.Next.{Next}
use Rattle.ix_held.specs.declared.asks.Next.TheVariants.{Lacks, Rows}
use Rattle.ix_lanes.specs.declared.answered.AskResult.{AskResult}
use Rattle.ix_lanes.specs.declared.answered.AskResult.TheVariants as result
use Rattle.ix_lanes.specs.Progress.{ended_at}
use Rattle.ix_lanes.specs.Views.{Under, rising_names}
use Rattle.ix_seats.specs.Coming.{IsComing, IsOpenAt}
use Rattle.ix_seats.specs.Seated.{asked}
use Rattle.ix_seats.specs.Seats.{HasVersion, IsVersionAt, IsSeat, lacks, ends}
use Rattle.ix_seats.proofs.Names.{lacking-set}

-- a version is that of the mark which is held
version-at : (seen : ℕ → Units) (held : Option ℕ) (version : Version) → HasVersion seen held (Some version) → (mark : ℕ) × (held ≡ Some mark) × IsVersionAt seen mark version
version-at seen None version h = absurd h
version-at seen (Some mark) version h = (mark, refl, h)

module _ (seen : ℕ → Units) (lane : Under) (query : Query) (asked_is : asked lane.progress ≡ Some query) where
  ends-at : ends seen lane.progress ≡ ended_at seen query lane.progress.held lane.progress.loaded
  ends-at = ap (λ (o : Option Query). option_and_then (λ query. ended_at seen query lane.progress.held lane.progress.loaded) o) asked_is

  module _ (mark : ℕ) (held_is : lane.progress.held ≡ Some mark) where
    ends-if : ends seen lane.progress ≡ (if is_none (next_need query (seen mark) lane.progress.loaded) then Some (result.Rows (answer query (seen mark))) else None)
    ends-if = ends-at ∙ ap (λ (h : Option ℕ). ended_at seen query h lane.progress.loaded) held_is

    lacks-at : lacks seen lane.progress ≡ next_need query (seen mark) lane.progress.loaded
    lacks-at =
        ap (λ (o : Option Query). option_and_then (λ query. option_and_then (λ mark. next_need query (seen mark) lane.progress.loaded) lane.progress.held) o) asked_is
        ∙ ap (λ (h : Option ℕ). option_and_then (λ mark. next_need query (seen mark) lane.progress.loaded) h) held_is

    open-at : (opened : OpenAsk) → IsOpen query (seen mark) lane.bodies opened → IsOpenAt seen lane opened
    open-at opened o =
        subst (λ (h : Option ℕ). IfSome h (λ mark. IfSome (asked lane.progress) (λ query. IsOpen query (seen mark) lane.bodies opened))) (sym held_is)
        (subst (λ (q : Option Query). IfSome q (λ query. IsOpen query (seen mark) lane.bodies opened)) (sym asked_is) o)

    at-open : (opened : OpenAsk) → IsOpenAt seen lane opened → IsOpen query (seen mark) lane.bodies opened
    at-open opened o =
        subst (λ (q : Option Query). IfSome q (λ query. IsOpen query (seen mark) lane.bodies opened)) asked_is
        (subst (λ (h : Option ℕ). IfSome h (λ mark. IfSome (asked lane.progress) (λ query. IsOpen query (seen mark) lane.bodies opened))) held_is o)

    at-opened : (ask : Option OpenAsk) → IfSome ask (IsOpenAt seen lane) → IfSome ask (IsOpen query (seen mark) lane.bodies)
    at-opened None o = tt
    at-opened (Some opened) o = at-open opened o

    holds-at : IfSome lane.progress.held (λ mark. Holds (seen mark) lane.bodies) → Holds (seen mark) lane.bodies
    holds-at h = subst (λ (o : Option ℕ). IfSome o (λ mark. Holds (seen mark) lane.bodies)) held_is h

    module _ (need_is : next_need query (seen mark) lane.progress.loaded ≡ next_need query (seen mark) (loaded_names lane.bodies)) where
      coming-is : (next : Next) → IsNext query (seen mark) lane.bodies next → IsComing seen lane (Some next)
      coming-is (Lacks name opened) is =
          let need = need_is ∙ is.0 in (
            lacks-at ∙ need,
            ends-if ∙ ap (λ (o : Option (List ℕ)). if◌then◌else◌ {A = Option AskResult} (is_none o) (Some (result.Rows (answer query (seen mark)))) None) need,
            open-at opened is.1,
          )
      coming-is (Rows rows) is =
          let need = need_is ∙ is.0 in
          ends-if ∙ ap (λ (o : Option (List ℕ)). if◌then◌else◌ {A = Option AskResult} (is_none o) (Some (result.Rows (answer query (seen mark)))) None) need
          ∙ ap (λ (r : List Row). Some (result.Rows r)) (sym is.1)

-- where a version is held
pub coming-some : (sorted : (texts : List (List ℕ)) → IsSortedSetOf text_cmp texts (sorted_set text_cmp texts)) (seen : ℕ → Units) (lane : Under) (query : Query) → asked lane.progress ≡ Some query
    → lane.progress.loaded ≡ rising_names lane.bodies → (version : Version) (ask : Option OpenAsk) → IsSeat seen (record { lane = lane; version = Some version; ask = ask }) → (next : Next)
    → ((units : Units) → AreTables units version.tables → Holds units lane.bodies → IfSome ask (IsOpen query units lane.bodies) → IsNext query units lane.bodies next)
    → IsComing seen lane (Some next)
coming-some sorted seen lane query asked_is loaded_is version ask is next answers =
    let at = version-at seen lane.progress.held version is.version in
    let need_is = ap (λ (names : List (List ℕ)). next_need query (seen at.0) names) loaded_is ∙ lacking-set sorted query (seen at.0) (loaded_names lane.bodies) in
    coming-is seen lane query asked_is at.0 at.1 need_is next
    (answers (seen at.0) at.2.tables (holds-at seen lane query asked_is at.0 at.1 is.bodies) (at-opened seen lane query asked_is at.0 at.1 ask is.asks))
