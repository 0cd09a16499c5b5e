-- A seat stays one while bodies go, and while one that is the units' value comes.
use Rattle.std.proofs.Common.{◌≡◌, ◌≢◌, ◌⊎◌, inl, inr, ℕ, true, false, List, Option, Some, None, IfSome, IsSome, is_some, refl, sym, ap, ◌∙◌, subst}
use Rattle.std.specs.Map.{lookup}
use Rattle.std.specs.Str.{bytes_eq}
use Rattle.std.proofs.lemmas.Slice.Eq.{bytes_eq-Decides}
use Rattle.ix_types.specs.declared.row.Query.{Query}
use Rattle.ix_record.specs.declared.value.RecordValue.{RecordValue}
use Rattle.ix_unit.specs.declared.value.RecordDep.{RecordDep}
use Rattle.ix_model.specs.Units.{Units}
use Rattle.ix_answers.specs.Meanings.{IsRecord}
use Rattle.ix_lookups.specs.Loaded.{Loaded, body_named}
use Rattle.ix_needs.specs.Premises.{Holds}
use Rattle.ix_tables.specs.declared.tables.Version.{Version}
use Rattle.ix_asking.specs.Open.{IsOpen, IsSafe}
use Rattle.ix_asking.specs.declared.open_ask.OpenAsk.{OpenAsk}
use Rattle.ix_lanes.specs.Progress.{Progress, with_loaded}
use Rattle.ix_lanes.specs.Views.{Under}
use Rattle.ix_seats.specs.Seated.{asked, HasAsk}
use Rattle.ix_seats.specs.Seats.{HasVersion, IsSeat}

-- each body of the one is one of the other
abbrev pub AreAmong : Loaded → Loaded → Type 0
AreAmong after before = (name : List ℕ) (body : RecordValue) → body_named name after ≡ Some body → body_named name before ≡ Some body

pub fewer-hold : (units : Units) (before after : Loaded) → AreAmong after before → Holds units before → Holds units after
fewer-hold units before after among h = record {
  rises = h.rises;
  valued = h.valued;
  bodies_are = λ dep value body is e. h.bodies_are dep value body is (among dep.name body e);
}

pub fewer-held : (seen : ℕ → Units) (held : Option ℕ) (before after : Loaded) → AreAmong after before → IfSome held (λ mark. Holds (seen mark) before) → IfSome held (λ mark. Holds (seen mark) after)
fewer-held seen None before after among h = tt
fewer-held seen (Some mark) before after among h = fewer-hold (seen mark) before after among h

-- the value that each record of a name has
abbrev pub AreThis : Units → List ℕ → RecordValue → Type 0
AreThis units name body = (dep : RecordDep) (other : RecordValue) → IsRecord units dep other → dep.name ≡ name → other ≡ body

-- one body more still fits the units
abbrev pub OneMore : Type 0
OneMore = (units : Units) (before after : Loaded) (name : List ℕ) (body : RecordValue) → Holds units before → AreThis units name body → body_named name after ≡ Some body
    → ((other : List ℕ) → other ≢ name → body_named other after ≡ body_named other before) → Holds units after

-- laws of open asks
pub record Laws : Type 0 where
  pub stays_open : (query : Query) (units : Units) (before after : Loaded) (ask : OpenAsk) → ((name : List ℕ) → IsSome (body_named name before) → IsSome (body_named name after))
      → IsOpen query units before ask → IsOpen query units after ask
  pub stays_safe : (query : Query) (before after : Loaded) (ask : OpenAsk) → ((name : List ℕ) → IsSome (body_named name before) → IsSome (body_named name after))
      → IsSafe query before ask → IsSafe query after ask

-- what is loaded stays loaded
abbrev pub StaysLoaded : Loaded → Loaded → Type 0
StaysLoaded before after = (name : List ℕ) → IsSome (body_named name before) → IsSome (body_named name after)

module _ (laws : Laws) (before after : Loaded) (stays : StaysLoaded before after) where
  kept-open : (seen : ℕ → Units) (ask : Option OpenAsk) (held : Option ℕ) (query : Option Query)
      → IfSome ask (λ opened. IfSome held (λ mark. IfSome query (λ query. IsOpen query (seen mark) before opened)))
      → IfSome ask (λ opened. IfSome held (λ mark. IfSome query (λ query. IsOpen query (seen mark) after opened)))
  kept-open seen None held query o = tt
  kept-open seen (Some opened) None query o = tt
  kept-open seen (Some opened) (Some mark) None o = tt
  kept-open seen (Some opened) (Some mark) (Some query) o = laws.stays_open query (seen mark) before after opened stays o

  kept-safe : (p : Progress) (ask : Option OpenAsk) → HasAsk p before ask → HasAsk p after ask
  kept-safe p None h = tt
  kept-safe p (Some opened) h = (h.0, h.1, laws.stays_safe h.0 before after opened stays h.2)

-- ---- the same bodies, with other room

same-named : (before after : Loaded) → after.entries ≡ before.entries → (name : List ℕ) → body_named name after ≡ body_named name before
same-named before after e name = ap (λ (entries : List (List ℕ × RecordValue)). lookup (bytes_eq name) entries) e

same-stays : (before after : Loaded) → after.entries ≡ before.entries → StaysLoaded before after
same-stays before after e = λ name some. subst (λ (o : Option RecordValue). IsSome o) (sym (same-named before after e name)) some

pub moved-seat : (laws : Laws) (seen : ℕ → Units) (before after : Under) (version : Option Version) (ask : Option OpenAsk) → after.progress ≡ before.progress → after.bodies.entries ≡ before.bodies.entries
    → IsSeat seen (record { lane = before; version = version; ask = ask }) → IsSeat seen (record { lane = after; version = version; ask = ask })
moved-seat laws seen before after version ask same entries is = record {
  version = subst (λ (p : Progress). HasVersion seen p.held version) (sym same) is.version;
  bodies = subst (λ (p : Progress). IfSome p.held (λ mark. Holds (seen mark) after.bodies)) (sym same)
      (fewer-held seen before.progress.held before.bodies after.bodies (λ name body e. sym (same-named before.bodies after.bodies entries name) ∙ e) is.bodies);
  asks = subst (λ (p : Progress). IfSome ask (λ opened. IfSome p.held (λ mark. IfSome (asked p) (λ query. IsOpen query (seen mark) after.bodies opened)))) (sym same)
      (kept-open laws before.bodies after.bodies (same-stays before.bodies after.bodies entries) seen ask before.progress.held (asked before.progress) is.asks);
}

-- ---- one body more

module _ (laws : Laws) (before after : Loaded) (name : List ℕ) (body : RecordValue) (added : body_named name after ≡ Some body) (others : (other : List ℕ) → other ≢ name → body_named other after ≡ body_named other before) where
  same-or-other : (x : List ℕ) → (x ≡ name) ⊎ (x ≢ name)
  same-or-other x =
      (elim (bytes_eq x name) as (λ b. bytes_eq x name ≡ b → (x ≡ name) ⊎ (x ≢ name)) [
        | true ↦ λ e. inl ((bytes_eq-Decides x name).0 e)
        | false ↦ λ e. inr (λ p. apart x p e)
      ]) refl
    where
      apart : (x : List ℕ) → x ≡ name → bytes_eq x name ≡ false → ⊥
      apart x p e = let t = (bytes_eq-Decides x name).1 p in cc

  keep : (x : List ℕ) → (x ≡ name) ⊎ (x ≢ name) → IsSome (body_named x before) → IsSome (body_named x after)
  keep x (inl p) some = subst (λ (y : List ℕ). IsSome (body_named y after)) (sym p) (ap is_some added)
  keep x (inr q) some = subst (λ (o : Option RecordValue). IsSome o) (sym (others x q)) some

  kept : (x : List ℕ) → IsSome (body_named x before) → IsSome (body_named x after)
  kept x some = keep x (same-or-other x) some

  one-held : OneMore → (seen : ℕ → Units) (held : Option ℕ) → IfSome held (λ mark. AreThis (seen mark) name body) → IfSome held (λ mark. Holds (seen mark) before) → IfSome held (λ mark. Holds (seen mark) after)
  one-held one seen None this h = tt
  one-held one seen (Some mark) this h = one (seen mark) before after name body h this added others

  -- an ask that is open may still be gone on with
  pub one-safe : (p : Progress) (ask : Option OpenAsk) → HasAsk p before ask → HasAsk (with_loaded name p) after ask
  one-safe p ask h = kept-safe laws before after kept p ask h

  pub one-seat : OneMore → (seen : ℕ → Units) (p : Progress) (version : Option Version) (ask : Option OpenAsk) → IfSome p.held (λ mark. AreThis (seen mark) name body)
      → IsSeat seen (record { lane = record { progress = p; bodies = before }; version = version; ask = ask })
      → IsSeat seen (record { lane = record { progress = with_loaded name p; bodies = after }; version = version; ask = ask })
  one-seat one seen p version ask this is = record {
    version = is.version;
    bodies = one-held one seen p.held this is.bodies;
    asks = kept-open laws before after kept seen ask p.held (asked p) is.asks;
  }

pub loaded-seat : (laws : Laws) → OneMore → (seen : ℕ → Units) (before after : Under) (version : Option Version) (ask : Option OpenAsk) (name : List ℕ) (body : RecordValue) → after.progress ≡ with_loaded name before.progress
    → body_named name after.bodies ≡ Some body → ((other : List ℕ) → other ≢ name → body_named other after.bodies ≡ body_named other before.bodies)
    → IfSome before.progress.held (λ mark. AreThis (seen mark) name body) → IsSeat seen (record { lane = before; version = version; ask = ask }) → IsSeat seen (record { lane = after; version = version; ask = ask })
loaded-seat laws one seen before after version ask name body more added others this is =
    subst (λ (p : Progress). IsSeat seen (record { lane = record { progress = p; bodies = after.bodies }; version = version; ask = ask })) (sym more)
    (one-seat laws before.bodies after.bodies name body added others one seen before.progress version ask this is)

pub loaded-safe : (laws : Laws) (before after : Under) (ask : Option OpenAsk) (name : List ℕ) (body : RecordValue) → after.progress ≡ with_loaded name before.progress
    → body_named name after.bodies ≡ Some body → ((other : List ℕ) → other ≢ name → body_named other after.bodies ≡ body_named other before.bodies)
    → HasAsk before.progress before.bodies ask → HasAsk after.progress after.bodies ask
loaded-safe laws before after ask name body more added others safe =
    subst (λ (p : Progress). HasAsk p after.bodies ask) (sym more) (one-safe laws before.bodies after.bodies name body added others before.progress ask safe)
