-- What events say adds up.
use Rattle.std.proofs.Common.{◌≡◌, ℕ, ◌+◌, Bool, List, [], ◌++◌, length, filter, sym, ap, ◌∙◌, subst, arith, append_assoc}
use Rattle.std.proofs.lemmas.List.{length-append, append-nil}
use Rattle.std.proofs.lemmas.List.Elements.{filter-append}
use Rattle.ix_machine.specs.declared.event.Event.{Event}
use Rattle.ix_counts.specs.Counting.{AreCounted, Counts, RoseBy, failures, is_failure, is_loaded, is_scanned, loads, scans}

-- of two lists of events as many pass a test as of each
both_pass : (test : Event → Bool) (first second : List Event) → length (filter test (first ++ second)) ≡ length (filter test first) + length (filter test second)
both_pass test first second = ap (λ (es : List Event). length es) (filter-append test first second) ∙ length-append (filter test first) (filter test second)

pub both : (first second : List Event) → failures (first ++ second) ≡ failures first + failures second
both first second = both_pass (λ (event : Event). is_failure event.outcome) first second

pub both_loads : (first second : List Event) → loads (first ++ second) ≡ loads first + loads second
both_loads first second = both_pass (λ (event : Event). is_loaded event.call event.outcome) first second

pub both_scans : (first second : List Event) → scans (first ++ second) ≡ scans first + scans second
both_scans first second = both_pass (λ (event : Event). is_scanned event.call event.outcome) first second

pub none : (events : List Event) (counts : Counts) → AreCounted events counts events counts
none events counts = record { more = []; added = sym (append-nil events); rose = omega arith; found = omega arith; listed = omega arith }

rises : (a b before between after : ℕ) → RoseBy a before between → RoseBy b between after → RoseBy (a + b) before after
rises a b before between after p q = omega (arith, p, q)

pub joined : (first second third : List Event) (before between after : Counts) → AreCounted first before second between → AreCounted second between third after → AreCounted first before third after
joined first second third before between after p q = record {
  more = p.more ++ q.more;
  added = q.added ∙ (ap (λ (es : List Event). es ++ q.more) p.added ∙ append_assoc first p.more q.more);
  rose = subst (λ (n : ℕ). RoseBy n before.faults after.faults) (sym (both p.more q.more)) (rises (failures p.more) (failures q.more) before.faults between.faults after.faults p.rose q.rose);
  found = subst (λ (n : ℕ). RoseBy n before.finds after.finds) (sym (both_loads p.more q.more)) (rises (loads p.more) (loads q.more) before.finds between.finds after.finds p.found q.found);
  listed = subst (λ (n : ℕ). RoseBy n before.listings after.listings) (sym (both_scans p.more q.more)) (rises (scans p.more) (scans q.more) before.listings between.listings after.listings p.listed q.listed);
}

pub all_faults : (events : List Event) (before after : Counts) → AreCounted [] before events after → RoseBy (failures events) before.faults after.faults
all_faults events before after run = subst (λ (es : List Event). RoseBy (failures es) before.faults after.faults) (sym run.added) run.rose

pub all_finds : (events : List Event) (before after : Counts) → AreCounted [] before events after → RoseBy (loads events) before.finds after.finds
all_finds events before after run = subst (λ (es : List Event). RoseBy (loads es) before.finds after.finds) (sym run.added) run.found

pub all_listings : (events : List Event) (before after : Counts) → AreCounted [] before events after → RoseBy (scans events) before.listings after.listings
all_listings events before after run = subst (λ (es : List Event). RoseBy (scans es) before.listings after.listings) (sym run.added) run.listed
