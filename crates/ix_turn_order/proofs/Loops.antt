-- One step more of each loop.
use Rattle.std.proofs.Common.{OnErr, Result, Ok, Err, ◌≡◌, ◌⊎◌, inl, inr, ℕ, ◌+◌, ◌<◌, ◌≤◌, Bool, false, List, [], ◌∷◌, length, map, get_or, drop, refl, sym, ap, ◌∙◌, subst, arith}
use Rattle.std.proofs.lemmas.List.{drop_all, drop_more}
use Rattle.ix_lanes.specs.Tasks.{Task, tasks_of}
use Rattle.ix_replays.specs.Laws.{RunFits}
use Rattle.ix_machine.specs.Run.{Opening}
use Rattle.ix_plan.specs.declared.plan.Script.{Script}
use Rattle.ix_replays.specs.Run.{IsReplay, Run, fresh, has_call, lanes_of, transcript_of}
use Rattle.ix_turn_order.proofs.Turns.{same_or_not}
use Rattle.ix_turn_order.specs.Order.{ComesTo, GoesOn, HaveEnded, IsReplaying, IsWanting}

-- what holds where a call failed
pub on_err : {A E : Type 0} (r : Result A E) (P : Type 0) → P → OnErr r P
on_err (Ok a) P p = tt
on_err (Err e) P p = p

same_or_less : (a b : ℕ) → a < b + 1 → (a ≡ b) ⊎ (a < b)
same_or_less a b within =
    elim (same_or_not a b) as (λ o. (a ≡ b) ⊎ (a < b)) [
      | inl same ↦ inl same
      | inr apart ↦ inr (omega (arith, within, apart))
    ]

module _ (name_of : List ℕ → List ℕ) (lanes : List (List Task)) where
  -- from whatever run it stands for, it makes such a step
  abbrev pub Makes : (Run → Type 0) → (Run → Type 0) → ℕ → Bool → Type 0
  Makes Before After lane made = (run : Run) → Before run → (next : Run) × GoesOn name_of lanes run lane made next × After next

  -- a step from what it stands for, with what is left behind
  pub makes_both : (Stands Left After More : Run → Type 0) (lane : ℕ) (made : Bool)
      → ((run : Run) → Stands run → Left run → (next : Run) × GoesOn name_of lanes run lane made next × After next × More next)
      → Makes (λ run. Stands run × Left run) (λ run. After run × More run) lane made
  makes_both Stands Left After More lane made steps run both = let n = steps run both.0 both.1 in (n.0, n.1, (n.2, n.3))

  -- memory was wanting behind a run to which the replay came
  pub is_wanting : (Before Wants : Run → Type 0) (start : Run) (whole rest : List ℕ) (count : ℕ) → ((run : Run) → Before run → Wants run) → IsReplaying name_of lanes Before start whole rest count
      → IsWanting name_of lanes Wants start whole
  is_wanting Before Wants start whole rest count wants r = record { run = r.run; rest = rest; wants = wants r.run r.keeps; comes = r.comes }

  none_before : (run : Run) → HaveEnded name_of lanes run 0
  none_before run lane within = absurd (omega (arith, within))

  module _ (Before After : Run → Type 0) (start : Run) (whole : List ℕ) where
    by_order : ((run next : Run) (rest : List ℕ) (lane : ℕ) (made : Bool) → ComesTo name_of lanes start whole run (lane ∷ rest) → GoesOn name_of lanes run lane made next → ComesTo name_of lanes start whole next rest)
        → (rest : List ℕ) (lane : ℕ) (made : Bool) → Makes Before After lane made → IsReplaying name_of lanes Before start whole (lane ∷ rest) 0 → IsReplaying name_of lanes After start whole rest 0
    by_order law rest lane made makes r =
        let n = makes r.run r.keeps in
        record { run = n.0; keeps = n.2; comes = law r.run n.0 rest lane made r.comes n.1; ended = none_before n.0 }

    pub order_goes_on : ((run next : Run) (rest : List ℕ) (lane : ℕ) (made : Bool) → ComesTo name_of lanes start whole run (lane ∷ rest) → GoesOn name_of lanes run lane made next → ComesTo name_of lanes start whole next rest)
        → (order : List ℕ) (i d lane : ℕ) (made : Bool) → i < length order → lane ≡ get_or order i d → Makes Before After lane made
        → IsReplaying name_of lanes Before start whole (drop i order) 0 → IsReplaying name_of lanes After start whole (drop (i + 1) order) 0
    order_goes_on law order i d lane made within is makes r =
        by_order law (drop (i + 1) order) lane made makes
        (subst (λ (ls : List ℕ). IsReplaying name_of lanes Before start whole ls 0) (drop_more order i d within ∙ ap (λ (l : ℕ). l ∷ drop (i + 1) order) (sym is)) r)

    -- a step of the first lane that may have a call left
    module _ (law : (run next : Run) (lane : ℕ) (made : Bool) → lane < length lanes → ComesTo name_of lanes start whole run [] → HaveEnded name_of lanes run lane → GoesOn name_of lanes run lane made next → ComesTo name_of lanes start whole next [])
        (stay : (run next : Run) (lane other : ℕ) (made : Bool) → RunFits run → GoesOn name_of lanes run lane made next → has_call name_of lanes run other ≡ false → has_call name_of lanes next other ≡ false) where
      pub lane_goes_on : (lane : ℕ) (made : Bool) → lane < length lanes → Makes Before After lane made → IsReplaying name_of lanes Before start whole [] lane → IsReplaying name_of lanes After start whole [] lane
      lane_goes_on lane made within makes r =
          let n = makes r.run r.keeps in
          record {
            run = n.0;
            keeps = n.2;
            comes = law r.run n.0 lane made within r.comes r.ended n.1;
            ended = λ other before. stay r.run n.0 lane other made r.comes.fits n.1 (r.ended other before);
          }

      ended_too : (run next : Run) (lane other : ℕ) → HaveEnded name_of lanes next lane → GoesOn name_of lanes run lane false next → other < lane + 1 → has_call name_of lanes next other ≡ false
      ended_too run next lane other before goes within =
          elim (same_or_less other lane within) as (λ o. has_call name_of lanes next other ≡ false) [
            | inl same ↦ ap (has_call name_of lanes next) same ∙ (ap (λ (r : Run). has_call name_of lanes r lane) goes.0 ∙ goes.1)
            | inr less ↦ before other less
          ]

      pub lane_ends : (lane : ℕ) → lane < length lanes → Makes Before After lane false → IsReplaying name_of lanes Before start whole [] lane → IsReplaying name_of lanes After start whole [] (lane + 1)
      lane_ends lane within makes r =
          let n = makes r.run r.keeps in
          let before : HaveEnded name_of lanes n.0 lane = λ other low. stay r.run n.0 lane other false r.comes.fits n.1 (r.ended other low) in
          record {
            run = n.0;
            keeps = n.2;
            comes = law r.run n.0 lane false within r.comes r.ended n.1;
            ended = λ other low. ended_too r.run n.0 lane other before n.1 low;
          }

  -- ---- nothing is left of the order

  pub order_done : (Keeps : Run → Type 0) (start : Run) (whole order : List ℕ) (i : ℕ) → length order ≤ i → IsReplaying name_of lanes Keeps start whole (drop i order) 0 → IsReplaying name_of lanes Keeps start whole [] 0
  order_done Keeps start whole order i all r = subst (λ (ls : List ℕ). IsReplaying name_of lanes Keeps start whole ls 0) (drop_all i order all) r

-- ---- a whole script

as_many : {A B : Type 0} (f : A → B) (xs : List A) → length (map f xs) ≡ length xs
as_many f [] = refl
as_many f (x ∷ xs) = let rest = as_many f xs in omega (arith, rest)

pub lanes_counted : (name_of : List ℕ → List ℕ) (script : Script) (count : ℕ) → count ≡ length script.lanes → count ≡ length (lanes_of name_of script)
lanes_counted name_of script count is = is ∙ sym (as_many (tasks_of name_of) script.lanes)

pub script_begins : (name_of : List ℕ → List ℕ) (script : Script) (opening : Opening) (Keeps : Run → Type 0) (order : List ℕ) → order ≡ script.order
    → ComesTo name_of (lanes_of name_of script) (fresh name_of script opening) script.order (fresh name_of script opening) script.order → Keeps (fresh name_of script opening)
    → IsReplaying name_of (lanes_of name_of script) Keeps (fresh name_of script opening) script.order order 0
script_begins name_of script opening Keeps order same comes keeps = record {
  run = fresh name_of script opening;
  keeps = keeps;
  comes = subst (λ (o : List ℕ). ComesTo name_of (lanes_of name_of script) (fresh name_of script opening) script.order (fresh name_of script opening) o) (sym same) comes;
  ended = none_before name_of (lanes_of name_of script) (fresh name_of script opening);
}

pub script_ends : (name_of : List ℕ → List ℕ) (script : Script) (opening : Opening) (Keeps : Run → Type 0) (count : ℕ) → count ≡ length script.lanes
    → ((run : Run) → ComesTo name_of (lanes_of name_of script) (fresh name_of script opening) script.order run [] → HaveEnded name_of (lanes_of name_of script) run (length script.lanes)
    → (replay : IsReplay name_of script opening (transcript_of name_of script opening run)) × (replay.run ≡ run))
    → IsReplaying name_of (lanes_of name_of script) Keeps (fresh name_of script opening) script.order [] count
    → (run : Run) × Keeps run × ComesTo name_of (lanes_of name_of script) (fresh name_of script opening) script.order run [] × ((replay : IsReplay name_of script opening (transcript_of name_of script opening run)) × (replay.run ≡ run))
script_ends name_of script opening Keeps count is law r =
    (r.run, r.keeps, r.comes, law r.run r.comes (λ lane within. r.ended lane (omega (arith, is, within))))
