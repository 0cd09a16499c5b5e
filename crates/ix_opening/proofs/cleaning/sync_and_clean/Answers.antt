use Rattle.std.proofs.Common.{◌≡◌, ◌≤◌, ◌++◌, inl, inr, List, refl, ap, sym, ◌∙◌, subst}
use Rattle.std.specs.Option.{option_map}
use Rattle.ix_dir.specs.declared.moves.Move.{Move}
use Rattle.ix_opening.specs.AfterOpening.{names_of, cleaned, opening_moves, IsCleanedInPart}
use Rattle.ix_opening.proofs.Listings.{BothMade, once_between, both_are_made, part_is_made, all_are_made}
use Rattle.ix_opening.proofs.MovesOfOpening.{DirLaws}
use Rattle.ix_opening.proofs.MovesMade.{made_first, made_both, made_part, made_all, told_as_before, told_map, all_is_front, found_before, at_before}
use Rattle.ix_opening.proofs.cleaning.sync_and_clean.Goals as goal

pub returns-clause-moves : goal.returns-clause-moves
returns-clause-moves g c =
    let laws : DirLaws = record { area_one = c.area_takes_a_step.ensures; values_one = c.values_take_a_step.ensures; last = c.last_value_stands.ensures; image = c.standing_is_image.ensures } in
    let before = (g.D.Dir.state c.args.dir.now).moves in
    let mid = (g.D.Dir.state c.sync_both.new.dir).moves in
    let looked : (g.D.Dir.state c.look.new.dir).moves ≡ mid = ap (λ d. d.moves) c.look.ensures.state in
    made_all laws g.N.Naming.name_of before mid (g.D.Dir.state c.clean.new.dir).moves c.as_slice.result.now c.in_ok-found.found c.in_ok-sync_both.ensures.synced c.as_slice.ensures c.in_ok-found.ensures.opening
    (c.in_ok-clean.ensures.cleaned ∙ ap (λ o. option_map (cleaned (names_of c.as_slice.result.now)) o) looked)

pub returns-clause-front : goal.returns-clause-front
returns-clause-front g c =
    let laws : DirLaws = record { area_one = c.area_takes_a_step.ensures; values_one = c.values_take_a_step.ensures; last = c.last_value_stands.ensures; image = c.standing_is_image.ensures } in
    let before = (g.D.Dir.state c.args.dir.now).moves in
    let mid = (g.D.Dir.state c.sync_both.new.dir).moves in
    let looked : (g.D.Dir.state c.look.new.dir).moves ≡ mid = ap (λ d. d.moves) c.look.ensures.state in
    let made = c.in_ok-clean.ensures.cleaned ∙ ap (λ o. option_map (cleaned (names_of c.as_slice.result.now)) o) looked in
    all_is_front laws g.N.Naming.name_of before (g.D.Dir.state c.clean.new.dir).moves
    (told_as_before laws g.N.Naming.name_of before (g.D.Dir.state c.clean.new.dir).moves c.as_slice.result.now mid c.in_ok-sync_both.ensures.synced made) (returns-clause-moves g c)

pub returns-clause-found : goal.returns-clause-found
returns-clause-found g c =
    let laws : DirLaws = record { area_one = c.area_takes_a_step.ensures; values_one = c.values_take_a_step.ensures; last = c.last_value_stands.ensures; image = c.standing_is_image.ensures } in
    found_before laws g.N.Naming.name_of (g.D.Dir.state c.args.dir.now).moves (g.D.Dir.state c.sync_both.new.dir).moves c.in_ok-found.found c.in_ok-sync_both.ensures.synced c.in_ok-found.ensures.found

pub returns-clause-at : goal.returns-clause-at
returns-clause-at g c =
    let laws : DirLaws = record { area_one = c.area_takes_a_step.ensures; values_one = c.values_take_a_step.ensures; last = c.last_value_stands.ensures; image = c.standing_is_image.ensures } in
    at_before laws g.N.Naming.name_of (g.D.Dir.state c.args.dir.now).moves (g.D.Dir.state c.sync_both.new.dir).moves c.in_ok-found.found.units c.in_ok-sync_both.ensures.synced c.in_ok-found.ensures.at

pub returns-in_err-sync_both-clause-front : goal.returns-in_err-sync_both-clause-front
returns-in_err-sync_both-clause-front g c =
    let laws : DirLaws = record { area_one = c.area_takes_a_step.ensures; values_one = c.values_take_a_step.ensures; last = c.last_value_stands.ensures; image = c.standing_is_image.ensures } in
    made_first laws g.N.Naming.name_of (g.D.Dir.state c.args.dir.now).moves (g.D.Dir.state c.sync_both.new.dir).moves c.in_err-sync_both.ensures.part

pub returns-in_err-found-clause-front : goal.returns-in_err-found-clause-front
returns-in_err-found-clause-front g c =
    let laws : DirLaws = record { area_one = c.area_takes_a_step.ensures; values_one = c.values_take_a_step.ensures; last = c.last_value_stands.ensures; image = c.standing_is_image.ensures } in
    made_both laws g.N.Naming.name_of (g.D.Dir.state c.args.dir.now).moves (g.D.Dir.state c.look.new.dir).moves (ap (λ d. d.moves) c.look.ensures.state ∙ c.in_ok-sync_both.ensures.synced)

pub returns-in_err-clean-clause-front : goal.returns-in_err-clean-clause-front
returns-in_err-clean-clause-front g c =
    let laws : DirLaws = record { area_one = c.area_takes_a_step.ensures; values_one = c.values_take_a_step.ensures; last = c.last_value_stands.ensures; image = c.standing_is_image.ensures } in
    let before = (g.D.Dir.state c.args.dir.now).moves in
    let mid = (g.D.Dir.state c.sync_both.new.dir).moves in
    let looked : (g.D.Dir.state c.look.new.dir).moves ≡ mid = ap (λ d. d.moves) c.look.ensures.state in
    let part = subst (λ o. IsCleanedInPart c.as_slice.result.now o (g.D.Dir.state c.clean.new.dir).moves) looked c.in_err-clean.ensures.part in
    made_part laws g.N.Naming.name_of before mid (g.D.Dir.state c.clean.new.dir).moves c.as_slice.result.now c.in_ok-found.found c.in_ok-sync_both.ensures.synced c.as_slice.ensures c.in_ok-found.ensures.opening part

pub returns-in_err-found-clause-finds : goal.returns-in_err-found-clause-finds
returns-in_err-found-clause-finds g c = λ n small h. c.look.ensures.finds n small (subst (λ x. n ≤ x) (sym (ap (λ d. d.finds) c.sync_both.ensures.state)) h)

pub returns-in_err-clean-clause-finds : goal.returns-in_err-clean-clause-finds
returns-in_err-clean-clause-finds g c = λ n small h.
    subst (λ x. n ≤ x) (sym (ap (λ d. d.finds) c.clean.ensures.state)) (c.look.ensures.finds n small (subst (λ x. n ≤ x) (sym (ap (λ d. d.finds) c.sync_both.ensures.state)) h))

pub returns-clause-finds : goal.returns-clause-finds
returns-clause-finds g c = λ n small h.
    subst (λ x. n ≤ x) (sym (ap (λ d. d.finds) c.clean.ensures.state)) (c.look.ensures.finds n small (subst (λ x. n ≤ x) (sym (ap (λ d. d.finds) c.sync_both.ensures.state)) h))

pub returns-in_err-sync_both-clause-once : goal.returns-in_err-sync_both-clause-once
returns-in_err-sync_both-clause-once g c = inl (ap (λ d. d.listings) c.sync_both.ensures.state)

pub returns-in_err-found-clause-once : goal.returns-in_err-found-clause-once
returns-in_err-found-clause-once g c = once_between _ _ _ _ (ap (λ d. d.listings) c.sync_both.ensures.state) c.look.ensures.once refl

pub returns-in_err-clean-clause-once : goal.returns-in_err-clean-clause-once
returns-in_err-clean-clause-once g c = once_between _ _ _ _ (ap (λ d. d.listings) c.sync_both.ensures.state) c.look.ensures.once (ap (λ d. d.listings) c.clean.ensures.state)

pub returns-clause-once : goal.returns-clause-once
returns-clause-once g c = once_between _ _ _ _ (ap (λ d. d.listings) c.sync_both.ensures.state) c.look.ensures.once (ap (λ d. d.listings) c.clean.ensures.state)

pub returns-in_err-sync_both-clause-behind : goal.returns-in_err-sync_both-clause-behind
returns-in_err-sync_both-clause-behind g c = inl (ap (λ d. d.listings) c.sync_both.ensures.state)

pub returns-in_err-found-clause-behind : goal.returns-in_err-found-clause-behind
returns-in_err-found-clause-behind g c =
    inr (both_are_made (g.D.Dir.state c.args.dir.now).moves (g.D.Dir.state c.look.new.dir).moves (ap (λ d. d.moves) c.look.ensures.state ∙ c.in_ok-sync_both.ensures.synced))

pub returns-in_err-clean-clause-behind : goal.returns-in_err-clean-clause-behind
returns-in_err-clean-clause-behind g c =
    let looked : (g.D.Dir.state c.look.new.dir).moves ≡ (g.D.Dir.state c.sync_both.new.dir).moves = ap (λ d. d.moves) c.look.ensures.state in
    inr
    (part_is_made (g.D.Dir.state c.args.dir.now).moves (g.D.Dir.state c.look.new.dir).moves (g.D.Dir.state c.clean.new.dir).moves c.as_slice.result.now
    (looked ∙ c.in_ok-sync_both.ensures.synced) c.in_err-clean.ensures.part)

pub returns-clause-behind : goal.returns-clause-behind
returns-clause-behind g c =
    let name_of = g.N.Naming.name_of in
    let made : List Move → List Move → Type 0 = λ b n. n ≡ b ++ opening_moves name_of b in
    inr (told_map made BothMade (all_are_made name_of) (g.D.Dir.state c.args.dir.now).moves (g.D.Dir.state c.clean.new.dir).moves (returns-clause-moves g c))
