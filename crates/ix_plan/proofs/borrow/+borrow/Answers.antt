use Rattle.std.proofs.Common.{◌≡◌, [], ◌∷◌, ◌++◌, string_bytes, sym, ap, ◌∙◌, subst, append_assoc, rules}
use Rattle.std.specs.List.Sorted.{IsStrictlySortedBy}
use Rattle.std.specs.Map.{keys_of}
use Rattle.std.specs.String.{string_cmp}
use Rattle.serde_json.proofs.Views.{Entry, put_last}
use Rattle.ix_plan.specs.View.{members_view}
use Rattle.ix_plan.proofs.Members.{one_more_member}
use Rattle.ix_plan.proofs.borrow.+borrow.Goals as goal

pub borrow_members-loop-name-preserved : goal.borrow_members-loop-name-preserved
borrow_members-loop-name-preserved t c =
    let l = c.loop-name in
    let done = l.invariant.0 in
    let e : Entry = (c.in-Some.name.now, c.in-Some.member.now) in
    let left = c.next.new.self in
    let all : c.args.members.now.entries ≡ done ++ e ∷ left = l.invariant.1 ∙ ap (λ es. done ++ es) c.in-Some.ensures.steps in
    let named : c.as_str.result.now ≡ string_bytes e.0 = search rules in
    let last = put_last done e left (subst (λ es. IsStrictlySortedBy string_cmp (keys_of es)) all c.iter-name-items.ensures.ordered) in (
      done ++ e ∷ [],
      all ∙ sym (append_assoc done (e ∷ []) left),
      ap members_view c.in_ok-push.ensures.items ∙ one_more_member l.found.items _ ∙ rw (named, c.in_ok-borrow.ensures, l.invariant.2) last,
    )
