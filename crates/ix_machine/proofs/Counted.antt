-- Units changes that were made and acknowledged.
use Rattle.std.proofs.Common.{◌≡◌, ℕ, zero, suc, ◌+◌, ◌≤◌, List, [], ◌∷◌, ◌++◌, length, fold, refl, sym, ap, ◌∙◌, arith}
use Rattle.std.specs.Prelude.{count_by}
use Rattle.std.specs.List.{AllByRecursion}
use Rattle.std.proofs.lemmas.List.Sums.{fold-append, length-filter}
use Rattle.ix_model.specs.declared.publication.Publication.{Publication}
use Rattle.ix_model.specs.declared.publication.Publication.TheVariants.{Put, Gone}
use Rattle.ix_machine.specs.Counts.{UnitsMove, Changed, Synced, Changes, counted, changes_after, is_change, mark_with, made, acknowledged}

one_more : (moves : List UnitsMove) → count_by is_change (Changed ∷ moves) ≡ suc (count_by is_change moves)
one_more moves = sym (length-filter is_change (Changed ∷ moves)) ∙ ap suc (length-filter is_change moves)

none_more : (moves : List UnitsMove) → count_by is_change (Synced ∷ moves) ≡ count_by is_change moves
none_more moves = sym (length-filter is_change (Synced ∷ moves)) ∙ length-filter is_change moves

made_from : (c : Changes) (moves : List UnitsMove) → (fold counted c moves).made ≡ c.made + count_by is_change moves
made_from c [] = omega arith
made_from c (Changed ∷ moves) =
    let e : (fold counted c (Changed ∷ moves)).made ≡ suc c.made + count_by is_change moves = made_from (counted c Changed) moves in
    omega (arith, e, one_more moves)
made_from c (Synced ∷ moves) =
    let e : (fold counted c (Synced ∷ moves)).made ≡ c.made + count_by is_change moves = made_from (counted c Synced) moves in
    omega (arith, e, none_more moves)

pub all_made : (opened : ℕ) (moves : List UnitsMove) → (changes_after opened moves).made ≡ opened + count_by is_change moves
all_made opened moves = made_from (record { made = opened; acknowledged = opened }) moves

unsynced_from : (c : Changes) (moves : List UnitsMove) → AllByRecursion (λ move. move ≡ Changed) moves → (fold counted c moves).acknowledged ≡ c.acknowledged
unsynced_from c [] all = refl
unsynced_from c (Changed ∷ moves) all = unsynced_from (counted c Changed) moves all.1
unsynced_from c (Synced ∷ moves) all = let e = all.0 in absurd (cc)

pub none_synced : (opened : ℕ) (moves : List UnitsMove) → AllByRecursion (λ move. move ≡ Changed) moves → (changes_after opened moves).acknowledged ≡ opened
none_synced opened moves all = unsynced_from (record { made = opened; acknowledged = opened }) moves all

pub synced_last : (opened : ℕ) (earlier later : List UnitsMove) → AllByRecursion (λ move. move ≡ Changed) later
    → (changes_after opened (earlier ++ Synced ∷ later)).acknowledged ≡ opened + count_by is_change earlier
synced_last opened earlier later all =
    ap (λ (c : Changes). c.acknowledged) (fold-append counted (record { made = opened; acknowledged = opened }) earlier (Synced ∷ later))
    ∙ (unsynced_from (counted (changes_after opened earlier) Synced) later all
    ∙ all_made opened earlier)

pub mark_is : (changes : ℕ) (publications : List Publication) → changes ≤ length publications → mark_with changes publications ≡ changes
mark_is zero publications below = refl
mark_is (suc changes) [] below = absurd (omega arith)
mark_is (suc changes) (Put name unit ∷ publications) below = ap suc (mark_is changes publications (omega arith))
mark_is (suc changes) (Gone name ∷ publications) below = ap suc (mark_is changes publications (omega arith))

-- the mark is the number, where there are so many publications
mark_of : (publications : List Publication) (changes count : ℕ) → changes ≡ count → count ≤ length publications → mark_with changes publications ≡ count
mark_of publications changes count e below = ap (λ (n : ℕ). mark_with n publications) e ∙ mark_is count publications below

pub made_of : (publications : List Publication) (opened : ℕ) (moves : List UnitsMove) → opened + count_by is_change moves ≤ length publications → made publications opened moves ≡ opened + count_by is_change moves
made_of publications opened moves below = mark_of publications (changes_after opened moves).made (opened + count_by is_change moves) (all_made opened moves) below

pub none_acknowledged : (publications : List Publication) (opened : ℕ) (moves : List UnitsMove) → AllByRecursion (λ move. move ≡ Changed) moves → opened ≤ length publications → acknowledged publications opened moves ≡ opened
none_acknowledged publications opened moves all below = mark_of publications (changes_after opened moves).acknowledged opened (none_synced opened moves all) below

pub acknowledged_of : (publications : List Publication) (opened : ℕ) (earlier later : List UnitsMove) → AllByRecursion (λ move. move ≡ Changed) later → opened + count_by is_change earlier ≤ length publications
    → acknowledged publications opened (earlier ++ Synced ∷ later) ≡ opened + count_by is_change earlier
acknowledged_of publications opened earlier later all below =
    mark_of publications (changes_after opened (earlier ++ Synced ∷ later)).acknowledged (opened + count_by is_change earlier) (synced_last opened earlier later all) below
