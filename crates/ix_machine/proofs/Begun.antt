-- What a run begins with.
use Rattle.std.proofs.Common.{◌≡◌, ℕ, List, [], ◌∷◌, ◌++◌, map, fold, refl, sym, ap, ◌∙◌}
use Rattle.std.proofs.Math.Seq.{take-length}
use Rattle.std.proofs.lemmas.List.{append_assoc, append-nil}
use Rattle.std.specs.Ordering.{match_ordering, ordering_reverse}
use Rattle.std.specs.declared.cmp.Ordering.{Ordering}
use Rattle.std.specs.declared.cmp.Ordering.TheVariants.{Less, Greater}
use Rattle.std.specs.List.{AllByRecursion}
use Rattle.std.specs.List.Sorted.{IsStrictlySortedBy}
use Rattle.std.specs.Map.{keys_of}
use Rattle.std.specs.BTreeMap.{insert_entry}
use Rattle.std.proofs.lemmas.Cmp.{nat_list_cmp_total}
use Rattle.ix_types.specs.Row.{text_cmp}
use Rattle.ix_model.specs.declared.publication.StoredUnit.{StoredUnit}
use Rattle.ix_model.specs.declared.publication.Publication.TheVariants.{Put}
use Rattle.ix_model.specs.Units.{Units, NamesRise, changed}
use Rattle.ix_machine.specs.Needs.{visible}
use Rattle.ix_machine.specs.Run.{Opening, begun}

-- ---- the units

-- a unit behind all others comes last
insert-last : (entries : Units) (k : List ℕ) (v : StoredUnit) → AllByRecursion (λ e. text_cmp e.0 k ≡ Less) entries → insert_entry text_cmp entries k v ≡ entries ++ (k, v) ∷ []
insert-last [] k v all = refl
insert-last (e ∷ entries) k v all =
    let greater : text_cmp k e.0 ≡ Greater = nat_list_cmp_total.antisymm k e.0 ∙ ap ordering_reverse all.0 in
    ap (λ (r : Ordering). match_ordering r ((k, v) ∷ e ∷ entries) ((e.0, v) ∷ entries) (e ∷ insert_entry text_cmp entries k v)) greater
    ∙ ap (λ (rest : Units). e ∷ rest) (insert-last entries k v all.1)

-- all entries so far are less than each that is to come
abbrev Below : Units → Units → Type 0
Below done rest = AllByRecursion (λ (later : List ℕ × StoredUnit). AllByRecursion (λ (e : List ℕ × StoredUnit). text_cmp e.0 later.0 ≡ Less) done) rest

all-pushed : (P : List ℕ × StoredUnit → Type 0) (entries : Units) (e : List ℕ × StoredUnit) → AllByRecursion P entries → P e → AllByRecursion P (entries ++ e ∷ [])
all-pushed P [] e all p = (p, tt)
all-pushed P (x ∷ entries) e all p = (all.0, all-pushed P entries e all.1 p)

below-pushed : (done : Units) (e : List ℕ × StoredUnit) (rest : Units) → Below done rest → AllByRecursion (λ z. text_cmp e.0 z ≡ Less) (keys_of rest) → Below (done ++ e ∷ []) rest
below-pushed done e [] below less = tt
below-pushed done e (later ∷ rest) below less = (all-pushed (λ (x : List ℕ × StoredUnit). text_cmp x.0 later.0 ≡ Less) done e below.0 less.0, below-pushed done e rest below.1 less.1)

folded : (rest done : Units) → NamesRise rest → Below done rest → fold changed done (map (λ (e : List ℕ × StoredUnit). Put e.0 e.1) rest) ≡ done ++ rest
unfolding IsStrictlySortedBy
folded [] done rises below = sym (append-nil done)
folded (e ∷ rest) done rises below =
    ap (λ (units : Units). fold changed units (map (λ (e : List ℕ × StoredUnit). Put e.0 e.1) rest)) (insert-last done e.0 e.1 below.0)
    ∙ (folded rest (done ++ e ∷ []) rises.1 (below-pushed done e rest below.1 rises.0)
    ∙ append_assoc done (e ∷ []) rest)

none_below : (rest : Units) → Below [] rest
none_below [] = tt
none_below (e ∷ rest) = (tt, none_below rest)

pub found_visible : (opening : Opening) (lanes : ℕ) → NamesRise opening.units → visible (begun opening lanes) ≡ opening.units
found_visible opening lanes rises =
    ap (fold changed []) (take-length (map (λ (e : List ℕ × StoredUnit). Put e.0 e.1) opening.units))
    ∙ folded opening.units [] rises (none_below opening.units)
