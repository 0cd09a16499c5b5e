-- The bits of joined roles.
use Rattle.std.proofs.Common.{◌≡◌, ℕ, ◌<◌, ◌^◌, inl, inr, max, min, List, [], ◌∷◌, bit_or, bit_and, sym, ap, ◌∙◌, arith}
use Rattle.std.specs.Int.{bit_at}
use Rattle.std.specs.List.{AllByRecursion}
use Rattle.std.proofs.lemmas.Nat.{or_lt, le_or_l, and_or_self}
use Rattle.std.proofs.lemmas.Nat.Bits.{bit_at_or, bit_at_and, same_from_bits}
use Rattle.ix_model.proofs.SortedSet.{Has}
use Rattle.ix_plan.specs.declared.plan.RelationPlan.{RelationPlan}
use Rattle.ix_jobs.specs.Made.{joined_roles}

still : (x y z : ℕ) → min x z ≡ z → min (max x y) z ≡ z
still x y z e = grind (arith, e)

one_max : (x : ℕ) → max x x ≡ x
one_max x = grind arith

pub or_self : (a : ℕ) → bit_or a a ≡ a
or_self a = same_from_bits (bit_or a a) a (λ i. bit_at_or a a i ∙ one_max (bit_at a i))

-- a mask that is contained stays contained
or_keeps : (a b m : ℕ) → bit_and a m ≡ m → bit_and (bit_or a b) m ≡ m
or_keeps a b m e = same_from_bits (bit_and (bit_or a b) m) m (λ i.
    bit_at_and (bit_or a b) m i
    ∙ (ap (λ (x : ℕ). min x (bit_at m i)) (bit_at_or a b i)
    ∙ still (bit_at a i) (bit_at b i) (bit_at m i) (sym (bit_at_and a m i) ∙ ap (λ (x : ℕ). bit_at x i) e)))

pub joined_keep : (roles : ℕ) (relations : List RelationPlan) (m : ℕ) → bit_and roles m ≡ m → bit_and (joined_roles roles relations) m ≡ m
joined_keep roles [] m e = e
joined_keep roles (r ∷ rs) m e = joined_keep (bit_or roles r.roles) rs m (or_keeps roles r.roles m e)

pub joined_have : (roles : ℕ) (relations : List RelationPlan) (r : RelationPlan) → Has relations r → bit_and (joined_roles roles relations) r.roles ≡ r.roles
joined_have roles [] r h = absurd h
joined_have roles (x ∷ xs) r (inl p) =
    ap (λ (s : RelationPlan). bit_and (joined_roles roles (x ∷ xs)) s.roles) (sym p)
    ∙ (joined_keep (bit_or roles x.roles) xs x.roles (and_or_self x.roles roles)
    ∙ ap (λ (s : RelationPlan). s.roles) p)
joined_have roles (x ∷ xs) r (inr h) = joined_have (bit_or roles x.roles) xs r h

pub joined_positive : (roles : ℕ) (relations : List RelationPlan) → 0 < roles → 0 < joined_roles roles relations
joined_positive roles [] p = p
joined_positive roles (r ∷ rs) p = let more = le_or_l roles r.roles in joined_positive (bit_or roles r.roles) rs (omega (arith, p, more))

pub joined_below : (k roles : ℕ) (relations : List RelationPlan) → roles < 2 ^ k → AllByRecursion (λ r. r.roles < 2 ^ k) relations → joined_roles roles relations < 2 ^ k
joined_below k roles [] p a = p
joined_below k roles (r ∷ rs) p a = joined_below k (bit_or roles r.roles) rs (or_lt k roles r.roles p a.0) a.1
