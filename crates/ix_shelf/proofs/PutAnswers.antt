-- What a put is to answer, in other words.
use Rattle.std.proofs.Common.{◌≡◌, ◌≢◌, ◌⊎◌, inl, inr, ℕ, List, Bool, true, false, refl, Result, Ok, Err, nat_eq}
use Rattle.std.specs.Cmp.Lexicographic.{pointwise, bytes_decides}
use Rattle.ix_shelf.specs.declared.fault.PutError.{PutError}
use Rattle.ix_shelf.specs.declared.fault.PutError.TheVariants.{Fault, Clash, Memory}
use Rattle.ix_shelf.specs.declared.shelf.Put.{Put}
use Rattle.ix_shelf.specs.Answers.{Answers}

pub equal : (xs : List ℕ) → pointwise nat_eq xs xs ≡ true
equal xs = (bytes_decides xs xs).1 refl

pub differs : (xs ys : List ℕ) → xs ≢ ys → pointwise nat_eq xs ys ≡ false
differs xs ys apart =
    elim (pointwise nat_eq xs ys) as (λ b. pointwise nat_eq xs ys ≡ b → b ≡ false) [
      | true ↦ λ e. absurd (apart ((bytes_decides xs ys).0 e))
      | false ↦ λ e. refl
    ] refl

abbrev Wanted : Result Put PutError → Result Put PutError → Type 0
Wanted result want = (result ≡ want) ⊎ ((result ≡ Err Fault) ⊎ (result ≡ Err Memory))

pub wanted : (result want : Result Put PutError) → Answers result want → Wanted result want
wanted (Ok put) want is = inl is
wanted (Err Fault) want is = inr (inl refl)
wanted (Err (Clash name)) want is = inl is
wanted (Err Memory) want is = inr (inr refl)

pub answers : (result want : Result Put PutError) → Wanted result want → Answers result want
answers (Ok put) want (inl is) = is
answers (Ok put) want (inr (inl e)) = cc
answers (Ok put) want (inr (inr e)) = cc
answers (Err Fault) want w = tt
answers (Err (Clash name)) want (inl is) = is
answers (Err (Clash name)) want (inr (inl e)) = cc
answers (Err (Clash name)) want (inr (inr e)) = cc
answers (Err Memory) want w = tt
