-- What reading gives: a value, or the first fault in reading order.
use Rattle.std.specs.Prelude.{◌≡◌, ℕ, List, [], ◌∷◌, ◌++◌, Option, Some, None, Result, Ok, Err}
use Rattle.ix_plan.specs.declared.refusal.ScriptRefusal.{ScriptRefusal}
use Rattle.ix_plan.specs.declared.refusal.ScriptRefusal.TheVariants.{NotJson, BadField, BadValue, TooMany, TwoPollers}
use Rattle.ix_plan.specs.declared.refusal.ScriptError.{ScriptError}
use Rattle.ix_plan.specs.declared.refusal.ScriptError.TheVariants.{Memory, Refused}

abbrev pub Read : Type 0 → Type 0
Read A = Result A ScriptRefusal

-- rule of two faults: one thing is read, and then the next, and the first fault is the answer
infixl 10 ◌>>=◌
abbrev pub ◌>>=◌ : {A B : Type 0} → Read A → (A → Read B) → Read B
(Ok a) >>= f = f a
(Err r) >>= f = Err r

-- rule of places: a fault of a part, with its place seen from the whole: a slash and the part's name, or its number, come first
abbrev pub placed : List ℕ → ScriptRefusal → ScriptRefusal
placed part NotJson = NotJson
placed part (BadField path) = BadField (47 ∷ part ++ path)
placed part (BadValue path) = BadValue (47 ∷ part ++ path)
placed part (TooMany what) = TooMany what
placed part (TwoPollers lane) = TwoPollers lane

-- what is read of a part
abbrev pub within : {A : Type 0} → List ℕ → Read A → Read A
within part (Ok a) = Ok a
within part (Err r) = Err (placed part r)

-- rule of values: one that isn't allowed is refused at its own place
abbrev pub bad_value : {A : Type 0} → Read A
bad_value = Err (BadValue [])

abbrev pub allowed : {A : Type 0} → Option A → Read A
allowed None = bad_value
allowed (Some a) = Ok a

-- what a function answers beside what is to be read: that, unless memory was wanting
abbrev pub Fails : {A : Type 0} → ScriptError → Read A → Type 0
Fails Memory read = Unit {0}
Fails (Refused r) read = read ≡ Err r

abbrev pub Gives : {A : Type 0} → Result A ScriptError → Read A → Type 0
Gives (Ok a) read = read ≡ Ok a
Gives (Err e) read = Fails e read

-- the same of an answer that shows what is read
abbrev pub GivesAs : {A B : Type 0} → (A → B) → Result A ScriptError → Read B → Type 0
GivesAs shows (Ok a) read = read ≡ Ok (shows a)
GivesAs shows (Err e) read = Fails e read
