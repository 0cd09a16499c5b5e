-- What holds where a call is made.
use Rattle.std.proofs.Common.{OnOk, Result, Ok, Err}

pub on_ok : {A E : Type 0} (r : Result A E) (P : Type 0) → P → OnOk r P
on_ok (Ok a) P p = p
on_ok (Err e) P p = tt
