-- Fields that were written one after the other.
use Rattle.std.proofs.Common.{◌≡◌, ℕ, List, ◌++◌, Result, Ok, Err, append_assoc}
use Rattle.std.specs.Prelude.{OnOk}

pub on_ok : {A E : Type 0} (r : Result A E) (P Q : Type 0) → OnOk r P → (P → Q) → OnOk r Q
on_ok (Ok x) P Q p f = f p
on_ok (Err e) P Q p f = tt

pub regroup : (out magic output main named system count units records files more includes : List ℕ)
    → out ++ magic ++ output ++ main ++ named ++ system ++ count ++ units ++ records ++ files ++ more ++ includes ≡ out ++ (magic ++ output ++ main ++ named ++ system ++ count ++ units ++ records ++ files ++ more ++ includes)
regroup out magic output main named system count units records files more includes = simp append_assoc
