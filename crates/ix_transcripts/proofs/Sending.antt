-- Texts that go out one behind the other.
use Rattle.std.proofs.Common.{◌≡◌, ℕ, List, [], ◌++◌, length, take, drop, refl, sym, ap, ◌∙◌, append_assoc, Option, Result, Ok, Err, OnOk, OnErr, subst}
use Rattle.std.proofs.lemmas.List.{append-nil, take-append-drop}
use Rattle.std.proofs.KnownBytes.{Appends-nil, Appends-trans}
use Rattle.std.specs.Io.KnownBytes.{Appends}
use Rattle.ix_io.specs.Transfer.{AppendsPart}
use Rattle.ix_transcripts.specs.Sending.{Sends, Stops, WritesFront}

-- nothing goes out
pub sends_nothing : (told : Option (List ℕ)) (waits : List ℕ) → Sends told waits told waits []
sends_nothing told waits = record { sent = []; grown = Appends-nil told; all = append-nil waits }

-- a line waits
pub line_waits : (told : Option (List ℕ)) (before after line : List ℕ) → after ≡ before ++ line → Sends told before told after line
line_waits told before after line is = record { sent = []; grown = Appends-nil told; all = sym is }

-- a line waits, and then all goes out
pub line_goes : (told now : Option (List ℕ)) (before waited after line : List ℕ) → waited ≡ before ++ line → Appends told now waited → after ≡ [] → Sends told before now after line
line_goes told now before waited after line is grown none =
    record { sent = waited; grown = grown; all = sym is ∙ sym (append-nil waited) ∙ ap (λ l. waited ++ l) (sym none) }

pub sends_then : (a b c : Option (List ℕ)) (u v w first second : List ℕ) → Sends a u b v first → Sends b v c w second → Sends a u c w (first ++ second)
sends_then a b c u v w first second one two =
    let all : u ++ (first ++ second) ≡ (one.sent ++ two.sent) ++ w =
    sym (append_assoc u first second) ∙ ap (λ l. l ++ second) one.all ∙ append_assoc one.sent v second ∙ ap (λ l. one.sent ++ l) two.all ∙ sym (append_assoc one.sent two.sent w) in
    record { sent = one.sent ++ two.sent; grown = Appends-trans a b c one.sent two.sent one.grown two.grown; all = all }

pub stops_then : (a b c : Option (List ℕ)) (u v first second : List ℕ) → Sends a u b v first → Stops b v c second → Stops a u c (first ++ second)
stops_then a b c u v first second one two = record { waits = two.waits; sends = sends_then a b c u v two.waits first second one two.sends }

-- where more was to follow
pub stops_before : (a b : Option (List ℕ)) (u first second : List ℕ) → Stops a u b first → Stops a u b (first ++ second)
stops_before a b u first second stops =
    record {
      waits = stops.waits ++ second;
      sends = record {
        sent = stops.sends.sent;
        grown = stops.sends.grown;
        all = sym (append_assoc u first second) ∙ ap (λ l. l ++ second) stops.sends.all ∙ append_assoc stops.sends.sent stops.waits second;
      };
    }

-- before anything went out
pub stops_here : (told : Option (List ℕ)) (waits text : List ℕ) → Stops told waits told text
stops_here told waits text = record { waits = waits ++ text; sends = record { sent = []; grown = Appends-nil told; all = refl } }

pub part_is_front : (a b : Option (List ℕ)) (bytes : List ℕ) → AppendsPart a b bytes → WritesFront a b bytes
part_is_front a b bytes (n, grown, short) = record { front = take n bytes; rest = drop n bytes; all = sym (take-append-drop n bytes); grown = grown }

-- a part of what waited, with the line, went out
pub front_stops : (a b : Option (List ℕ)) (before waited line : List ℕ) → waited ≡ before ++ line → WritesFront a b waited → Stops a before b line
front_stops a b before waited line is front = record { waits = front.rest; sends = record { sent = front.front; grown = front.grown; all = sym is ∙ front.all } }

pub on_ok : {T E P Q : Type 0} (r : Result T E) → (P → Q) → OnOk r P → OnOk r Q
on_ok (Ok x) f p = f p
on_ok (Err e) f p = tt

pub on_err : {T E P Q : Type 0} (r : Result T E) → (P → Q) → OnErr r P → OnErr r Q
on_err (Ok x) f p = tt
on_err (Err e) f p = f p

pub at_err : {T E P : Type 0} (r : Result T E) → P → OnErr r P
at_err (Ok x) p = tt
at_err (Err e) p = p
