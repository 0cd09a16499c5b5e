-- The words of lists that have a limit, and the texts of refusals.
use Rattle.std.specs.Prelude.{List, ℕ, ◌++◌, codes, length, nat_lt, if◌then◌else◌}
use Rattle.std.specs.Fmt.{decimal}
use Rattle.std.specs.Str.Lossy.{utf8_valid_len}
use Rattle.ix_plan.specs.declared.refusal.What.{What}
use Rattle.ix_plan.specs.declared.refusal.What.TheVariants.{Lanes, Steps, Order, Units, Records, Files, Includes, Symbols, Occurrences, Relations, Words}
use Rattle.ix_plan.specs.declared.refusal.ScriptRefusal.{ScriptRefusal}
use Rattle.ix_plan.specs.declared.refusal.ScriptRefusal.TheVariants.{NotJson, BadField, BadValue, TooMany, TwoPollers}
use Rattle.ix_plan.specs.declared.refusal.ScriptError.{ScriptError}
use Rattle.ix_plan.specs.declared.refusal.ScriptError.TheVariants.{Memory, Refused}

abbrev pub word_of_list : What → List ℕ
word_of_list Lanes = codes "lanes"
word_of_list Steps = codes "steps"
word_of_list Order = codes "order"
word_of_list Units = codes "units"
word_of_list Records = codes "records"
word_of_list Files = codes "files"
word_of_list Includes = codes "includes"
word_of_list Symbols = codes "symbols"
word_of_list Occurrences = codes "occurrences"
word_of_list Relations = codes "relations"
word_of_list Words = codes "words"

-- what is wrong, and in quotes where; without its place where that is no UTF-8, which no place that was read is
abbrev pub text_at : List ℕ → List ℕ → List ℕ
text_at sort path = if nat_lt (utf8_valid_len path) (length path) then sort else sort ++ (codes " at \"" ++ (path ++ codes "\""))

abbrev pub refusal_text : ScriptRefusal → List ℕ
refusal_text NotJson = codes "not JSON"
refusal_text (BadField path) = text_at (codes "field") path
refusal_text (BadValue path) = text_at (codes "value") path
refusal_text (TooMany what) = codes "too many " ++ word_of_list what
refusal_text (TwoPollers lane) = codes "second polling lane " ++ decimal lane

abbrev pub error_text : ScriptError → List ℕ
error_text Memory = codes "memory"
error_text (Refused refusal) = refusal_text refusal
