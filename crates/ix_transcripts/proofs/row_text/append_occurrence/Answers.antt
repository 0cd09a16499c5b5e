use Rattle.std.proofs.Common.{◌≡◌, ℕ, List, ◌++◌, OnOk, subst, append_assoc}
use Rattle.ix_replays.specs.Text.{newline, occurrence_line}
use Rattle.ix_transcripts.proofs.row_text.append_occurrence.Goals as goal

pub returns : goal.returns
returns c =
    let line : c.append_relations.new.out.items ++ newline ≡ c.args.out.now.items ++ occurrence_line c.args.row.now = rw (c.in_ok-append_relations.ensures, c.in_ok-append_symbol.ensures, c.in_ok-append_place.ensures, c.in_ok-append.ensures, c.as_slice.ensures) (simp append_assoc) in
    subst (λ (text : List ℕ). OnOk c.append-2.result (c.append-2.new.out.items ≡ text)) line c.append-2.ensures
