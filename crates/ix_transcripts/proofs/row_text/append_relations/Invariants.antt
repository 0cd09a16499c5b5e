use Rattle.std.proofs.Common.{◌≡◌, ◌++◌, take}
use Rattle.std.specs.List.{flat_map}
use Rattle.ix_replays.specs.Text.{relation_field}
use Rattle.ix_transcripts.proofs.row_text.append_relations.Given as goal

abbrev pub invariant-loop-relation : goal.invariant-loop-relation
invariant-loop-relation l = l.out.items ≡ l.initial.out.items ++ flat_map relation_field (take l.relation-index l.relations)
