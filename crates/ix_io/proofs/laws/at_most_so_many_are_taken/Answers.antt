use Rattle.std.proofs.Common.{length, drop, sym, ap, ◌∙◌, arith}
use Rattle.std.proofs.Math.Seq.{drop-append_seam}
use Rattle.std.proofs.lemmas.List.{length-append}
use Rattle.ix_io.proofs.laws.at_most_so_many_are_taken.Goals as goal

pub returns : goal.returns
returns c bytes left most (front, is, short) = (
  length front,
  short,
  sym (ap (drop (length front)) is ∙ drop-append_seam front left),
  omega (arith, ap length is, length-append front left),
)
