use Rattle.ix_pages.proofs.OtherWords.{is_sized, is_rising}
use Rattle.ix_pages.proofs.laws.pages_are_sized_and_rise.Goals as goal

pub returns : goal.returns
returns g c = record { sized = is_sized _; rising = is_rising _ }
