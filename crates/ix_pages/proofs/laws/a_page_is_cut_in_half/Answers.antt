use Rattle.ix_pages.proofs.OtherWords.{cut_small, cut_large}
use Rattle.ix_pages.proofs.laws.a_page_is_cut_in_half.Goals as goal

pub returns : goal.returns
returns g c = record { small = cut_small; large = cut_large }
