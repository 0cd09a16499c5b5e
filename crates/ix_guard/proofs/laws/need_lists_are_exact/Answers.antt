use Rattle.std.proofs.Common.{ℕ, ◌<◌, sym, subst}
use Rattle.ix_model.specs.Units.{needs}
use Rattle.ix_guard.specs.Counts.{Counts, names_of}
use Rattle.ix_guard.specs.Listing.{names_in_all, IsNeedListOf}
use Rattle.ix_guard.proofs.Listed.{names_of_list, is_the_list, is_listed}
use Rattle.ix_guard.proofs.Naming.{names_rise, there_once, once_there, counted, among}
use Rattle.ix_guard.proofs.laws.need_lists_are_exact.Goals as goal

pub returns-clause-names : goal.returns-clause-names
returns-clause-names c units = names_of_list units

pub returns-clause-counts : goal.returns-clause-counts
returns-clause-counts c counts units = (
  λ list. is_the_list counts units list (c.the_sorted_set_is_one.ensures.texts (names_in_all units) (names_of counts) (needs units)
      (record {
        rises = names_rise counts list.sound.rises;
        same = λ x. (
          λ h. there_once x (names_in_all units) (subst (λ (n : ℕ). 0 < n) (list.each x) (counted counts x list.sound.needed h)),
          λ h. among counts x (subst (λ (n : ℕ). 0 < n) (sym (list.each x)) (once_there x (names_in_all units) h)),
        );
      })
      (c.answers_are_sorted_sets.ensures.texts (names_in_all units))),
  λ e. subst (λ (es : Counts). IsNeedListOf es units) (sym e) (is_listed units (c.answers_are_sorted_sets.ensures.texts (names_in_all units))),
)
