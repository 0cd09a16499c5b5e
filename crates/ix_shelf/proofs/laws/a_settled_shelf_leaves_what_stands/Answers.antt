use Rattle.std.proofs.Common.{◌∷◌, [], None, sym, ap}
use Rattle.std.specs.FinMap.{get-empty}
use Rattle.std.specs.Option.{option_map}
use Rattle.ix_types.specs.Row.{text_cmp}
use Rattle.ix_dir.specs.declared.area.Area.TheVariants.{Records}
use Rattle.ix_dir.specs.Files.{File}
use Rattle.ix_shelf.proofs.laws.a_settled_shelf_leaves_what_stands.Goals as goal

pub returns-clause-empty : goal.returns-clause-empty
returns-clause-empty c shelf settled name = ap (λ o. option_map (λ f. f.bytes) o ∷ []) (sym (get-empty {X = File} text_cmp name))

pub returns-clause-left : goal.returns-clause-left
returns-clause-left c shelf moves image name knows settled left = c.settled_area_leaves_what_stands.ensures moves Records image name (knows settled) left
