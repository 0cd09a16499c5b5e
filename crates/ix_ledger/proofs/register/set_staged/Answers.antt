use Rattle.std.proofs.Common.{option_map}
use Rattle.std.proofs.lemmas.List.{map-set}
use Rattle.ix_ledger.proofs.Maps.{led}
use Rattle.ix_ledger.proofs.register.set_staged.Goals as goal

pub returns : goal.returns
returns c = map-set (option_map led) c.args.staged.now.items c.args.lane c.args.unit
