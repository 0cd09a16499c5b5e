use Rattle.std.proofs.Common.{map, option_map, option_copied}
use Rattle.ix_pages.specs.Tree.{pair_of}
use Rattle.ix_pages.proofs.Changing.{greater_rises}
use Rattle.ix_pages.proofs.Edits.{place_made, remove_made, without_made}
use Rattle.ix_pages.proofs.bulk.merge_one.Goals as goal

pub returns-in_ok-push-in-Place-clause-rising : goal.returns-in_ok-push-in-Place-clause-rising
returns-in_ok-push-in-Place-clause-rising g c =
    greater_rises g.met.K.Ord.total c.key_of.result.now (map pair_of c.args.rest.now) (map pair_of c.part.result.lesser.now) (option_map pair_of (option_copied c.part.result.same)) (map pair_of c.part.result.greater.now) c.part.ensures.parted c.requires

pub returns-in_ok-push-in-Place-clause-merged : goal.returns-in_ok-push-in-Place-clause-merged
returns-in_ok-push-in-Place-clause-merged g c =
    place_made g.met.K.Ord.total c.args.edit.now c.in-Place.entry c.in_ok-try_clone-in-Place.field-0 c.key_of.result.now c.args.page.now.items c.append.new.list.items c.push.new.self.items
    c.args.rest.now c.part.result.lesser.now c.part.result.greater.now (option_map pair_of (option_copied c.part.result.same))
    c.in-Place.is c.key_of.ensures c.in_ok-append.ensures c.in_ok-push-in-Place.ensures.items c.in_ok-try_clone-in-Place.ensures c.part.ensures.parted

pub returns-in-Remove-clause-rising : goal.returns-in-Remove-clause-rising
returns-in-Remove-clause-rising g c =
    greater_rises g.met.K.Ord.total c.key_of.result.now (map pair_of c.args.rest.now) (map pair_of c.part.result.lesser.now) (option_map pair_of (option_copied c.part.result.same)) (map pair_of c.part.result.greater.now) c.part.ensures.parted c.requires

pub returns-in-Remove-clause-merged : goal.returns-in-Remove-clause-merged
returns-in-Remove-clause-merged g c =
    remove_made g.met.K.Ord.total c.args.edit.now c.in-Remove.field-0 c.key_of.result.now c.args.page.now.items c.append.new.list.items
    c.args.rest.now c.part.result.lesser.now c.part.result.greater.now (option_map pair_of (option_copied c.part.result.same))
    c.in-Remove.is c.key_of.ensures c.in_ok-append.ensures c.part.ensures.parted

pub returns-in-Without-clause-rising : goal.returns-in-Without-clause-rising
returns-in-Without-clause-rising g c =
    greater_rises g.met.K.Ord.total c.key_of.result.now (map pair_of c.args.rest.now) (map pair_of c.part.result.lesser.now) (option_map pair_of (option_copied c.part.result.same)) (map pair_of c.part.result.greater.now) c.part.ensures.parted c.requires

pub returns-in-Without-clause-merged : goal.returns-in-Without-clause-merged
returns-in-Without-clause-merged g c =
    without_made g.met.K.Ord.total c.args.edit.now c.in-Without.field-0 c.key_of.result.now c.args.page.now.items c.append.new.list.items
    c.args.rest.now c.part.result.lesser.now c.part.result.greater.now (option_map pair_of (option_copied c.part.result.same))
    c.in-Without.is c.key_of.ensures c.in_ok-append.ensures c.part.ensures.parted
