use Rattle.ix_facts.proofs.Disk as disk
use Rattle.ix_facts.proofs.Leases.{put_names}
use Rattle.ix_facts.proofs.Told.{on_disk, stand_at}
use Rattle.ix_facts.proofs.facts.what_stands_on_disk.Goals as goal
use Rattle.std.proofs.Common.{sym, ◌∙◌}
use Rattle.ix_model.specs.Units.{units_at}

pub returns-clause-unit_files : goal.returns-clause-unit_files
returns-clause-unit_files c name_of s kept shelf known dir moves stands told = disk.unit_files c.given_of_disk.ensures name_of s moves (on_disk name_of s kept shelf known dir moves stands told)

pub returns-clause-need_bodies : goal.returns-clause-need_bodies
returns-clause-need_bodies c name_of s kept shelf known dir moves stands told mark is =
    disk.bodies_of c.given_of_disk.ensures name_of s moves (on_disk name_of s kept shelf known dir moves stands told) (units_at s.publications mark) (stand_at name_of s stands.keeps.sound.needed mark is)

pub returns-clause-one_pending : goal.returns-clause-one_pending
returns-clause-one_pending c name_of s kept shelf known dir moves stands told =
    let here = on_disk name_of s kept shelf known dir moves stands told in (
      λ none. disk.none_waits c.given_of_disk.ensures name_of s moves here none,
      λ image left. disk.one_pending c.given_of_disk.ensures name_of s moves here stands.keeps.sound.needed image left,
    )

pub returns-clause-image_records : goal.returns-clause-image_records
returns-clause-image_records c name_of s kept shelf known dir moves stands told image name bytes unit dep left =
    disk.image_records c.given_of_disk.ensures name_of s moves (on_disk name_of s kept shelf known dir moves stands told) stands.keeps.sound.needed image left name bytes unit dep

pub returns-clause-put_bodies : goal.returns-clause-put_bodies
returns-clause-put_bodies c name_of s kept shelf known dir moves stands told lane name put =
    disk.put_body c.given_of_disk.ensures name_of s moves (on_disk name_of s kept shelf known dir moves stands told) lane name (stands.keeps.sound.leases lane)
    (sym (put_names c.given_of_guard.ensures name_of kept s stands.keeps lane name) ∙ put)
