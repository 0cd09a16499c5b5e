use Rattle.ix_replay.proofs.laws.a_replay_leaves_its_publications.Goals as goal

pub returns-clause-moves : goal.returns-clause-moves
returns-clause-moves c name_of before run now left = (left.adds.more, left.adds.added)

pub returns-clause-files : goal.returns-clause-files
returns-clause-files c name_of before run now left = left.stands.disk.unit_files

pub returns-clause-begins : goal.returns-clause-begins
returns-clause-begins c name_of before run now left = (left.more, left.begins)

pub returns-clause-changes : goal.returns-clause-changes
returns-clause-changes c name_of before run now left = left.counts.each

pub returns-clause-stop : goal.returns-clause-stop
returns-clause-stop c name_of before run now moment image left low high is =
    let p = left.prefixes moment image low high is in
    (p.count, p.enough, p.within, p.units, p.refused)

pub returns-clause-opening : goal.returns-clause-opening
returns-clause-opening c name_of before run now moment image left low high is = left.images moment image low high is

pub returns-clause-early : goal.returns-clause-early
returns-clause-early c name_of before run now moment image left low high is = left.early moment image low high is
