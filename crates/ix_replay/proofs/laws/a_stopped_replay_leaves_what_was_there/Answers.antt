use Rattle.ix_replay.proofs.laws.a_stopped_replay_leaves_what_was_there.Goals as goal

pub returns-clause-moves : goal.returns-clause-moves
returns-clause-moves c name_of before now stops = (stops.front.count, stops.front.made)

pub returns-clause-records : goal.returns-clause-records
returns-clause-records c name_of before now stops = stops.records

pub returns-clause-units : goal.returns-clause-units
returns-clause-units c name_of before now stops = stops.kept

pub returns-clause-stop : goal.returns-clause-stop
returns-clause-stop c name_of before now moment image stops low high is = stops.images moment image low high is

pub returns-clause-early : goal.returns-clause-early
returns-clause-early c name_of before now moment image stops low high is = stops.early moment image low high is

pub returns-clause-run : goal.returns-clause-run
returns-clause-run c name_of script before now stops =
    (stops.run, stops.rest, stops.comes, stops.stands, λ image is. let p = stops.images image is in (p.count, p.enough, p.within, p.units, p.refused))
