use Rattle.ix_calls.proofs.Tasks.{left_sound, made_sound, settles_sound, steps_sound}
use Rattle.ix_calls.proofs.laws.tasks_stay_sound.Goals as goal

pub returns-clause-begun : goal.returns-clause-begun
returns-clause-begun c name_of steps named ready =
    steps_sound name_of (record { unit = c.jobs_are_valid.ensures.unit name_of; whole = c.jobs_are_valid.ensures.whole name_of }) named steps ready

pub returns-clause-told : goal.returns-clause-told
returns-clause-told c = made_sound

pub returns-clause-settled : goal.returns-clause-settled
returns-clause-settled c = settles_sound

pub returns-clause-left : goal.returns-clause-left
returns-clause-left c = left_sound
