use Rattle.ix_machine.proofs.Runs.{begun-sound, led-sound}
use Rattle.ix_machine.proofs.laws.every_state_is_sound.Goals as goal

pub returns-clause-begins : goal.returns-clause-begins
returns-clause-begins c = λ name_of opening lanes h. begun-sound name_of opening h lanes

pub returns-clause-goes_on : goal.returns-clause-goes_on
returns-clause-goes_on c = led-sound
