use Rattle.ix_facts.proofs.Playing.{image_at, played_all}
use Rattle.ix_facts.proofs.runs.a_stop_in_a_run_leaves_a_prefix.Goals as goal

pub returns-clause-adds : goal.returns-clause-adds
returns-clause-adds c name_of s first last calls at run = (played_all c.given_of_steps.ensures name_of calls s first last at run).adds

pub returns-clause-leaves : goal.returns-clause-leaves
returns-clause-leaves c name_of s first last calls at run = (played_all c.given_of_steps.ensures name_of calls s first last at run).leaves

pub returns-clause-images : goal.returns-clause-images
returns-clause-images c name_of s first last calls before now moment image at run =
    image_at c.given_of_steps.ensures name_of s first last calls before now moment image (played_all c.given_of_steps.ensures name_of calls s first last at run)
