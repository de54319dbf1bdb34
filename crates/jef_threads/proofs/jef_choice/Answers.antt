-- With the chart made here.
use Rattle.jef_threads.proofs.jef_choice.Goals as goal

pub choice_in-requires : goal.choice_in-requires
choice_in-requires c = c.jef_threads.ensures

pub returns : goal.returns
returns c = c.choice_in.ensures
