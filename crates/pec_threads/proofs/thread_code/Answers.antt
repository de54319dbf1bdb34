-- The entry for the thread, or for black.
use Rattle.rules.specs.Pes.{thread_code}
use Rattle.pec_threads.proofs.thread_code.Goals as goal

pub code_in-requires : goal.code_in-requires
code_in-requires c = c.pec_palette.ensures

pub returns : goal.returns
unfolding thread_code
returns c = rw c.thread_or_black-t.ensures at c.code_in.ensures
