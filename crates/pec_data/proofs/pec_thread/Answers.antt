-- The chart of the code is the chart of the definitions, at every entry. Assumes nothing.
use Rattle.rules.specs.Charts.{pec_chart}
use borrow.Author.Rules.{rules}
use Rattle.pec_data.proofs.pec_thread.Goals as goal

pub returns : goal.returns
unfolding pec_chart
returns c = search rules
