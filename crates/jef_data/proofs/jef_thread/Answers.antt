-- The chart of the code is the chart of the definitions, at every entry. Assumes nothing.
use Rattle.rules.specs.Charts.{jef_chart}
use borrow.Author.Rules.{rules}
use Rattle.jef_data.proofs.jef_thread.Goals as goal

pub returns : goal.returns
unfolding jef_chart
returns c = search rules
