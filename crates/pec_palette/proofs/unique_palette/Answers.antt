-- The entries are those of the chart that was made, and the distances those from PEC's own colours.
use mathlib.Core.Path.{◌∙◌}
use Rattle.rules.specs.Lists.{threads_of}
use Rattle.laws.specs.Buffers.{put_as}
use Rattle.pec_palette.proofs.Giving.{palette-is, off-all}
use Rattle.pec_palette.proofs.unique_palette.Goals as goal

pub unique_chart-chart-requires : goal.unique_chart-chart-requires
unique_chart-chart-requires c = c.pec_palette-own.ensures

pub put_entries-requires : goal.put_entries-requires
put_entries-requires c = c.requires

pub returns : goal.returns
returns c = let ts = threads_of c.args.threads.now in
    let chart = c.unique_chart-chart.ensures in
    let put = c.put_entries.ensures in
    (put_as put.0 (palette-is ts chart), put.1 ∙ off-all ts c.pec_palette-own.ensures chart)
