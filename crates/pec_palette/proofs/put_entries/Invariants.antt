-- One thread less is left.
use lib.ListN.{drop}
use Rattle.rules.specs.Lists.{threads_of}
use Rattle.laws.specs.Buffers.{Writing}
use Rattle.pec_palette.specs.Entries.{entries_in}
use Rattle.pec_palette.proofs.Giving.{Off}
use Rattle.pec_palette.proofs.put_entries.Given as goal

abbrev pub invariant-loop-i : goal.invariant-loop-i
invariant-loop-i l =
    Writing l.initial.out l.at (entries_in l.chart (threads_of l.threads)) l.out l.to (entries_in l.chart (drop l.i (threads_of l.threads)))
    × Off l.own l.chart (threads_of l.threads) l.i l.far
