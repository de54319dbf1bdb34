-- One thread less is left.
use Rattle.std.specs.Prelude.{None}
use mathlib.Core.Path.{◌≡◌}
use Rattle.rules.specs.Choices.{jef_entries}
use Rattle.rules.specs.Jef.{words}
use Rattle.rules.specs.Lists.{threads_of}
use Rattle.laws.specs.Buffers.{Writing}
use Rattle.jef.proofs.Offs.{Off}
use Rattle.jef.proofs.put_entries.Given as goal

abbrev pub invariant-loop-thread : goal.invariant-loop-thread
invariant-loop-thread l = let rest = l.thread-iterator.rest.now in
    (l.thread-iterator.size ≡ 3)
    × (Writing l.initial.out l.at (words (jef_entries None (threads_of l.threads))) l.out l.to (words (jef_entries l.last (threads_of rest)))
    × Off l.last l.threads rest l.far)
