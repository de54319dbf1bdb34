-- Two lines.
use native.Mathlib.Omega.{arith}
use Rattle.rules.specs.Vocabulary.{joined}
use Rattle.laws.specs.Buffers.{put-put}
use Rattle.dst.proofs.Lines.{number-ends, put_only}
use borrow.Author.Rules.{rules}
use Rattle.dst.proofs.put_counts.Goals as goal

pub put_number-next-requires : goal.put_number-next-requires
unfolding joined
put_number-next-requires c = search rules

pub put_number-requires : goal.put_number-requires
unfolding joined
put_number-requires c = omega (arith, number-ends)

pub returns : goal.returns
unfolding joined
returns c = search (put-put, put_only)
