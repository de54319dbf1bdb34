-- A line in three parts.
use native.Mathlib.Omega.{arith}
use Rattle.rules.specs.Lists.{dst_name}
use Rattle.dst.proofs.Lines.{put-line, name-ends}
use borrow.Author.Rules.{rules}
use Rattle.dst.proofs.put_label.Goals as goal

pub put3-text-requires : goal.put3-text-requires
unfolding dst_name
put3-text-requires c = search rules

pub put_name-end-requires : goal.put_name-end-requires
unfolding dst_name
put_name-end-requires c = search rules

pub put-requires : goal.put-requires
unfolding dst_name
put-requires c = omega (arith, name-ends)

pub returns : goal.returns
unfolding dst_name
returns c = search put-line
