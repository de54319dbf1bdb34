-- The two tests are those of the greedy rule.
use borrow.Author.Rules.{rules}
use Rattle.laws.specs.Ints.{ints, seen}
use Rattle.stream_cmd.specs.Cmds.{digit_value}
use Rattle.stream_cmd.proofs.Digits.{plus-if, minus-if, nought-if}
use Rattle.stream_cmd.proofs.triples.digit.Goals as goal

pub overflow_cast-most : goal.overflow_cast-most
overflow_cast-most c = search rules

pub returns-then-most-z : goal.returns-then-most-z
unfolding digit_value
returns-then-most-z c = let h = overflow_cast-most c.before in rw (plus-if c.args.reach c.args.z (omega (ints, seen c.ranges.z)))

pub overflow_sub-most : goal.overflow_sub-most
overflow_sub-most c = let h = overflow_cast-most c.before in omega ints

pub returns-then-z-most : goal.returns-then-z-most
unfolding digit_value
returns-then-z-most c = let h = overflow_cast-most c.before.before in let k = overflow_sub-most c.before in let n = seen c.ranges.z in
    rw (minus-if c.args.reach c.args.z (omega ints) (omega ints))

pub returns : goal.returns
unfolding digit_value
returns c = let h = overflow_cast-most c.before.before in let k = overflow_sub-most c.before in let n = seen c.ranges.z in
    rw (nought-if c.args.reach c.args.z (omega ints) (omega ints))
