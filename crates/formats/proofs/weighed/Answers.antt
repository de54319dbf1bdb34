-- `weighed` meets its contract: each product fits. Assumes nothing.
use Prim.Native.Nat.{◌+◌, ◌-◌, ◌*◌, ◌≤◌}
use native.Mathlib.Omega.{arith}
use Rattle.rules.specs.Choices.{weighed}
use borrow.Author.Rules.{rules}
use Rattle.formats.proofs.Distances.{square, times}
use Rattle.formats.proofs.weighed.Reads as reads
use Rattle.formats.proofs.weighed.Lts as lts
use Rattle.formats.proofs.weighed.Goals as goal

abbrev Start : Type 0
Start = lts.Start reads.Pre reads.Post

red : (c : Start) → c.args.r * c.args.r ≤ 65025
red c = square c.requires.1.0

green : (c : Start) → c.args.g * c.args.g ≤ 65025
green c = square c.requires.1.1.0

blue : (c : Start) → c.args.b * c.args.b ≤ 65025
blue c = square c.requires.1.1.1

reds : (c : Start) → (512 + c.args.m) * (c.args.r * c.args.r) ≤ 49874175
reds c = times (omega (arith, c.requires.0)) c.requires.1.0

blues : (c : Start) → (767 - c.args.m) * (c.args.b * c.args.b) ≤ 49874175
blues c = times (omega arith) c.requires.1.1.1

pub overflow_mul-result : goal.overflow_mul-result
unfolding weighed
overflow_mul-result c = record { fits = omega (arith, red c) }

pub overflow_mul-result-2 : goal.overflow_mul-result-2
unfolding weighed
overflow_mul-result-2 c = record { fits = omega (arith, reds c) }

pub overflow_mul-result-3 : goal.overflow_mul-result-3
unfolding weighed
overflow_mul-result-3 c = record { fits = omega (arith, green c) }

pub overflow_mul-result-4 : goal.overflow_mul-result-4
unfolding weighed
overflow_mul-result-4 c = record { fits = omega (arith, green c) }

pub overflow_add-result-2 : goal.overflow_add-result-2
unfolding weighed
overflow_add-result-2 c = record { fits = omega (arith, reds c, green c) }

pub overflow_mul-result-5 : goal.overflow_mul-result-5
unfolding weighed
overflow_mul-result-5 c = record { fits = omega (arith, blue c) }

pub overflow_mul-result-6 : goal.overflow_mul-result-6
unfolding weighed
overflow_mul-result-6 c = record { fits = omega (arith, blues c) }

pub overflow_add-result-3 : goal.overflow_add-result-3
unfolding weighed
overflow_add-result-3 c = record { fits = omega (arith, reds c, green c, blues c) }

pub returns : goal.returns
unfolding weighed
returns c = search rules
