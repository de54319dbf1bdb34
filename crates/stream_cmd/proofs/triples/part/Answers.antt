-- One axis has the step and the other none.
use borrow.Author.Rules.{rules}
use mathlib.Core.Path.{◌≡◌}
use native.Mathlib.Omega.{arith}
use lib.IntN.{pos, ◌-ℤ◌}
use mir.Syntax.{w32}
use mir.Val.{to_z, of_z}
use Rattle.laws.specs.Ints.{ints, neg-sub}
use Rattle.stream_cmd.proofs.Parts.{apart}
use Rattle.stream_cmd.proofs.triples.part.Goals as goal

pub overflow_cast-n : goal.overflow_cast-n
overflow_cast-n c = search rules

pub overflow_sub-n : goal.overflow_sub-n
overflow_sub-n c = let h = overflow_cast-n c.before in omega ints

pub packed-requires : goal.packed-requires
packed-requires c =
    let along-x : to_z w32 (of_z w32 (to_z w32 c.args.t -ℤ pos 121)) ≡ pos c.args.t -ℤ pos 121 = let h = overflow_cast-n c.before in let k = overflow_sub-n c in omega ints in
    rw along-x (apart c.args.t 121 121 (omega arith) (omega arith), omega arith)

pub returns-then-wide : goal.returns-then-wide
returns-then-wide c =
    let along-x : to_z w32 (of_z w32 (to_z w32 c.args.t -ℤ pos 121)) ≡ pos c.args.t -ℤ pos 121 = let h = overflow_cast-n c.before.before in let k = overflow_sub-n c.before in omega ints in
    rw c.if-wide.true (rw along-x at c.packed.ensures)

pub overflow_sub-n-2 : goal.overflow_sub-n-2
overflow_sub-n-2 c = let h = overflow_cast-n c.before in omega ints

pub packed-requires-2 : goal.packed-requires-2
packed-requires-2 c =
    let along-y : to_z w32 (of_z w32 (pos 121 -ℤ to_z w32 c.args.t)) ≡ pos 121 -ℤ pos c.args.t = let h = overflow_cast-n c.before in let k = overflow_sub-n-2 c in omega ints in
    rw along-y (omega arith, apart 121 c.args.t 121 (omega arith) (omega arith))

pub returns : goal.returns
returns c =
    let along-y : to_z w32 (of_z w32 (pos 121 -ℤ to_z w32 c.args.t)) ≡ pos 121 -ℤ pos c.args.t = let h = overflow_cast-n c.before.before in let k = overflow_sub-n-2 c.before in omega ints in
    rw c.if-wide.false (rw (along-y, neg-sub) at c.packed-2.ensures)
