-- Four lines.
use native.Mathlib.Omega.{arith}
use mir.Syntax.{w32}
use mir.Val.{SFits}
use Rattle.rules.specs.Vocabulary.{joined}
use Rattle.laws.specs.Buffers.{put-put}
use Rattle.dst.proofs.Wide.{wide, wide_fits, wide-small}
use Rattle.dst.proofs.Lines.{number-ends, put_only}
use borrow.Author.Rules.{rules}
use Rattle.dst.proofs.put_bounds.Goals as goal

pub overflow_cast-b : goal.overflow_cast-b
overflow_cast-b c = search (rules, wide_fits)

pub size-requires : goal.size-requires
size-requires c = search (rules, wide-small)

pub overflow_cast-b-2 : goal.overflow_cast-b-2
overflow_cast-b-2 c = search (rules, wide_fits)

pub size-requires-2 : goal.size-requires-2
size-requires-2 c = search (rules, wide-small)

pub put_number-third-requires : goal.put_number-third-requires
put_number-third-requires c = omega (arith, number-ends)

pub overflow_cast-b-3 : goal.overflow_cast-b-3
overflow_cast-b-3 c = search (rules, wide_fits)

pub size-requires-3 : goal.size-requires-3
size-requires-3 c = search (rules, wide-small)

pub put_number-fourth-requires : goal.put_number-fourth-requires
put_number-fourth-requires c = omega (arith, number-ends)

pub overflow_cast-b-4 : goal.overflow_cast-b-4
overflow_cast-b-4 c = search (rules, wide_fits)

pub size-requires-4 : goal.size-requires-4
size-requires-4 c = search (rules, wide-small)

pub put_number-requires : goal.put_number-requires
put_number-requires c = let early = c.before.before.before.before.before.before.before.before.before.before.before.before.before in
    omega (arith, number-ends, early)

pub returns : goal.returns
unfolding joined
returns c = let b = c.args.b in
    let f₁ : SFits w32 b.max.x = search rules in let f₂ : SFits w32 b.min.x = search rules in
    let f₃ : SFits w32 b.max.y = search rules in let f₄ : SFits w32 b.min.y = search rules in
    put-put (rw (c.size.ensures, wide f₁) at c.put_number-second.ensures)
    (put-put (rw (c.size-2.ensures, wide f₂) at c.put_number-third.ensures)
    (put-put (rw (c.size-3.ensures, wide f₃) at c.put_number-fourth.ensures)
    (put_only (rw (c.size-4.ensures, wide f₄) at c.put_number.ensures))))
