-- Four lines, each with a sign.
use native.Mathlib.Omega.{arith}
use Rattle.rules.specs.Vocabulary.{joined}
use Rattle.laws.specs.Buffers.{put-put}
use Rattle.dst.proofs.Wide.{wide, wide_fits, wide-small, wide-minus, wide-minus-fits, wide-minus-small}
use Rattle.dst.proofs.Lines.{signed-ends, put_only}
use borrow.Author.Rules.{rules}
use Rattle.dst.proofs.put_last.Goals as goal

pub overflow_cast-x : goal.overflow_cast-x
overflow_cast-x c = wide_fits c.ranges.x

pub put_signed-second-requires : goal.put_signed-second-requires
put_signed-second-requires c = record { z_bound = wide-small c.ranges.x; at_in_bounds = omega (arith, c.requires) }

pub overflow_cast-y : goal.overflow_cast-y
overflow_cast-y c = wide_fits c.ranges.y

pub overflow_sub-y : goal.overflow_sub-y
overflow_sub-y c = wide-minus-fits c.ranges.y

pub put_signed-third-requires : goal.put_signed-third-requires
put_signed-third-requires c = record { z_bound = search (rules, wide-minus-small); at_in_bounds = omega (arith, signed-ends) }

pub put_signed-fourth-requires : goal.put_signed-fourth-requires
put_signed-fourth-requires c = omega (arith, signed-ends)

pub put_signed-requires : goal.put_signed-requires
put_signed-requires c = omega (arith, signed-ends)

pub returns : goal.returns
unfolding joined
returns c = let put-signed3 = c.put_signed-fourth in
    let put-signed2 = c.put_signed-third in
    let put-signed = c.put_signed-second in
    put-put (rw (wide c.ranges.x) at put-signed.ensures)
    (put-put (rw (wide-minus c.ranges.y) at put-signed2.ensures)
    (put-put put-signed3.ensures
    (put_only c.put_signed.ensures)))
