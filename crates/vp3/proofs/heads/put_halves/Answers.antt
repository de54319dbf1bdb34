-- Six puts in a row are one; each number is small.
use Prim.Native.Nat.{◌/◌}
use mathlib.Core.Path.{ap}
use native.Mathlib.Omega.{arith}
use lib.IntN.{pos}
use Rattle.rules.specs.Vocabulary.{joined}
use Rattle.rules.specs.Vp3.{big, field, hundred}
use Rattle.laws.specs.Buffers.{put_as, put-put, put-nothing}
use Rattle.vp3.specs.Heads.{halves_text}
use Rattle.vp3.proofs.Numbers.{back-small, minus-fits, minus-back, asked, asked-minus}
use Rattle.vp3.proofs.heads.put_halves.Goals as goal

pub overflow_sub-x : goal.overflow_sub-x
overflow_sub-x c = minus-fits (pos (c.args.w / 2)) (omega (arith, c.requires))

pub put_hundred-second-requires : goal.put_hundred-second-requires
unfolding hundred field big
put_hundred-second-requires c = (asked-minus (pos (c.args.w / 2)) (omega (arith, c.requires)), omega (arith, c.requires))

pub put_hundred-third-requires : goal.put_hundred-third-requires
unfolding hundred field big
put_hundred-third-requires c = (asked (pos (c.args.w / 2)) (omega (arith, c.requires)), omega (arith, c.requires))

pub overflow_sub-y : goal.overflow_sub-y
overflow_sub-y c = minus-fits (pos (c.args.h / 2)) (omega (arith, c.requires))

pub put_hundred-fourth-requires : goal.put_hundred-fourth-requires
unfolding hundred field big
put_hundred-fourth-requires c = (
  asked-minus (pos (c.args.h / 2)) (omega (arith, c.requires)),
  omega (arith, c.requires),
)

pub put_hundred-fifth-requires : goal.put_hundred-fifth-requires
unfolding hundred field big
put_hundred-fifth-requires c = (
  asked (pos (c.args.h / 2)) (omega (arith, c.requires)),
  omega (arith, c.requires),
)

pub put_hundred-sixth-requires : goal.put_hundred-sixth-requires
unfolding hundred field big
put_hundred-sixth-requires c = (asked (pos c.args.w) (omega (arith, c.requires)), omega (arith, c.requires))

pub put_hundred-requires : goal.put_hundred-requires
unfolding hundred field big
put_hundred-requires c = (asked (pos c.args.h) (omega (arith, c.requires)), omega (arith, c.requires))

pub returns : goal.returns
unfolding halves_text joined
returns c =
    let w = c.args.w in let h = c.args.h in
    put-put (put_as c.put_hundred-second.ensures (ap hundred (minus-back (pos (w / 2)) (omega (arith, c.requires)))))
    (put-put (put_as c.put_hundred-third.ensures (ap hundred (back-small (pos (w / 2)) (omega (arith, c.requires)))))
    (put-put (put_as c.put_hundred-fourth.ensures (ap hundred (minus-back (pos (h / 2)) (omega (arith, c.requires)))))
    (put-put (put_as c.put_hundred-fifth.ensures (ap hundred (back-small (pos (h / 2)) (omega (arith, c.requires)))))
    (put-put (put_as c.put_hundred-sixth.ensures (ap hundred (back-small (pos w) (omega (arith, c.requires)))))
    (put-put (put_as c.put_hundred.ensures (ap hundred (back-small (pos h) (omega (arith, c.requires))))) (put-nothing _ _))))))

pub shape_of-out : goal.shape_of-out
shape_of-out c = (returns c).same
