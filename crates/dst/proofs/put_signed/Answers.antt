-- Three parts, the second a sign and a number.
use native.Mathlib.Omega.{arith}
use mir.Facts.{to_z-of_z}
use Rattle.laws.specs.Buffers.{put-put, put_as}
use Rattle.dst.proofs.Lines.{put-line, right-ends, signed-text}
use Rattle.dst.proofs.put_signed.Goals as goal

pub put-requires : goal.put-requires
put-requires c = omega (arith, right-ends)

pub returns : goal.returns
returns c = let put_right = c.put_right-end in
    let size = c.size in
    let put = c.put-text in
    let sign_of = c.sign_of in let put3 = c.put3-sign in
    put-line put3.ensures (put_as (put-put put.ensures put_right.ensures)
    (signed-text c.args.z (rw (to_z-of_z c.ranges.z) at sign_of.ensures) (rw (to_z-of_z c.ranges.z) at size.ensures)))
    c.put.ensures
