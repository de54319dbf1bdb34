-- Opening, sizes and design in a row.
use Prim.Native.Nat.{◌-◌, ◌≤◌}
use native.Mathlib.Omega.{arith}
use lib.ListN.{length}
use Rattle.laws.specs.Buffers.{put_as, put-put}
use Rattle.vp3.specs.Heads.{head_text}
use Rattle.vp3.proofs.Texts.{length-opening, length-sizes, design-as}
use Rattle.vp3.proofs.put_head.Goals as goal

pub put_sizes-design-requires : goal.put_sizes-design-requires
put_sizes-design-requires c =
    let a = c.args in
    let put = c.put_opening-sizes.ensures in
    let b = c.requires.near in
    let n = c.requires.le_n in
    (b.0, (omega (arith, b.1), (b.1.1.1, (omega (arith, n), omega (arith, put.ends, put.same, length-opening (a.n - 71), n)))))

pub put_design-requires : goal.put_design-requires
put_design-requires c =
    let a = c.args in
    let put = c.put_opening-sizes.ensures in
    let room : 226 ≤ length a.out.now = omega (arith, c.requires.le_n) in
    let puts = c.put_sizes-design.ensures in
    let first = length-opening (a.n - 71) in
    let second = length-sizes a.b (a.commands - 1) a.blocks (a.n - 105) in
    (c.requires.near.0, (c.middle.ensures.1.1, (c.requires.near.1.1.1, omega (arith, put.ends, put.same, puts.ends, puts.same, first, second, room))))

pub returns : goal.returns
unfolding head_text
returns c =
    let told = c.middle.ensures in
    put-put (put-put c.put_opening-sizes.ensures c.put_sizes-design.ensures) (put_as c.put_design.ensures (design-as _ _ _ told.0 told.1.0))
