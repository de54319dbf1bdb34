-- One byte of the text after the other, a zero before each.
use Prim.Native.Nat.{◌+◌}
use mathlib.Core.Path.{ap}
use mathlib.Core.List.{[], ◌∷◌}
use native.Mathlib.Omega.{arith}
use lib.ListN.{drop, get_or}
use Rattle.rules.specs.Vocabulary.{joined}
use Rattle.laws.specs.Buffers.{writing_start, writing-room, writing_more, writing-done}
use Rattle.laws.specs.Listing.{list-end}
use Rattle.vp3_cmd.proofs.Bytes.{wide, length-wide, wide-more}
use Rattle.vp3_cmd.proofs.put_wide.Goals as goal

pub loop-b-init : goal.loop-b-init
loop-b-init c = let a = c.args in
    writing_start a.out.now a.at (wide a.text.now) (omega (arith, length-wide a.text.now, c.requires))

pub put2-to-requires : goal.put2-to-requires
put2-to-requires c = let loop = c.loop-b in
    let t = c.args.text.now in
    writing-room (0x00 ∷ get_or t loop.b-index 0 ∷ []) (wide (drop (loop.b-index + 1) t)) loop.invariant (wide-more t loop.b-index c.loop-b-test.true)

pub loop-b-preserved : goal.loop-b-preserved
loop-b-preserved c = let loop-test = c.loop-b-test in let loop = c.loop-b in
    let t = c.args.text.now in
    writing_more {vs = 0x00 ∷ get_or t loop.b-index 0 ∷ []} loop.invariant (wide-more t loop.b-index loop-test.true) c.put2-to.ensures

pub shape_of-out : goal.shape_of-out
shape_of-out c = c.loop-b.invariant.same

pub returns : goal.returns
unfolding joined
returns c = let loop = c.loop-b in
    writing-done loop.invariant (ap wide (list-end c.args.text.now loop.b-index c.loop-b-test.false))
