-- One byte of the text after the other.
use Prim.Native.Nat.{◌+◌}
use mathlib.Core.List.{[], ◌∷◌}
use native.Mathlib.Omega.{arith}
use lib.ListN.{drop, get_or}
use Rattle.laws.specs.Buffers.{writing_start, writing-room, writing_more, writing-done}
use Rattle.laws.specs.Decimals.{text-more}
use Rattle.laws.specs.Listing.{list-end}
use Rattle.emit.proofs.put_text.Goals as goal

pub loop-b-init : goal.loop-b-init
loop-b-init c = let a = c.args in writing_start a.out.now a.at a.text.now c.requires

pub put-to-requires : goal.put-to-requires
put-to-requires c = let l = c.loop-b in
    let s = c.args.text.now in
    writing-room (get_or s l.b-index 0 ∷ []) (drop (l.b-index + 1) s) l.invariant (text-more s l.b-index 0 c.loop-b-test.true)

pub loop-b-preserved : goal.loop-b-preserved
loop-b-preserved c = let l = c.loop-b in
    let s = c.args.text.now in
    writing_more {vs = get_or s l.b-index 0 ∷ []} l.invariant (text-more s l.b-index 0 c.loop-b-test.true) c.put-to.ensures

pub returns : goal.returns
returns c = let l = c.loop-b in writing-done l.invariant (list-end c.args.text.now l.b-index (omega (arith, c.loop-b-test.false)))
