-- Each number makes a coordinate of the next start, or is refused.
use Rattle.std.proofs.Common.{◌≡◌, ◌≤◌, ◌<◌, ◌∙◌, ℤ, nat_abs, arith}
use lib.IntN.{neg_ℤ, pos, ◌-ℤ◌}
use lib.Signed.{mag}
use mir.Val.{SFits, to_z, of_z}
use mir.Syntax.{w32, w64}
use mir.Facts.{to_z-of_z}
use Rattle.laws.specs.Exits.{exit}
use Rattle.laws.specs.Ints.{ints, ret, abs_is}
use Rattle.read_vp3_fields.proofs.Within.{zero-sub, start-told, start-told-below, shifts-short, shifts-beyond-x, shifts-half, shifts-beyond-y, shifts-on}
use Rattle.read_vp3_fields.proofs.shifts.Goals as goal

below : (r : ℤ) → mag r < 9223372036854775808 → nat_abs r ≤ 21474836 → to_z w64 (of_z w64 (pos 0 -ℤ to_z w64 (of_z w64 r))) ≡ neg_ℤ r
below r t h = let f : SFits w64 (pos 0 -ℤ r) = omega (ints, abs_is r, h) in rw (ret w64 r t) (to_z-of_z f ∙ zero-sub r)

pub returns-in_err-second : goal.returns-in_err-second
returns-in_err-second c = rw (exit c.from_residual.ensures.1) (shifts-short _ _ _ c.requires.1 _ _ _ _ c.requires.0 c.in_err-second.ensures)

pub returns-in_err-nx : goal.returns-in_err-nx
returns-in_err-nx c =
    let k = c.shift in
    let d = start-told _ _ _ c.be32.ensures k.ensures.0 (rw (to_z-of_z c.ranges.x, ret w64 k.result k.type_inv) at c.start_by.ensures) c.ok_or.ensures.value in
    rw (exit c.from_residual-in_err-nx.ensures.1)
    (shifts-beyond-x _ _ _ c.requires.1 _ _ _ _ c.in_ok-second.ensures (d ∙ c.in_err-nx.was))

pub returns-in_err-stitches : goal.returns-in_err-stitches
returns-in_err-stitches c =
    let k = c.shift in
    let d = start-told _ _ _ c.be32.ensures k.ensures.0 (rw (to_z-of_z c.ranges.x, ret w64 k.result k.type_inv) at c.start_by.ensures) c.ok_or.ensures.value in
    rw (exit c.from_residual-in_err-stitches.ensures.1)
    (shifts-half _ _ _ c.requires.1 _ _ _ _ c.in_ok-second.ensures (d ∙ c.in_ok-nx.was) c.in_err-stitches.ensures)

pub returns-in_err-ny : goal.returns-in_err-ny
returns-in_err-ny c =
    let k = c.shift in
    let d = start-told _ _ _ c.be32.ensures k.ensures.0 (rw (to_z-of_z c.ranges.x, ret w64 k.result k.type_inv) at c.start_by.ensures) c.ok_or.ensures.value in
    let m = c.shift-2 in
    let e = start-told-below _ _ _ c.be32-2.ensures m.ensures.0 (rw (to_z-of_z c.ranges.y, below m.result m.type_inv m.ensures.1) at c.start_by-2.ensures) c.ok_or-2.ensures.value in
    rw (exit c.from_residual-in_err-ny.ensures.1)
    (shifts-beyond-y _ _ _ c.requires.1 _ _ _ _ c.in_ok-second.ensures (d ∙ c.in_ok-nx.was) c.in_ok-stitches.ensures (e ∙ c.in_err-ny.was))

pub returns : goal.returns
returns c =
    let k = c.shift in
    let d = start-told _ _ _ c.be32.ensures k.ensures.0 (rw (to_z-of_z c.ranges.x, ret w64 k.result k.type_inv) at c.start_by.ensures) c.ok_or.ensures.value in
    let m = c.shift-2 in
    let e = start-told-below _ _ _ c.be32-2.ensures m.ensures.0 (rw (to_z-of_z c.ranges.y, below m.result m.type_inv m.ensures.1) at c.start_by-2.ensures) c.ok_or-2.ensures.value in
    shifts-on _ _ _ c.requires.1 _ _ _ _ c.in_ok-second.ensures (d ∙ c.in_ok-nx.was) c.in_ok-stitches.ensures (e ∙ c.in_ok-ny.was)
    _ (rw (ret w32 c.in_ok-nx.nx (omega arith), ret w32 c.in_ok-ny.ny (omega arith)) at c.stitch_part.ensures)
