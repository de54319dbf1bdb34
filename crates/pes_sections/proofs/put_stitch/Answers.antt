-- The section's beginning where a run opens, then the place.
use mathlib.Core.Path.{◌≡◌, refl}
use Prim.Native.Nat.{◌+◌, ◌-◌, ◌≤◌}
use native.Mathlib.Omega.{arith}
use lib.IntN.{pos}
use lib.ListN.{length, drop, get_or}
use mir.Syntax.{w32}
use Rattle.rules.specs.Lists.{commands}
use Rattle.rules.specs.Pes.{run_length, pes_open, pes_cmd}
use Rattle.laws.specs.Buffers.{put-put, put_as}
use Rattle.laws.specs.Ints.{fit}
use Rattle.laws.specs.Listing.{Listed, listed}
use Rattle.laws.specs.Lengths.{length-point}
use Rattle.pes_section_cmd.specs.States.{state_of}
use Rattle.pes_sections.proofs.Points.{Place, place}
use Rattle.pes_sections.proofs.Lengths.{stitch-room}
use borrow.Author.Rules.{rules}
use Rattle.pes_sections.proofs.put_stitch.Goals as goal

pub offset_bounds-xs-i : goal.offset_bounds-xs-i
offset_bounds-xs-i c =
    let here : (let a = c.args in Listed a.xs.now a.ys.now a.kinds.now a.i) = listed refl c.requires.i_in_bounds in
    omega (arith, here)

pub bounds-xs-i : goal.bounds-xs-i
bounds-xs-i c =
    let here : (let a = c.args in Listed a.xs.now a.ys.now a.kinds.now a.i) = listed refl c.requires.i_in_bounds in
    omega (arith, here)

pub offset_bounds-ys-i : goal.offset_bounds-ys-i
offset_bounds-ys-i c =
    let here : (let a = c.args in Listed a.xs.now a.ys.now a.kinds.now a.i) = listed refl c.requires.i_in_bounds in
    omega (arith, here)

pub bounds-ys-i : goal.bounds-ys-i
bounds-ys-i c =
    let here : (let a = c.args in Listed a.xs.now a.ys.now a.kinds.now a.i) = listed refl c.requires.i_in_bounds in
    omega (arith, here)

pub run_end-requires : goal.run_end-requires
unfolding pes_cmd
run_end-requires c = search rules

pub put_open-point-requires : goal.put_open-point-requires
unfolding pes_cmd
put_open-point-requires c =
    let room : (let a = c.args in
    a.at + (length (pes_open (state_of a.s) 0 (c.run_end.result - a.i)) + 4) ≤ length a.out.now) = rw (c.if-new.true, stitch-room (c.run_end.result - c.args.i)) at c.requires.i_in_bounds_2 in
    omega (arith, room)

pub put_point-requires : goal.put_point-requires
put_point-requires c =
    let read : (let a = c.args in Place a.left a.bottom (get_or a.xs.now a.i (pos 0)) (get_or a.ys.now a.i (pos 0))) = place c.ranges.left c.ranges.bottom (fit w32 _ c.x-1.given) (fit w32 _ c.y-1.given) c.requires.near in
    let room : (let a = c.args in
    a.at + (length (pes_open (state_of a.s) 0 (c.run_end.result - a.i)) + 4) ≤ length a.out.now) = rw (c.if-new.true, stitch-room (c.run_end.result - c.args.i)) at c.requires.i_in_bounds_2 in
    record { near = read.near; at_in_bounds = omega (arith, room) }

pub returns-then-new : goal.returns-then-new
unfolding pes_cmd
returns-then-new c =
    let read : (let a = c.args in Place a.left a.bottom (get_or a.xs.now a.i (pos 0)) (get_or a.ys.now a.i (pos 0))) = place c.ranges.left c.ranges.bottom (fit w32 _ c.x-1.given) (fit w32 _ c.y-1.given) c.requires.near in
    let a = c.args in
    let cs = drop a.i (commands a.xs.now a.ys.now a.kinds.now) in
    let points : c.run_end.result - a.i ≡ run_length (get_or a.kinds.now a.i 0) cs =
    omega (arith, c.run_end.ensures) in
    let p = rw points at c.put_open-point.ensures in
    rw c.if-new.true (put-put p (put_as c.put_point.ensures read.same))

pub put_point-requires-2 : goal.put_point-requires-2
unfolding pes_cmd
put_point-requires-2 c =
    let read : (let a = c.args in Place a.left a.bottom (get_or a.xs.now a.i (pos 0)) (get_or a.ys.now a.i (pos 0))) = place c.ranges.left c.ranges.bottom (fit w32 _ c.x-1.given) (fit w32 _ c.y-1.given) c.requires.near in
    record { near = read.near; at_in_bounds = rw (c.if-new.false, length-point) at c.requires.i_in_bounds_2 }

pub returns : goal.returns
unfolding pes_cmd
returns c =
    let read : (let a = c.args in Place a.left a.bottom (get_or a.xs.now a.i (pos 0)) (get_or a.ys.now a.i (pos 0))) = place c.ranges.left c.ranges.bottom (fit w32 _ c.x-1.given) (fit w32 _ c.y-1.given) c.requires.near in
    rw c.if-new.false (put_as c.put_point-2.ensures read.same)
