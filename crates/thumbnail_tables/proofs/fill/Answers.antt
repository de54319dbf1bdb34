-- What is filled is as far as i; a stretch fills more.
use Rattle.std.proofs.Common.{◌+◌, ◌-◌, ◌≤◌, length, ℤ, pos, ◌+ℤ◌, refl, ap, ◌∙◌, arith, to_z-of_z, w32, to_z, of_z}
use Rattle.laws.specs.Ints.{ret}
use Rattle.thumbnail_tables.proofs.Places.{near, pixel-read, fill-long, filled_none, filled_more}
use Rattle.thumbnail_tables.proofs.fill.Goals as goal

pub loop-i-init : goal.loop-i-init
loop-i-init c = let a = c.args in (omega arith, (refl, filled_none a.down a.scale a.t (to_z w32 (of_z w32 a.from)) a.table.now))

pub place-z-requires : goal.place-z-requires
place-z-requires c =
    (rw (to_z-of_z c.ranges.from) (omega (arith, c.requires.0)), omega (arith, c.requires.1.0))

pub overflow_sub-n : goal.overflow_sub-n
overflow_sub-n c = omega arith

pub stretch-requires : goal.stretch-requires
stretch-requires c = let place = c.place-z in let loop = c.loop-i in
    let a = c.args in
    let here = ret w32 place.result place.type_inv ∙ place.ensures ∙ ap (λ (u : ℤ). u +ℤ pos loop.i) (to_z-of_z c.ranges.from) in record { z_bound = (rw here (near a.from loop.i c.requires.0 (omega (arith, c.requires.1.0))), (omega arith, omega (arith, c.requires.1.0))); p_value = pixel-read a.scale a.t c.floor-p.ensures c.scaled.ensures refl }

pub overflow_add-end : goal.overflow_add-end
overflow_add-end c = omega (arith, c.stretch.ensures.1.0)

pub fill_same-requires : goal.fill_same-requires
fill_same-requires c = let loop = c.loop-i in
    (omega arith, omega (arith, c.stretch.ensures.1.0, loop.invariant.1.0))

pub loop-i-smaller : goal.loop-i-smaller
loop-i-smaller c = omega (arith, c.stretch.ensures.0)

pub loop-i-preserved : goal.loop-i-preserved
loop-i-preserved c = let fill-same = c.fill_same in let cell-of = c.cell_of in
    let stretch' = c.stretch in let floor = c.floor-p in
    let place = c.place-z in
    let loop = c.loop-i in
    let a = c.args in
    let here = ret w32 place.result place.type_inv ∙ place.ensures in
    let room : loop.i + stretch'.result ≤ length loop.table = omega (arith, stretch'.ensures.1.0, loop.invariant.1.0, c.requires.1.1) in (
      omega (arith, stretch'.ensures.1.0),
      (
        fill-long loop.table loop.i (loop.i + stretch'.result - loop.i) cell-of.result fill-same.ensures ∙
            loop.invariant.1.0,
        filled_more a.down a.scale a.t (to_z w32 (of_z w32 a.from)) loop.table loop.i stretch'.result floor.result room here
            cell-of.ensures stretch'.ensures.1.1 fill-same.ensures loop.invariant.1.1,
      ),
    )

pub shape_of-table : goal.shape_of-table
shape_of-table c = c.loop-i.invariant.1.0

pub returns : goal.returns
returns c =
    (c.loop-i.invariant.1.0, λ k h. rw (to_z-of_z c.ranges.from) at (c.loop-i.invariant.1.1 k (omega arith)))
