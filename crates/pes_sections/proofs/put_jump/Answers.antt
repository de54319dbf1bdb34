-- Where a run opens: the section's beginning, the place of the last stitch, the place of the run's last command.
use mathlib.Core.Path.{◌≡◌, refl}
use mathlib.Core.List.{List}
use Prim.Native.Nat.{ℕ, ◌+◌, ◌-◌, ◌≤◌, ◌<◌}
use native.Mathlib.Omega.{arith}
use lib.IntN.{ℤ}
use lib.ListN.{length}
use mir.Syntax.{w32}
use Rattle.rules.specs.Vocabulary.{joined}
use Rattle.rules.specs.Lists.{commands}
use Rattle.rules.specs.Pes.{pes_cmd}
use Rattle.laws.specs.Buffers.{put-put, put-nothing, put_as}
use Rattle.laws.specs.Ints.{fit}
use Rattle.laws.specs.Listing.{Listed, listed}
use Rattle.laws.specs.Lengths.{length-point}
use Rattle.pes_sections.proofs.Runs.{run_from, run-span, run-place}
use Rattle.pes_sections.proofs.Points.{near-at, place}
use Rattle.pes_sections.proofs.Lengths.{jump-long}
use borrow.Author.Rules.{rules}
use Rattle.pes_sections.proofs.put_jump.Goals as goal

pub returns-then-not-new : goal.returns-then-not-new
unfolding pes_cmd
returns-then-not-new c = rw c.if-not-new.true (put-nothing c.args.out.now c.args.at)

pub overflow_sub-end : goal.overflow_sub-end
overflow_sub-end c =
    let a = c.args in
    omega (arith, run-span a.xs.now a.ys.now a.kinds.now a.i c.requires.i_in_bounds c.run_end-end.ensures)

pub put_open-from-requires : goal.put_open-from-requires
put_open-from-requires c = omega (arith, rw (c.if-not-new.false, jump-long) at c.requires.i_in_bounds_2)

pub put_point-to-requires : goal.put_point-to-requires
put_point-to-requires c = record {
  near = (place c.ranges.left c.ranges.bottom (search rules) (search rules) c.requires.near.0).near;
  at_in_bounds = omega (arith, rw (c.if-not-new.false, jump-long) at c.requires.i_in_bounds_2);
}

-- the run's last command is within the three slices
last : (xs ys : List ℤ) (ks : List ℕ) (i r : ℕ) → i < r → r ≤ length (commands xs ys ks) → Listed xs ys ks (r - 1)
last xs ys ks i r h l = listed refl (omega arith)

pub offset_bounds-xs-end : goal.offset_bounds-xs-end
offset_bounds-xs-end c =
    let a = c.args in
    let span = run-span a.xs.now a.ys.now a.kinds.now a.i c.requires.i_in_bounds c.run_end-end.ensures in
    omega (arith, last a.xs.now a.ys.now a.kinds.now a.i c.run_end-end.result span.0 span.1)

pub bounds-xs-end : goal.bounds-xs-end
bounds-xs-end c =
    let a = c.args in
    let span = run-span a.xs.now a.ys.now a.kinds.now a.i c.requires.i_in_bounds c.run_end-end.ensures in
    omega (arith, last a.xs.now a.ys.now a.kinds.now a.i c.run_end-end.result span.0 span.1)

pub offset_bounds-ys-end : goal.offset_bounds-ys-end
offset_bounds-ys-end c =
    let a = c.args in
    let span = run-span a.xs.now a.ys.now a.kinds.now a.i c.requires.i_in_bounds c.run_end-end.ensures in
    omega (arith, last a.xs.now a.ys.now a.kinds.now a.i c.run_end-end.result span.0 span.1)

pub bounds-ys-end : goal.bounds-ys-end
bounds-ys-end c =
    let a = c.args in
    let span = run-span a.xs.now a.ys.now a.kinds.now a.i c.requires.i_in_bounds c.run_end-end.ensures in
    omega (arith, last a.xs.now a.ys.now a.kinds.now a.i c.run_end-end.result span.0 span.1)

pub put_point-requires : goal.put_point-requires
put_point-requires c =
    let a = c.args in
    let span = run-span a.xs.now a.ys.now a.kinds.now a.i c.requires.i_in_bounds c.run_end-end.ensures in
    let to =
    place c.ranges.left c.ranges.bottom (fit w32 _ c.put_point-arg-2-1.given) (fit w32 _ c.put_point-arg-3-1.given)
    (near-at a.xs.now a.ys.now a.kinds.now (c.run_end-end.result - 1) c.requires.near.1 (omega (arith, span))) in
    record {
      near = to.near;
      at_in_bounds = omega (arith, rw (c.if-not-new.false, jump-long) at c.requires.i_in_bounds_2, rw length-point at c.put_point-to.ensures.ends);
    }

pub returns : goal.returns
unfolding pes_cmd joined
returns c =
    let a = c.args in
    let span = run-span a.xs.now a.ys.now a.kinds.now a.i c.requires.i_in_bounds c.run_end-end.ensures in
    let l = c.requires.i_in_bounds in
    let end = c.run_end-end.result - 1 in
    let from = place c.ranges.left c.ranges.bottom (search rules) (search rules) c.requires.near.0 in
    let to =
    place c.ranges.left c.ranges.bottom (fit w32 _ c.put_point-arg-2-1.given) (fit w32 _ c.put_point-arg-3-1.given)
    (near-at a.xs.now a.ys.now a.kinds.now end c.requires.near.1 (omega (arith, span))) in
    let far : c.run_end-end.result - 1 ≡ a.i + run_from a.xs.now a.ys.now a.kinds.now a.i l - 1 = omega (arith, c.run_end-end.ensures) in
    let p = put_as c.put_point-to.ensures from.same in
    let q = rw far at (put_as c.put_point.ensures to.same) in
    let told = run-place a.xs.now a.ys.now a.kinds.now a.i l in
    rw (c.if-not-new.false, told.0, told.1) (put-put c.put_open-from.ensures (put-put p (put-put q (put-nothing _ _))))
