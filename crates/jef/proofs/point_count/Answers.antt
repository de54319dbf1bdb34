-- The count for the list, and one, is what was counted and the count for the commands that are left.
use Prim.Native.Nat.{ℕ, ◌+◌, ◌≤◌, ◌<◌}
use mathlib.Core.Path.{◌≡◌}
use mathlib.Core.List.{List}
use native.Mathlib.Omega.{arith}
use lib.IntN.{ℤ}
use lib.ListN.{length, get_or, drop}
use Rattle.rules.specs.declared.Op.{Op}
use Rattle.rules.specs.Jef.{points_in, point_count_of}
use Rattle.rules.specs.Lists.{op_of, commands}
use Rattle.laws.specs.Listing.{length-commands, commands-more, list-end}
use Rattle.jef.proofs.point_count.Goals as goal

module _ (xs ys : List ℤ) (ks : List ℕ) (i : ℕ) where
  -- one more command, whose points are p
  points-more : i < length (commands xs ys ks) → {o : Op} {p : ℕ} → o ≡ op_of (get_or ks i 0) → p ≡ points_in o
      → point_count_of (drop i (commands xs ys ks)) ≡ p + point_count_of (drop (i + 1) (commands xs ys ks))
  unfolding point_count_of
  points-more h e f = rw (commands-more xs ys ks i h, f, e)

  points-end : length (commands xs ys ks) ≤ i → point_count_of (drop i (commands xs ys ks)) ≡ 1
  unfolding point_count_of
  points-end h = rw (list-end (commands xs ys ks) i h)

pub loop-i-init : goal.loop-i-init
loop-i-init c = let a = c.args in
    (c.list_len-n.ensures, (omega (arith, c.list_len-n.ensures, length-commands a.xs.now a.ys.now a.kinds.now), (omega arith, omega arith)))

pub bounds-kinds-i : goal.bounds-kinds-i
bounds-kinds-i c = omega arith

pub overflow_add-total : goal.overflow_add-total
overflow_add-total c = omega (arith, c.points_in-total.ensures.1, c.requires)

pub loop-i-preserved : goal.loop-i-preserved
loop-i-preserved c = let l = c.loop-i in
    let a = c.args in
    let p = c.points_in-total.ensures in
    (l.invariant.0, (l.invariant.1.0, (omega (arith, p.1), omega (arith, points-more a.xs.now a.ys.now a.kinds.now l.i (omega arith) c.op_of.ensures p.0))))

pub returns : goal.returns
returns c = let a = c.args in
    omega (arith, points-end a.xs.now a.ys.now a.kinds.now c.loop-i.i (omega arith))
