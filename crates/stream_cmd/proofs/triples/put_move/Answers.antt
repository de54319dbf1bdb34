-- The bits of the kind and of the two steps.
use mathlib.Core.Path.{◌≡◌}
use mathlib.Core.Bool.{true, false}
use Prim.Native.Nat.{◌≤◌, ◌<◌}
use native.Mathlib.Omega.{arith}
use lib.IntN.{ℤ, pos, nat_abs, neg_ℤ, ◌+ℤ◌, ◌-ℤ◌}
use lib.ListN.{get_or}
use mir.Facts.{to_z-of_z}
use mir.Syntax.{w32}
use mir.Val.{SFits, to_z, of_z}
use Rattle.rules.specs.Vocabulary.{from_little}
use Rattle.laws.specs.Ints.{ints, seen, abs_is, abs_neg}
use Rattle.laws.specs.Buffers.{put_as}
use Rattle.stream_cmd.specs.Cmds.{most, along}
use Rattle.stream_cmd.proofs.Parts.{packed-most, unpacked, bits-sum, part_at}
use Rattle.stream_cmd.proofs.triples.put_move.Goals as goal

minus-fits : (z : ℤ) → SFits w32 z → nat_abs z ≤ 121 → SFits w32 (pos 0 -ℤ to_z w32 (of_z w32 z))
minus-fits z f h = omega (ints, seen f, abs_is z)

-- the negative of a step as the code has it
minus-is : (z : ℤ) → SFits w32 z → nat_abs z ≤ 121 → to_z w32 (of_z w32 (pos 0 -ℤ to_z w32 (of_z w32 z))) ≡ neg_ℤ z
minus-is z f h = let g = minus-fits z f h in omega (ints, seen f)

pub offset_bounds-wide-raised : goal.offset_bounds-wide-raised
offset_bounds-wide-raised c =
    let at_x : (let a = c.args in
    let t = c.raised.result in
    (t < 243) × (get_or a.wide.now t 0 ≡ from_little (along true a.dx))) = unfold most in let e = rw (to_z-of_z c.ranges.dx) at c.raised.ensures in
    part_at c.args.dx c.raised.result c.requires.tables.0 c.requires.kind_bound.1.x e in
    omega (arith, at_x.0)

pub bounds-wide-raised : goal.bounds-wide-raised
bounds-wide-raised c =
    let at_x : (let a = c.args in
    let t = c.raised.result in
    (t < 243) × (get_or a.wide.now t 0 ≡ from_little (along true a.dx))) = unfold most in let e = rw (to_z-of_z c.ranges.dx) at c.raised.ensures in
    part_at c.args.dx c.raised.result c.requires.tables.0 c.requires.kind_bound.1.x e in
    omega (arith, at_x.0, c.requires.tables.0.size)

pub overflow_add-v : goal.overflow_add-v
overflow_add-v c =
    let at_x : (let a = c.args in
    let t = c.raised.result in
    (t < 243) × (get_or a.wide.now t 0 ≡ from_little (along true a.dx))) = unfold most in let e = rw (to_z-of_z c.ranges.dx) at c.raised.ensures in
    part_at c.args.dx c.raised.result c.requires.tables.0 c.requires.kind_bound.1.x e in
    omega (arith, at_x.1, packed-most 0 c.args.dx (pos 0) (omega arith), c.requires.kind_bound.0)

pub overflow_sub-dy : goal.overflow_sub-dy
unfolding most
overflow_sub-dy c = minus-fits c.args.dy c.ranges.dy c.requires.kind_bound.1.y

pub offset_bounds-high-raised : goal.offset_bounds-high-raised
offset_bounds-high-raised c =
    let at_y : (let a = c.args in
    let t = c.raised-2.result in
    (t < 243) × (get_or a.high.now t 0 ≡ from_little (along false (neg_ℤ a.dy)))) = unfold most in let k = neg_ℤ c.args.dy in
    let h : nat_abs k ≤ 121 = rw (abs_neg c.args.dy) c.requires.kind_bound.1.y in
    let e : pos c.raised-2.result ≡ k +ℤ pos 121 = rw (minus-is c.args.dy c.ranges.dy c.requires.kind_bound.1.y) at c.raised-2.ensures in
    part_at k c.raised-2.result c.requires.tables.1 h e in
    omega (arith, at_y.0)

pub bounds-high-raised : goal.bounds-high-raised
bounds-high-raised c =
    let at_y : (let a = c.args in
    let t = c.raised-2.result in
    (t < 243) × (get_or a.high.now t 0 ≡ from_little (along false (neg_ℤ a.dy)))) = unfold most in let k = neg_ℤ c.args.dy in
    let h : nat_abs k ≤ 121 = rw (abs_neg c.args.dy) c.requires.kind_bound.1.y in
    let e : pos c.raised-2.result ≡ k +ℤ pos 121 = rw (minus-is c.args.dy c.ranges.dy c.requires.kind_bound.1.y) at c.raised-2.ensures in
    part_at k c.raised-2.result c.requires.tables.1 h e in
    omega (arith, at_y.0, c.requires.tables.1.size)

pub overflow_add-v-2 : goal.overflow_add-v-2
overflow_add-v-2 c =
    let at_x : (let a = c.args in
    let t = c.raised.result in
    (t < 243) × (get_or a.wide.now t 0 ≡ from_little (along true a.dx))) = unfold most in let e = rw (to_z-of_z c.ranges.dx) at c.raised.ensures in
    part_at c.args.dx c.raised.result c.requires.tables.0 c.requires.kind_bound.1.x e in
    let at_y : (let a = c.args in
    let t = c.raised-2.result in
    (t < 243) × (get_or a.high.now t 0 ≡ from_little (along false (neg_ℤ a.dy)))) = unfold most in let k = neg_ℤ c.args.dy in
    let h : nat_abs k ≤ 121 = rw (abs_neg c.args.dy) c.requires.kind_bound.1.y in
    let e : pos c.raised-2.result ≡ k +ℤ pos 121 = rw (minus-is c.args.dy c.ranges.dy c.requires.kind_bound.1.y) at c.raised-2.ensures in
    part_at k c.raised-2.result c.requires.tables.1 h e in
    let x = packed-most 0 c.args.dx (pos 0) (omega arith) in
    let y = packed-most 0 (pos 0) (neg_ℤ c.args.dy) (omega arith) in
    omega (arith, at_x.1, at_y.1, c.requires.kind_bound.0)

pub returns : goal.returns
returns c =
    let at_x : (let a = c.args in
    let t = c.raised.result in
    (t < 243) × (get_or a.wide.now t 0 ≡ from_little (along true a.dx))) = unfold most in let e = rw (to_z-of_z c.ranges.dx) at c.raised.ensures in
    part_at c.args.dx c.raised.result c.requires.tables.0 c.requires.kind_bound.1.x e in
    let at_y : (let a = c.args in
    let t = c.raised-2.result in
    (t < 243) × (get_or a.high.now t 0 ≡ from_little (along false (neg_ℤ a.dy)))) = unfold most in let k = neg_ℤ c.args.dy in
    let h : nat_abs k ≤ 121 = rw (abs_neg c.args.dy) c.requires.kind_bound.1.y in
    let e : pos c.raised-2.result ≡ k +ℤ pos 121 = rw (minus-is c.args.dy c.ranges.dy c.requires.kind_bound.1.y) at c.raised-2.ensures in
    part_at k c.raised-2.result c.requires.tables.1 h e in
    let a = c.args in
    let k = neg_ℤ a.dy in
    let e = unpacked a.kind a.dx k c.requires.kind_bound.0 in
    put_as c.put_three.ensures (rw (at_x.1, at_y.1, bits-sum a.kind a.dx k) e)

pub raised-requires : goal.raised-requires
unfolding most
raised-requires c = rw (to_z-of_z c.ranges.dx) c.requires.kind_bound.1.x

pub raised-requires-2 : goal.raised-requires-2
unfolding most
raised-requires-2 c = rw (minus-is c.args.dy c.ranges.dy c.requires.kind_bound.1.y, abs_neg c.args.dy) c.requires.kind_bound.1.y
