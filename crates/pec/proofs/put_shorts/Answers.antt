-- What is written is as far as k, and what comes is from there to j.
use mathlib.Core.Path.{◌≡◌, refl, ◌∙◌}
use mathlib.Core.List.{[], ◌∷◌}
use Prim.Native.Nat.{◌+◌, ◌-◌, ◌≤◌, ◌<◌}
use native.Mathlib.Omega.{arith}
use lib.IntN.{nat_abs}
use mir.Syntax.{w32}
use mir.Val.{to_z, of_z}
use Rattle.rules.specs.Vocabulary.{bits_of}
use Rattle.laws.specs.Ints.{ret}
use Rattle.laws.specs.Buffers.{writing_start, writing-room, writing_more, writing-done}
use Rattle.laws.specs.Listing.{Listed, listed}
use Rattle.pec.specs.Shorts.{step_to, pairs}
use Rattle.pec_cmd.proofs.Values.{short-abs}
use Rattle.pec.proofs.Runs.{read_step, length_pairs, more-pairs, no_pairs}
use Rattle.pec.proofs.put_shorts.Goals as goal

pub loop-k-init : goal.loop-k-init
loop-k-init c =
    let a = c.args in
    let whole = pairs a.xs.now a.ys.now a.i (a.j - a.i) in
    (omega arith, writing_start a.out.now a.at whole (omega (arith, length_pairs a.xs.now a.ys.now a.i (a.j - a.i), c.requires.i_in_bounds)))

pub overflow_sub-k : goal.overflow_sub-k
overflow_sub-k c =
    let here : (0 < c.loop-k.k) × Listed c.args.xs.now c.args.ys.now c.args.kinds.now c.loop-k.k = (omega arith, listed refl (omega arith)) in
    omega (arith, here)

pub offset_bounds-xs-k : goal.offset_bounds-xs-k
offset_bounds-xs-k c =
    let here : (0 < c.loop-k.k) × Listed c.args.xs.now c.args.ys.now c.args.kinds.now c.loop-k.k = (omega arith, listed refl (omega arith)) in
    omega (arith, here)

pub bounds-xs-k : goal.bounds-xs-k
bounds-xs-k c =
    let here : (0 < c.loop-k.k) × Listed c.args.xs.now c.args.ys.now c.args.kinds.now c.loop-k.k = (omega arith, listed refl (omega arith)) in
    omega (arith, here)

pub offset_bounds-xs-k-in-loop-k : goal.offset_bounds-xs-k-in-loop-k
offset_bounds-xs-k-in-loop-k c =
    let here : (0 < c.loop-k.k) × Listed c.args.xs.now c.args.ys.now c.args.kinds.now c.loop-k.k = (omega arith, listed refl (omega arith)) in
    omega (arith, here)

pub bounds-xs-k-in-loop-k : goal.bounds-xs-k-in-loop-k
bounds-xs-k-in-loop-k c =
    let here : (0 < c.loop-k.k) × Listed c.args.xs.now c.args.ys.now c.args.kinds.now c.loop-k.k = (omega arith, listed refl (omega arith)) in
    omega (arith, here)

pub step-dx-requires : goal.step-dx-requires
step-dx-requires c =
    let short : (nat_abs (step_to c.args.xs.now c.loop-k.k) ≤ 63) × (nat_abs (step_to c.args.ys.now c.loop-k.k) ≤ 63) = let k = c.loop-k.k in
    let t = c.requires.shorts k c.loop-k.invariant.0 c.loop-k-test.true in
    (short-abs (step_to c.args.xs.now k) t.x, short-abs (step_to c.args.ys.now k) t.y) in
    let a = c.args in
    rw (read_step a.xs.now c.loop-k.k c.step-arg-1.given c.step-arg-in-loop-k-1.given) (omega (arith, short.0))

pub overflow_sub-k-in-loop-k : goal.overflow_sub-k-in-loop-k
overflow_sub-k-in-loop-k c =
    let here : (0 < c.loop-k.k) × Listed c.args.xs.now c.args.ys.now c.args.kinds.now c.loop-k.k = (omega arith, listed refl (omega arith)) in
    omega (arith, here)

pub offset_bounds-ys-k : goal.offset_bounds-ys-k
offset_bounds-ys-k c =
    let here : (0 < c.loop-k.k) × Listed c.args.xs.now c.args.ys.now c.args.kinds.now c.loop-k.k = (omega arith, listed refl (omega arith)) in
    omega (arith, here)

pub bounds-ys-k : goal.bounds-ys-k
bounds-ys-k c =
    let here : (0 < c.loop-k.k) × Listed c.args.xs.now c.args.ys.now c.args.kinds.now c.loop-k.k = (omega arith, listed refl (omega arith)) in
    omega (arith, here)

pub offset_bounds-ys-k-in-loop-k : goal.offset_bounds-ys-k-in-loop-k
offset_bounds-ys-k-in-loop-k c =
    let here : (0 < c.loop-k.k) × Listed c.args.xs.now c.args.ys.now c.args.kinds.now c.loop-k.k = (omega arith, listed refl (omega arith)) in
    omega (arith, here)

pub bounds-ys-k-in-loop-k : goal.bounds-ys-k-in-loop-k
bounds-ys-k-in-loop-k c =
    let here : (0 < c.loop-k.k) × Listed c.args.xs.now c.args.ys.now c.args.kinds.now c.loop-k.k = (omega arith, listed refl (omega arith)) in
    omega (arith, here)

pub step-dy-requires : goal.step-dy-requires
step-dy-requires c =
    let short : (nat_abs (step_to c.args.xs.now c.loop-k.k) ≤ 63) × (nat_abs (step_to c.args.ys.now c.loop-k.k) ≤ 63) = let k = c.loop-k.k in
    let t = c.requires.shorts k c.loop-k.invariant.0 c.loop-k-test.true in
    (short-abs (step_to c.args.xs.now k) t.x, short-abs (step_to c.args.ys.now k) t.y) in
    let a = c.args in
    rw (read_step a.ys.now c.loop-k.k c.step-arg-in-loop-k-2-1.given c.step-arg-in-loop-k-3-1.given) (omega (arith, short.1))

pub put2-to-requires : goal.put2-to-requires
put2-to-requires c =
    let a = c.args in
    let k = c.loop-k.k in
    let vs = bits_of 6 (step_to a.xs.now k) ∷ bits_of 6 (step_to a.ys.now k) ∷ [] in
    writing-room vs (pairs a.xs.now a.ys.now (k + 1) (a.j - (k + 1))) c.loop-k.invariant.1 (more-pairs a.xs.now a.ys.now k a.j c.loop-k-test.true)

pub shape_of-out : goal.shape_of-out
shape_of-out c = c.loop-k.invariant.1.same

pub returns : goal.returns
returns c = let a = c.args in
    writing-done c.loop-k.invariant.1 (no_pairs a.xs.now a.ys.now c.loop-k.k a.j (omega arith))

pub low7-requires : goal.low7-requires
low7-requires c =
    let short : (nat_abs (step_to c.args.xs.now c.loop-k.k) ≤ 63) × (nat_abs (step_to c.args.ys.now c.loop-k.k) ≤ 63) = let k = c.loop-k.k in
    let t = c.requires.shorts k c.loop-k.invariant.0 c.loop-k-test.true in
    (short-abs (step_to c.args.xs.now k) t.x, short-abs (step_to c.args.ys.now k) t.y) in
    let across : to_z w32 (of_z w32 c.step-dx.result) ≡ step_to c.args.xs.now c.loop-k.k = let a = c.args in
    ret w32 c.step-dx.result c.step-dx.type_inv ∙ c.step-dx.ensures ∙ read_step a.xs.now c.loop-k.k c.step-arg-1.given c.step-arg-in-loop-k-1.given in
    let down : to_z w32 (of_z w32 c.step-dy.result) ≡ step_to c.args.ys.now c.loop-k.k = let a = c.args in
    ret w32 c.step-dy.result c.step-dy.type_inv ∙ c.step-dy.ensures ∙ read_step a.ys.now c.loop-k.k c.step-arg-in-loop-k-2-1.given c.step-arg-in-loop-k-3-1.given in
    let small : (nat_abs (to_z w32 (of_z w32 c.step-dx.result)) ≤ 63) × (nat_abs (to_z w32 (of_z w32 c.step-dy.result)) ≤ 63) = let back' = c in
    let t = short in
    (rw across t.0, rw down t.1) in
    omega (arith, small)

pub low7-requires-in-loop-k : goal.low7-requires-in-loop-k
low7-requires-in-loop-k c =
    let short : (nat_abs (step_to c.args.xs.now c.loop-k.k) ≤ 63) × (nat_abs (step_to c.args.ys.now c.loop-k.k) ≤ 63) = let k = c.loop-k.k in
    let t = c.requires.shorts k c.loop-k.invariant.0 c.loop-k-test.true in
    (short-abs (step_to c.args.xs.now k) t.x, short-abs (step_to c.args.ys.now k) t.y) in
    let across : to_z w32 (of_z w32 c.step-dx.result) ≡ step_to c.args.xs.now c.loop-k.k = let a = c.args in
    ret w32 c.step-dx.result c.step-dx.type_inv ∙ c.step-dx.ensures ∙ read_step a.xs.now c.loop-k.k c.step-arg-1.given c.step-arg-in-loop-k-1.given in
    let down : to_z w32 (of_z w32 c.step-dy.result) ≡ step_to c.args.ys.now c.loop-k.k = let a = c.args in
    ret w32 c.step-dy.result c.step-dy.type_inv ∙ c.step-dy.ensures ∙ read_step a.ys.now c.loop-k.k c.step-arg-in-loop-k-2-1.given c.step-arg-in-loop-k-3-1.given in
    let small : (nat_abs (to_z w32 (of_z w32 c.step-dx.result)) ≤ 63) × (nat_abs (to_z w32 (of_z w32 c.step-dy.result)) ≤ 63) = let back' = c in
    let t = short in
    (rw across t.0, rw down t.1) in
    omega (arith, small)

pub loop-k-preserved : goal.loop-k-preserved
loop-k-preserved c =
    let across : to_z w32 (of_z w32 c.step-dx.result) ≡ step_to c.args.xs.now c.loop-k.k = let a = c.args in
    ret w32 c.step-dx.result c.step-dx.type_inv ∙ c.step-dx.ensures ∙ read_step a.xs.now c.loop-k.k c.step-arg-1.given c.step-arg-in-loop-k-1.given in
    let down : to_z w32 (of_z w32 c.step-dy.result) ≡ step_to c.args.ys.now c.loop-k.k = let a = c.args in
    ret w32 c.step-dy.result c.step-dy.type_inv ∙ c.step-dy.ensures ∙ read_step a.ys.now c.loop-k.k c.step-arg-in-loop-k-2-1.given c.step-arg-in-loop-k-3-1.given in
    let a = c.args in
    let more = more-pairs a.xs.now a.ys.now c.loop-k.k a.j c.loop-k-test.true in
    let put = rw (c.low7.ensures, c.low7-in-loop-k.ensures, across, down) at c.put2-to.ensures in
    (omega arith, writing_more c.loop-k.invariant.1 more put)
