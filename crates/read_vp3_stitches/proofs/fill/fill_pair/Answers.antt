-- Each case by its law.
use Prim.Native.Nat.{◌+◌, ◌^◌, ◌<◌}
use mathlib.Core.Path.{◌≡◌, refl}
use native.Mathlib.Omega.{arith}
use lib.ListN.{get_or}
use lib.Signed.{mag}
use mir.Syntax.{w32}
use mir.Val.{SFits}
use Rattle.rules.specs.Vocabulary.{signed}
use Rattle.laws.specs.Ints.{ret}
use Rattle.read_vp3_stitches.specs.Fills.{Turned}
use Rattle.read_vp3_stitches.specs.Steps.{StepAt}
use Rattle.read_vp3_stitches.specs.declared.steps.Step.TheVariants.{Stitch}
use Rattle.read_vp3_stitches.proofs.Filling.{ready-small, ready-sew, turned-step, turned_on}
use Rattle.read_vp3_stitches.proofs.Stepping.{stitch-at}
use borrow.Author.Rules.{rules}
use Rattle.read_vp3_stitches.proofs.fill.fill_pair.Goals as goal

pub returns-then-bytes-at : goal.returns-then-bytes-at
returns-then-bytes-at c = c.fill_step.ensures

pub sew-one-requires : goal.sew-one-requires
sew-one-requires c =
    let place : (mag c.args.b.x < 2 ^ 31) × (mag c.args.b.y < 2 ^ 31) = let f : SFits w32 c.args.b.x = search (rules, c.well_formed.0) in
    let g : SFits w32 c.args.b.y = search (rules, c.well_formed.0) in
    (f.sfits, g.sfits) in
    let one : let a = c.args in let s = a.bytes.now in
    StepAt s a.at (Stitch (signed 7 (get_or s a.at 0)) (signed 7 (get_or s (a.at + 1) 0)) 2) = stitch-at c.args.bytes.now c.args.at (omega (arith, c.requires.at_in_bounds)) c.if-bytes-at.false in
    let x = c.s8 in
    let y = c.s8-2 in
    let p = place in
    rw (ret w32 x.result x.type_inv, ret w32 y.result y.type_inv, x.ensures, y.ensures)
    (record { small = ready-small c.requires.ready p.0 p.1; reach = (ready-sew c.requires.ready one (rw x.ensures at x.type_inv) (rw y.ensures at y.type_inv)).0; y_in_bounds = (ready-sew c.requires.ready one (rw x.ensures at x.type_inv) (rw y.ensures at y.type_inv)).1 })

pub returns-then-bytes-at-2 : goal.returns-then-bytes-at-2
returns-then-bytes-at-2 c =
    let one : let a = c.args in let s = a.bytes.now in
    StepAt s a.at (Stitch (signed 7 (get_or s a.at 0)) (signed 7 (get_or s (a.at + 1) 0)) 2) = stitch-at c.args.bytes.now c.args.at (omega (arith, c.requires.at_in_bounds)) c.if-bytes-at.false in
    let turn : let a = c.args in
    Turned a.bytes.now a.b a.at a.places.now c.sew-one.new.places a.runs.now a.runs.now
    (record { b = c.sew-one.result; at = a.at + 2 }) = let x = c.s8 in
    let y = c.s8-2 in
    let w = rw (ret w32 x.result x.type_inv, ret w32 y.result y.type_inv, x.ensures, y.ensures) at c.sew-one.ensures in
    turned-step c.requires.ready _ one w.value refl w.places_value refl in
    turn

pub sew-requires : goal.sew-requires
sew-requires c =
    let one : let a = c.args in let s = a.bytes.now in
    StepAt s a.at (Stitch (signed 7 (get_or s a.at 0)) (signed 7 (get_or s (a.at + 1) 0)) 2) = stitch-at c.args.bytes.now c.args.at (omega (arith, c.requires.at_in_bounds)) c.if-bytes-at.false in
    let turn : let a = c.args in
    Turned a.bytes.now a.b a.at a.places.now c.sew-one.new.places a.runs.now a.runs.now
    (record { b = c.sew-one.result; at = a.at + 2 }) = let x = c.s8 in
    let y = c.s8-2 in
    let w = rw (ret w32 x.result x.type_inv, ret w32 y.result y.type_inv, x.ensures, y.ensures) at c.sew-one.ensures in
    turned-step c.requires.ready _ one w.value refl w.places_value refl in
    let place-2 : (mag c.sew-one.result.x < 2 ^ 31) × (mag c.sew-one.result.y < 2 ^ 31) = let x = c.s8 in
    let y = c.s8-2 in
    let w = rw (ret w32 x.result x.type_inv, ret w32 y.result y.type_inv, x.ensures, y.ensures) at c.sew-one.ensures in
    let k = (ready-sew c.requires.ready one (rw x.ensures at x.type_inv) (rw y.ensures at y.type_inv)).0 in
    rw w.value (k.x, k.y) in
    let two : let a = c.args in
    let s = a.bytes.now in
    StepAt s (a.at + 2) (Stitch (signed 7 (get_or s (a.at + 2) 0)) (signed 7 (get_or s (a.at + 3) 0)) 2) = let three : c.args.at + 2 + 1 ≡ c.args.at + 3 = omega arith in
    rw three at (stitch-at c.args.bytes.now (c.args.at + 2) (omega (arith, c.requires.at_in_bounds)) c.if-bytes-at-2.false) in
    let x = c.s8-3 in
    let y = c.s8-4 in
    let t = turn in
    let p = place-2 in
    rw (ret w32 x.result x.type_inv, ret w32 y.result y.type_inv, x.ensures, y.ensures)
    (record { small = ready-small t.ready p.0 p.1; reach = (ready-sew t.ready two (rw x.ensures at x.type_inv) (rw y.ensures at y.type_inv)).0; y_in_bounds = (ready-sew t.ready two (rw x.ensures at x.type_inv) (rw y.ensures at y.type_inv)).1 })

pub overflow_add-result-2 : goal.overflow_add-result-2
overflow_add-result-2 c = omega (arith, c.requires.at_in_bounds, c.ranges.at)

pub returns : goal.returns
returns c =
    let one : let a = c.args in let s = a.bytes.now in
    StepAt s a.at (Stitch (signed 7 (get_or s a.at 0)) (signed 7 (get_or s (a.at + 1) 0)) 2) = stitch-at c.args.bytes.now c.args.at (omega (arith, c.requires.at_in_bounds)) c.if-bytes-at.false in
    let turn : let a = c.args in
    Turned a.bytes.now a.b a.at a.places.now c.sew-one.new.places a.runs.now a.runs.now
    (record { b = c.sew-one.result; at = a.at + 2 }) = let x = c.s8 in
    let y = c.s8-2 in
    let w = rw (ret w32 x.result x.type_inv, ret w32 y.result y.type_inv, x.ensures, y.ensures) at c.sew-one.ensures in
    turned-step c.requires.ready _ one w.value refl w.places_value refl in
    let two : let a = c.args in
    let s = a.bytes.now in
    StepAt s (a.at + 2) (Stitch (signed 7 (get_or s (a.at + 2) 0)) (signed 7 (get_or s (a.at + 3) 0)) 2) = let three : c.args.at + 2 + 1 ≡ c.args.at + 3 = omega arith in
    rw three at (stitch-at c.args.bytes.now (c.args.at + 2) (omega (arith, c.requires.at_in_bounds)) c.if-bytes-at-2.false) in
    let x = c.s8-3 in
    let y = c.s8-4 in
    let t = turn in
    let w = rw (ret w32 x.result x.type_inv, ret w32 y.result y.type_inv, x.ensures, y.ensures) at c.sew.ensures in
    turned_on t (turned-step t.ready _ two w.value (omega arith) w.places_value refl) (omega arith) (omega (arith, c.requires.at_in_bounds))
