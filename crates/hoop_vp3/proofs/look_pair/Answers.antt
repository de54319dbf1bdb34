-- Each case by its law.
use Prim.Native.Nat.{◌+◌}
use mathlib.Core.Path.{◌∙◌}
use native.Mathlib.Omega.{arith}
use mir.Syntax.{w32}
use mir.Val.{to_z, of_z}
use Rattle.laws.specs.Ints.{ret}
use Rattle.read_vp3_stitches.specs.Steps.{StepAt}
use Rattle.read_vp3_stitches.specs.declared.steps.Step.TheVariants.{Stitch}
use Rattle.hoop_vp3.proofs.Steps.{pair-at, can-sew, looks-step, can-two, looks-two}
use Rattle.hoop_vp3.proofs.look_pair.Goals as goal

pub sew-requires : goal.sew-requires
sew-requires c =
    let one : let a = c.args in
    StepAt a.bytes.now a.w.at (Stitch (to_z w32 (of_z w32 c.s8-dx.result)) (to_z w32 (of_z w32 c.s8-dy.result)) 2) = let x = c.s8-dx in
    let y = c.s8-dy in
    pair-at (c.args.w.at + 1) (omega (arith, c.requires.at_in_bounds)) (omega arith) c.if-bytes-at.false
    (ret w32 x.result x.type_inv ∙ x.ensures) (ret w32 y.result y.type_inv ∙ y.ensures) in
    can-sew c.requires.looking one

pub returns-then-bytes-at-2 : goal.returns-then-bytes-at-2
returns-then-bytes-at-2 c =
    let one : let a = c.args in
    StepAt a.bytes.now a.w.at (Stitch (to_z w32 (of_z w32 c.s8-dx.result)) (to_z w32 (of_z w32 c.s8-dy.result)) 2) = let x = c.s8-dx in
    let y = c.s8-dy in
    pair-at (c.args.w.at + 1) (omega (arith, c.requires.at_in_bounds)) (omega arith) c.if-bytes-at.false
    (ret w32 x.result x.type_inv ∙ x.ensures) (ret w32 y.result y.type_inv ∙ y.ensures) in
    rw c.sew.ensures (looks-step c.requires.looking _ one)

pub sew_two-requires : goal.sew_two-requires
sew_two-requires c =
    let one : let a = c.args in
    StepAt a.bytes.now a.w.at (Stitch (to_z w32 (of_z w32 c.s8-dx.result)) (to_z w32 (of_z w32 c.s8-dy.result)) 2) = let x = c.s8-dx in
    let y = c.s8-dy in
    pair-at (c.args.w.at + 1) (omega (arith, c.requires.at_in_bounds)) (omega arith) c.if-bytes-at.false
    (ret w32 x.result x.type_inv ∙ x.ensures) (ret w32 y.result y.type_inv ∙ y.ensures) in
    let two : let a = c.args in
    StepAt a.bytes.now (a.w.at + 2) (Stitch (to_z w32 (of_z w32 c.s8.result)) (to_z w32 (of_z w32 c.s8-2.result)) 2) = let x = c.s8 in
    let y = c.s8-2 in
    pair-at (c.args.w.at + 3) (omega (arith, c.requires.at_in_bounds)) (omega arith) c.if-bytes-at-2.false
    (ret w32 x.result x.type_inv ∙ x.ensures) (ret w32 y.result y.type_inv ∙ y.ensures) in
    can-two c.requires.looking one two

pub returns : goal.returns
returns c =
    let one : let a = c.args in
    StepAt a.bytes.now a.w.at (Stitch (to_z w32 (of_z w32 c.s8-dx.result)) (to_z w32 (of_z w32 c.s8-dy.result)) 2) = let x = c.s8-dx in
    let y = c.s8-dy in
    pair-at (c.args.w.at + 1) (omega (arith, c.requires.at_in_bounds)) (omega arith) c.if-bytes-at.false
    (ret w32 x.result x.type_inv ∙ x.ensures) (ret w32 y.result y.type_inv ∙ y.ensures) in
    let two : let a = c.args in
    StepAt a.bytes.now (a.w.at + 2) (Stitch (to_z w32 (of_z w32 c.s8.result)) (to_z w32 (of_z w32 c.s8-2.result)) 2) = let x = c.s8 in
    let y = c.s8-2 in
    pair-at (c.args.w.at + 3) (omega (arith, c.requires.at_in_bounds)) (omega arith) c.if-bytes-at-2.false
    (ret w32 x.result x.type_inv ∙ x.ensures) (ret w32 y.result y.type_inv ∙ y.ensures) in
    rw c.sew_two.ensures (looks-two c.requires.looking one two)
