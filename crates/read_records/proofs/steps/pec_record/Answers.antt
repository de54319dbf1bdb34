-- The record by the tests that the code makes.
use native.Mathlib.Omega.{arith}
use Prim.Native.Nat.{◌+◌}
use mathlib.Core.Path.{sym, ◌∙◌}
use mir.Syntax.{w32}
use Rattle.laws.specs.Ints.{ret}
use Rattle.read_records.proofs.Pecs.{axis-len, pec-short, pec-end, pec_change_lem, pec-no-x, pec-no-y, pec-both}
use Rattle.read_records.proofs.steps.pec_record.Goals as goal

pub returns-then-file-lt2 : goal.returns-then-file-lt2
returns-then-file-lt2 c = let a = c.args in sym (pec-short a.file.now a.at (omega arith))

pub returns-then-file-at : goal.returns-then-file-at
returns-then-file-at c = let a = c.args in sym (pec-short a.file.now a.at (omega arith))

pub returns-then-two : goal.returns-then-two
returns-then-two c = let a = c.args in
    sym (pec-end a.file.now a.at (omega arith) (omega (arith, c.shared_slice_known-3-1.given (a.at + 1))) c.if-two.true)

pub returns-then-two-2 : goal.returns-then-two-2
returns-then-two-2 c = let a = c.args in
    c.change.ensures ∙ sym (pec_change_lem a.file.now a.at (omega arith) (omega (arith, c.shared_slice_known-3-1.given (a.at + 1)))
    c.if-two-2.true)

pub returns-in_default : goal.returns-in_default
returns-in_default c = let a = c.args in
    pec-no-x a.file.now a.at (omega arith) c.if-two.false c.if-two-2.false
    (rw c.in_default.is at c.step_at.ensures)

pub overflow_add-at : goal.overflow_add-at
overflow_add-at c = omega (arith, axis-len _ (rw c.in-Step.is at c.step_at.ensures))

pub returns-in_default-step_at : goal.returns-in_default-step_at
returns-in_default-step_at c =
    pec-no-y _ _ (omega arith) c.if-two.false c.if-two-2.false
    (rw c.in-Step.is at c.step_at.ensures)
    (rw c.in_default-step_at.is at c.step_at-2.ensures)

pub overflow_add-x_len : goal.overflow_add-x_len
overflow_add-x_len c =
    omega (
      arith,
      axis-len _ (rw c.in-Step.is at c.step_at.ensures),
      axis-len _ (rw c.in-Step-step_at.is at c.step_at-2.ensures),
    )

pub returns : goal.returns
returns c =
    rw (c.pair_of.ensures, ret w32 _ c.in-Step.known_told-1-own.given.1.0.1, ret w32 _ c.in-Step-step_at.known_told-in-Step-step_at-2-1-own.given.1.0.1)
    (pec-both _ _ (omega arith) c.if-two.false c.if-two-2.false
    (rw c.in-Step.is at c.step_at.ensures)
    (rw c.in-Step-step_at.is at c.step_at-2.ensures))
