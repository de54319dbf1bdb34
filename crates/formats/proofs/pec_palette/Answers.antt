-- `pec_palette` meets its contract. The invariant: the entries before i stand, the others are still to come. Assumes nothing.
use Prim.Native.Nat.{ℕ, ◌<◌}
use mathlib.Core.Path.{◌≡◌, ap}
use native.Mathlib.Omega.{arith}
use borrow.Author.Rules.{rules}
use lib.ListN.{length, drop}
use Rattle.rules.specs.Charts.{color, pec_chart}
use Rattle.rules.specs.Choices.{choices, pec_palette}
use Rattle.laws.specs.Buffers.{writing-one, writing-done}
use Rattle.laws.specs.Choosing.{choices-more}
use Rattle.formats.proofs.pec_palette.Goals as goal

chart : {i : ℕ} → i < 65 → i < length pec_chart
unfolding pec_chart
chart h = h

pub loop-i-init : goal.loop-i-init
unfolding choices pec_chart pec_palette
loop-i-init c = search rules

pub pec_thread-requires : goal.pec_thread-requires
unfolding choices pec_chart pec_palette
pec_thread-requires c = omega arith

pub bounds-out-i : goal.bounds-out-i
unfolding choices pec_chart pec_palette
bounds-out-i c = omega arith

pub loop-i-preserved : goal.loop-i-preserved
unfolding choices pec_chart pec_palette
loop-i-preserved c = let l = c.loop-i in
    let e = choices-more pec_chart (color 0 0 0) l.i l.invariant.0 (chart (omega arith)) c.pec_thread.ensures in
    (omega arith, (omega arith, writing-one l.invariant.1.1 e))

pub returns : goal.returns
unfolding pec_palette choices pec_chart
returns c = let l = c.loop-i in
    let e : l.i ≡ 65 = omega arith in
    (writing-done l.invariant.1.1 (ap (λ (n : ℕ). drop n pec_palette) e)).stored
