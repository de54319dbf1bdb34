-- `jef_threads` meets its contract, as `pec_palette` does. Assumes nothing.
use Prim.Native.Nat.{ℕ, ◌<◌}
use mathlib.Core.Path.{◌≡◌, ap}
use native.Mathlib.Omega.{arith}
use borrow.Author.Rules.{rules}
use lib.ListN.{length, drop}
use Rattle.rules.specs.Charts.{color, jef_chart}
use Rattle.rules.specs.Choices.{choices, jef_palette}
use Rattle.laws.specs.Buffers.{writing-one, writing-done}
use Rattle.laws.specs.Choosing.{choices-more}
use Rattle.jef_threads.proofs.jef_threads.Goals as goal

chart : {i : ℕ} → i < 79 → i < length jef_chart
unfolding jef_chart
chart h = h

pub jef_thread-requires : goal.jef_thread-requires
unfolding choices jef_chart jef_palette
jef_thread-requires c = omega arith

pub bounds-out-i : goal.bounds-out-i
bounds-out-i c = omega arith

pub loop-i-preserved : goal.loop-i-preserved
unfolding jef_palette
loop-i-preserved c = let l = c.loop-i in
    let h : l.i < length jef_chart = chart (omega arith) in
    (omega arith, (omega arith, writing-one l.invariant.1.1 (choices-more jef_chart (color 0 0 0) l.i l.invariant.0 h c.jef_thread.ensures)))

pub returns : goal.returns
unfolding jef_palette choices jef_chart
returns c = let l = c.loop-i in
    let e : l.i ≡ 79 = omega arith in
    (writing-done l.invariant.1.1 (ap (λ (n : ℕ). drop n jef_palette) e)).stored

pub loop-i-init : goal.loop-i-init
unfolding jef_palette choices jef_chart
loop-i-init c = (omega arith, (omega arith, search rules))
