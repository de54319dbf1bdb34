-- The step is added to the place.
use mathlib.Core.Path.{◌≡◌}
use lib.IntN.{◌+ℤ◌}
use Rattle.rules.specs.Answers.{run_of}
use Rattle.read_passes.proofs.Turns.{read, summed}
use Rattle.read_passes.proofs.answers.hop.Goals as goal

pub returns-then-b-eq0 : goal.returns-then-b-eq0
unfolding run_of
returns-then-b-eq0 c =
    let sums : let a = c.args in
    (read c.sum-x.result ≡ a.b.x +ℤ a.dx) × (read c.sum-y.result ≡ a.b.y +ℤ a.dy) = let u = c.sum-x in
    let v = c.sum-y in
    let b = c.args.b in
    (summed b.x u.type_inv u.ensures c.requires.small.x c.ranges.dx, summed b.y v.type_inv v.ensures c.requires.small.y c.ranges.dy) in
    let k = sums in record { value = rw (c.jump.ensures, k.0, k.1); runs_value = rw c.if-b-eq0.true }

pub returns : goal.returns
returns c =
    let sums : let a = c.args in
    (read c.sum-x.result ≡ a.b.x +ℤ a.dx) × (read c.sum-y.result ≡ a.b.y +ℤ a.dy) = let u = c.sum-x in
    let v = c.sum-y in
    let b = c.args.b in
    (summed b.x u.type_inv u.ensures c.requires.small.x c.ranges.dx, summed b.y v.type_inv v.ensures c.requires.small.y c.ranges.dy) in
    let k = sums in
    record { value = rw (c.jump-2.ensures, k.0, k.1); runs_value = c.put_run.ensures }
