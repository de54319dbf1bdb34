-- All that is left.
use mathlib.Core.Path.{ap, ◌∙◌}
use native.Mathlib.Omega.{arith}
use lib.ListN.{length, drop, length-drop}
use lib.Seq.{take_all}
use Rattle.read.proofs.rest.Goals as goal

pub returns : goal.returns
returns c = let a = c.args in
    let s = a.file.now in
    let e = c.part.ensures ∙ take_all (length s) (drop a.from s) (omega (arith, length-drop a.from s)) in
    record { result_value = e; result_in_bounds = omega (arith, ap length e, length-drop a.from s) }
