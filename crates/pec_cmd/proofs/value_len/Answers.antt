-- A short step is one byte, another two.
use mathlib.Core.Path.{refl, sym, ◌∙◌}
use native.Mathlib.Omega.{arith}
use mir.Facts.{to_z-of_z}
use Rattle.rules.specs.Pec.{wide}
use Rattle.pec_cmd.proofs.Values.{one_byte, two_bytes}
use Rattle.pec_cmd.proofs.value_len.Goals as goal

pub returns-then-is_short : goal.returns-then-is_short
returns-then-is_short c =
    let e = rw (to_z-of_z c.ranges.z) at (sym c.is_short.ensures ∙ c.if-is_short.true) in
    rw (one_byte c.args.z e) (refl, omega arith)

pub returns : goal.returns
unfolding wide
returns c =
    let e = rw (to_z-of_z c.ranges.z) at (sym c.is_short.ensures ∙ c.if-is_short.false) in
    rw (two_bytes c.args.z e) (refl, omega arith)
