-- The second stitch goes on from the first.
use Rattle.std.specs.Prelude.{None}
use borrow.Author.Rules.{rules}
use mathlib.Core.Path.{◌≡◌, sym, subst, ◌∙◌}
use mathlib.Core.Bool.{◌&&◌}
use lib.IntN.{◌+ℤ◌}
use mir.Facts.{to_z-of_z}
use Rattle.rules.specs.Hoop.{in_hoop}
use Rattle.hoop_records.specs.Looks.{starts_in, sewn, Leads}
use Rattle.hoop_records.specs.declared.looks.Look.{Look}
use Rattle.hoop_records.proofs.Sums.{on-there}
use Rattle.hoop_records.proofs.looks.sew_two.Goals as goal

pub returns-in_err-one : goal.returns-in_err-one
returns-in_err-one c =
    let one : let a = c.args in c.sew.result ≡ sewn a.h a.w a.dx a.dy a.len = rw (to_z-of_z c.ranges.dx, to_z-of_z c.ranges.dy) at c.sew.ensures in
    let e : c.from_residual.result ≡ None = search rules in
    rw (e, sym one ∙ c.in_err-one.was)

pub sew-requires-2 : goal.sew-requires-2
sew-requires-2 c =
    let one : let a = c.args in c.sew.result ≡ sewn a.h a.w a.dx a.dy a.len = rw (to_z-of_z c.ranges.dx, to_z-of_z c.ranges.dy) at c.sew.ensures in
    let a = c.args in
    let e = on-there (starts_in a.h a.w && in_hoop a.h (a.w.x +ℤ a.dx) (a.w.y +ℤ a.dy))
    (sym one ∙ c.in_ok-one.was) in
    rw (to_z-of_z c.ranges.ex, to_z-of_z c.ranges.ey) (subst (λ (v : Look). Leads v a.ex a.ey a.len) (sym e) c.requires.1)

pub returns : goal.returns
returns c =
    let one : let a = c.args in c.sew.result ≡ sewn a.h a.w a.dx a.dy a.len = rw (to_z-of_z c.ranges.dx, to_z-of_z c.ranges.dy) at c.sew.ensures in
    rw (sym one ∙ c.in_ok-one.was) (rw (to_z-of_z c.ranges.ex, to_z-of_z c.ranges.ey) at c.sew-2.ensures)
