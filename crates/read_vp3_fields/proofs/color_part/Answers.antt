-- Eighteen bytes, three texts, the shift field.
use Rattle.std.proofs.Common.{◌∙◌, arith}
use mir.Facts.{to_z-of_z}
use Rattle.rules.specs.Vp3.{in_color_part}
use Rattle.laws.specs.Exits.{exit}
use Rattle.read_vp3_fields.proofs.Within.{fixed-err, fixed-ok, color-is, color_not, color_on}
use Rattle.read_vp3_fields.proofs.color_part.Goals as goal

pub returns-in_err-first : goal.returns-in_err-first
unfolding in_color_part
returns-in_err-first c = let h = c.requires.1 in
    rw (exit c.from_residual.ensures.1) (color_not (λ n e rest. fixed-err _ _ _ h 18 c.requires.0 _ c.in_err-first.ensures))

pub returns-in_err-second : goal.returns-in_err-second
unfolding in_color_part
returns-in_err-second c = let h = c.requires.1 in
    rw (exit c.from_residual-in_err-second.ensures.1)
    (color_not (λ n e rest. fixed-ok _ _ _ h 18 _ c.in_ok-first.ensures ∙ c.in_err-second.ensures.tells _))

pub returns-in_err-third : goal.returns-in_err-third
unfolding in_color_part
returns-in_err-third c = let h = c.requires.1 in
    rw (exit c.from_residual-in_err-third.ensures.1)
    (color_not (λ n e rest. fixed-ok _ _ _ h 18 _ c.in_ok-first.ensures ∙ c.in_ok-second.ensures.tells _ ∙ c.in_err-third.ensures.tells _))

pub returns-in_err-shift : goal.returns-in_err-shift
unfolding in_color_part
returns-in_err-shift c = let h = c.requires.1 in
    rw (exit c.from_residual-in_err-shift.ensures.1)
    (color_not (λ n e rest. fixed-ok _ _ _ h 18 _ c.in_ok-first.ensures ∙ c.in_ok-second.ensures.tells _ ∙ c.in_ok-third.ensures.tells _
    ∙ c.in_err-shift.ensures.tells _))

pub returns : goal.returns
unfolding in_color_part
returns c = let h = c.requires.1 in
    let a = c.in_ok-first.ensures in let t = c.in_ok-second.ensures in let u = c.in_ok-third.ensures in let v = c.in_ok-shift.ensures in
    color_on (omega (arith, a.0, t.lies, u.lies, v.lies))
    (λ n go. fixed-ok _ _ _ h 18 _ a ∙ t.tells _ ∙ u.tells _ ∙ v.tells _ ∙ rw (color-is c.args.file.now c.args.from))
    _ (rw (to_z-of_z c.ranges.x, to_z-of_z c.ranges.y) at c.shifts.ensures)
