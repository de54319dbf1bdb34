-- Three bytes, a part, three bytes.
use Rattle.std.proofs.Common.{◌≤◌, ◌∙◌, refl, length, Ok, Err, arith}
use mir.Facts.{to_z-of_z}
use Rattle.rules.specs.Vp3.{skip, stitch_part}
use Rattle.laws.specs.Exits.{exit}
use Rattle.read_vp3_fields.proofs.Within.{fixed-err, fixed-ok, behind}
use Rattle.read_vp3_fields.proofs.stitch_part.Goals as goal

pub returns-in_err-at : goal.returns-in_err-at
unfolding stitch_part skip
returns-in_err-at c =
    rw (exit c.from_residual.ensures.1)
    (record { lies = tt; has = tt; tells = λ x₀ y₀ bs. fixed-err _ _ _ c.requires.1 3 c.requires.0 _ c.in_err-at.ensures })

pub returns-in_err-part : goal.returns-in_err-part
unfolding stitch_part
returns-in_err-part c =
    rw (exit c.from_residual-in_err-part.ensures.1)
    (record { lies = tt; has = tt; tells = λ x₀ y₀ bs. behind _ _ _ c.requires.1 (Err _) c.in_ok-at.ensures c.in_err-part.ensures _ })

pub returns-in_err-skip : goal.returns-in_err-skip
unfolding stitch_part skip
returns-in_err-skip c = let p = c.in_ok-part.part in let k = c.in_ok-part.ensures.lies in
    let h : p.end ≤ length c.args.file.now = omega arith in
    rw (exit c.from_residual-in_err-skip.ensures.1)
    (record {
      lies = tt;
      has = tt;
      tells = λ x₀ y₀ bs. behind _ _ _ c.requires.1 (Ok p) c.in_ok-at.ensures c.in_ok-part.ensures _
          ∙ fixed-err _ _ _ h 3 k.1.0 _ c.in_err-skip.ensures;
    })

pub returns : goal.returns
unfolding stitch_part skip
returns c = let p = c.in_ok-part.part in let k = c.in_ok-part.ensures.lies in
    let h : p.end ≤ length c.args.file.now = omega arith in
    rw (to_z-of_z c.ranges.x, to_z-of_z c.ranges.y)
    (record {
      lies = (omega (arith, c.in_ok-at.ensures.0, c.in_ok-skip.ensures.0), (c.in_ok-skip.ensures.1, (k.1.1, omega arith)));
      has = (refl, (refl, (refl, refl)));
      tells = λ x₀ y₀ bs. behind _ _ _ c.requires.1 (Ok p) c.in_ok-at.ensures c.in_ok-part.ensures _
          ∙ fixed-ok _ _ _ h 3 _ c.in_ok-skip.ensures;
    })
