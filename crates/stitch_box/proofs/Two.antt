-- Two lists, each written and read back by `write_and_read`, in one format or two: equal sewings come back exactly when the lists sew the
-- same.
-- Assumes nothing.
use Rattle.std.specs.Prelude.{◌≡◌, ◌↔◌, Some}
use Rattle.std.proofs.Common.{ap, ◌∙◌}
use Rattle.rules.specs.Promises.{KeepsJumps}
use Rattle.rules.specs.declared.Format.TheVariants.{Vp3}
use Rattle.sewing.specs.Theorem.{alike}
use Rattle.stitch_box.specs.Two.{Call, sewing, back, needles, needles_back}

pub own : (t : Call) → KeepsJumps t.format → back t ≡ sewing t
own t j = t.promised.keeps.sewn t.format j t.named t.accepted t.room

pub same_kept : (t u : Call) → KeepsJumps t.format → KeepsJumps u.format → (back t ≡ back u) ↔ (sewing t ≡ sewing u)
same_kept t u j k = alike (own t j) (own u k)

-- ---- two lists in VP3: equal needle places come back exactly when the lists have the same stitches at the same places in the same blocks

pub own-needles : (t : Call) → t.format ≡ Vp3 → needles_back t ≡ needles t
own-needles t e = t.promised.keeps.needled (t.named ∙ ap Some e) (rw e at t.accepted) (rw e at t.room)

pub same-needles : (t u : Call) → t.format ≡ Vp3 → u.format ≡ Vp3 → (needles_back t ≡ needles_back u) ↔ (needles t ≡ needles u)
same-needles t u e f = alike (own-needles t e) (own-needles u f)
