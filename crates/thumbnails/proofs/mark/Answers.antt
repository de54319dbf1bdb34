-- By the operation.
use Prim.Native.Nat.{ℕ}
use mathlib.Core.Path.{◌≡◌, refl}
use mathlib.Core.List.{List}
use mir.Facts.{to_z-of_z}
use lib.IntN.{ℤ}
use Rattle.rules.specs.declared.Op.{Op}
use Rattle.rules.specs.declared.Op.TheVariants.{Stitch, Jump, Trim, ColorChange, End}
use Rattle.rules.specs.declared.Scale.{Scale}
use Rattle.rules.specs.Thumbnails.{marked}
use Rattle.thumbnails.proofs.mark.Goals as goal

-- any other than the first marks nothing
others : (s : Scale) (icon : List ℕ) (x y : ℤ) (o : Op) → (o ≡ Stitch → ⊥) → icon ≡ marked s icon o x y
unfolding marked
others s icon x y Stitch k = absurd (k refl)
others s icon x y Jump k = refl
others s icon x y Trim k = refl
others s icon x y ColorChange k = refl
others s icon x y End k = refl

pub returns-in_default : goal.returns-in_default
returns-in_default c =
    (others c.args.s _ c.args.x c.args.y c.args.op c.in_default.not-Stitch, c.requires.1)

pub returns : goal.returns
unfolding marked
returns c = let paint = c.paint in let enum_told = c.in-Stitch in
    let f = c.ranges in
    (rw enum_told.is (rw (to_z-of_z f.x, to_z-of_z f.y) at paint.ensures.0), paint.ensures.1)
