-- By the operation: a colour change is the fourth of the five.
use mathlib.Core.Path.{◌≡◌, refl}
use mathlib.Core.Bool.{false}
use Rattle.rules.specs.declared.Op.{Op}
use Rattle.rules.specs.declared.Op.TheVariants.{Stitch, Jump, Trim, ColorChange, End}
use Rattle.rules.specs.Lists.{is_change}
use Rattle.thumbnails.proofs.is_change.Goals as goal

-- any other changes no colour
others : (o : Op) → (o ≡ ColorChange → ⊥) → false ≡ is_change o
unfolding is_change
others Stitch k = refl
others Jump k = refl
others Trim k = refl
others ColorChange k = absurd (k refl)
others End k = refl

pub returns-in_default : goal.returns-in_default
returns-in_default c = others c.args.op c.in_default.not-ColorChange

pub returns : goal.returns
unfolding is_change
returns c = rw c.in-ColorChange.is
