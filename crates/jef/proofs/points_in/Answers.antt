-- Each arm by the operations that it is for.
use mathlib.Core.Path.{◌≡◌, refl}
use mathlib.Core.List.{[], ◌∷◌}
use native.Mathlib.Omega.{arith}
use types.Run.{OneOf, miss}
use denote.Enum.Declared.{tag_of}
use Rattle.rules.specs.contracts.Op.{the_type}
use Rattle.rules.specs.declared.Op.{Op}
use Rattle.rules.specs.declared.Op.TheVariants.{Stitch, Jump, Trim, ColorChange, End}
use Rattle.rules.specs.Jef.{points_in}
use borrow.Author.Rules.{rules}
use Rattle.jef.proofs.points_in.Goals as goal

-- a jump or a colour change
twos : (o : Op) → OneOf (1 ∷ 3 ∷ []) (tag_of the_type o) → 2 ≡ points_in o
unfolding points_in
twos Stitch k = absurd (miss (1 ∷ 3 ∷ []) 0 tt k)
twos Jump k = refl
twos Trim k = absurd (miss (1 ∷ 3 ∷ []) 2 tt k)
twos ColorChange k = refl
twos End k = absurd (miss (1 ∷ 3 ∷ []) 4 tt k)

-- a trim or the end
nones : (o : Op) → OneOf (2 ∷ 4 ∷ []) (tag_of the_type o) → 0 ≡ points_in o
unfolding points_in
nones Stitch k = absurd (miss (2 ∷ 4 ∷ []) 0 tt k)
nones Jump k = absurd (miss (2 ∷ 4 ∷ []) 1 tt k)
nones Trim k = refl
nones ColorChange k = absurd (miss (2 ∷ 4 ∷ []) 3 tt k)
nones End k = refl

pub returns-in-Stitch : goal.returns-in-Stitch
unfolding points_in
returns-in-Stitch c = search rules

pub returns-in-Jump : goal.returns-in-Jump
unfolding points_in
returns-in-Jump c = (twos c.args.op c.in-Jump.in-Jump-own.keys2, omega arith)

pub returns-in-Trim : goal.returns-in-Trim
unfolding points_in
returns-in-Trim c = (nones c.args.op c.in-Trim.in-Trim-own.keys3, omega arith)
