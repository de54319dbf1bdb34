-- No colours are stored.
use mathlib.Core.Path.{refl}
use borrow.Author.Tests.{le-ltb}
use native.Mathlib.Omega.{arith}
use Rattle.read_records.specs.declared.Row.TheVariants.{Exp}
use Rattle.read_builder.specs.Colour.{colour_in}
use Rattle.read.proofs.Colours.{answered-as}
use Rattle.read.proofs.read_exp.Goals as goal

pub returns : goal.returns
unfolding colour_in
returns c = answered-as Exp (λ k. rw (le-ltb k 0 (omega arith))) refl c.read_records.ensures
