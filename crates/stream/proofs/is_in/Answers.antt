-- Below the range neither test passes; from lo on the second decides.
use mathlib.Core.Path.{◌≡◌, refl}
use mathlib.Core.Bool.{Bool, true, false}
use borrow.Author.Tests.{lt-leb, le-leb}
use lib.Dec.{leb}
use mir.Val.{bool_byte}
use Rattle.rules.specs.Vocabulary.{pick}
use Rattle.stream.proofs.is_in.Goals as goal

as_byte : (b : Bool) → bool_byte b ≡ pick b 1 0
as_byte true = refl
as_byte false = refl

pub returns-then-kind-lo : goal.returns-then-kind-lo
returns-then-kind-lo c = rw (lt-leb _ _ c.if-kind-lo.true)

pub returns : goal.returns
returns c = rw (le-leb _ _ c.if-kind-lo.false) (as_byte (leb c.args.kind c.args.hi))
