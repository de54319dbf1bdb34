-- A colour is put, or there is none. Assumes nothing.
use mathlib.Core.Path.{refl}
use Rattle.read_header.proofs.put_color.Goals as goal

pub returns-in_default : goal.returns-in_default
returns-in_default c = rw c.in_default.is (refl, refl)

pub returns : goal.returns
returns c = rw c.in-Some.is (refl, (_, (c.cell_of.ensures, refl)))
