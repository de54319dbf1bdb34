-- `list_len` meets its contract: the shortest of the three slices. Assumes nothing.
use native.Mathlib.Omega.{arith}
use Rattle.laws.specs.Listing.{length-commands}
use Rattle.formats.proofs.list_len.Goals as goal

pub returns : goal.returns
returns c = let a = c.args in
    omega (arith, c.min.ensures, c.min-2.ensures, length-commands a.xs.now a.ys.now a.kinds.now)
