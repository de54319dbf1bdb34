-- The three tests, one after the other.
use lib.IntN.{pos}
use mir.Syntax.{w32}
use mir.Val.{SFits}
use Rattle.laws.specs.Ints.{ints}

-- what the steps are compared with
zero : SFits w32 (pos 0)
zero = omega ints
