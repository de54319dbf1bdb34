-- A byte that stays is the next to come, any other changes nothing, and blanks are the rest.
use Prim.Native.Nat.{ℕ, ◌-◌}
use mathlib.Core.Bool.{Bool, ◌&&◌}
use lib.Dec.{leb, ltb}
use lib.ListN.{take, drop}
use Rattle.rules.specs.Vocabulary.{keep, padded}
use Rattle.laws.specs.Buffers.{Writing}
use Rattle.laws.specs.Names.{coming}
use Rattle.emit.proofs.put_name.Given as goal

-- the test of a byte
abbrev pub within : ℕ → ℕ → ℕ → Bool
within low high b = leb low b && ltb b high

abbrev pub invariant-loop-b : goal.invariant-loop-b
invariant-loop-b l = Writing l.initial.out l.at (padded 16 (take l.most (keep (within l.low l.high) l.name))) l.out l.to
    (coming (within l.low l.high) (16 - l.most) l.left (drop l.b-index l.name))
