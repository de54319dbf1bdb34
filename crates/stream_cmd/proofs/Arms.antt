-- What an arm of a command's match asks and gives, once for all formats: it is told its operation, and its numbers go through their bits,
-- which hold them. Assumes nothing.
use Prim.Native.Nat.{ℕ, ◌+◌, ◌≤◌}
use mathlib.Core.Path.{◌≡◌}
use mathlib.Core.List.{List}
use lib.IntN.{ℤ, nat_abs}
use lib.ListN.{length}
use mir.Facts.{to_z-of_z}
use mir.Syntax.{w32}
use mir.Val.{SFits, to_z, of_z}
use Rattle.rules.specs.declared.Op.{Op}
use Rattle.laws.specs.Buffers.{Put}

pub back-small : {z : ℤ} {n : ℕ} → SFits w32 z → nat_abs z ≤ n → nat_abs (to_z w32 (of_z w32 z)) ≤ n
back-small f h = rw (to_z-of_z f) h

module _ (cmd : Op → ℤ → ℤ → List ℕ) {op o : Op} (dx dy : ℤ) (told : op ≡ o) where
  pub arm-room : (at k n : ℕ) → at + length (cmd op dx dy) ≤ n → length (cmd o dx dy) ≡ k → at + k ≤ n
  arm-room at k n h e = rw (← e, ← told) h

  pub arm-puts : {d d' : List ℕ} {at r : ℕ} → SFits w32 dx → SFits w32 dy
      → Put d d' at r (cmd o (to_z w32 (of_z w32 dx)) (to_z w32 (of_z w32 dy))) → Put d d' at r (cmd op dx dy)
  arm-puts f g p = rw told (rw (to_z-of_z f, to_z-of_z g) at p)
