-- Sums of two i32s as a caller reads them, and what two stitches in a row come to. Assumes nothing.
use Rattle.std.specs.Prelude.{Some, None}
use Prim.Native.Nat.{ℕ, ◌^◌, ◌<◌}
use mathlib.Core.Path.{◌≡◌}
use mathlib.Core.Bool.{Bool, true, false}
use native.Mathlib.Omega.{arith}
use lib.IntN.{ℤ, ◌+ℤ◌}
use lib.Signed.{mag}
use mir.Facts.{to_z-of_z}
use mir.Syntax.{w32}
use mir.Val.{SFits, hbits}
use Rattle.rules.specs.Vocabulary.{pick}
use Rattle.read_passes.proofs.Turns.{read, reads}
use Rattle.hoop_records.specs.declared.looks.Look.{Look}

pub added : {a d z : ℤ} → mag z < 2 ^ hbits w32 → z ≡ read a +ℤ read d → SFits w32 a → SFits w32 d → read z ≡ a +ℤ d
added h e f g = reads h (rw (to_z-of_z f, to_z-of_z g) at e)

never : {w : Look} → None ≡ Some w → ⊥
never e = let z : ◌≡◌ {A = ℕ} 0 1 = cc in omega arith

-- a look goes on where its test says
pub on-there : (b : Bool) {u v : Look} → pick b (Some u) None ≡ Some v → v ≡ u
on-there true {u} {v} e = cc
on-there false e = absurd (never e)
