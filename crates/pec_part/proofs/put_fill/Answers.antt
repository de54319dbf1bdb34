-- The blanks from n on.
use Prim.Native.Nat.{ℕ, zero, suc, ◌-◌}
use mathlib.Core.Path.{◌≡◌, refl, ap}
use mathlib.Core.List.{List, ◌∷◌}
use native.Mathlib.Omega.{arith}
use lib.ListN.{take, drop, replicate}
use Rattle.laws.specs.Buffers.{put_as}
use Rattle.pec_part.proofs.put_fill.Goals as goal

less-less : (k n : ℕ) → suc k - suc n ≡ k - n
less-less k n = omega arith

none-less : (n : ℕ) → 0 - suc n ≡ 0
none-less n = omega arith

no_less : (k : ℕ) → k - 0 ≡ k
no_less k = omega arith

blanks : (k n : ℕ) → drop {A = ℕ} n (replicate k 0x20) ≡ replicate (k - n) 0x20
blanks k zero = rw (no_less k)
blanks zero (suc n) = rw (none-less n)
blanks (suc k) (suc n) = rw (less-less k n) (blanks k n)

all_of : (k : ℕ) → take {A = ℕ} k (replicate k 0x20) ≡ replicate k 0x20
all_of zero = refl
all_of (suc k) = ap (λ (s : List ℕ). 0x20 ∷ s) (all_of k)

rest : (k n : ℕ) → take {A = ℕ} (k - n) (drop n (replicate k 0x20)) ≡ replicate (k - n) 0x20
rest k n = rw (blanks k n) (all_of (k - n))

pub returns : goal.returns
returns c = put_as c.put_text.ensures (rest 463 c.args.n)
