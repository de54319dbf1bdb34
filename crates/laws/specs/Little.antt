-- Numbers in bytes, the low byte first: `little` and `from_little`. Assumes nothing.
use Rattle.std.specs.Prelude.{ℕ, zero, suc, ◌+◌, ◌*◌, ◌/◌, ◌%◌, ◌^◌, ◌<◌, ◌≡◌, refl, List, [], ◌∷◌, ◌++◌, length, take, drop, get_or}
use Rattle.std.proofs.Common.{ap, arith, pow-suc, take_at, drop_at}
use Rattle.std.proofs.Math.Nat.{one-le-pow}
use Rattle.std.proofs.Math.Arith.{mod-mul}
use Rattle.rules.specs.Vocabulary.{little, from_little}

pub length-little : (n v : ℕ) → length (little n v) ≡ n
unfolding little
length-little zero v = refl
length-little (suc n) v = ap suc (length-little n (v / 256))

-- ---- there and back

pub from-little : (n v : ℕ) → from_little (little n v) ≡ v % 256 ^ n
unfolding little from_little
from-little zero v = omega arith
from-little (suc n) v = rw (from-little n (v / 256), pow-suc 256 n) (omega (arith, mod-mul v {m = 256 ^ n} {c = 256} (one-le-pow n 256 (omega arith)) (omega arith)))

pub little-from : (bs : List ℕ) → ((i : ℕ) → i < length bs → get_or bs i 0 < 256) → little (length bs) (from_little bs) ≡ bs
unfolding little from_little
little-from [] h = refl
little-from (b ∷ bs) h =
    let l : b < 256 = h 0 (omega arith) in
    let low : (b + 256 * from_little bs) % 256 ≡ b = omega arith in
    let high : (b + 256 * from_little bs) / 256 ≡ from_little bs = omega arith in
    rw (low, high, little-from bs (λ i s. h (suc i) (omega arith)))

-- a number that stands in a file behind `front`
pub little-at : (front rest : List ℕ) (n v i : ℕ) → length front ≡ i → from_little (take n (drop i (front ++ (little n v ++ rest)))) ≡ v % 256 ^ n
little-at front rest n v i e = rw (drop_at front (little n v ++ rest) i e, take_at (little n v) rest n (length-little n v)) (from-little n v)
