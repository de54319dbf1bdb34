-- Two's complement at any width: `signed k` and `bits_of k` of k + 1 bits. The range is `InBits k z` (Ints), which `omega ints` proves at
-- a numeral k, as it does every bound on `up` and `dn`.
-- Assumes nothing.
use Rattle.std.specs.Prelude.{ℕ, ◌+◌, ◌-◌, ◌*◌, ◌^◌, ◌%◌, ◌≤◌, ◌<◌, ◌≡◌, T, ℤ, pos, negsuc, ◌+ℤ◌, ◌-ℤ◌, nat_abs}
use Rattle.std.proofs.Common.{sym, ap, ◌∙◌, arith, mod-eq_of_lt, mod-lt, add-one, pow_pos, pow_mono}
use Rattle.std.proofs.Math.Nat.{mod-eq-sub-mod}
use Rattle.std.proofs.Math.Decide.{dec_lt}
use Rattle.std.specs.Int.Signed.{non_neg}
use Rattle.std.specs.Int.{Width}
use mir.Val.{SFits, Fits, hbits, to_z, of_z}
use mir.ValLaws.{pow-bits}
use Rattle.std.proofs.Math.Facts.{to_z_pos}
use Rattle.rules.specs.Vocabulary.{signed, bits_of}
use Rattle.laws.specs.Tests.{pick-lt, pick-ge}
use Rattle.laws.specs.Ints.{up, dn, ints, InBits, up_neg, dn-neg, abs_is, seen, eq-sub, same-diff}

pub twice-pow : (k : ℕ) → 2 ^ (k + 1) ≡ 2 * 2 ^ k
twice-pow k = rw (add-one k) (omega arith)

-- ---- the bits of z: those of z itself, or of z + 2 ^ (k + 1) if z is negative

pub bits-lt : (k : ℕ) (z : ℤ) → bits_of k z < 2 ^ (k + 1)
unfolding bits_of
bits-lt k (pos n) = mod-lt n (pow_pos (k + 1))
bits-lt k (negsuc n) = omega (arith, pow_pos (k + 1))

pub bits_pos : (k : ℕ) (z : ℤ) → dn z ≤ up z → up z < 2 ^ (k + 1) + dn z → bits_of k z + dn z ≡ up z
unfolding bits_of
bits_pos k (pos n) h l = omega (arith, mod-eq_of_lt {n = n} {m = 2 ^ (k + 1)} (omega arith))
bits_pos k (negsuc n) h l = absurd (omega arith)

pub bits-neg : (k : ℕ) (z : ℤ) → up z < dn z → dn z ≤ 2 ^ (k + 1) + up z → bits_of k z + dn z ≡ 2 ^ (k + 1) + up z
unfolding bits_of
bits-neg k (pos n) h l = absurd (omega arith)
bits-neg k (negsuc n) h l = omega (arith, mod-eq_of_lt {n = n} {m = 2 ^ (k + 1)} (omega arith))

-- ---- the number of n: n itself below half, and n - 2 ^ (k + 1) from there on

pub signed_low : (k n : ℕ) → n < 2 ^ k → signed k n ≡ pos n
unfolding signed
signed_low k n h = pick-lt n (2 ^ k) _ _ h

pub signed_high : (k n : ℕ) → 2 ^ k ≤ n → n < 2 ^ (k + 1) → signed k n ≡ pos n -ℤ pos (2 ^ (k + 1))
unfolding signed
signed_high k n h l = pick-ge n (2 ^ k) _ _ h ∙ eq-sub (negsuc (2 ^ (k + 1) - (n + 1))) (pos n) (pos (2 ^ (k + 1))) (omega arith)

-- what holds in both cases
pub signed_by : (P : ℤ → Type 0) (k n : ℕ) → n < 2 ^ (k + 1) → (n < 2 ^ k → P (pos n)) → (2 ^ k ≤ n → P (pos n -ℤ pos (2 ^ (k + 1)))) → P (signed k n)
signed_by P k n l f g = elim (dec_lt n (2 ^ k)) [
  | yes h ↦ rw (signed_low k n h) (f h)
  | no h ↦ let h' : 2 ^ k ≤ n = omega arith in rw (signed_high k n h' l) (g h')
]

-- a range of k + 1 bits, said of the parts
pub range : (k : ℕ) (z : ℤ) → InBits k z → (up z < 2 ^ k + dn z) × (dn z ≤ 2 ^ k + up z)
range k z h = let u = up_neg (pos (2 ^ k)) in let d = dn-neg (pos (2 ^ k)) in (omega ints, omega ints)

-- ---- there and back: the numbers of that range come back

pub signed-bits : (k : ℕ) (z : ℤ) → InBits k z → signed k (bits_of k z) ≡ z
signed-bits k (pos n) r =
    let l : n < 2 ^ k = omega (arith, range k (pos n) r) in
    let e : bits_of k (pos n) ≡ n = omega (arith, bits_pos k (pos n) (omega arith) (omega (arith, twice-pow k))) in
    rw e (signed_low k n l)
signed-bits k (negsuc n) r =
    let l : n < 2 ^ k = omega (arith, range k (negsuc n) r) in
    let e = bits-neg k (negsuc n) (omega arith) (omega (arith, twice-pow k)) in
    signed_high k (bits_of k (negsuc n)) (omega (arith, twice-pow k)) (bits-lt k (negsuc n))
    ∙ sym (eq-sub (negsuc n) (pos (bits_of k (negsuc n))) (pos (2 ^ (k + 1))) (omega arith))

-- ---- what code computes

-- `n as i32` of an n below half
pub dec-low : (w : Width) (k n : ℕ) → n < 2 ^ k → n < 2 ^ hbits w → to_z w n ≡ signed k n
dec-low w k n h f = to_z_pos w f ∙ sym (signed_low k n h)

-- a sum, a remainder and a difference, with no branch
pub shifted : (k n : ℕ) → n < 2 ^ (k + 1) → pos ((n + 2 ^ k) % 2 ^ (k + 1)) -ℤ pos (2 ^ k) ≡ signed k n
shifted k n l =
    let H : ℕ = 2 ^ k in
    let M : ℕ = 2 ^ (k + 1) in
    let d : M ≡ 2 * H = twice-pow k in
    signed_by (λ (z : ℤ). pos ((n + H) % M) -ℤ pos H ≡ z) k n l
    (λ h. sym (eq-sub (pos n) (pos ((n + H) % M)) (pos H) (omega (arith, mod-eq_of_lt {n = n + H} {m = M} (omega arith)))))
    (λ h. same-diff ((n + H) % M) H n M (omega (arith, mod-eq-sub-mod {n = n + H} {m = M} (omega arith), mod-eq_of_lt {n = n + H - M} {m = M} (omega arith))))

-- ---- encoding: the remainder of z raised by 2 ^ (k + 1)

-- z raised by m
abbrev pub over : ℕ → ℤ → ℕ
over m z = up z + m - dn z

pub encoded : (k : ℕ) (z : ℤ) → dn z ≤ 2 ^ (k + 1) → bits_of k z ≡ over (2 ^ (k + 1)) z % 2 ^ (k + 1)
unfolding bits_of
encoded k (pos n) h =
    let M : ℕ = 2 ^ (k + 1) in
    let e : over M (pos n) - M ≡ n = omega arith in
    sym (mod-eq-sub-mod {n = over M (pos n)} {m = M} (omega arith) ∙ ap (λ (x : ℕ). x % M) e)
encoded k (negsuc n) h =
    let M : ℕ = 2 ^ (k + 1) in
    omega (arith, mod-eq_of_lt {n = n} {m = M} (omega arith), mod-eq_of_lt {n = over M (negsuc n)} {m = M} (omega arith))

-- the sum as code has it
abbrev raised : Width → ℕ → ℤ → ℤ
raised w m z = to_z w (of_z w (to_z w (of_z w z) +ℤ pos m))

-- `((z + 2 ^ (k + 1)) as u32) % 2 ^ (k + 1)`: what the sum asks, what the cast asks, and what is left
module _ {w : Width} {z : ℤ} (k : ℕ) (l : k + 1 < hbits w) (f : SFits w z) (h : nat_abs z < 2 ^ (k + 1)) where
  room : 2 * 2 ^ (k + 1) ≤ 2 ^ hbits w
  room = omega (arith, twice-pow (k + 1), pow_mono {i = k + 1 + 1} {j = hbits w} (omega arith))

  pub over-fits : SFits w (to_z w (of_z w z) +ℤ pos (2 ^ (k + 1)))
  over-fits = omega (ints, seen f, abs_is z, room)

  over-is : raised w (2 ^ (k + 1)) z ≡ pos (over (2 ^ (k + 1)) z)
  over-is = let fits = over-fits in omega (ints, seen f, abs_is z)

  pub over-cast : T (non_neg (raised w (2 ^ (k + 1)) z)) × Fits w (nat_abs (raised w (2 ^ (k + 1)) z))
  over-cast = rw over-is (tt, record { fits = omega (arith, abs_is z, room, pow-bits w) })

  pub over-low : nat_abs (raised w (2 ^ (k + 1)) z) % 2 ^ (k + 1) ≡ bits_of k z
  over-low = rw over-is (sym (encoded k z (omega (arith, abs_is z))))
