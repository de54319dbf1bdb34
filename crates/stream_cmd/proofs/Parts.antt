-- A DST record from the bits of its two steps. Assumes nothing.
use Prim.Native.Nat.{ℕ, zero, suc, ◌+◌, ◌*◌, ◌≤◌, ◌<◌}
use mathlib.Core.Path.{◌≡◌}
use mathlib.Core.Bool.{Bool, true, false}
use mathlib.Core.List.{List}
use native.Mathlib.Omega.{arith}
use lib.IntN.{ℤ, pos, nat_abs, ◌+ℤ◌, ◌-ℤ◌}
use lib.ListN.{get_or}
use Rattle.rules.specs.Vocabulary.{little, from_little}
use Rattle.rules.specs.Dst.{digit, z27, z9, z3, z1, pair, dst_bytes}
use Rattle.laws.specs.Ints.{ints, abs_is, abs-le, sub-law}
use Rattle.laws.specs.Little.{little-from}
use Rattle.stream_cmd.specs.Cmds.{along, Parts}
use Rattle.stream_cmd.proofs.Digits.{pair-most, still}

module _ (k : ℕ) (x y : ℤ) where
  module _ (h : k ≤ 131) where
    -- each of the three is a byte: the bits of x, of y and of the kind are disjoint
    small : (i : ℕ) → i < 3 → get_or (dst_bytes k x y) i 0 < 256
    unfolding dst_bytes
    small zero l = omega (arith, pair-most 0x01 0x02 (digit 0 (z1 x)), pair-most 0x04 0x08 (digit 4 (z9 x)), pair-most 0x20 0x10 (digit 4 (z9 y)), pair-most 0x80 0x40 (digit 0 (z1 y)))
    small (suc zero) l = omega (
      arith,
      pair-most 0x01 0x02 (digit 1 (z3 x)),
      pair-most 0x04 0x08 (digit 13 (z27 x)),
      pair-most 0x20 0x10 (digit 13 (z27 y)),
      pair-most 0x80 0x40 (digit 1 (z3 y)),
    )
    small (suc (suc zero)) l = omega (arith, pair-most 0x04 0x08 (digit 40 x), pair-most 0x20 0x10 (digit 40 y))
    small (suc (suc (suc i))) l = absurd (omega arith)

    pub packed-most : from_little (dst_bytes k x y) < 16777216
    unfolding from_little dst_bytes
    packed-most = omega (arith, small 0 (omega arith), small 1 (omega arith), small 2 (omega arith))

    pub unpacked : little 3 (from_little (dst_bytes k x y)) ≡ dst_bytes k x y
    unfolding dst_bytes
    unpacked = little-from (dst_bytes k x y) small

  -- the three bytes of a record, in one number
  pub in_one : {r : List ℕ} → r ≡ dst_bytes k x y → get_or r 0 0 + 256 * get_or r 1 0 + 65536 * get_or r 2 0 ≡ from_little (dst_bytes k x y)
  unfolding from_little dst_bytes
  in_one e = rw e (omega arith)

  -- the bits of a record are those of its kind and its two steps
  pub bits-sum : 65536 * k + from_little (along true x) + from_little (along false y) ≡ from_little (dst_bytes k x y)
  unfolding from_little dst_bytes pair
  bits-sum = let o = still in rw (o.d81, o.d27, o.d9, o.d3, o.d1) (omega arith)

-- the entry of a step
pub part_at : {wide : Bool} {s : List ℕ} (z : ℤ) (t : ℕ) → Parts wide s → nat_abs z ≤ 121 → pos t ≡ z +ℤ pos 121 → (t < 243) × (get_or s t 0 ≡ from_little (along wide z))
part_at z t p h e =
    let l : t < 243 = omega (ints, abs_is z) in
    let d : z ≡ pos t -ℤ pos 121 = omega ints in
    (l, rw d (p.each t l))

-- two numbers that are near each other
pub apart : (a b n : ℕ) → a ≤ n + b → b ≤ n + a → nat_abs (pos a -ℤ pos b) ≤ n
apart a b n h l = let d = sub-law (pos a) (pos b) in abs-le (pos a -ℤ pos b) n (omega arith) (omega arith)
