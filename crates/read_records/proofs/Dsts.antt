-- DST: the first record from byte i on. Assumes nothing.
use Prim.Native.Nat.{ℕ, ◌+◌, ◌%◌, ◌<◌}
use mathlib.Core.Path.{◌≡◌, refl, sym, ◌∙◌}
use mathlib.Core.Bool.{Bool, true, false, not, ◌||◌}
use mathlib.Core.List.{List, [], ◌∷◌}
use native.Mathlib.Omega.{arith}
use native.Mathlib.Nat.{mod-eq_of_lt}
use borrow.Author.Tests.{ne_eqb}
use lib.Bits.{bit_and, bit_or, and_le_l, and_le_r, and_mod, or_add_and}
use lib.Dec.{T}
use lib.IntN.{ℤ}
use lib.ListN.{length, get_or, drop, length-drop}
use Rattle.rules.specs.Dst.{dst_x, dst_y, under, dst_record, dst_first}
use Rattle.rules.specs.declared.Record.{Record}
use Rattle.rules.specs.declared.Record.TheVariants.{StitchBy, JumpBy, ChangeBy, Finish}
use Rattle.laws.specs.Tables.{below as all_below, checked}
use Rattle.laws.specs.Tests.{by-test}
use Rattle.read_records.proofs.Parts.{drop-three}

short : (l : List ℕ) → length l < 3 → dst_first l ≡ Finish
unfolding dst_first
short [] h = refl
short (a ∷ []) h = refl
short (a ∷ b ∷ []) h = refl
short (a ∷ b ∷ c ∷ l) h = absurd (omega arith)

-- all that three bytes say
abbrev pub dst_of : ℕ → ℕ → ℕ → Record
dst_of a b c = dst_record c (dst_x a b c) (dst_y a b c)

module _ (s : List ℕ) (i : ℕ) where
  pub dst-short : length s < i + 3 → dst_first (drop i s) ≡ Finish
  dst-short h = short (drop i s) (omega (arith, length-drop i s))

  pub dst-whole : i + 2 < length s → dst_first (drop i s) ≡ dst_of (get_or s i 0) (get_or s (i + 1) 0) (get_or s (i + 2) 0)
  unfolding dst_first
  dst-whole h = rw (drop-three s i h)

-- ---- the third byte

-- no mask fits a byte below it
below : (m c : ℕ) → c < m → under m c ≡ false
unfolding under
below m c h = ne_eqb (bit_and c m) m (λ e. omega (arith, and_le_l c m))

-- a mask of 8 bits sees the low 8 bits
low_bits : (m c : ℕ) → m < 256 → under m c ≡ under m (c % 256)
unfolding under
low_bits m c h =
    let p : bit_and c m % 256 ≡ bit_and c m = mod-eq_of_lt (omega (arith, and_le_r c m)) in
    let q : m % 256 ≡ m = mod-eq_of_lt h in
    let e : bit_and c m ≡ bit_and (c % 256) m = rw (p, q) at (and_mod c m 8) in
    rw e

-- a byte under mask m is under that of a jump
jumps : ℕ → ℕ → Bool
jumps m c = under 0x83 c || not (under m c)

no-mask : (m : ℕ) → m < 256 → T (all_below (jumps m) 256) → (c : ℕ) → under 0x83 c ≡ false → under m c ≡ false
unfolding jumps
no-mask m h t c e =
    let d : ℕ = c % 256 in
    let p : under 0x83 d ≡ false = sym (low_bits 0x83 c (omega arith)) ∙ e in
    let k : T (under 0x83 d || not (under m d)) = checked (jumps m) 256 t d (omega arith) in
    low_bits m c h ∙ by-test (under m d) (λ q. absurd (rw (p, q) at k)) (λ q. q)

pub no_end : (c : ℕ) → under 0x83 c ≡ false → under 0xF3 c ≡ false
unfolding jumps under
no_end = no-mask 0xF3 (omega arith) tt

pub no_change : (c : ℕ) → under 0x83 c ≡ false → under 0xC3 c ≡ false
unfolding jumps under
no_change = no-mask 0xC3 (omega arith) tt

-- neither of two numbers is above their `or`
pub or-below : (a b : ℕ) {n : ℕ} → bit_or a b < n → (a < n) × (b < n)
or-below a b h = (omega (arith, or_add_and a b, and_le_r a b), omega (arith, or_add_and a b, and_le_l a b))

module _ (s : List ℕ) (i : ℕ) where
  abbrev pub step_x : ℤ
  step_x = dst_x (get_or s i 0) (get_or s (i + 1) 0) (get_or s (i + 2) 0)

  abbrev pub step_y : ℤ
  step_y = dst_y (get_or s i 0) (get_or s (i + 1) 0) (get_or s (i + 2) 0)

  module _ (h : i + 2 < length s) where
    pub dst-ended : under 0xF3 (get_or s (i + 2) 0) ≡ true → dst_first (drop i s) ≡ Finish
    unfolding dst_record
    dst-ended e = dst-whole s i h ∙ rw e

    pub dst-change : under 0xF3 (get_or s (i + 2) 0) ≡ false → under 0xC3 (get_or s (i + 2) 0) ≡ true → dst_first (drop i s) ≡ ChangeBy step_x step_y 3
    unfolding dst_record
    dst-change e f = dst-whole s i h ∙ rw (e, f)

    pub dst-jump : under 0xF3 (get_or s (i + 2) 0) ≡ false → under 0xC3 (get_or s (i + 2) 0) ≡ false → under 0x83 (get_or s (i + 2) 0) ≡ true
        → dst_first (drop i s) ≡ JumpBy step_x step_y 3
    unfolding dst_record
    dst-jump e f g = dst-whole s i h ∙ rw (e, f, g)

    pub dst-stitch : under 0x83 (get_or s (i + 2) 0) ≡ false → dst_first (drop i s) ≡ StitchBy step_x step_y 3
    unfolding dst_record
    dst-stitch e = dst-whole s i h ∙ rw (no_end _ e, no_change _ e, e)

    pub dst-sewn : get_or s (i + 2) 0 < 128 → dst_first (drop i s) ≡ StitchBy step_x step_y 3
    dst-sewn k = dst-stitch (below 0x83 _ (omega arith))
