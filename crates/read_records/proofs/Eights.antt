-- PEC: two records from byte i on, by eight bytes under a mask. Assumes nothing.
use Prim.Native.Nat.{ℕ, ◌+◌, ◌*◌, ◌/◌, ◌%◌, ◌≤◌, ◌<◌}
use mathlib.Core.Path.{◌≡◌, sym, ap, ◌∙◌}
use mathlib.Core.Bool.{Bool, true, not, ◌&&◌, ◌||◌}
use mathlib.Core.List.{List, [], ◌∷◌}
use native.Mathlib.Omega.{arith}
use native.Mathlib.Nat.{add_assoc}
use borrow.Author.Tests.{eqb-true, eq-eqb, ltb-true, leb-true, lt-ltb, le-ltb}
use lib.Bits.{bit_and, and_block, and_le_l}
use lib.Dec.{ltb, leb, eqb}
use lib.ListN.{length, get_or, drop}
use lib.Seq.{drop-drop}
use Rattle.rules.specs.Vocabulary.{from_little}
use Rattle.rules.specs.Pec.{after_axis, both_axes, pec_first}
use Rattle.rules.specs.declared.Record.TheVariants.{StitchBy}
use Rattle.laws.specs.Tables.{checked}
use Rattle.laws.specs.Tests.{is_true, and_left, and_right}
use Rattle.read_records.specs.Words.{four_at, eight_at, axis_step, first_part, masked}
use Rattle.read_records.proofs.Pecs.{axis-short, axis-long, pec-move}

-- ---- masks of bytes

-- one byte of a number under a mask, and the rest of it
peel : (a v b m x y : ℕ) → a < 256 → m < 256 → y < 256 → bit_and (a + 256 * v) (m + 256 * b) ≡ y + 256 * x
    → (bit_and a m ≡ y) × (bit_and v b ≡ x)
peel a v b m x y ha hm hy e =
    let p : v * 256 + a ≡ a + 256 * v = omega arith in
    let q : b * 256 + m ≡ m + 256 * b = omega arith in
    let k : bit_and (v * 256 + a) (b * 256 + m) ≡ bit_and v b * 256 + bit_and a m = and_block 8 v b a m ha hm in
    let l : bit_and v b * 256 + bit_and a m ≡ y + 256 * x = sym k ∙ rw (p, q) e in
    (omega (arith, and_le_l a m), omega (arith, and_le_l a m))

abbrev Bytes : List ℕ → Type 0
Bytes [] = Unit {0}
Bytes (b ∷ bs) = (b < 256) × Bytes bs

-- each byte has the value under its mask
abbrev Each : List ℕ → List ℕ → List ℕ → Type 0
Each [] ms ys = Unit {0}
Each (b ∷ bs) [] ys = Unit {0}
Each (b ∷ bs) (m ∷ ms) [] = Unit {0}
Each (b ∷ bs) (m ∷ ms) (y ∷ ys) = (bit_and b m ≡ y) × Each bs ms ys

each : (bs ms ys : List ℕ) → Bytes bs → Bytes ms → Bytes ys → bit_and (from_little bs) (from_little ms) ≡ from_little ys → Each bs ms ys
unfolding from_little
each [] ms ys hb hm hy e = tt
each (b ∷ bs) [] ys hb hm hy e = tt
each (b ∷ bs) (m ∷ ms) [] hb hm hy e = tt
each (b ∷ bs) (m ∷ ms) (y ∷ ys) hb hm hy e =
    let p = peel b (from_little bs) (from_little ms) m (from_little ys) y hb.0 hm.0 hy.0 e in
    (p.0, each bs ms ys hb.1 hm.1 hy.1 p.1)

-- ---- one byte

short : ℕ → Bool
short b = not (eqb (bit_and b 0x80) 0x00) || ltb b 128

is-short : (b : ℕ) → b < 256 → bit_and b 0x80 ≡ 0x00 → b < 128
unfolding short
is-short b h e = ltb-true b 128 (is_true (ltb b 128) (rw (eq-eqb _ _ e) at (checked short 256 tt b h)))

-- two bytes, and no bit of a jump
record Long (b : ℕ) : Type 0 where
  high : 128 ≤ b
  plain : b / 16 % 4 ≡ 0

long : ℕ → Bool
long b = not (eqb (bit_and b 0xB0) 0x80) || (leb 128 b && eqb (b / 16 % 4) 0)

is-long : (b : ℕ) → b < 256 → bit_and b 0xB0 ≡ 0x80 → Long b
unfolding long
is-long b h e =
    let k : leb 128 b && eqb (b / 16 % 4) 0 ≡ true = is_true (leb 128 b && eqb (b / 16 % 4) 0) (rw (eq-eqb _ _ e) at (checked long 256 tt b h)) in
    record { high = leb-true 128 b (and_left _ _ k); plain = eqb-true _ _ (and_right (leb 128 b) _ k) }

-- ---- one record

module _ (s : List ℕ) (i : ℕ) (small : (k : ℕ) → get_or s k 0 < 256) where
  short-short : i + 1 < length s → bit_and (get_or s i 0) 0x80 ≡ 0x00 → bit_and (get_or s (i + 1) 0) 0x80 ≡ 0x00
      → pec_first (drop i s) ≡ StitchBy (first_part (get_or s i 0)) (first_part (get_or s (i + 1) 0)) 2
  unfolding after_axis both_axes
  short-short h a b =
      let k = is-short _ (small i) a in let l = is-short _ (small (i + 1)) b in
      pec-move s i h (λ p q. omega arith) (λ p q. omega arith)
      ∙ rw (axis-short s i (omega arith) k, drop-drop 1 i s, axis-short s (i + 1) h l, lt-ltb _ 128 k, lt-ltb _ 128 l)

  short-long : i + 2 < length s → bit_and (get_or s i 0) 0x80 ≡ 0x00 → bit_and (get_or s (i + 1) 0) 0xB0 ≡ 0x80
      → pec_first (drop i s) ≡ StitchBy (first_part (get_or s i 0)) (axis_step (get_or s (i + 1) 0) (get_or s (i + 2) 0)) 3
  unfolding after_axis both_axes
  short-long h a b =
      let k = is-short _ (small i) a in let l = is-long _ (small (i + 1)) b in
      pec-move s i (omega arith) (λ p q. omega arith) (λ p q. omega arith)
      ∙ rw (axis-short s i (omega arith) k, drop-drop 1 i s, axis-long s (i + 1) (omega arith) l.high, l.plain, add_assoc i 1 1)
      (rw (lt-ltb _ 128 k, le-ltb _ 128 l.high))

  long-long : i + 3 < length s → bit_and (get_or s i 0) 0xB0 ≡ 0x80 → bit_and (get_or s (i + 2) 0) 0xB0 ≡ 0x80
      → pec_first (drop i s) ≡ StitchBy (axis_step (get_or s i 0) (get_or s (i + 1) 0)) (axis_step (get_or s (i + 2) 0) (get_or s (i + 3) 0)) 4
  unfolding after_axis both_axes
  long-long h a b =
      let k = is-long _ (small i) a in let l = is-long _ (small (i + 2)) b in
      pec-move s i (omega arith) (λ p q. omega (arith, k.plain)) (λ p q. omega (arith, k.plain))
      ∙ rw (axis-long s i (omega arith) k.high, k.plain, drop-drop 2 i s, axis-long s (i + 2) (omega arith) l.high, l.plain, add_assoc i 2 1)
      (rw (le-ltb _ 128 k.high, le-ltb _ 128 l.high))

-- ---- two records

module _ (s : List ℕ) (i : ℕ) (small : (k : ℕ) → get_or s k 0 < 256) where
  bytes : List ℕ
  bytes =
      get_or s i 0 ∷ get_or s (i + 1) 0 ∷ get_or s (i + 2) 0 ∷ get_or s (i + 3) 0
      ∷ get_or s (i + 4) 0 ∷ get_or s (i + 5) 0 ∷ get_or s (i + 6) 0 ∷ get_or s (i + 7) 0 ∷ []

  eight_is : eight_at s i ≡ from_little bytes
  unfolding bytes four_at from_little
  eight_is = simp add_assoc (omega arith)

  bits : (ms ys : List ℕ) → Bytes ms → Bytes ys → masked (from_little ms) (from_little ys) (eight_at s i) ≡ true → Each bytes ms ys
  unfolding bytes
  bits ms ys hm hy e =
      each bytes ms ys (small _, (small _, (small _, (small _, (small _, (small _, (small _, (small _, tt)))))))) hm hy
      (ap (λ (v : ℕ). bit_and v (from_little ms)) (sym eight_is) ∙ eqb-true (bit_and (eight_at s i) (from_little ms)) (from_little ys) e)

  module _ (h : i + 8 ≤ length s) where
    pub two-short-here : masked 0x80808080 0 (eight_at s i) ≡ true
        → (pec_first (drop i s) ≡ StitchBy (first_part (get_or s i 0)) (first_part (get_or s (i + 1) 0)) 2)
        × (pec_first (drop (i + 2) s) ≡ StitchBy (first_part (get_or s (i + 2) 0)) (first_part (get_or s (i + 3) 0)) 2)
    unfolding bytes from_little
    two-short-here e =
        let k = bits (0x80 ∷ 0x80 ∷ 0x80 ∷ 0x80 ∷ 0 ∷ 0 ∷ 0 ∷ 0 ∷ []) (0 ∷ 0 ∷ 0 ∷ 0 ∷ 0 ∷ 0 ∷ 0 ∷ 0 ∷ []) (omega arith) (omega arith) e in (
          short-short s i small (omega arith) k.0 k.1.0,
          simp (add_assoc i 2 1) at (short-short s (i + 2) small (omega arith) k.1.1.0 (simp (add_assoc i 2 1) k.1.1.1.0)),
        )

    pub two-long-here : masked 0x00B000B000B000B0 0x0080008000800080 (eight_at s i) ≡ true
        → (pec_first (drop i s) ≡ StitchBy (axis_step (get_or s i 0) (get_or s (i + 1) 0)) (axis_step (get_or s (i + 2) 0) (get_or s (i + 3) 0)) 4)
        × (pec_first (drop (i + 4) s) ≡ StitchBy (axis_step (get_or s (i + 4) 0) (get_or s (i + 5) 0)) (axis_step (get_or s (i + 6) 0) (get_or s (i + 7) 0)) 4)
    unfolding bytes from_little
    two-long-here e =
        let k = bits (0xB0 ∷ 0 ∷ 0xB0 ∷ 0 ∷ 0xB0 ∷ 0 ∷ 0xB0 ∷ 0 ∷ []) (0x80 ∷ 0 ∷ 0x80 ∷ 0 ∷ 0x80 ∷ 0 ∷ 0x80 ∷ 0 ∷ []) (omega arith)
        (omega arith) e in (
          long-long s i small (omega arith) k.0 k.1.1.0,
          simp (add_assoc i 4 1, add_assoc i 4 2, add_assoc i 4 3) at (long-long s (i + 4) small (omega arith) k.1.1.1.1.0
              (simp (add_assoc i 4 2) k.1.1.1.1.1.1.0)),
        )

    pub short-long-here : masked 0x000000B08000B080 0x0000008000008000 (eight_at s i) ≡ true
        → (pec_first (drop i s) ≡ StitchBy (first_part (get_or s i 0)) (axis_step (get_or s (i + 1) 0) (get_or s (i + 2) 0)) 3)
        × (pec_first (drop (i + 3) s) ≡ StitchBy (first_part (get_or s (i + 3) 0)) (axis_step (get_or s (i + 4) 0) (get_or s (i + 5) 0)) 3)
    unfolding bytes from_little
    short-long-here e =
        let k = bits (0x80 ∷ 0xB0 ∷ 0 ∷ 0x80 ∷ 0xB0 ∷ 0 ∷ 0 ∷ 0 ∷ []) (0 ∷ 0x80 ∷ 0 ∷ 0 ∷ 0x80 ∷ 0 ∷ 0 ∷ 0 ∷ []) (omega arith)
        (omega arith) e in (
          short-long s i small (omega arith) k.0 k.1.0,
          simp (add_assoc i 3 1, add_assoc i 3 2) at (short-long s (i + 3) small (omega arith) k.1.1.1.0
              (simp (add_assoc i 3 1) k.1.1.1.1.0)),
        )
