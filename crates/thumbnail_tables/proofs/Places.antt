-- Places as the code reads them, the stretch of a pixel, and a table that is filled by stretches.
use Rattle.std.proofs.Common.{◌≡◌, ℕ, zero, suc, ◌+◌, ◌-◌, ◌*◌, ◌/◌, ◌<◌, ◌≤◌, Bool, true, false, not, T, List, length, get_or, set, replicate, ℤ, pos, ◌+ℤ◌, ◌-ℤ◌, nat_abs, ◌≤ℤ◌, ◌<ℤ◌, sym, refl, ap, ◌∙◌, div-lt_iff_lt-mul, arith, ltb→lt, lt→ltb, nltb→le, length-set, get_or-set_other, get_or-set_same, to_z-of_z, w32, w64, Fits, SFits, to_z, of_z}
use native.Mathlib.Decide.{dec_lt}
use lib.Ieee.{Float, nan, inf, fin, binary64, up, down, lt, of_bits, to_unsigned}
use lib.Ieee.Fits.{down_pos}
use lib.Seq.{sets, length-sets}
use lib.Signed.{non_neg}
use mir.Facts.{to_z_pos}
use Rattle.rules.specs.Lists.{commands}
use Rattle.rules.specs.Thumbnails.{floor_of, within, pixel_at}
use Rattle.thumbnail_scale.specs.Places.{scaled_at}
use Rattle.laws.specs.Ints.{ints, abs_is, abs-le, parts, add-law, sub-law, one0}
use Rattle.laws.specs.Listing.{commands-at}
use Rattle.thumbnail_tables.specs.Cells.{cell_of, Filled, From, Framed, Inside, AllInside}
use Rattle.thumbnail_tables.proofs.Between.{between-pixels}

-- a test that does not fail
pub un_not : (b : Bool) → not b ≡ false → b ≡ true
un_not true e = refl
un_not false e = sym e

-- ---- so many steps from a place

module _ {from : ℤ} {i : ℕ} (h : nat_abs from ≤ 98304) (l : i ≤ 32768) (f : SFits w32 from) where
  pub place-fits : SFits w32 (to_z w32 (of_z w32 from) +ℤ to_z w32 i)
  place-fits = rw (to_z-of_z f, to_z_pos w32 {n = i} (omega arith)) (omega (ints, abs_is from))

  pub place_is : to_z w32 (of_z w32 (to_z w32 (of_z w32 from) +ℤ to_z w32 i)) ≡ from +ℤ pos i
  place_is = to_z-of_z place-fits ∙ rw (to_z-of_z f, to_z_pos w32 {n = i} (omega arith))

-- and back
module _ {from z : ℤ} (h : nat_abs from ≤ 65536) (l : from ≤ℤ z) (u : z <ℤ (from +ℤ pos 32768)) (f : SFits w32 from) (g : SFits w32 z) where
  pub index-fits : SFits w32 (to_z w32 (of_z w32 z) -ℤ to_z w32 (of_z w32 from))
  index-fits = rw (to_z-of_z f, to_z-of_z g) (omega (ints, abs_is from, add-law from (pos 32768)))

  index : to_z w32 (of_z w32 (to_z w32 (of_z w32 z) -ℤ to_z w32 (of_z w32 from))) ≡ z -ℤ from
  index = to_z-of_z index-fits ∙ rw (to_z-of_z f, to_z-of_z g)

  pub index-cast : T (non_neg (to_z w32 (of_z w32 (to_z w32 (of_z w32 z) -ℤ to_z w32 (of_z w32 from))))) × Fits w32 (nat_abs (to_z w32 (of_z w32 (to_z w32 (of_z w32 z) -ℤ to_z w32 (of_z w32 from)))))
  index-cast = rw index (omega (ints, abs_is from, add-law from (pos 32768), sub-law z from), omega (ints, abs_is from, add-law from (pos 32768), sub-law z from))

  pub index-wide : Fits w64 (nat_abs (to_z w32 (of_z w32 (to_z w32 (of_z w32 z) -ℤ to_z w32 (of_z w32 from)))))
  index-wide = rw index (omega (ints, abs_is from, add-law from (pos 32768), sub-law z from))

  pub index_is : nat_abs (to_z w32 (of_z w32 (to_z w32 (of_z w32 z) -ℤ to_z w32 (of_z w32 from)))) ≡ nat_abs (z -ℤ from)
  index_is = ap nat_abs index

-- a place by its index
pub by_index : (from z : ℤ) → from ≤ℤ z → from +ℤ pos (nat_abs (z -ℤ from)) ≡ z
by_index from z l = parts (from +ℤ pos (nat_abs (z -ℤ from))) z (omega (ints, abs_is (z -ℤ from), one0 (z -ℤ from), sub-law z from, add-law from (pos (nat_abs (z -ℤ from)))))

pub index-lt : (from z : ℤ) (n : ℕ) → from ≤ℤ z → z <ℤ (from +ℤ pos n) → nat_abs (z -ℤ from) < n
index-lt from z n l u = omega (ints, abs_is (z -ℤ from), one0 (z -ℤ from), sub-law z from, add-law from (pos n))

pub near : (z : ℤ) (i : ℕ) → nat_abs z ≤ 65536 → i ≤ 32768 → nat_abs (z +ℤ pos i) ≤ 98304
near z i h l = abs-le (z +ℤ pos i) 98304 (omega (arith, abs_is z, add-law z (pos i))) (omega (arith, abs_is z, add-law z (pos i)))

pub no_step : (z : ℤ) → z +ℤ pos 0 ≡ z
no_step z = parts (z +ℤ pos 0) z (omega (arith, add-law z (pos 0)))

pub steps : (z : ℤ) (i k : ℕ) → i ≤ k → z +ℤ pos i +ℤ pos (k - i) ≡ z +ℤ pos k
steps z i k h = parts _ _ (omega (arith, add-law (z +ℤ pos i) (pos (k - i)), add-law z (pos i), add-law z (pos k)))

-- what `index_of` asks, and where its answer lies
pub index-asks : {from z l u : ℤ} {n : ℕ} → l ≡ from → u ≡ z → nat_abs from ≤ 65536 → n ≤ 32768 → From from n z → (nat_abs l ≤ 65536) × ((l ≤ℤ u) × (u <ℤ (l +ℤ pos 32768)))
index-asks {from} {n = n} e f h k p = rw (e, f) (h, (p.start, omega (ints, p.end, add-law from (pos n), add-law from (pos 32768))))

pub at-index : {from z l u : ℤ} {n r : ℕ} → l ≡ from → u ≡ z → r ≡ nat_abs (u -ℤ l) → From from n z → r < n
at-index {from} {z} {n = n} e f g p = rw (g, e, f) (index-lt from z n p.start p.end)

pub framed_at : (left top : ℤ) (w h : ℕ) (xs ys : List ℤ) (ks : List ℕ) (i : ℕ) → Framed left w top h (commands xs ys ks) → i < length (commands xs ys ks) → From left w
    (get_or xs i (pos 0)) × From top h (get_or ys i (pos 0))
framed_at left top w h xs ys ks i f l = rw (commands-at xs ys ks i l) at (f i l)

-- two indexes into the tables, and the cells there
pub record Seen (columns rows : List ℕ) (x y : ℕ) : Type 0 where
  pub across : x < 32768
  pub down : y < 32768
  pub column : x < length columns
  pub row : y < length rows
  pub cells : Inside (get_or columns x 0) (get_or rows y 0)

pub seen : {columns rows : List ℕ} (w h : ℕ) {x y : ℕ} → AllInside w h columns rows → w ≤ 32768 → h ≤ 32768 → x < w → y < h → Seen columns rows x y
seen w h {x} {y} all l m a b =
    let t = all x y a b in
    record { across = omega arith; down = omega arith; column = t.0.0; row = t.0.1; cells = t.1 }

-- ---- a stretch

-- a pixel number as the calls give it
pub pixel-read : (scale t : Float) {q : ℕ} {x : Float} {u v : ℤ} → q ≡ within (floor_of x) → x ≡ scaled_at u scale t → u ≡ v → q ≡ pixel_at v scale t
pixel-read scale t e f g = e ∙ ap (λ (x : Float). within (floor_of x)) f ∙ ap (λ (u : ℤ). pixel_at u scale t) g

module _ (scale t : Float) (z : ℤ) {p : ℕ} (e : p ≡ pixel_at z scale t) where
  pub alone : (k : ℕ) → k < 1 → pixel_at (z +ℤ pos k) scale t ≡ p
  alone zero l = rw (no_step z) (sym e)
  alone (suc k) l = absurd (omega arith)

  pub together : (m : ℕ) → lt (of_bits binary64 0) scale ≡ true → p < 48 → pixel_at (z +ℤ pos (m - 1)) scale t ≡ p → (k : ℕ) → k < m → pixel_at (z +ℤ pos k) scale t ≡ p
  together m s l e' k h = between-pixels scale t z k (m - 1) p s (omega arith) l (sym e) e'

-- ---- a float from 0 to below 65536

pub cut_range : (x : Float) → T (not (lt x (of_bits binary64 0))) → T (lt x (of_bits binary64 0x40f0_0000_0000_0000)) → T (lt (fin true 1 (pos 0)) x) × T (lt x (fin false 1 (pos 64)))
unfolding lt of_bits
cut_range nan s t = absurd t
cut_range (inf true) s t = absurd s
cut_range (inf false) s t = absurd t
cut_range (fin false m e) s t = (
  lt→ltb 0 (1 * down e + m * up e * 1) (omega (arith, down_pos e)),
  lt→ltb (m * up e * 1) (18446744073709551616 * down e) (omega (arith, down_pos e, ltb→lt (m * up e * 1) (65536 * down e) t)),
)
cut_range (fin true m e) s t = (
  lt→ltb (m * up e * 1) (1 * down e) (omega (arith, down_pos e, nltb→le 0 (m * up e * 1 + 0 * down e) s)),
  lt→ltb 0 (m * up e * 1 + 18446744073709551616 * down e) (omega (arith, down_pos e)),
)

pub cut-le : (x : Float) → T (lt x (of_bits binary64 0x40f0_0000_0000_0000)) → to_unsigned 64 x ≤ 65536
unfolding lt of_bits to_unsigned
cut-le nan t = absurd t
cut-le (inf true) t = omega arith
cut-le (inf false) t = absurd t
cut-le (fin false m e) t =
    let h : m * up e / down e < 65536 = (div-lt_iff_lt-mul (down_pos e)).1 (omega (arith, ltb→lt (m * up e * 1) (65536 * down e) t)) in
    omega arith
cut-le (fin true m e) t = omega arith

-- ---- a table filled by stretches

before-fill : (m : ℕ) (d : List ℕ) (i v k : ℕ) → k < i → get_or (sets d i (replicate m v)) k 0 ≡ get_or d k 0
before-fill zero d i v k h = refl
before-fill (suc m) d i v k h = before-fill m (set d i v) (suc i) v k (omega arith) ∙ get_or-set_other d i k v 0 (λ e. absurd (omega arith))

in-fill : (m : ℕ) (d : List ℕ) (i v k : ℕ) → i + m ≤ length d → i ≤ k → k < i + m → get_or (sets d i (replicate m v)) k 0 ≡ v
in-fill zero d i v k h l b = absurd (omega arith)
in-fill (suc m) d i v k h l b = elim (dec_lt i k) [
  | yes n ↦ in-fill m (set d i v) (suc i) v k (omega (arith, length-set d i v)) n (omega arith)
  | no n ↦ before-fill m (set d i v) (suc i) v k (omega arith) ∙ rw (same n) (get_or-set_same d i v 0 (omega arith))
]
  where
    same : (i < k → ⊥) → k ≡ i
    same n = omega arith

back : (i m : ℕ) → i + m - i ≡ m
back i m = omega arith

pub fill-long : (table : List ℕ) (i m v : ℕ) {table' : List ℕ} → table' ≡ sets table i (replicate m v) → length table' ≡ length table
fill-long table i m v e = ap length e ∙ length-sets table i (replicate m v)

module _ (down : Bool) (scale t : Float) (from : ℤ) where
  pub filled_none : (table : List ℕ) → Filled down scale t from 0 table
  filled_none table k h = absurd (omega arith)

  -- a stretch of m places from i on, of one pixel number
  pub filled_more : (table : List ℕ) (i m p : ℕ) {z : ℤ} {v : ℕ} {table' : List ℕ} → i + m ≤ length table → z ≡ from +ℤ pos i → v ≡ cell_of down p
      → ((k : ℕ) → k < m → pixel_at (z +ℤ pos k) scale t ≡ p) → table' ≡ sets table i (replicate (i + m - i) v) → Filled down scale t from i table → Filled down scale t from (i + m) table'
  filled_more table i m p {z} {v} h ez ev s et f k l = elim (dec_lt k i) [
    | yes b ↦ rw (et, back i m) (before-fill m table i v k b ∙ f k b)
    | no b ↦ rw (et, back i m) (in-fill m table i v k h (omega arith) l ∙ ev ∙ ap (cell_of down) (sym (sym (ap (λ (u : ℤ). pixel_at u scale t) (place b)) ∙ s (k - i) (omega arith))))
  ]
    where
      place : (k < i → ⊥) → z +ℤ pos (k - i) ≡ from +ℤ pos k
      place b = ap (λ (u : ℤ). u +ℤ pos (k - i)) ez ∙ steps from i k (omega arith)
