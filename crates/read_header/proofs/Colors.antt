-- Laws on a table of colours that a loop fills. Assumes nothing.
use Rattle.std.specs.Prelude.{Some, None, Option}
use Prim.Native.Nat.{ℕ, suc, ◌+◌, ◌*◌, ◌^◌, ◌-◌, ◌≤◌, ◌<◌, min}
use mathlib.Core.Path.{◌≡◌, refl, sym, ap, subst, ◌∙◌}
use mathlib.Core.Bool.{Bool, ◌&&◌}
use mathlib.Core.List.{List, [], ◌∷◌}
use native.Mathlib.Omega.{arith}
use native.Mathlib.Decide.{dec_lt}
use borrow.Author.Tests.{le-leb, leb-true, leb-false}
use lib.Dec.{leb}
use mir.Syntax.{w32}
use mir.Val.{to_z, of_z}
use lib.IntN.{ℤ, pos, nat_abs}
use lib.Signed.{le_z, lt_z, mag}
use lib.ListN.{length, get_or, set, drop, length-set}
use lib.Seq.{get_or-set_same, get_or-set_other}
use Rattle.rules.specs.Vocabulary.{pick}
use Rattle.rules.specs.Text.{begins, trimmed, word_at}
use Rattle.rules.specs.Dst.{line_color, add_color, six_digits, drop_hashes, before_comma}
use Rattle.rules.specs.Layout.{Stored, shade, shade_at}
use Rattle.rules.specs.Jef.{jef_count}
use Rattle.rules.specs.declared.Color.{Color}
use Rattle.laws.specs.Ints.{ret, lt-true, lt-false, true-le, false-le}
use Rattle.laws.specs.Tests.{by-test, pick_true, pick-false, pick-both}
use Rattle.read_header.specs.Words.{word_of}
use Rattle.read_header.specs.Colors.{Held, Cells, Added}
use Rattle.read_header.proofs.Lines.{begun-long}

-- one cell more
pub held_more : (f : ℕ → Stored) (cells : List ℕ) (i v : ℕ) → i < length cells → Held (f i) v
    → ((k : ℕ) → k < i → Held (f k) (get_or cells k 0)) → (k : ℕ) → k < i + 1 → Held (f k) (get_or (set cells i v) k 0)
held_more f cells i v l h w k lt = elim (dec_lt k i) [
  | yes p ↦ rw (get_or-set_other cells i k v 0 (λ e. omega arith)) (w k p)
  | no p ↦
      let e : i ≡ k = omega arith in
      subst (λ (j : ℕ). Held (f j) (get_or (set cells i v) j 0)) e (rw (get_or-set_same cells i v 0 l) h)
]

-- the first k of n cells hold what is stored
pub record Filled (f : ℕ → Stored) (first cells : List ℕ) (n k : ℕ) : Type 0 where
  pub upto : k ≤ n
  pub most : n ≤ 256
  pub size : length cells ≡ length first
  pub held : (j : ℕ) → j < k → Held (f j) (get_or cells j 0)

module _ {f : ℕ → Stored} {first : List ℕ} {n : ℕ} where
  pub filled-start : n ≤ 256 → Filled f first first n 0
  filled-start h = record { upto = omega arith; most = h; size = refl; held = λ j l. absurd (omega arith) }

  pub filled_more : {cells : List ℕ} {k : ℕ} (v : ℕ) → 256 ≤ length first → k < n → Held (f k) v → Filled f first cells n k
      → Filled f first (set cells k v) n (k + 1)
  filled_more {cells} {k} v room l h w = record {
    upto = omega arith;
    most = w.most;
    size = length-set cells k v ∙ w.size;
    held = held_more f cells k v (omega arith) h w.held;
  }

-- n colours of a whole list are in the cells, and the rest are to come; each took four bytes at least
pub record Listed (whole rest : List Color) (cells : List ℕ) (n at : ℕ) : Type 0 where
  pub size : 256 ≤ length cells
  pub bytes : 4 * n ≤ at
  pub held : (k : ℕ) → k < n → Held (shade_at whole k) (get_or cells k 0)
  pub after : (j : ℕ) → shade_at whole (n + j) ≡ shade_at rest j

pub listed_start : (whole : List Color) (cells : List ℕ) → 256 ≤ length cells → Listed whole whole cells 0 0
listed_start whole cells e = record {
  size = e;
  bytes = omega arith;
  held = λ k l. absurd (omega arith);
  after = λ j. let p : 0 + j ≡ j = omega arith in ap (shade_at whole) p;
}

pub listed-done : (whole : List Color) {rest : List Color} {cells : List ℕ} {n at : ℕ} → rest ≡ [] → at ≤ 513 → Listed whole rest cells n at
    → Cells (shade_at whole) cells n
unfolding shade_at
listed-done whole {rest} {cells} {n} {at} e l w = record {
  room = omega arith;
  here = w.held;
  past = λ k h. let p : k ≡ n + (k - n) = omega arith in ap (shade_at whole) p ∙ w.after (k - n) ∙ ap (λ (t : List Color). shade_at t (k - n)) e;
}

module _ (whole : List Color) (cells : List ℕ) (n at e : ℕ) (room : n < 256) where
  one_more : (t : Color) (rest : List Color) {v : ℕ} → Held (shade t) v → 3 ≤ e - at → Listed whole (t ∷ rest) cells n at
      → Listed whole rest (set cells n v) (n + 1) (e + 1)
  unfolding shade_at
  one_more t rest {v} g l w =
      let h : shade_at whole n ≡ shade t = let p : n + 0 ≡ n = omega arith in ap (shade_at whole) (sym p) ∙ w.after 0 in
      record {
        size = omega (arith, length-set cells n v);
        bytes = omega arith;
        held = held_more (shade_at whole) cells n v (omega arith) (subst (λ (s : Stored). Held s v) (sym h) g) w.held;
        after = λ j. let p : n + 1 + j ≡ n + suc j = omega arith in ap (shade_at whole) p ∙ w.after (suc j);
      }

  pub listed_more : (c : Option Color) {rest rest' : List Color} {r : ℕ} {cells' : List ℕ} → Added c n cells r cells' → rest ≡ add_color c rest' → at ≤ e
      → ((t : Color) → c ≡ Some t → 3 ≤ e - at) → Listed whole rest cells n at → Listed whole rest' cells' r (e + 1)
  unfolding add_color
  listed_more None {rest} {rest'} g p l long w = rw (g.0, g.1) (record {
    size = w.size;
    bytes = omega arith;
    held = w.held;
    after = λ j. w.after j ∙ ap (λ (t : List Color). shade_at t j) p;
  })
  listed_more (Some t) {rest} {rest'} g p l long w =
      rw (g.0, g.1.1.1) (one_more t rest' g.1.1.0 (long t refl) (subst (λ (r : List Color). Listed whole r cells n at) p w))

-- a line that gives a colour begins with three bytes
pub color-long : (l : List ℕ) (t : Color) → line_color l ≡ Some t → 3 ≤ length l
unfolding line_color
color-long l t e = by-test (begins (0x54 ∷ 0x43 ∷ 0x3A ∷ []) l) (begun-long l (0x54 ∷ 0x43 ∷ 0x3A ∷ []))
    (λ b. let z : ◌≡◌ {A = Option Color} None (Some t) = sym (ap (λ (x : Bool). pick x (six_digits (drop_hashes (trimmed (before_comma (drop 3 l))))) None) b) ∙ e in
    let y : ◌≡◌ {A = ℕ} 0 1 = cc in absurd (omega arith))

pub jef-most : (s : List ℕ) {n : ℕ} → n ≡ jef_count s → n ≤ 256
unfolding jef_count
jef-most s e = rw e (pick-both (λ (n : ℕ). n ≤ 256) (leb 28 (length s) && le_z (pos 0) (word_at 24 s)) (omega arith) (omega arith))

-- ---- a number that is there, and one that is missing

module _ (at : ℕ) (s : List ℕ) {w : Option ℤ} (i : w ≡ word_of at s) where
  pub word-there : {z : ℤ} → w ≡ Some z → mag z < 2 ^ 31 → (at + 4 ≤ length s) × (word_at at s ≡ to_z w32 (of_z w32 z))
  word-there {z} e h = by-test (leb (at + 4) (length s))
      (λ b. let q = pick_true (Some (word_at at s)) None b in let y : word_at at s ≡ z = cc in (leb-true _ _ b, y ∙ sym (ret w32 z h)))
      (λ b. let q = pick-false (Some (word_at at s)) None b in let y : ◌≡◌ {A = ℕ} 0 1 = cc in absurd (omega arith))

  pub word-missing : w ≡ None → length s < at + 4
  word-missing e = by-test (leb (at + 4) (length s))
      (λ b. let q = pick_true (Some (word_at at s)) None b in let y : ◌≡◌ {A = ℕ} 0 1 = cc in absurd (omega arith))
      (leb-false _ _)

-- the count of a JEF file, by the number at 24
abbrev pub counted : ℤ → ℕ
counted z = pick (lt_z z (pos 0)) 0 (min (nat_abs z) 256)

pub jef-counted : (s : List ℕ) {w : Option ℤ} {z : ℤ} → w ≡ word_of 24 s → w ≡ Some z → mag z < 2 ^ 31 → jef_count s
    ≡ counted (to_z w32 (of_z w32 z))
unfolding jef_count
jef-counted s {w} {z} i e h = let t = word-there 24 s i e h in let y : ℤ = to_z w32 (of_z w32 z) in
    rw (le-leb 28 (length s) t.0, t.1) (by-test (lt_z y (pos 0))
    (λ n. rw (n, false-le (pos 0) y (omega (arith, lt-true y (pos 0) n))))
    (λ n. rw (n, true-le (pos 0) y (omega (arith, lt-false y (pos 0) n)))))
