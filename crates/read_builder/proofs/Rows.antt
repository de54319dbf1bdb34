-- What an event makes of the cuts that are left: the counter's steps and the rules' rows. Assumes nothing.
use Prim.Native.Nat.{ℕ, zero, suc, ◌+◌, ◌≤◌, ◌<◌}
use mathlib.Core.Path.{◌≡◌, refl, sym, ap, ◌∙◌}
use mathlib.Core.Bool.{true, false, ◌&&◌}
use mathlib.Core.List.{List, [], ◌∷◌}
use native.Mathlib.Nat.{zero-add}
use native.Mathlib.Numerals.{add-one}
use native.Mathlib.Omega.{arith}
use borrow.Author.Tests.{le-leb, lt-leb}
use lib.Dec.{leb}
use lib.IntN.{ℤ}
use Rattle.rules.specs.Dst.{jumps_first, stitch_next, cut_next, dst_cuts}
use Rattle.rules.specs.Records.{Event, stitch, jump, change}
use Rattle.rules.specs.Vocabulary.{pick}
use Rattle.laws.specs.Tests.{and-no-right}
use Rattle.read_builder.specs.Cuts.{cuts_left, Kept}

-- nothing comes
pub none_left : (s : ℕ) → cuts_left s [] ≡ 0
unfolding dst_cuts stitch_next
none_left zero = refl
none_left (suc n) = rw (and-no-right (leb 3 (n + jumps_first [])) false refl)

module _ (dx dy : ℤ) (es : List Event) where
  -- a stitch behind fewer than three jumps, or three and more
  pub stitch-alone : (s : ℕ) → s < 4 → cuts_left 1 es ≡ cuts_left s (stitch dx dy ∷ es)
  unfolding dst_cuts cut_next jumps_first stitch_next
  stitch-alone zero h = simp zero-add
  stitch-alone (suc n) h = rw (lt-leb 3 (n + 0) (omega arith)) (simp zero-add)

  pub stitch-cuts : (s : ℕ) → 4 ≤ s → 1 + cuts_left 1 es ≡ cuts_left s (stitch dx dy ∷ es)
  unfolding dst_cuts cut_next jumps_first stitch_next
  stitch-cuts zero h = absurd (omega arith)
  stitch-cuts (suc n) h = rw (le-leb 3 (n + 0) (omega arith)) (simp zero-add)

  -- a jump before the block's first stitch, or behind a stitch
  pub jump-early : (s : ℕ) → s ≡ 0 → cuts_left s es ≡ cuts_left s (jump dx dy ∷ es)
  unfolding dst_cuts
  jump-early s e = rw e

  pub jump-on : (s : ℕ) → (s ≡ 0 → ⊥) → cuts_left (s + 1) es ≡ cuts_left s (jump dx dy ∷ es)
  unfolding dst_cuts jumps_first stitch_next
  jump-on zero h = absurd (h refl)
  jump-on (suc n) h =
      let e : suc n + jumps_first es ≡ n + suc (jumps_first es) = omega arith in
      rw (add-one (suc n), e)

  -- a colour change
  pub change-ends : (s : ℕ) → cuts_left 0 es ≡ cuts_left s (change dx dy ∷ es)
  unfolding dst_cuts jumps_first stitch_next
  change-ends zero = refl
  change-ends (suc n) = rw (and-no-right (leb 3 (n + 0)) false refl) (simp zero-add)

-- ---- the same, with the cuts counted

module _ (s n : ℕ) (dx dy : ℤ) where
  pub kept-sewing : s ≡ 1 → Kept (stitch dx dy) s n s n
  kept-sewing e es = rw e (ap (λ (m : ℕ). n + m) (stitch-alone dx dy es 1 (omega arith)))

  pub kept-alone : s < 4 → Kept (stitch dx dy) s n 1 n
  kept-alone h es = ap (λ (m : ℕ). n + m) (stitch-alone dx dy es s h)

  pub kept-cut : 4 ≤ s → Kept (stitch dx dy) s n 1 (n + 1)
  kept-cut h es = omega (arith, stitch-cuts dx dy es s h)

  pub kept-early : s ≡ 0 → Kept (jump dx dy) s n 0 n
  kept-early e es = rw e (ap (λ (m : ℕ). n + m) (jump-early dx dy es 0 refl))

  pub kept_on : (s ≡ 0 → ⊥) → Kept (jump dx dy) s n (s + 1) n
  kept_on h es = ap (λ (m : ℕ). n + m) (jump-on dx dy es s h)

  pub kept-change : Kept (change dx dy) s n 0 n
  kept-change es = ap (λ (m : ℕ). n + m) (change-ends dx dy es s)
