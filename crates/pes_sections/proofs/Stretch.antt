-- The stitches to the end of an open run at once: their bytes, what is measured, the log. Assumes nothing.
use Prim.Native.Nat.{ℕ, zero, suc, ◌+◌, ◌-◌, ◌*◌, ◌≤◌, ◌<◌}
use mathlib.Core.Path.{◌≡◌, refl, sym, ◌∙◌}
use mathlib.Core.Bool.{Bool, false, not}
use lib.Dec.{eqb}
use mathlib.Core.List.{List, ◌++◌, append_assoc}
use native.Mathlib.Omega.{arith}
use borrow.Author.Tests.{eqb-true, not-false}
use lib.IntN.{ℤ, pos}
use lib.ListN.{length, drop, get_or}
use Rattle.rules.specs.Lists.{commands}
use Rattle.rules.specs.Pes.{PesState, run_length, pes_sections, color_log, shorts}
use Rattle.rules.specs.declared.Cmd.{Cmd}
use Rattle.rules.specs.declared.Color.{Color}
use Rattle.pes_section_cmd.specs.States.{moved_to}
use Rattle.pes_sections.specs.Alike.{Alike, points}
use Rattle.pes_sections.proofs.Points.{points-more, points_none}
use Rattle.pes_sections.proofs.Runs.{run-span, run-alike}
use Rattle.pes_sections.proofs.Steps.{Sizing, new_at, next-bytes, on-bytes, on-state, sizing-on, log-on}

-- the commands from i to before j are stitches of a run that is open
pub record Stretch (j : ℕ) (xs ys : List ℤ) (ks : List ℕ) (i before : ℕ) : Type 0 where
  pub some : i < j
  pub inside : j ≤ length (commands xs ys ks)
  pub opened : before ≡ 0
  pub stitches : Alike ks 0 i j

-- to the end of the run that goes on at i
pub stretch-from : {xs ys : List ℤ} {ks : List ℕ} {i j before : ℕ} {new : Bool} → i < length (commands xs ys ks) → new ≡ not (eqb (get_or ks i 0) before)
    → (new ≡ false) × (get_or ks i 0 ≡ 0) → j ≡ i + run_length (get_or ks i 0) (drop i (commands xs ys ks)) → Stretch j xs ys ks i before
stretch-from {xs} {ys} {ks} {i} l e on end = record {
  some = (run-span xs ys ks i l end).0;
  inside = (run-span xs ys ks i l end).1;
  opened = sym (eqb-true _ _ (not-false _ (sym e ∙ on.0))) ∙ on.1;
  stitches = λ k a b. run-alike xs ys ks i l k a (omega arith) ∙ on.1;
}

module _ (xs ys : List ℤ) (ks : List ℕ) where
  abbrev cs : List Cmd
  cs = commands xs ys ks

  -- where the stitch at i leads
  abbrev moved_by : PesState → ℕ → PesState
  moved_by s i = moved_to s (get_or xs i (pos 0)) (get_or ys i (pos 0))

  -- what holds at j, and before a stitch where it holds behind it, holds at i
  module _ (P : ℕ → PesState → Type 0) (j : ℕ)
      (f : (k : ℕ) (t : PesState) → new_at xs ys ks k t ≡ false → get_or ks k 0 ≡ 0 → k < j → P (k + 1) (moved_by t k) → P k t) where
    one : {i : ℕ} (s : PesState) → Stretch j xs ys ks i s.before → P (i + 1) (moved_by s i) → P i s
    one {i} s w = let first = w.stitches i (omega arith) w.some in f i s (rw (first, w.opened)) first w.some

    each : (n i : ℕ) (s : PesState) → j ≡ i + suc n → Stretch j xs ys ks i s.before → P j (moved_by s (j - 1)) → P i s
    each zero i s e w p = let last : j - 1 ≡ i = omega arith in let end : j ≡ i + 1 = omega arith in one s w (rw (last, end) at p)
    each (suc n) i s e w p =
        one s w
        (each n (i + 1) (moved_by s i) (omega arith)
        (record { some = omega arith; inside = w.inside; opened = w.opened; stitches = λ k a b. w.stitches k (omega arith) b }) p)

    all : {i : ℕ} (s : PesState) → Stretch j xs ys ks i s.before → P j (moved_by s (j - 1)) → P i s
    all {i} s w = each (j - i - 1) i s (omega (arith, w.some)) w

module _ {xs ys : List ℤ} {ks : List ℕ} {i j : ℕ} (s : PesState) (w : Stretch j xs ys ks i s.before) (ts : List Color) where
  abbrev end : PesState
  end = moved_by xs ys ks s (j - 1)

  pub stretch-bytes : (left bottom : ℤ)
      → pes_sections left bottom ts s (drop i (cs xs ys ks)) ≡ points left bottom xs ys i (j - i) ++ pes_sections left bottom ts end (drop j (cs xs ys ks))
  stretch-bytes left bottom =
      all xs ys ks
      (λ k t. pes_sections left bottom ts t (drop k (cs xs ys ks)) ≡ points left bottom xs ys k (j - k) ++ pes_sections left bottom ts end (drop j (cs xs ys ks)))
      j
      (λ k t old stitch l e.
      rw (points-more left bottom xs ys k j l, append_assoc, ← e)
      (rw (on-bytes xs ys ks k t ts old stitch left bottom, on-state xs ys ks k t ts old stitch)
      at (next-bytes xs ys ks k t ts (omega (arith, w.inside)) left bottom)))
      s w (rw (points_none left bottom xs ys j j (omega arith)))

  pub stretch-log : (last : ℕ) → shorts (color_log ts last s (drop i (cs xs ys ks))) ≡ shorts (color_log ts last end (drop j (cs xs ys ks)))
  stretch-log last =
      all xs ys ks (λ k t. shorts (color_log ts last t (drop k (cs xs ys ks))) ≡ shorts (color_log ts last end (drop j (cs xs ys ks))))
      j (λ k t old stitch l e. log-on xs ys ks k t ts old stitch (omega (arith, w.inside)) last ∙ e) s w refl

  pub stretch-sizing : {bytes logged last : ℕ} → Sizing ts (cs xs ys ks) i s bytes logged last
      → Sizing ts (cs xs ys ks) j end (bytes + 4 * (j - i)) logged last
  stretch-sizing {bytes} {logged} {last} z =
      let none : bytes + 4 * (i - i) ≡ bytes = omega arith in
      all xs ys ks
      (λ k t. i ≤ k → Sizing ts (cs xs ys ks) k t (bytes + 4 * (k - i)) logged last → Sizing ts (cs xs ys ks) j end (bytes + 4 * (j - i)) logged last)
      j
      (λ k t old stitch l p h z.
      let sum : bytes + 4 * (k - i) + 4 ≡ bytes + 4 * (k + 1 - i) = omega arith in
      p (omega arith) (rw sum at (sizing-on xs ys ks k t ts old stitch (omega (arith, w.inside)) z)))
      s w (λ h z. z) (omega arith) (rw none z)
