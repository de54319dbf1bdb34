-- A tally goes with the steps one by one, and two stitches at once; there is room for what the bytes left can add. Assumes nothing.
use Prim.Native.Nat.{ℕ, ◌+◌, ◌-◌, ◌*◌, ◌≤◌, ◌<◌}
use mathlib.Core.Path.{◌≡◌, refl, sym, ap, ◌∙◌}
use mathlib.Core.List.{List}
use native.Mathlib.Omega.{arith}
use lib.IntN.{ℤ}
use lib.ListN.{length, drop}
use Rattle.rules.specs.Vp3.{stitch_events}
use Rattle.read_count.specs.Tallies.{tallied, tallied_many, SmallTally}
use Rattle.read_count.specs.declared.tally.Passed.{Passed}
use Rattle.read_count.specs.declared.tally.Tally.{Tally}
use Rattle.read_vp3_stitches.specs.Steps.{next_of, StepAt}
use Rattle.read_vp3_stitches.specs.Tallies.{tally_all, Spare, Counts}
use Rattle.read_vp3_stitches.specs.declared.steps.Step.{Step}
use Rattle.read_vp3_stitches.specs.declared.steps.Step.TheVariants.{Stitch, EndRun, Nothing, Finish}
use Rattle.read_vp3_stitches.proofs.Stepping.{end-at}

-- what a step makes of a tally
abbrev pub tallied_by : Step → Tally → Tally
tallied_by (Stitch dx dy n) t = tallied 1 t
tallied_by EndRun t = tallied 0 t
tallied_by Nothing t = t
tallied_by Finish t = t

pub spare-small : {t : Tally} {n : ℕ} → Spare t n → SmallTally t
spare-small h = omega (arith, h)

-- after a stitch, n of them and m runs
abbrev sewn : Tally → ℕ → ℕ → Tally
sewn t n m = record { stitches = n; runs = m; running = 1; first = t.first; blocks = t.blocks }

twice : (t : Tally) → tallied 1 (tallied 1 t) ≡ tallied_many 2 t
twice t =
    let e : t.stitches + 1 + 1 ≡ t.stitches + 2 = omega arith in
    let f : t.runs + 1 * (1 - t.running) + 1 * (1 - 1) ≡ t.runs + (1 - t.running) = omega arith in
    ap (λ (n : ℕ). sewn t n (t.runs + 1 * (1 - t.running) + 1 * (1 - 1))) e ∙ ap (sewn t (t.stitches + 2)) f

-- ---- one step

spare-next : (s : List ℕ) (t : Tally) (at : ℕ) (r : Step) → at ≤ length s → Spare t (length s - at) → StepAt s at r
    → Spare (tallied_by r t) (length s - next_of s at r)
spare-next s t at (Stitch dx dy n) l h e = omega (arith, h, e.inside, e.moves)
spare-next s t at EndRun l h e = omega (arith, h, e.inside)
spare-next s t at Nothing l h e = omega (arith, h, e.inside)
spare-next s t at Finish l h e = omega (arith, h)

tells-next : (s : List ℕ) (t : Tally) (at : ℕ) (r : Step) → StepAt s at r
    → tally_all t (stitch_events (drop at s)) ≡ tally_all (tallied_by r t) (stitch_events (drop (next_of s at r) s))
unfolding tally_all
tells-next s t at (Stitch dx dy n) e = ap (tally_all t) e.tells
tells-next s t at EndRun e = ap (tally_all t) e.tells
tells-next s t at Nothing e = ap (tally_all t) e.tells
tells-next s t at Finish e = ap (tally_all t) (e.tells ∙ sym (end-at s (length s) (omega arith)))

pub step-later : {s : List ℕ} {at : ℕ} (r : Step) → StepAt s at r → at < length s → at < next_of s at r
step-later (Stitch dx dy n) e l = omega (arith, e.moves)
step-later EndRun e l = omega arith
step-later Nothing e l = omega arith
step-later Finish e l = l

module _ {s : List ℕ} {t : Tally} {at : ℕ} (l : at ≤ length s) (h : Spare t (length s - at)) where
  pub counts-none : Counts s t at (record { t = t; at = at })
  counts-none = record { tells = refl; inside = l; spare = h }

  pub counts_step : (r : Step) → StepAt s at r → Counts s t at (record { t = tallied_by r t; at = next_of s at r })
  counts_step r e = record { tells = tells-next s t at r e; inside = e.inside; spare = spare-next s t at r l h e }

pub counts_start : {s : List ℕ} {t : Tally} → Spare t (length s) → Counts s t 0 (record { t = t; at = 0 })
counts_start h = counts-none (omega arith) (omega (arith, h))

-- some steps, and then some more
pub counts-on : {s : List ℕ} {t : Tally} {at : ℕ} {p q : Passed} → Counts s t at p → Counts s p.t p.at q → Counts s t at q
counts-on g k = record { tells = g.tells ∙ k.tells; inside = k.inside; spare = k.spare }

-- all of them
pub counts-done : {s : List ℕ} {t : Tally} {at : ℕ} {p : Passed} → Counts s t at p → length s ≤ p.at → p.t ≡ tally_all t (stitch_events (drop at s))
unfolding tally_all
counts-done {s} {p = p} g l = sym (g.tells ∙ ap (tally_all p.t) (end-at s p.at (omega arith)))

-- what one step ensures, and two stitches of a pair each
module _ {s : List ℕ} {t : Tally} {at : ℕ} (l : at ≤ length s) (h : Spare t (length s - at)) where
  pub counted : (r : Step) → StepAt s at r → {t' : Tally} → t' ≡ tallied_by r t → {j : ℕ} → j ≡ next_of s at r
      → Counts s t at (record { t = t'; at = j }) × (at < length s → at < j)
  counted r e et ej = rw (et, ej) (counts_step l h r e, step-later r e)

  pub counted-two : {dx dy ex ey : ℤ} → StepAt s at (Stitch dx dy 2) → StepAt s (at + 2) (Stitch ex ey 2) → {t' : Tally} → t' ≡ tallied_many 2 t
      → Counts s t at (record { t = t'; at = at + 4 })
  counted-two {dx} {dy} {ex} {ey} e f et =
      let g = counts_step l h (Stitch dx dy 2) e in
      let four : at + 2 + 2 ≡ at + 4 = omega arith in
      rw (et, ← twice t, ← four) (counts-on g (counts_step g.inside g.spare (Stitch ex ey 2) f))
