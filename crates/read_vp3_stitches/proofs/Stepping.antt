-- The events of stitches unfold by one step, whatever the fuel; one law for each kind of step at a place. Assumes nothing.
use Prim.Native.Nat.{ℕ, ◌+◌, ◌-◌, ◌*◌, ◌≤◌, ◌<◌}
use mathlib.Core.Path.{◌≡◌, refl, ◌∙◌}
use mathlib.Core.List.{List, [], ◌∷◌}
use native.Mathlib.Omega.{arith}
use borrow.Author.Tests.{eq-eqb, ne_eqb, lt-ltb, le-ltb, ltb-true, ltb-false, eqb-true, eqb-false}
use lib.Dec.{ltb, eqb}
use lib.IntN.{ℤ}
use lib.ListN.{length, get_or, take, drop, length-drop}
use lib.Seq.{drop-drop}
use Rattle.rules.specs.Vocabulary.{signed}
use Rattle.rules.specs.Records.{stitch}
use Rattle.rules.specs.Vp3.{from_big, long_then, control_then, pair_then, stitch_events}
use Rattle.laws.specs.Tests.{by-test}
use Rattle.laws.specs.Vp3Reading.{stitches-step}
use Rattle.read_records.proofs.Parts.{drop-two}
use Rattle.read_records.proofs.Signs.{signed-size}
use Rattle.read_vp3_stitches.specs.Steps.{long_of, StepAt}
use Rattle.read_vp3_stitches.specs.declared.steps.Step.{Step}
use Rattle.read_vp3_stitches.specs.declared.steps.Step.TheVariants.{Stitch, EndRun, Nothing, Finish}

-- ---- one step

short : (s : List ℕ) → length s < 2 → pair_then stitch_events s ≡ []
unfolding pair_then
short [] h = refl
short (a ∷ []) h = refl
short (a ∷ b ∷ s) h = absurd (omega arith)

-- ---- at a place

module _ (s : List ℕ) (i : ℕ) where
  pub end-at : length s < i + 2 → stitch_events (drop i s) ≡ []
  end-at h = stitches-step (drop i s) ∙ short (drop i s) (omega (arith, length-drop i s))

  pair-at : i + 2 ≤ length s → (get_or s i 0 ≡ 128 → ⊥)
      → stitch_events (drop i s) ≡ stitch (signed 7 (get_or s i 0)) (signed 7 (get_or s (i + 1) 0)) ∷ stitch_events (drop (i + 2) s)
  unfolding pair_then
  pair-at h k = stitches-step (drop i s) ∙ rw (drop-two s i (omega arith), ne_eqb _ _ k)

  control-at : i + 2 ≤ length s → get_or s i 0 ≡ 128
      → stitch_events (drop i s) ≡ control_then stitch_events (get_or s (i + 1) 0) (drop (i + 2) s)
  unfolding pair_then
  control-at h k = stitches-step (drop i s) ∙ rw (drop-two s i (omega arith), eq-eqb _ _ k)

  -- as the step there says it
  pub finish-at : length s < i + 2 → StepAt s i Finish
  finish-at h = record { tells = end-at h; inside = omega arith; moves = tt }

  pub stitch-at : i + 2 ≤ length s → (get_or s i 0 ≡ 128 → ⊥) → StepAt s i (Stitch (signed 7 (get_or s i 0)) (signed 7 (get_or s (i + 1) 0)) 2)
  stitch-at h k = record {
    tells = pair-at h k;
    inside = h;
    moves = (omega arith, (omega (arith, signed-size 7 (get_or s i 0)), omega (arith, signed-size 7 (get_or s (i + 1) 0))));
  }

  module _ (h : i + 2 ≤ length s) (k : get_or s i 0 ≡ 128) where
    pub end-run-at : get_or s (i + 1) 0 ≡ 3 → StepAt s i EndRun
    unfolding control_then
    end-run-at e = record { tells = control-at h k ∙ rw e; inside = h; moves = tt }

    pub nothing-at : (get_or s (i + 1) 0 ≡ 1 → ⊥) → (get_or s (i + 1) 0 ≡ 3 → ⊥) → StepAt s i Nothing
    unfolding control_then
    nothing-at e f = record { tells = control-at h k ∙ rw (ne_eqb _ _ e, ne_eqb _ _ f); inside = h; moves = tt }

    cut_at : get_or s (i + 1) 0 ≡ 1 → length s < i + 6 → StepAt s i Finish
    unfolding control_then long_then
    cut_at e l = record {
      tells = control-at h k ∙ rw (e, lt-ltb (length (drop (i + 2) s)) 4 (omega (arith, length-drop (i + 2) s)));
      inside = omega arith;
      moves = tt;
    }

    abbrev field : ℕ → ℤ
    field j = signed 15 (from_big (take 2 (drop j s)))

    far_at : get_or s (i + 1) 0 ≡ 1 → i + 6 ≤ length s → StepAt s i (Stitch (field (i + 2)) (field (i + 4)) 6)
    unfolding control_then long_then
    far_at e l =
        let four : i + 2 + 2 ≡ i + 4 = omega arith in
        let six : i + 2 + 4 ≡ i + 6 = omega arith in
        record {
          tells = control-at h k ∙ rw (e, le-ltb (length (drop (i + 2) s)) 4 (omega (arith, length-drop (i + 2) s)), drop-drop 2 (i + 2) s, drop-drop 4 (i + 2) s, four, six);
          inside = l;
          moves = (omega arith, (omega (arith, signed-size 15 (from_big (take 2 (drop (i + 2) s)))), omega (arith, signed-size 15 (from_big (take 2 (drop (i + 4) s))))));
        }

    pub long-at : get_or s (i + 1) 0 ≡ 1 → StepAt s i (long_of i s)
    long-at e = by-test (ltb (length s - i) 6)
        (λ t. rw t (cut_at e (omega (arith, ltb-true (length s - i) 6 t))))
        (λ t. rw t (far_at e (omega (arith, ltb-false (length s - i) 6 t))))

-- ---- there is a step at every place

pub record Somehow (s : List ℕ) (i : ℕ) : Type 0 where
  pub step : Step
  pub there : StepAt s i step

module _ (s : List ℕ) (i : ℕ) where
  after-80 : i + 2 ≤ length s → get_or s i 0 ≡ 128 → Somehow s i
  after-80 h k = by-test (eqb (get_or s (i + 1) 0) 1)
      (λ e. record { step = long_of i s; there = long-at s i h k (eqb-true _ _ e) })
      (λ e. by-test (eqb (get_or s (i + 1) 0) 3)
      (λ f. record { step = EndRun; there = end-run-at s i h k (eqb-true _ _ f) })
      (λ f. record { step = Nothing; there = nothing-at s i h k (eqb-false _ _ e) (eqb-false _ _ f) }))

  pub somehow : Somehow s i
  somehow = by-test (ltb (length s) (i + 2))
      (λ e. record { step = Finish; there = finish-at s i (ltb-true _ _ e) })
      (λ e. by-test (eqb (get_or s i 0) 128)
      (λ f. after-80 (ltb-false _ _ e) (eqb-true _ _ f))
      (λ f. record { step = Stitch (signed 7 (get_or s i 0)) (signed 7 (get_or s (i + 1) 0)) 2; there = stitch-at s i (ltb-false _ _ e) (eqb-false _ _ f) }))

-- ---- 16 bits

pub word_at : (s : List ℕ) (i : ℕ) → i + 2 ≤ length s → 256 * get_or s i 0 + get_or s (i + 1) 0 ≡ from_big (take 2 (drop i s))
unfolding from_big
word_at s i h = rw (drop-two s i (omega arith)) (omega arith)
