-- Runs of stitches whose steps take one byte each, and that no step between neighbours is too long. Assumes nothing.
use Prim.Native.Nat.{ℕ, zero, suc, ◌+◌, ◌-◌, ◌*◌, ◌≤◌, ◌<◌}
use mathlib.Core.Path.{◌≡◌, refl}
use mathlib.Core.Bool.{false}
use mathlib.Core.List.{List, [], ◌∷◌, ◌++◌}
use native.Mathlib.Numerals.{add-one}
use native.Mathlib.Omega.{arith}
use lib.IntN.{ℤ, pos, ◌-ℤ◌}
use lib.ListN.{length, drop, get_or}
use lib.Dec.{ltb}
use borrow.Author.Tests.{ltb-true, ltb-false}
use mir.Syntax.{w32}
use Rattle.rules.specs.Vocabulary.{bits_of}
use Rattle.rules.specs.Lists.{commands, any_from}
use Rattle.rules.specs.Pec.{PecState, pec_next, pec_stitches}
use Rattle.rules.specs.Refusals.{steps_past, step_too_long}
use Rattle.rules.specs.declared.Cmd.{Cmd}
use Rattle.rules.specs.declared.Format.TheVariants.{Pec}
use Rattle.rules.specs.declared.Op.TheVariants.{Stitch}
use Rattle.laws.specs.Tests.{by-test}
use Rattle.laws.specs.Ints.{ret}
use Rattle.pec_cmd.specs.States.{Step}
use Rattle.pec.specs.Shorts.{step_to, ShortAt, Shorts, pairs}
use Rattle.pec_cmd.proofs.Values.{both_bytes}
use Rattle.pec.proofs.Stream.{read_at, Held, stitch, plain-going, plain_step_lem, plain-near}

-- the step to place i, as the code reads it
pub read_step : (zs : List ℤ) (i : ℕ) → Held zs (i - 1) → Held zs i → read_at zs i -ℤ read_at zs (i - 1) ≡ step_to zs i
read_step zs i p q = rw (ret w32 (get_or zs (i - 1) (pos 0)) p, ret w32 (get_or zs i (pos 0)) q)

-- ---- the commands of a run

module _ (xs ys : List ℤ) (ks : List ℕ) (i : ℕ) where
  pub shorts-none : Shorts xs ys ks i i
  shorts-none k p q = absurd (omega arith)

  pub shorts-more : (j : ℕ) → Shorts xs ys ks i j → ShortAt xs ys ks j → Shorts xs ys ks i (j + 1)
  shorts-more j w t = λ k p q. by-test (ltb k j)
      (λ e. w k p (ltb-true k j e))
      (λ e. let f : j ≡ k = omega (arith, ltb-false k j e) in rw f at t)

  pub shorts-join : (j n : ℕ) → Shorts xs ys ks i j → Shorts xs ys ks j n → Shorts xs ys ks i n
  shorts-join j n w v = λ k p q. by-test (ltb k j)
      (λ e. w k p (ltb-true k j e))
      (λ e. v k (ltb-false k j e) q)

-- ---- the bytes of a run

module _ (xs ys : List ℤ) where
  pub length_pairs : (i n : ℕ) → length (pairs xs ys i n) ≡ 2 * n
  unfolding pairs
  length_pairs i zero = refl
  length_pairs i (suc n) = omega (arith, length_pairs (suc i) n)

  -- one more, of those from k to before j
  pub more-pairs : (k j : ℕ) → k < j → pairs xs ys k (j - k) ≡ (bits_of 6 (step_to xs k) ∷ bits_of 6 (step_to ys k) ∷ []) ++ pairs xs ys (k + 1) (j - (k + 1))
  unfolding pairs
  more-pairs k j h = let e : j - k ≡ suc (j - (k + 1)) = omega arith in rw (e, add-one k)

  pub no_pairs : (k j : ℕ) → j ≤ k → pairs xs ys k (j - k) ≡ []
  unfolding pairs
  no_pairs k j h = let e : j - k ≡ 0 = omega arith in rw e

-- ---- in the list

less : (i : ℕ) → suc i - 1 ≡ i
less i = omega arith

module _ (xs ys : List ℤ) (ks : List ℕ) where
  abbrev cs : List Cmd
  cs = commands xs ys ks

  module _ (e : step_too_long Pec cs ≡ false) where
    near-after : (i : ℕ) → i < length cs → any_from (steps_past Pec) (get_or xs i (pos 0)) (get_or ys i (pos 0)) (drop (i + 1) cs) ≡ false
    unfolding step_too_long
    near-after zero l = plain-near xs ys ks 0 (pos 0) (pos 0) l e
    near-after (suc i) l = plain-near xs ys ks (suc i) (get_or xs i (pos 0)) (get_or ys i (pos 0)) l (rw (add-one i) at (near-after i (omega arith)))

    -- no step from i on is too long, from the place before
    pub near-from : (i : ℕ) → 0 < i → i ≤ length cs → any_from (steps_past Pec) (get_or xs (i - 1) (pos 0)) (get_or ys (i - 1) (pos 0)) (drop i cs) ≡ false
    near-from zero h l = absurd (omega arith)
    near-from (suc i) h l = rw (less i, ← add-one i) (near-after i (omega arith))

    pub near_step : (i : ℕ) → 0 < i → i < length cs → Step (step_to xs i) (step_to ys i)
    near_step i h l = plain_step_lem xs ys ks i (get_or xs (i - 1) (pos 0)) (get_or ys (i - 1) (pos 0)) l (near-from i h (omega arith))

  -- The bytes of the commands from i on are those of a run to j, and those of the commands from there.
  module _ (s : PecState) (b : s.jumped ≡ false) (g : pec_next s Stitch ≡ s) where
    abbrev from : ℕ → List ℕ
    from i = pec_stitches s (get_or xs (i - 1) (pos 0)) (get_or ys (i - 1) (pos 0)) (drop i cs)

    run : (n i j : ℕ) → j ≡ i + n → 0 < i → j ≤ length cs → Shorts xs ys ks i j → from i ≡ pairs xs ys i n ++ from j
    unfolding pairs
    run zero i j e h l w = let f : j ≡ i = omega arith in rw f
    run (suc n) i j e h l w =
        let t = w i (omega arith) (omega arith) in
        rw (
          plain-going xs ys ks i (get_or xs (i - 1) (pos 0)) (get_or ys (i - 1) (pos 0)) (omega arith) s (record { jumped = b; stitch = stitch (get_or ks i 0) t.stitch; stays = g }),
          both_bytes (step_to xs i) (step_to ys i) (t.x, t.y),
          add-one i,
          rw (less i) at (run n (suc i) j (omega arith) (omega arith) l (λ k p q. w k (omega arith) q)),
        )

    pub run-bytes : (i j : ℕ) → 0 < i → i ≤ j → j ≤ length cs → Shorts xs ys ks i j → from i ≡ pairs xs ys i (j - i) ++ from j
    run-bytes i j h k l w = run (j - i) i j (omega arith) h l w
