-- One step: what it puts and what is to come behind it are what was to come; and so for some steps in a row. Assumes nothing.
use Prim.Native.Nat.{ℕ, ◌+◌, ◌-◌, ◌*◌, ◌^◌, ◌≤◌, ◌<◌}
use mathlib.Core.Path.{◌≡◌, refl, sym, ap, ◌∙◌}
use mathlib.Core.Bool.{false, ◌||◌}
use mathlib.Core.List.{List, [], ◌∷◌, ◌++◌, append_assoc}
use native.Mathlib.Omega.{arith}
use lib.IntN.{ℤ, pos, ◌+ℤ◌, +ℤ_idr}
use lib.ListN.{length, drop, length-append}
use lib.Seq.{sets, length-sets}
use lib.Signed.{mag}
use Rattle.rules.specs.Answers.{places, start_of, run_of}
use Rattle.rules.specs.Vp3.{beyond, strays, stitch_events}
use Rattle.laws.specs.Buffers.{sets-append}
use Rattle.laws.specs.Tests.{or-no-left, or-no-right}
use Rattle.read_builder.proofs.Parts.{point-cells, run_cells, sizes}
use Rattle.read_builder.specs.Builders.{stitched, jumped, Small, Reach}
use Rattle.read_builder.specs.declared.Builder.{Builder}
use Rattle.read_vp3_stitches.specs.Fills.{built, runs_ended, Spare, places_on, Ready, Filled, Turned}
use Rattle.read_vp3_stitches.specs.Steps.{next_of, StepAt}
use Rattle.read_vp3_stitches.specs.declared.steps.Step.{Step}
use Rattle.read_vp3_stitches.specs.declared.steps.Step.TheVariants.{Stitch, EndRun, Nothing, Finish}
use Rattle.read_vp3_stitches.proofs.Bounds.{range-of}
use Rattle.read_vp3_stitches.proofs.Counting.{step-later}
use Rattle.read_vp3_stitches.proofs.Stepping.{end-at}

-- what a step puts into each buffer, and the builder after it
abbrev pub places_by : Builder → Step → List ℤ
places_by b (Stitch dx dy n) = start_of b.run b.x b.y ++ (b.x +ℤ dx) ∷ (b.y +ℤ dy) ∷ []
places_by b EndRun = []
places_by b Nothing = []
places_by b Finish = []

abbrev pub runs_by : Builder → Step → List ℕ
runs_by b (Stitch dx dy n) = []
runs_by b EndRun = run_of b.run
runs_by b Nothing = []
runs_by b Finish = []

abbrev pub built_by : Builder → Step → Builder
built_by b (Stitch dx dy n) = stitched b (b.x +ℤ dx) (b.y +ℤ dy)
built_by b EndRun = jumped b (b.x +ℤ pos 0) (b.y +ℤ pos 0)
built_by b Nothing = b
built_by b Finish = b

-- ---- one step

module _ (b : Builder) where
  points-by : (r : Step) → 2 * (built_by b r).points ≡ 2 * b.points + length (places_by b r)
  points-by (Stitch dx dy n) = simp length-append (omega (arith, point-cells b.run b.x b.y))
  points-by EndRun = omega arith
  points-by Nothing = omega arith
  points-by Finish = omega arith

  runs_by_lem : (r : Step) → (built_by b r).runs ≡ b.runs + length (runs_by b r)
  runs_by_lem (Stitch dx dy n) = omega arith
  runs_by_lem EndRun = rw (run_cells b.run)
  runs_by_lem Nothing = omega arith
  runs_by_lem Finish = omega arith

  module _ (s : List ℕ) (at : ℕ) where
    places-next : (r : Step) → StepAt s at r
        → places_on b (stitch_events (drop at s)) ≡ places_by b r ++ places_on (built_by b r) (stitch_events (drop (next_of s at r) s))
    unfolding places
    places-next (Stitch dx dy n) e = ap (places_on b) e.tells ∙ rw append_assoc
    places-next EndRun e = ap (places_on b) e.tells
    places-next Nothing e = ap (places_on b) e.tells
    places-next Finish e = ap (places_on b) (e.tells ∙ sym (end-at s (length s) (omega arith)))

    runs-next : (r : Step) → StepAt s at r
        → runs_ended b.run (stitch_events (drop at s)) ≡ runs_by b r ++ runs_ended (built_by b r).run (stitch_events (drop (next_of s at r) s))
    unfolding runs_ended
    runs-next (Stitch dx dy n) e = ap (runs_ended b.run) e.tells
    runs-next EndRun e = ap (runs_ended b.run) e.tells
    runs-next Nothing e = ap (runs_ended b.run) e.tells
    runs-next Finish e = ap (runs_ended b.run) (e.tells ∙ sym (end-at s (length s) (omega arith)))

    built-next : (r : Step) → StepAt s at r → built b (stitch_events (drop at s)) ≡ built (built_by b r) (stitch_events (drop (next_of s at r) s))
    unfolding built
    built-next (Stitch dx dy n) e = ap (built b) e.tells
    built-next EndRun e = ap (built b) e.tells
    built-next Nothing e = ap (built b) e.tells
    built-next Finish e = ap (built b) (e.tells ∙ sym (end-at s (length s) (omega arith)))

    stays-next : (r : Step) → StepAt s at r → strays b.x b.y (stitch_events (drop at s)) ≡ false
        → strays (built_by b r).x (built_by b r).y (stitch_events (drop (next_of s at r) s)) ≡ false
    unfolding strays
    stays-next (Stitch dx dy n) e h =
        or-no-right (beyond (b.x +ℤ dx) || beyond (b.y +ℤ dy)) _ (sym (ap (strays b.x b.y) e.tells) ∙ h)
    stays-next EndRun e h = sym (ap (strays b.x b.y) e.tells) ∙ h
    stays-next Nothing e h = sym (ap (strays b.x b.y) e.tells) ∙ h
    stays-next Finish e h = ap (strays b.x b.y) (end-at s (length s) (omega arith))

    spare-next : (r : Step) → StepAt s at r → at ≤ length s → Spare b (length s - at) → Spare (built_by b r) (length s - next_of s at r)
    spare-next (Stitch dx dy n) e l h = omega (arith, h, e.inside, e.moves, sizes b.run b.begun)
    spare-next EndRun e l h = omega (arith, h, e.inside, sizes b.run b.begun)
    spare-next Nothing e l h = omega (arith, h, e.inside)
    spare-next Finish e l h = omega (arith, h)

    -- a stitch's place is within 32 bits
    within-next : {dx dy : ℤ} {n : ℕ} → StepAt s at (Stitch dx dy n) → strays b.x b.y (stitch_events (drop at s)) ≡ false
        → (mag (b.x +ℤ dx) < 2 ^ 31) × (mag (b.y +ℤ dy) < 2 ^ 31)
    unfolding strays
    within-next {dx} {dy} {n} e h =
        let k = or-no-left (beyond (b.x +ℤ dx) || beyond (b.y +ℤ dy)) (strays (b.x +ℤ dx) (b.y +ℤ dy) (stitch_events (drop (at + n) s)))
        (sym (ap (strays b.x b.y) e.tells) ∙ h) in
        (range-of (b.x +ℤ dx) (or-no-left _ _ k), range-of (b.y +ℤ dy) (or-no-right (beyond (b.x +ℤ dx)) _ k))

-- ---- what the callee asks

module _ {s : List ℕ} {b : Builder} {at np nr : ℕ} (g : Ready s b at np nr) where
  pub ready-small : mag b.x < 2 ^ 31 → mag b.y < 2 ^ 31 → Small b
  ready-small hx hy = omega (arith, g.spare)

  pub ready-sew : {dx dy : ℤ} {n : ℕ} → StepAt s at (Stitch dx dy n) → mag dx < 2 ^ 31 → mag dy < 2 ^ 31
      → Reach b dx dy × (2 * b.points + (length (start_of b.run b.x b.y) + 2) ≤ np)
  ready-sew {dx} {dy} {n} e hx hy =
      let k = within-next b s at e g.stays in
      let l = ap length (places-next b s at (Stitch dx dy n) e) in
      (record { x_step = hx; y_step = hy; x = k.0; y = k.1 }, omega (arith, g.places, simp length-append at l))

  pub ready-hop : StepAt s at EndRun → mag b.x < 2 ^ 31 → mag b.y < 2 ^ 31
      → Reach b (pos 0) (pos 0) × (b.runs + length (run_of b.run) ≤ nr)
  ready-hop e hx hy =
      let l = ap length (runs-next b s at EndRun e) in
      (record { x_step = omega arith; y_step = omega arith; x = rw (+ℤ_idr b.x) hx; y = rw (+ℤ_idr b.y) hy }, omega (arith, g.runs, simp length-append at l))

-- ---- some steps in a row: from b, at, P, R to q, i, P', R'

pub record Going (s : List ℕ) (b : Builder) (at : ℕ) (P : List ℤ) (R : List ℕ) (q : Builder) (i : ℕ) (P' : List ℤ) (R' : List ℕ) : Type 0 where
  pub builder : built b (stitch_events (drop at s)) ≡ built q (stitch_events (drop i s))
  pub places : sets P (2 * b.points) (places_on b (stitch_events (drop at s))) ≡ sets P' (2 * q.points) (places_on q (stitch_events (drop i s)))
  pub runs : sets R b.runs (runs_ended b.run (stitch_events (drop at s))) ≡ sets R' q.runs (runs_ended q.run (stitch_events (drop i s)))
  pub ready : Ready s q i (length P') (length R')
  pub same_places : length P' ≡ length P
  pub same_runs : length R' ≡ length R

pub going_start : {s : List ℕ} {b : Builder} {at : ℕ} {P : List ℤ} {R : List ℕ} → Ready s b at (length P) (length R) → Going s b at P R b at P R
going_start g = record { builder = refl; places = refl; runs = refl; ready = g; same_places = refl; same_runs = refl }

nothing-more : (q : Builder) (P : List ℤ) (R : List ℕ) → Filled [] q P P R R q
unfolding built runs_ended places
nothing-more q P R = record { builder = refl; places = refl; runs = refl }

module _ {s : List ℕ} {b : Builder} {at : ℕ} {P : List ℤ} {R : List ℕ} where
  pub going_on : {q r : Builder} {i j : ℕ} {P' P'' : List ℤ} {R' R'' : List ℕ} → Going s b at P R q i P' R' → Going s q i P' R' r j P'' R''
      → Going s b at P R r j P'' R''
  going_on g k = record {
    builder = g.builder ∙ k.builder;
    places = g.places ∙ k.places;
    runs = g.runs ∙ k.runs;
    ready = k.ready;
    same_places = k.same_places ∙ g.same_places;
    same_runs = k.same_runs ∙ g.same_runs;
  }

  -- one step
  going_step : Ready s b at (length P) (length R) → (r : Step) → StepAt s at r
      → Going s b at P R (built_by b r) (next_of s at r) (sets P (2 * b.points) (places_by b r)) (sets R b.runs (runs_by b r))
  going_step g r e =
      let p = places-next b s at r e in
      let q = runs-next b s at r e in
      let np = length-sets P (2 * b.points) (places_by b r) in
      let nr = length-sets R b.runs (runs_by b r) in
      let lp = simp length-append at (ap length p) in
      let lr = simp length-append at (ap length q) in
      record {
        builder = built-next b s at r e;
        places = ap (sets P (2 * b.points)) p ∙ sets-append P (2 * b.points) (places_by b r) _ ∙ rw (points-by b r);
        runs = ap (sets R b.runs) q ∙ sets-append R b.runs (runs_by b r) _ ∙ rw (runs_by_lem b r);
        ready = record {
          stays = stays-next b s at r e g.stays;
          places = omega (arith, g.places, points-by b r);
          runs = omega (arith, g.runs, runs_by_lem b r);
          spare = spare-next b s at r e g.within g.spare;
          within = e.inside;
        };
        same_places = np;
        same_runs = nr;
      }

  -- as a turn ensures it
  turned : {q : Builder} {i : ℕ} {P' : List ℤ} {R' : List ℕ} → Going s b at P R q i P' R' → (at < length s → at < i)
      → Turned s b at P P' R R' (record { b = q; at = i })
  turned g l = record {
    builder = g.builder;
    places = g.places;
    runs = g.runs;
    ready = g.ready;
    same_places = g.same_places;
    same_runs = g.same_runs;
    later = l;
  }

  -- one step, by what the callee has put
  pub turned-step : Ready s b at (length P) (length R) → (r : Step) → StepAt s at r → {q : Builder} → q ≡ built_by b r → {i : ℕ} → i ≡ next_of s at r
      → {P' : List ℤ} → P' ≡ sets P (2 * b.points) (places_by b r) → {R' : List ℕ} → R' ≡ sets R b.runs (runs_by b r)
      → Turned s b at P P' R R' (record { b = q; at = i })
  turned-step g r e eq ei eP eR = rw (eq, ei, eP, eR) (turned (going_step g r e) (step-later r e))

  -- and back
  pub turned-going : {q : Builder} {i : ℕ} {P' : List ℤ} {R' : List ℕ} → Turned s b at P P' R R' (record { b = q; at = i }) → Going s b at P R q i P' R'
  turned-going t = record {
    builder = t.builder;
    places = t.places;
    runs = t.runs;
    ready = t.ready;
    same_places = t.same_places;
    same_runs = t.same_runs;
  }

module _ {s : List ℕ} {b : Builder} {at : ℕ} {P : List ℤ} {R : List ℕ} where
  -- two turns, the second of which begins inside
  pub turned_on : {q r : Builder} {i j : ℕ} {P' P'' : List ℤ} {R' R'' : List ℕ} → Turned s b at P P' R R' (record { b = q; at = i })
      → Turned s q i P' P'' R' R'' (record { b = r; at = j }) → at < i → i < length s → Turned s b at P P'' R R'' (record { b = r; at = j })
  turned_on t u h l = turned (going_on (turned-going t) (turned-going u)) (λ k. omega (arith, u.later l))

  -- at the end; and where the rest is filled at once
  pub going-filled : {q r : Builder} {i : ℕ} {P' P'' : List ℤ} {R' R'' : List ℕ} → Going s b at P R q i P' R'
      → Filled (stitch_events (drop i s)) q P' P'' R' R'' r → Filled (stitch_events (drop at s)) b P P'' R R'' r
  going-filled g f = record { builder = f.builder ∙ sym g.builder; places = f.places ∙ sym g.places; runs = f.runs ∙ sym g.runs }

  pub going_done : {q : Builder} {i : ℕ} {P' : List ℤ} {R' : List ℕ} → Going s b at P R q i P' R' → length s ≤ i
      → Filled (stitch_events (drop at s)) b P P' R R' q
  going_done {q} {i} {P'} {R'} g l = going-filled g (rw (end-at s i (omega arith)) (nothing-more q P' R'))
