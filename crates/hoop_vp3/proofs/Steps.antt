-- The stitches of a block looked at, one step or two stitches at once, and so on to the end. Assumes nothing.
use Rattle.std.specs.Prelude.{Some, None, Option}
use Prim.Native.Nat.{ℕ, ◌+◌, ◌≤◌, ◌<◌}
use mathlib.Core.Path.{◌≡◌, sym, ap, ◌∙◌}
use mathlib.Core.Bool.{true, false, ◌&&◌, ◌||◌}
use mathlib.Core.List.{List}
use native.Mathlib.Omega.{arith}
use lib.IntN.{ℤ, pos, ◌+ℤ◌}
use lib.ListN.{length, get_or, drop}
use Rattle.rules.specs.Vocabulary.{signed}
use Rattle.rules.specs.Hoop.{in_hoop}
use Rattle.rules.specs.Vp3.{beyond, strays, stitch_events}
use Rattle.rules.specs.declared.Hoop.{Hoop}
use Rattle.laws.specs.Tests.{pick-both, or-no-left, or-no-right}
use Rattle.read_vp3_stitches.specs.Steps.{StepAt}
use Rattle.read_vp3_stitches.specs.declared.steps.Step.{Step}
use Rattle.read_vp3_stitches.specs.declared.steps.Step.TheVariants.{Stitch, EndRun, Nothing, Finish}
use Rattle.read_vp3_stitches.proofs.Bounds.{range-of}
use Rattle.read_vp3_stitches.proofs.Counting.{step-later}
use Rattle.read_vp3_stitches.proofs.Stepping.{end-at, stitch-at}
use Rattle.hoop_records.specs.Looks.{starts_in, stepped, placed_at, sewn, sewn_two, Leads, LeadsTwo, fits_from, fits_on}
use Rattle.hoop_records.specs.declared.looks.Look.{Look}
use Rattle.hoop_records.proofs.Events.{fits-stitch, fits-jump, looks-more, Going, going_done}
use Rattle.hoop_vp3.specs.Stitches.{Looking, Onward, Looks}

-- the two bytes of a stitch, by what is read of them
pub pair-at : {s : List ℕ} {i : ℕ} (j : ℕ) {x y : ℤ} → i + 2 ≤ length s → j ≡ i + 1 → (get_or s i 0 ≡ 0x80 → ⊥)
    → x ≡ signed 7 (get_or s i 0) → y ≡ signed 7 (get_or s j 0) → StepAt s i (Stitch x y 2)
pair-at {s} {i} j l e k ex ey = rw (ex, ey, e) (stitch-at s i l k)

module _ {s : List ℕ} {w : Look} (g : Looking s w) where
  -- ---- a step leads to a place of 32 bits

  module _ {dx dy : ℤ} {n : ℕ} (e : StepAt s w.at (Stitch dx dy n)) where
    -- neither its place nor the stitches behind it stray
    stays-both : (beyond (w.x +ℤ dx) || beyond (w.y +ℤ dy)) || strays (w.x +ℤ dx) (w.y +ℤ dy) (stitch_events (drop (w.at + n) s)) ≡ false
    unfolding strays
    stays-both = sym (ap (strays w.x w.y) e.tells) ∙ g.stays

    pub can-sew : Leads w dx dy n
    can-sew =
        let k = or-no-left (beyond (w.x +ℤ dx) || beyond (w.y +ℤ dy)) _ stays-both in
        record {
          x = range-of (w.x +ℤ dx) (or-no-left _ _ k);
          y = range-of (w.y +ℤ dy) (or-no-right (beyond (w.x +ℤ dx)) _ k);
          at = omega (arith, e.inside, g.short);
        }

    looking-sewn : Looking s (stepped true w dx dy n)
    looking-sewn = record { stays = or-no-right (beyond (w.x +ℤ dx) || beyond (w.y +ℤ dy)) _ stays-both; within = e.inside; short = g.short }

  -- the place itself is one
  -- ---- what is seen of it

  abbrev seen_by : Hoop → Step → Option Look
  seen_by h (Stitch dx dy n) = sewn h w dx dy n
  seen_by h EndRun = Some (stepped false w (pos 0) (pos 0) 2)
  seen_by h Nothing = Some (placed_at w (w.at + 2))
  seen_by h Finish = Some (placed_at w (length s))

  same_by : (h : Hoop) (r : Step) → StepAt s w.at r
      → fits_from h w (stitch_events (drop w.at s)) ≡ fits_on h (seen_by h r) (λ i. stitch_events (drop i s))
  same_by h (Stitch dx dy n) e = ap (fits_from h w) e.tells ∙ fits-stitch h w dx dy n (λ i. stitch_events (drop i s))
  same_by h EndRun e = ap (fits_from h w) e.tells ∙ fits-jump h w (pos 0) (pos 0) 2 (λ i. stitch_events (drop i s))
  same_by h Nothing e = ap (fits_from h w) e.tells
  same_by h Finish e = ap (fits_from h w) (e.tells ∙ sym (end-at s (length s) (omega arith)))

  onward-by : (h : Hoop) (r : Step) → StepAt s w.at r → Onward s w (seen_by h r)
  unfolding strays
  onward-by h (Stitch dx dy n) e =
      pick-both (Onward s w) (starts_in h w && in_hoop h (w.x +ℤ dx) (w.y +ℤ dy)) {x = Some (stepped true w dx dy n)} {y = None}
      (looking-sewn e, step-later (Stitch dx dy n) e) tt
  onward-by h EndRun e =
      (record { stays = sym (ap (strays w.x w.y) e.tells) ∙ g.stays; within = e.inside; short = g.short }, step-later EndRun e)
  onward-by h Nothing e =
      (record { stays = sym (ap (strays w.x w.y) e.tells) ∙ g.stays; within = e.inside; short = g.short }, step-later Nothing e)
  onward-by h Finish e =
      (record { stays = ap (strays w.x w.y) (end-at s (length s) (omega arith)); within = omega arith; short = g.short }, step-later Finish e)

  pub looks-step : {h : Hoop} (r : Step) → StepAt s w.at r → Looks h s w (seen_by h r)
  looks-step {h} r e = record { same = same_by h r e; onward = onward-by h r e }

-- ---- two stitches in a row

onward_then : (s : List ℕ) (w v : Look) → v.at < length s → Onward s w (Some v) → (r : Option Look) → Onward s v r → Onward s w r
onward_then s w v l o (Some u) p = (p.0, λ k. omega (arith, o.1 k, p.1 l))
onward_then s w v l o None p = tt

module _ {s : List ℕ} {w : Look} (g : Looking s w) {dx dy ex ey : ℤ} {n : ℕ} (e : StepAt s w.at (Stitch dx dy n))
    (f : StepAt s (w.at + n) (Stitch ex ey n)) where
  pub can-two : LeadsTwo w dx dy ex ey n
  can-two = (can-sew g e, can-sew (looking-sewn g e) f)

  pub looks-two : {h : Hoop} → Looks h s w (sewn_two h w dx dy ex ey n)
  looks-two {h} =
      let v = stepped true w dx dy n in
      looks-more ex ey n (starts_in h w && in_hoop h (w.x +ℤ dx) (w.y +ℤ dy))
      (onward_then s w v (omega (arith, f.inside, f.moves)) (looking-sewn g e, step-later (Stitch dx dy n) e))
      (looks-step g _ e) (looks-step (looking-sewn g e) _ f)

-- ---- from the front, to the end

module _ (h : Hoop) (s : List ℕ) where
  abbrev pub Stitches : Look → Look → Type 0
  Stitches first w = Going h (λ i. stitch_events (drop i s)) (Looking s) first w

  pub at-end : {first w : Look} → Stitches first w → length s ≤ w.at → true ≡ fits_from h first (stitch_events (drop first.at s))
  at-end {w = w} g l = going_done g (end-at s w.at (omega arith))
