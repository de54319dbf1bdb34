-- Stitches followed step by step come to the same as all at once; near to 0 none leads beyond 32 bits. Assumes nothing.
use Rattle.std.specs.Prelude.{Some, None, Option}
use Prim.Native.Nat.{ℕ, zero, suc, ◌+◌, ◌-◌, ◌*◌, ◌^◌, ◌≤◌, ◌<◌}
use mathlib.Core.Path.{◌≡◌, refl, sym, ap, ◌∙◌}
use mathlib.Core.Bool.{false, ◌||◌}
use mathlib.Core.List.{List, ◌∷◌}
use native.Mathlib.Omega.{arith}
use lib.IntN.{ℤ, pos, nat_abs, ◌+ℤ◌, +ℤ_idr}
use lib.ListN.{length, drop}
use mir.Syntax.{w32}
use mir.Val.{SFits, to_z, of_z}
use mir.Facts.{to_z-of_z}
use Rattle.rules.specs.Records.{Event, jump}
use Rattle.rules.specs.Vp3.{beyond, strays, stitch_events}
use Rattle.laws.specs.Ints.{abs-add}
use Rattle.laws.specs.Tests.{by-test}
use Rattle.read_count.specs.Tallies.{tallied}
use Rattle.read_count.specs.declared.tally.Tally.{Tally}
use Rattle.read_vp3_stitches.specs.Steps.{next_of, StepAt}
use Rattle.read_vp3_stitches.specs.Tallies.{tally_all, Spare}
use Rattle.read_vp3_stitches.specs.Ways.{followed, stitch_way, on_way, Follows}
use Rattle.read_vp3_stitches.specs.declared.follow.Way.{Way}
use Rattle.read_vp3_stitches.specs.declared.steps.Step.{Step}
use Rattle.read_vp3_stitches.specs.declared.steps.Step.TheVariants.{Stitch, EndRun, Nothing, Finish}
use Rattle.read_vp3_stitches.proofs.Bounds.{near-range, fits_within, unfit-beyond}
use Rattle.read_vp3_stitches.proofs.Counting.{step-later, counts_step}
use Rattle.read_vp3_stitches.proofs.Stepping.{end-at, somehow}

-- ---- a jump that moves nothing

still : (x y : ℤ) (es : List Event) → strays x y (jump (pos 0) (pos 0) ∷ es) ≡ strays x y es
unfolding strays
still x y es = rw (+ℤ_idr x, +ℤ_idr y)

-- ---- a stitch that leads beyond, or not

module _ (w : Way) (dx dy : ℤ) (n : ℕ) where
  pub way-x : (SFits w32 (w.x +ℤ dx) → ⊥) → None ≡ stitch_way w dx dy n
  way-x e = rw (unfit-beyond _ e)

  module _ (e : SFits w32 (w.x +ℤ dx)) where
    pub way-y : (SFits w32 (w.y +ℤ dy) → ⊥) → None ≡ stitch_way w dx dy n
    way-y f = rw (fits_within _ e, unfit-beyond _ f)

    pub way_on : SFits w32 (w.y +ℤ dy) → {x y : ℤ} → x ≡ w.x +ℤ dx → y ≡ w.y +ℤ dy → {t : Tally} → t ≡ tallied 1 w.t
        → Some (record { t = t; x = to_z w32 (of_z w32 x); y = to_z w32 (of_z w32 y); at = w.at + n }) ≡ stitch_way w dx dy n
    way_on f ex ey et = rw (et, ex, ey, to_z-of_z e, to_z-of_z f, fits_within _ e, fits_within _ f)

-- ---- one step

module _ (s : List ℕ) (w : Way) (l : w.at < length s) (h : Spare w.t (length s - w.at)) where
  -- what is to be shown of a step that goes on
  on : (r : Step) → StepAt s w.at r → (v : Way) → on_way s w ≡ on_way s v → v.at ≡ next_of s w.at r
      → Spare v.t (length s - next_of s w.at r) → Follows s w (Some v)
  on r e v k a p = (k, (rw a (step-later r e l), (rw a e.inside, rw a p)))

  pub follows-stitch : {dx dy : ℤ} {n : ℕ} → StepAt s w.at (Stitch dx dy n) → Follows s w (stitch_way w dx dy n)
  unfolding strays tally_all
  follows-stitch {dx} {dy} {n} e = by-test (beyond (w.x +ℤ dx) || beyond (w.y +ℤ dy))
      (λ t. rw t (rw (e.tells, t)))
      (λ t. rw t (on _ e _ (rw (e.tells, t)) refl (counts_step (omega arith) h _ e).spare))

  pub follows-end-run : StepAt s w.at EndRun → {t : Tally} → t ≡ tallied 0 w.t → {x y : ℤ} → x ≡ w.x → y ≡ w.y
      → Follows s w (Some (record { t = t; x = x; y = y; at = w.at + 2 }))
  unfolding strays tally_all
  follows-end-run e et ex ey = rw (et, ex, ey)
      (on EndRun e _ (rw (e.tells, still w.x w.y (stitch_events (drop (w.at + 2) s)))) refl (counts_step (omega arith) h EndRun e).spare)

  pub follows-finish : StepAt s w.at Finish → {x y : ℤ} → x ≡ w.x → y ≡ w.y
      → Follows s w (Some (record { t = w.t; x = x; y = y; at = length s }))
  follows-finish e ex ey =
      rw (ex, ey) (on Finish e _ (rw (e.tells, end-at s (length s) (omega arith))) refl (counts_step (omega arith) h Finish e).spare)

-- ---- one after the other

pub record Going (s : List ℕ) (whole : Option Tally) (w : Way) : Type 0 where
  pub same : whole ≡ on_way s w
  pub inside : w.at ≤ length s
  pub spare : Spare w.t (length s - w.at)

pub going_done : {s : List ℕ} {whole : Option Tally} {w : Way} → Going s whole w → length s ≤ w.at → Some w.t ≡ whole
unfolding strays tally_all
going_done {s} {w = w} g l = sym (g.same ∙ rw (end-at s w.at (omega arith)))

-- ---- near to 0

module _ (s : List ℕ) where
  -- at most 5,462 a byte
  abbrev Near : ℤ → ℕ → Type 0
  Near z i = nat_abs z + 5462 * (length s - i) < 2 ^ 31

  near_on : (z d : ℤ) (i n : ℕ) → Near z i → nat_abs d ≤ 5462 * n → i + n ≤ length s → Near (z +ℤ d) (i + n)
  near_on z d i n h k l = omega (arith, abs-add z d)

  -- one step, and then what holds of the bytes behind it
  near_step : (x y : ℤ) (i : ℕ) (r : Step) → StepAt s i r → Near x i → Near y i
      → ((x y : ℤ) (j : ℕ) → i < j → Near x j → Near y j → strays x y (stitch_events (drop j s)) ≡ false)
      → strays x y (stitch_events (drop i s)) ≡ false
  unfolding strays
  near_step x y i (Stitch dx dy n) e hx hy go =
      let a = near_on x dx i n hx e.moves.1.0 e.inside in
      let b = near_on y dy i n hy e.moves.1.1 e.inside in
      rw (e.tells, near-range (x +ℤ dx) (omega arith), near-range (y +ℤ dy) (omega arith))
      (go (x +ℤ dx) (y +ℤ dy) (i + n) (omega (arith, e.moves)) a b)
  near_step x y i EndRun e hx hy go = ap (strays x y) e.tells ∙ still x y (stitch_events (drop (i + 2) s)) ∙ go x y (i + 2) (omega arith) (omega arith) (omega arith)
  near_step x y i Nothing e hx hy go = ap (strays x y) e.tells ∙ go x y (i + 2) (omega arith) (omega arith) (omega arith)
  near_step x y i Finish e hx hy go = ap (strays x y) e.tells

  near-stays : (fuel : ℕ) (x y : ℤ) (i : ℕ) → length s < i + fuel → Near x i → Near y i → strays x y (stitch_events (drop i s)) ≡ false
  unfolding strays
  near-stays zero x y i f hx hy = rw (end-at s i (omega arith))
  near-stays (suc fuel) x y i f hx hy =
      let q = somehow s i in
      near_step x y i q.step q.there hx hy (λ x y j l kx ky. near-stays fuel x y j (omega arith) kx ky)

  pub near_within : (t : Tally) (x y : ℤ) → nat_abs x + 5462 * length s < 2 ^ 31 → nat_abs y + 5462 * length s < 2 ^ 31
      → Some (tally_all t (stitch_events s)) ≡ followed t x y (stitch_events s)
  near_within t x y hx hy = rw (near-stays (suc (length s)) x y 0 (omega arith) (omega arith) (omega arith))
