-- PES and PEC: a row of jumps. Assumes nothing.
use Prim.Native.Nat.{ℕ, ◌+◌, ◌/◌, ◌%◌, ◌≤◌, ◌<◌}
use mathlib.Core.Path.{◌≡◌, refl, sym}
use mathlib.Core.List.{List}
use native.Mathlib.Omega.{arith}
use lib.IntN.{ℤ, ◌+ℤ◌}
use lib.ListN.{length, drop}
use lib.Seq.{sets}
use Rattle.rules.specs.Answers.{run_of}
use Rattle.read_records.specs.declared.Row.{Row}
use Rattle.read_records.specs.declared.Row.TheVariants.{Pec}
use Rattle.rules.specs.declared.Record.TheVariants.{JumpBy}
use mir.Syntax.{w32}
use Rattle.laws.specs.Ints.{abs-add, ret}
use Rattle.read_records.specs.Firsts.{first_record_of}
use Rattle.read_records.specs.Words.{axis_step}
use Rattle.read_records.proofs.Formats.{Near, near}
use Rattle.read_builder.specs.Builders.{Small, Reach, jumped}
use Rattle.read_builder.specs.declared.Builder.{Builder}
use Rattle.read_passes.specs.Walks.{Bounded, Ready, Went}
use Rattle.read_passes.proofs.Turns.{bounded-next, read}
use Rattle.read_passes.proofs.Loops.{reach, stays, small, ready-next, one_on}
use Rattle.read_fill.specs.Turns.{Turned, Hopped, none, more, RoomHere}
use Rattle.read_passes.specs.declared.Turn.{Turn}
use Rattle.read_passes.proofs.Found.{stepped}
use Rattle.read_fill.proofs.Laws.{turn-hopped}

pub room-here : {f : Row} {s : List ℕ} {c : ℕ → ℕ} {b : Builder} {at np nr nb : ℕ} → Ready f s c b at np nr nb → RoomHere f s b at np
room-here {c = c} {nr = nr} {nb = nb} g = record { colour = c; nr = nr; nb = nb; ready = g }

-- ---- a row of jumps

-- the row up to i, and the builder within its bounds
pub record HopRow (s : List ℕ) (b : Builder) (from : ℕ) (q : Builder) (i : ℕ) : Type 0 where
  pub hopped : Hopped s b from q i
  pub later : from ≤ i
  pub bounded : Bounded q i
  pub within : i ≤ length s

module _ {s : List ℕ} {b : Builder} {from : ℕ} where
  pub row-start : Bounded b from → from ≤ length s → HopRow s b from b from
  row-start w l = record { hopped = none; later = omega arith; bounded = w; within = l }

  module _ {q : Builder} {i : ℕ} (g : HopRow s b from q i) where
    pub row_small : length s ≤ 2097152 → Small q
    row_small l = small Pec s g.bounded g.within l

    module _ {dx dy : ℤ} {n : ℕ} (e : first_record_of Pec (drop i s) ≡ JumpBy dx dy n) where
      row-reach : length s ≤ 2097152 → Reach q dx dy
      row-reach l = reach Pec s i (sym e) g.bounded g.within l

      pub row_on : {r : Builder} {j : ℕ} → r ≡ jumped q (q.x +ℤ dx) (q.y +ℤ dy) → j ≡ i + n → HopRow s b from r j
      row_on er ej =
          let k : Near (JumpBy dx dy n) (length (drop i s)) = rw e at (near Pec (drop i s)) in
          rw (er, ej) (record {
            hopped = more g.hopped (sym e);
            later = omega (arith, g.later);
            bounded =
                bounded-next q i (length s) (JumpBy dx dy n) (q.x +ℤ dx) (q.y +ℤ dy) g.bounded k.fair
                (stays Pec s i (sym e) g.within)
                (omega (arith, g.bounded, k.dx, abs-add q.x dx)) (omega (arith, g.bounded, k.dy, abs-add q.y dy));
            within = stays Pec s i (sym e) g.within;
          })

-- a jump at i, by the words of its steps
pub record Leap (s : List ℕ) (q : Builder) (i w y : ℕ) : Type 0 where
  pub here : first_record_of Pec (drop i s) ≡ stepped JumpBy w y
  pub reach : Reach q (axis_step (w % 256) (w / 256 % 256)) (axis_step (y % 256) (y / 256 % 256))
  pub at_x : read q.x ≡ q.x
  pub at_y : read q.y ≡ q.y

pub leap : {s : List ℕ} {b q : Builder} {from i w y : ℕ} → HopRow s b from q i → first_record_of Pec (drop i s) ≡ stepped JumpBy w y
    → length s ≤ 2097152 → Leap s q i w y
leap {q = q} g e l =
    let m = row_small g l in
    record { here = e; reach = row-reach g e l; at_x = ret w32 q.x m.x; at_y = ret w32 q.y m.y }

-- no run is open in a row
shut : {s : List ℕ} {b q : Builder} {from i : ℕ} → b.run ≡ 0 → Hopped s b from q i → q.run ≡ 0
shut e none = e
shut e (more h f) = refl

no_run : {n : ℕ} (R : List ℕ) (k : ℕ) → n ≡ 0 → R ≡ sets R k (run_of n)
unfolding run_of
no_run R k e = rw e refl

-- so the buffers stay
hopped-on : {s : List ℕ} {c : ℕ → ℕ} {b : Builder} {at : ℕ} {P P' : List ℤ} {R R' B B' : List ℕ} {q : Builder} {i : ℕ} {q₂ : Builder} {i₂ : ℕ}
    → Went Pec s c b at P R B q i P' R' B' → q.run ≡ 0 → Hopped s q i q₂ i₂ → Went Pec s c b at P R B q₂ i₂ P' R' B'
hopped-on w z none = w
hopped-on {s = s} {c = c} {R' = R'} w z (more {q = q} h e) = one_on Pec s c (hopped-on w z h) e refl refl refl (no_run R' q.runs (shut z h)) refl

module _ {s : List ℕ} {c : ℕ → ℕ} {b : Builder} {at : ℕ} {dx dy : ℤ} {n : ℕ} (e : first_record_of Pec (drop at s) ≡ JumpBy dx dy n)
    {q : Builder} {i : ℕ} (ei : i ≡ at + n) where
  pub can-row : {np nr nb : ℕ} → Ready Pec s c b at np nr nb → q ≡ jumped b (b.x +ℤ dx) (b.y +ℤ dy)
      → (i ≤ length s) × (Bounded q i × (q.run ≡ 0))
  can-row g eq = let k = ready-next Pec s c g (sym e) in rw (eq, ei) (k.within, (k.bounded, refl))

  pub turn-row : at < length s → {R R' : List ℕ} → (q ≡ jumped b (b.x +ℤ dx) (b.y +ℤ dy)) × (R' ≡ sets R b.runs (run_of b.run))
      → {t : Turn} → Hopped s q i t.b t.at × (i ≤ t.at) → {P : List ℤ} {B : List ℕ} → Turned Pec s c b at P P R R' B B t
  turn-row l {R} {R'} w h {P} {B} =
      let z : q.run ≡ 0 = rw w.0 refl in
      let v : Turned Pec s c b at P P R R' B B (record { b = q; at = at + n }) = turn-hopped l e w in
      record { went = hopped-on (rw (sym ei) at v.went) z h.0; later = omega (arith, v.later, h.1) }
