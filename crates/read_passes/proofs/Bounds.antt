-- How long the answers of n bytes can be, in any format. Assumes nothing.
use Prim.Native.Nat.{ℕ, zero, suc, ◌+◌, ◌-◌, ◌*◌, ◌≤◌, ◌<◌}
use mathlib.Core.List.{List}
use native.Mathlib.Omega.{arith}
use lib.IntN.{ℤ, pos, ◌+ℤ◌}
use lib.ListN.{length, drop, length-drop, length-append}
use Rattle.rules.specs.Answers.{places, runs, blocks, points_after, begun_after}
use Rattle.rules.specs.Limits.{block_cells_of}
use Rattle.read_records.specs.Firsts.{first_record_of}
use Rattle.rules.specs.Records.{Event, record_then, events}
use Rattle.read_records.specs.declared.Row.{Row}
use Rattle.rules.specs.declared.Record.{Record}
use Rattle.rules.specs.declared.Record.TheVariants.{StitchBy, JumpBy, ChangeBy, Finish}
use Rattle.laws.specs.Reading.{events-step}
use Rattle.read_records.proofs.Formats.{Near, near, inside}
use Rattle.read_builder.proofs.Parts.{run_cells, point-cells, block_cells, added-after, sizes}
use Rattle.read_builder.specs.Builders.{some, added}
use Rattle.read_passes.specs.Told.{Fits, Ample}

-- the three answers of some events, from n points in the open run and m runs begun, against N bytes
record Limits (N n m : ℕ) (es : List Event) : Type 0 where
  places : (x y : ℤ) → length (places x y n es) + 2 ≤ N + 2 * added n
  runs : 2 * length (runs n es) ≤ N + 2 * some n
  blocks : (c : ℕ → ℕ) (k : ℕ) → 2 * length (blocks c k m n es) ≤ block_cells_of * N + 2 * block_cells_of * some m

-- one record in front
limits-next : (r : Record) (go : ℕ → List Event) (N n m : ℕ) → Near r N
    → ((len n m : ℕ) → 1 < len → len ≤ N → Limits (N - len) n m (go len)) → Limits N n m (record_then r go)
unfolding places runs blocks record_then
limits-next (StitchBy dx dy len) go N n m near h =
    let l = h len (points_after n) (begun_after n m) near.fair near.len in
    record {
      places = λ x y. simp length-append (omega (arith, l.places (x +ℤ dx) (y +ℤ dy), point-cells n x y, added-after n, near.fair, near.len));
      runs = omega (arith, l.runs, sizes (points_after n) 0, near.fair, near.len);
      blocks = λ c k. omega (arith, l.blocks c k, sizes n m, sizes (begun_after n m) 0, near.fair, near.len);
    }
limits-next (JumpBy dx dy len) go N n m near h =
    let l = h len 0 m near.fair near.len in
    record {
      places = λ x y. omega (arith, l.places (x +ℤ dx) (y +ℤ dy), sizes n 0, near.fair, near.len);
      runs = simp length-append (omega (arith, l.runs, run_cells n, near.fair, near.len));
      blocks = λ c k. omega (arith, l.blocks c k, near.fair, near.len);
    }
limits-next (ChangeBy dx dy len) go N n m near h =
    let l = h len 0 0 near.fair near.len in
    record {
      places = λ x y. omega (arith, l.places (x +ℤ dx) (y +ℤ dy), sizes n 0, near.fair, near.len);
      runs = simp length-append (omega (arith, l.runs, run_cells n, near.fair, near.len));
      blocks = λ c k. simp length-append (omega (arith, l.blocks c (suc k), block_cells c k m, near.fair, near.len));
    }
limits-next Finish go N n m near h = record {
  places = λ x y. omega (arith, sizes n 0);
  runs = omega (arith, run_cells n);
  blocks = λ c k. omega (arith, block_cells c k m);
}

module _ (f : Row) where
  -- by the number of bytes
  limits : (i : ℕ) (s : List ℕ) → length s < i → (n m : ℕ) → Limits (length s) n m (events (first_record_of f) s)
  limits zero s h n m = absurd (omega arith)
  limits (suc i) s h n m =
      rw (events-step (first_record_of f) (inside f) s)
      (limits-next (first_record_of f s) (λ len. events (first_record_of f) (drop len s)) (length s) n m (near f s)
      (λ len n m l₁ l₂. rw (length-drop len s) at (limits i (drop len s) (omega (arith, length-drop len s)) n m)))

  pub ample-fits : (c : ℕ → ℕ) (s : List ℕ) (np nr nb : ℕ) → Ample (length s) np nr nb → Fits c (first_record_of f) s np nr nb
  ample-fits c s np nr nb h =
      let l = limits (suc (length s)) s (omega arith) 0 0 in
      record { places = omega (arith, h, l.places (pos 0) (pos 0)); runs = omega (arith, h, l.runs); blocks = omega (arith, h, l.blocks c 0) }
