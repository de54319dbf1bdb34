-- The commands of a content go into the buffers: one row more, and the end. Assumes nothing.
use Prim.Native.Nat.{ℕ, ◌+◌, ◌-◌, ◌≤◌, ◌<◌}
use mathlib.Core.Path.{◌≡◌, ap}
use mathlib.Core.List.{List, [], ◌∷◌, map}
use native.Mathlib.Omega.{arith}
use lib.IntN.{ℤ}
use lib.ListN.{length, drop, set, length-drop, length-map}
use Rattle.rules.specs.Jobs.{rows_of}
use Rattle.rules.specs.Promises.{xs_of, ys_of, kinds_of}
use Rattle.rules.specs.declared.Cmd.{Cmd}
use Rattle.laws.specs.Buffers.{Writing, writing_start, writing-one, writing-done}
use Rattle.laws.specs.Jobs.{row_at, rows_more, rows_none}
use Rattle.import_job.specs.Fills.{RowRoom, RowsPut}

module _ (bytes : List ℕ) (from : ℕ) (X₀ Y₀ : List ℤ) (K₀ : List ℕ) where
  -- i commands stand in the buffers, and those of the bytes from `at` on are to come
  pub record Rowing (X Y : List ℤ) (K : List ℕ) (i at : ℕ) : Type 0 where
    pub inside : at ≤ length bytes
    pub xs : Writing X₀ from (xs_of (rows_of bytes)) X i (xs_of (rows_of (drop at bytes)))
    pub ys : Writing Y₀ from (ys_of (rows_of bytes)) Y i (ys_of (rows_of (drop at bytes)))
    pub kinds : Writing K₀ from (kinds_of (rows_of bytes)) K i (kinds_of (rows_of (drop at bytes)))

  pub rowing_start : RowRoom bytes from (length X₀) (length Y₀) (length K₀) → Rowing X₀ Y₀ K₀ from 0
  rowing_start r =
      let cs : List Cmd = rows_of bytes in
      record {
        inside = omega arith;
        xs = writing_start X₀ from _ (omega (arith, r.in_xs, length-map cs (λ (c : Cmd). c.x)));
        ys = writing_start Y₀ from _ (omega (arith, r.in_ys, length-map cs (λ (c : Cmd). c.y)));
        kinds = writing_start K₀ from _ (omega (arith, r.in_kinds, length-map cs (λ (c : Cmd). c.kind)));
      }

module _ {bytes : List ℕ} {from : ℕ} {X₀ X Y₀ Y : List ℤ} {K₀ K : List ℕ} {i at : ℕ} (g : Rowing bytes from X₀ Y₀ K₀ X Y K i at) where
  module _ (h : 5 ≤ length bytes - at) where
    more : {A : Type 0} (k : Cmd → A) → map k (rows_of (drop at bytes)) ≡ k (row_at bytes at) ∷ map k (rows_of (drop (at + 5) bytes))
    more k = ap (map k) (rows_more bytes at (omega (arith, g.inside)))

    -- there is a cell for it
    room : {A : Type 0} {d₀ d whole : List A} (k : Cmd → A) → Writing d₀ from whole d i (map k (rows_of (drop at bytes))) → i < length d
    room k w = omega (arith, w.place, w.room, w.same, ap length (more k))

    pub room-x : i < length X
    room-x = room (λ (c : Cmd). c.x) g.xs

    pub room-y : i < length Y
    room-y = room (λ (c : Cmd). c.y) g.ys

    pub room-kind : i < length K
    room-kind = room (λ (c : Cmd). c.kind) g.kinds

    pub rowing_more : {x y : ℤ} → x ≡ (row_at bytes at).x → y ≡ (row_at bytes at).y
        → Rowing bytes from X₀ Y₀ K₀ (set X i x) (set Y i y) (set K i (row_at bytes at).kind) (i + 1) (at + 5)
    rowing_more ex ey = rw (ex, ey) record {
      inside = omega (arith, g.inside);
      xs = writing-one g.xs (more (λ (c : Cmd). c.x));
      ys = writing-one g.ys (more (λ (c : Cmd). c.y));
      kinds = writing-one g.kinds (more (λ (c : Cmd). c.kind));
    }

  pub rowing-done : length bytes - at < 5 → RowsPut (rows_of bytes) from i X₀ X Y₀ Y K₀ K
  rowing-done h =
      let none : rows_of (drop at bytes) ≡ [] = rows_none (drop at bytes) (rw (length-drop at bytes) h) in
      record { xs = writing-done g.xs (ap xs_of none); ys = writing-done g.ys (ap ys_of none); kinds = writing-done g.kinds (ap kinds_of none) }
