-- A part of the buffer, written at once. Assumes nothing.
use Prim.Native.Nat.{ℕ, ◌+◌, ◌-◌, ◌≤◌}
use mathlib.Core.Path.{◌≡◌, sym}
use mathlib.Core.List.{List, append_assoc}
use native.Mathlib.Omega.{arith}
use borrow.Rule.Slice.PartMut.{put_mid, Post-is}
use lib.ListN.{length, take, drop}
use lib.Seq.{sets-eq}
use Rattle.laws.specs.Buffers.{Put, put-by}

-- ys is what the part from `at` holds now
pub part-put : (d vs : List ℕ) (at n : ℕ) {ys : List ℕ} → ys ≡ vs → length vs ≡ n → at + n ≤ length d
    → Put d (put_mid at (at + n - at) d ys) at (at + n) vs
part-put d vs at n e h room =
    put-by (omega arith)
    (rw (e, Post-is at (at + n) d (omega arith), ← append_assoc (take at d) vs (drop (at + n) d)) (rw h at (sym (sets-eq vs d at (omega arith)))))
