-- A part of the buffer is filled with the byte.
use Prim.Native.Nat.{ℕ, ◌+◌, ◌-◌, ◌≤◌}
use mathlib.Core.Path.{◌≡◌, ap, ◌∙◌}
use mathlib.Core.List.{List}
use native.Mathlib.Omega.{arith}
use borrow.Rule.Slice.PartMut.{mid_of, mid_len}
use lib.ListN.{length, replicate, length-replicate}
use Rattle.emit.proofs.Parts.{part-put}
use Rattle.emit.proofs.put_times.Goals as goal

filled : (at n : ℕ) (d : List ℕ) → at + n ≤ length d → length (mid_of at (at + n - at) d) ≡ n
filled at n d h = mid_len at (at + n) d h ∙ omega arith

pub returns : goal.returns
returns c = let a = c.args in part-put a.out.now (replicate a.n a.a) a.at a.n (c.fill.ensures.after (λ y e. e) ∙ ap (λ k. replicate k a.a) (filled a.at a.n a.out.now c.requires)) (length-replicate a.n a.a) c.requires
