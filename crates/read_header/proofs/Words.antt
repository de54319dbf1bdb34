-- The signed number that four bytes make. Assumes nothing.
use Prim.Native.Nat.{ℕ, ◌+◌, ◌^◌, ◌≤◌}
use mathlib.Core.Path.{◌≡◌, ap, ◌∙◌}
use mathlib.Core.List.{List, [], ◌∷◌}
use native.Mathlib.Omega.{arith}
use native.Mathlib.Numerals.{add-one}
use lib.Dec.{ltb}
use lib.ListN.{length, get_or, take, drop}
use mir.Syntax.{w32}
use mir.Val.{to_z}
use Rattle.std.specs.Int.{from_le_bytes}
use Rattle.rules.specs.Vocabulary.{from_little, signed}
use Rattle.rules.specs.Text.{word_at}
use Rattle.laws.specs.Tests.{by-test}
use Rattle.laws.specs.Listing.{list-more}

-- what a cast to `i32` gives
cast : (n : ℕ) → to_z w32 n ≡ signed 31 n
unfolding signed
cast n = by-test (ltb n (2 ^ 31)) (λ e. rw e) (λ e. rw (e, add-one n))

four : (s : List ℕ) (at : ℕ) → at + 4 ≤ length s
    → from_le_bytes w32 (get_or s at 0 ∷ get_or s (at + 1) 0 ∷ get_or s (at + 2) 0 ∷ get_or s (at + 3) 0 ∷ []) ≡ from_little (take 4 (drop at s))
unfolding from_little
four s at h =
    let p : at + 1 + 1 ≡ at + 2 = omega arith in
    let q : at + 2 + 1 ≡ at + 3 = omega arith in
    rw (list-more s 0 at (omega arith), list-more s 0 (at + 1) (omega arith), p, list-more s 0 (at + 2) (omega arith), q, list-more s 0 (at + 3) (omega arith)) (omega arith)

pub word : (s : List ℕ) (at : ℕ) → at + 4 ≤ length s
    → to_z w32 (from_le_bytes w32 (get_or s at 0 ∷ get_or s (at + 1) 0 ∷ get_or s (at + 2) 0 ∷ get_or s (at + 3) 0 ∷ [])) ≡ word_at at s
unfolding word_at
word s at h = cast _ ∙ ap (signed 31) (four s at h)
