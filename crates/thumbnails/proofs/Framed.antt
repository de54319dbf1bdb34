-- Every command lies in the columns and rows between the bounds.
use Prim.Native.Nat.{ℕ, zero, suc, ◌+◌, ◌<◌}
use mathlib.Core.Path.{◌≡◌}
use mathlib.Core.List.{List, [], ◌∷◌, map}
use native.Mathlib.Omega.{arith}
use lib.IntN.{ℤ, pos, nat_abs, ◌-ℤ◌}
use lib.ListN.{length, get_or}
use lib.Signed.{le_z, ◌≤ℤ◌}
use Rattle.rules.specs.Lists.{min_z, max_z, least_from, greatest_from, least, greatest, min_x, min_y, max_x, max_y}
use Rattle.rules.specs.declared.Cmd.{Cmd}
use Rattle.laws.specs.Ints.{ints, abs_is, one0, sub-law, add-law}
use Rattle.laws.specs.Listing.{no_cmd}
use Rattle.laws.specs.Tests.{by-test}
use Rattle.geom.specs.Frames.{bounds_of}
use Rattle.geom.specs.declared.Bounds.{Bounds}
use Rattle.thumbnail_tables.specs.Cells.{From, Framed}

-- ---- least and greatest

over : (a b c : ℤ) → a ≤ℤ b → b ≤ℤ c → a ≤ℤ c
over a b c h l = omega ints

min-left : (a b : ℤ) → min_z a b ≤ℤ a
unfolding min_z
min-left a b = by-test (le_z a b) (λ t. rw t (omega ints)) (λ t. rw t (omega (ints, t)))

min-right : (a b : ℤ) → min_z a b ≤ℤ b
unfolding min_z
min-right a b = by-test (le_z a b) (λ t. rw t (omega (ints, t))) (λ t. rw t (omega ints))

max-left : (a b : ℤ) → a ≤ℤ max_z a b
unfolding max_z
max-left a b = by-test (le_z a b) (λ t. rw t (omega (ints, t))) (λ t. rw t (omega ints))

max-right : (a b : ℤ) → b ≤ℤ max_z a b
unfolding max_z
max-right a b = by-test (le_z a b) (λ t. rw t (omega ints)) (λ t. rw t (omega (ints, t)))

module _ (f : Cmd → ℤ) where
  least_first : (z : ℤ) (cs : List Cmd) → least_from z (map f cs) ≤ℤ z
  unfolding least_from
  least_first z [] = omega ints
  least_first z (c ∷ cs) = over _ _ _ (least_first (min_z z (f c)) cs) (min-left z (f c))

  least-each : (z : ℤ) (cs : List Cmd) (i : ℕ) → i < length cs → least_from z (map f cs) ≤ℤ f (get_or cs i no_cmd)
  unfolding least_from
  least-each z [] i l = absurd (omega arith)
  least-each z (c ∷ cs) zero l = over _ _ _ (least_first (min_z z (f c)) cs) (min-right z (f c))
  least-each z (c ∷ cs) (suc i) l = least-each (min_z z (f c)) cs i (omega arith)

  greatest-first : (z : ℤ) (cs : List Cmd) → z ≤ℤ greatest_from z (map f cs)
  unfolding greatest_from
  greatest-first z [] = omega ints
  greatest-first z (c ∷ cs) = over _ _ _ (max-left z (f c)) (greatest-first (max_z z (f c)) cs)

  greatest-each : (z : ℤ) (cs : List Cmd) (i : ℕ) → i < length cs → f (get_or cs i no_cmd) ≤ℤ greatest_from z (map f cs)
  unfolding greatest_from
  greatest-each z [] i l = absurd (omega arith)
  greatest-each z (c ∷ cs) zero l = over _ _ _ (max-right z (f c)) (greatest-first (max_z z (f c)) cs)
  greatest-each z (c ∷ cs) (suc i) l = greatest-each (max_z z (f c)) cs i (omega arith)

  least-is : (cs : List Cmd) (i : ℕ) → i < length cs → least (map f cs) ≤ℤ f (get_or cs i no_cmd)
  unfolding least
  least-is [] i l = absurd (omega arith)
  least-is (c ∷ cs) zero l = least_first (f c) cs
  least-is (c ∷ cs) (suc i) l = least-each (f c) cs i (omega arith)

  greatest-is : (cs : List Cmd) (i : ℕ) → i < length cs → f (get_or cs i no_cmd) ≤ℤ greatest (map f cs)
  unfolding greatest
  greatest-is [] i l = absurd (omega arith)
  greatest-is (c ∷ cs) zero l = greatest-first (f c) cs
  greatest-is (c ∷ cs) (suc i) l = greatest-each (f c) cs i (omega arith)

-- ---- between them

between : (a z b : ℤ) → a ≤ℤ z → z ≤ℤ b → From a (nat_abs (b -ℤ a) + 1) z
between a z b h l = record { start = h; end = omega (ints, abs_is (b -ℤ a), one0 (b -ℤ a), sub-law b a, add-law a (pos (nat_abs (b -ℤ a) + 1))) }

pub framed : (cs : List Cmd) → Framed (min_x cs) (nat_abs (max_x cs -ℤ min_x cs) + 1) (min_y cs) (nat_abs (max_y cs -ℤ min_y cs) + 1) cs
unfolding min_x min_y max_x max_y
framed cs i l = (
  between _ _ _ (least-is (λ (c : Cmd). c.x) cs i l) (greatest-is (λ (c : Cmd). c.x) cs i l),
  between _ _ _ (least-is (λ (c : Cmd). c.y) cs i l) (greatest-is (λ (c : Cmd). c.y) cs i l),
)

-- the bounds and the numbers of places as they are read back
pub framed-as : (cs : List Cmd) {b : Bounds} {l l' t t' : ℤ} {w h : ℕ} → b ≡ bounds_of cs → l ≡ b.min.x → l' ≡ b.max.x → t ≡ b.min.y → t' ≡ b.max.y
    → w ≡ nat_abs (l' -ℤ l) + 1 → h ≡ nat_abs (t' -ℤ t) + 1 → Framed l w t h cs
unfolding bounds_of
framed-as cs e el el' et et' ew eh = rw (ew, eh, el, el', et, et', e) (framed cs)
