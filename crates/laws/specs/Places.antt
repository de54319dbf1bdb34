-- Where no command is outside, every place, and so the bounds, lie from -16,000 to 16,000, and two of them are at most 32,000 apart.
-- Assumes nothing.
use Rattle.std.specs.Prelude.{ℕ, zero, suc, ◌≤◌, ◌<◌, ◌≡◌, Bool, true, false, not, ℤ, pos, neg_ℤ, nat_abs, ◌-ℤ◌, length, get_or}
use mathlib.Core.List.{List, [], ◌∷◌, map}
use Rattle.std.proofs.Common.{le_of_suc-le-suc, not-suc-le-zero}
use native.Mathlib.Omega.{arith}
use Rattle.std.specs.Int.Signed.{le_z}
use Rattle.rules.specs.Vocabulary.{any, between}
use Rattle.rules.specs.Lists.{placed, min_z, max_z, least_from, greatest_from, least, greatest, min_x, min_y, max_x, max_y, width, height}
use Rattle.rules.specs.Refusals.{outside, place_outside}
use Rattle.rules.specs.declared.Cmd.{Cmd}
use Rattle.laws.specs.Tests.{by-test, clash, and_left, and_right, or-no-left, or-no-right, pick-both}
use Rattle.laws.specs.Ints.{ints, sub-law, abs_is, abs-le, between-true}
use Rattle.laws.specs.Listing.{no_cmd}

abbrev pub Small : ℤ → Type 0
Small z = nat_abs z ≤ 16000

pub apart : (a b : ℤ) → Small a → Small b → nat_abs (a -ℤ b) ≤ 32000
apart a b h l = abs-le (a -ℤ b) 32000 (omega (arith, sub-law a b, abs_is a, abs_is b)) (omega (arith, sub-law a b, abs_is a, abs_is b))

-- ---- one command

pub record Within (c : Cmd) : Type 0 where
  pub across : Small c.x
  pub down : Small c.y

axis : (z : ℤ) → between (neg_ℤ (pos 16000)) (pos 16000) z ≡ true → Small z
axis z e = let p = between-true (neg_ℤ (pos 16000)) (pos 16000) z e in abs-le z 16000 (omega ints) (omega ints)

passes : (b : Bool) → not b ≡ false → b ≡ true
passes b e = by-test b (λ t. t) (λ f. clash (not b) (rw f) e)

pub inside : (c : Cmd) → outside c ≡ false → Within c
unfolding outside placed
inside c e =
    let p = between (neg_ℤ (pos 16000)) (pos 16000) c.x in
    let q = between (neg_ℤ (pos 16000)) (pos 16000) c.y in
    let t = passes _ e in
    record { across = axis c.x (and_left p q t); down = axis c.y (and_right p q t) }

-- ---- every command of a list, by its index

pub every : (cs : List Cmd) → place_outside cs ≡ false → (i : ℕ) → i < length cs → Within (get_or cs i no_cmd)
unfolding place_outside any
every [] e i l = absurd (not-suc-le-zero l)
every (c ∷ cs) e zero l = inside c (or-no-left (outside c) (place_outside cs) e)
every (c ∷ cs) e (suc i) l = every cs (or-no-right (outside c) (place_outside cs) e) i (le_of_suc-le-suc l)

-- ---- the least and the greatest number that commands have

module _ (f : Cmd → ℤ) where
  abbrev AllSmall : List Cmd → Type 0
  AllSmall cs = (i : ℕ) → i < length cs → Small (f (get_or cs i no_cmd))

  from-least : (z : ℤ) (cs : List Cmd) → Small z → AllSmall cs → Small (least_from z (map f cs))
  unfolding least_from min_z
  from-least z [] h a = h
  from-least z (c ∷ cs) h a = from-least (min_z z (f c)) cs (pick-both Small (le_z z (f c)) h (a 0 (omega arith))) (λ i l. a (suc i) (omega arith))

  from-greatest : (z : ℤ) (cs : List Cmd) → Small z → AllSmall cs → Small (greatest_from z (map f cs))
  unfolding greatest_from max_z
  from-greatest z [] h a = h
  from-greatest z (c ∷ cs) h a = from-greatest (max_z z (f c)) cs (pick-both Small (le_z z (f c)) (a 0 (omega arith)) h) (λ i l. a (suc i) (omega arith))

  least-small : (cs : List Cmd) → AllSmall cs → Small (least (map f cs))
  unfolding least
  least-small [] a = omega arith
  least-small (c ∷ cs) a = from-least (f c) cs (a 0 (omega arith)) (λ i l. a (suc i) (omega arith))

  greatest-small : (cs : List Cmd) → AllSmall cs → Small (greatest (map f cs))
  unfolding greatest
  greatest-small [] a = omega arith
  greatest-small (c ∷ cs) a = from-greatest (f c) cs (a 0 (omega arith)) (λ i l. a (suc i) (omega arith))

-- ---- the bounds; those of no command are 0

module _ (cs : List Cmd) (e : place_outside cs ≡ false) where
  pub small-min_x : Small (min_x cs)
  unfolding min_x
  small-min_x = least-small (λ (c : Cmd). c.x) cs (λ i l. (every cs e i l).across)

  pub small-min_y : Small (min_y cs)
  unfolding min_y
  small-min_y = least-small (λ (c : Cmd). c.y) cs (λ i l. (every cs e i l).down)

  pub small-max_x : Small (max_x cs)
  unfolding max_x
  small-max_x = greatest-small (λ (c : Cmd). c.x) cs (λ i l. (every cs e i l).across)

  pub small-max_y : Small (max_y cs)
  unfolding max_y
  small-max_y = greatest-small (λ (c : Cmd). c.y) cs (λ i l. (every cs e i l).down)

  pub small_width : width cs ≤ 32000
  unfolding width
  small_width = apart (max_x cs) (min_x cs) small-max_x small-min_x

  pub small-height : height cs ≤ 32000
  unfolding height
  small-height = apart (max_y cs) (min_y cs) small-max_y small-min_y
