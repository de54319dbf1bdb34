-- The bounds of a list, as a loop finds them: from the places so far and those that are left. Assumes nothing.
use Prim.Native.Nat.{ℕ, suc, ◌+◌, ◌<◌, ◌≤◌, ◌^◌}
use mathlib.Core.Path.{◌≡◌, refl, sym, ap, ◌∙◌}
use mathlib.Core.Bool.{false}
use mathlib.Core.List.{List, [], ◌∷◌, map}
use lib.IntN.{ℤ, pos, negsuc}
use lib.ListN.{get_or, length, drop}
use lib.Signed.{le_z, mag}
use mir.Syntax.{Width, w16, w32}
use mir.Val.{SFits, hbits, to_z, of_z}
use mir.Facts.{sfits_widen}
use Rattle.rules.specs.Lists.{commands, min_z, max_z, least_from, greatest_from, least, greatest, min_x, min_y, max_x, max_y}
use Rattle.rules.specs.Refusals.{place_outside}
use Rattle.rules.specs.declared.Cmd.{Cmd}
use Rattle.laws.specs.Tests.{by-test}
use Rattle.laws.specs.Ints.{parts, le-true, le-false, mag_is, abs_is, one0, fit, ret}
use Rattle.laws.specs.Listing.{cmd_at, commands-at, commands-more, length-commands, list-end}
use Rattle.laws.specs.Places.{Small, Within, every}
use native.Mathlib.Omega.{arith}
use Rattle.geom.specs.Frames.{place, frame, added, bounds_of}
use Rattle.geom.specs.declared.Bounds.{Bounds}
use Rattle.geom.specs.declared.P.{P}

abbrev xOf : Cmd → ℤ
xOf c = c.x

abbrev yOf : Cmd → ℤ
yOf c = c.y

-- b holds the places before `rest`, and the limits of a type that goes up to m
pub record Framing (m : ℕ) (cs : List Cmd) (b : Bounds) (rest : List Cmd) : Type 0 where
  pub left : least_from (pos m) (map xOf cs) ≡ least_from b.min.x (map xOf rest)
  pub top : least_from (pos m) (map yOf cs) ≡ least_from b.min.y (map yOf rest)
  pub right : greatest_from (negsuc m) (map xOf cs) ≡ greatest_from b.max.x (map xOf rest)
  pub bottom : greatest_from (negsuc m) (map yOf cs) ≡ greatest_from b.max.y (map yOf rest)

framing-more : {m : ℕ} {cs rest more : List Cmd} {b : Bounds} (c : Cmd) → Framing m cs b rest → rest ≡ c ∷ more
    → Framing m cs (added b (place c.x c.y)) more
unfolding least_from greatest_from
framing-more c f e = record { left = f.left ∙ rw e; top = f.top ∙ rw e; right = f.right ∙ rw e; bottom = f.bottom ∙ rw e }

-- the first place takes the place of the limits
module _ (m : ℕ) (z : ℤ) (h : mag z < suc m) where
  min-limit : min_z (pos m) z ≡ z
  unfolding min_z
  min-limit = by-test (le_z (pos m) z)
      (λ t. rw t (parts (pos m) z (omega (arith, le-true (pos m) z t, mag_is z, one0 z))))
      (λ t. rw t)

  max-limit : max_z (negsuc m) z ≡ z
  unfolding max_z
  max-limit = by-test (le_z (negsuc m) z)
      (λ t. rw t)
      (λ t. rw t (parts (negsuc m) z (omega (arith, le-false (negsuc m) z t, mag_is z, one0 z))))

  first-least : (zs : List ℤ) → least_from (pos m) (z ∷ zs) ≡ least (z ∷ zs)
  unfolding least_from least
  first-least zs = ap (λ (x : ℤ). least_from x zs) min-limit

  first-greatest : (zs : List ℤ) → greatest_from (negsuc m) (z ∷ zs) ≡ greatest (z ∷ zs)
  unfolding greatest_from greatest
  first-greatest zs = ap (λ (x : ℤ). greatest_from x zs) max-limit

framing-done : (m : ℕ) {cs more : List Cmd} {b : Bounds} (c : Cmd) → cs ≡ c ∷ more
    → mag c.x < suc m → mag c.y < suc m → Framing m cs b [] → b ≡ bounds_of cs
unfolding bounds_of min_x min_y max_x max_y least_from greatest_from
framing-done m {more = more} {b = b} c e hx hy f =
    let x = map xOf more in
    let y = map yOf more in
    rw e (λ i. frame
    ((sym (rw e at f.left) ∙ first-least m c.x hx x) i)
    ((sym (rw e at f.top) ∙ first-least m c.y hy y) i)
    ((sym (rw e at f.right) ∙ first-greatest m c.x hx x) i)
    ((sym (rw e at f.bottom) ∙ first-greatest m c.y hy y) i))

-- the same for the n commands of three slices, read as far as i
pub record Framed (m : ℕ) (xs ys : List ℤ) (ks : List ℕ) (n i : ℕ) (b : Bounds) : Type 0 where
  pub upto : i ≤ n
  pub whole : n ≡ length (commands xs ys ks)
  pub across : n ≤ length xs
  pub down : n ≤ length ys
  pub framing : Framing m (commands xs ys ks) b (drop i (commands xs ys ks))

pub framed-start : {m : ℕ} {xs ys : List ℤ} {ks : List ℕ} {n : ℕ} → n ≡ length (commands xs ys ks)
    → Framed m xs ys ks n 0 (frame (pos m) (pos m) (negsuc m) (negsuc m))
framed-start {m} {xs} {ys} {ks} e =
    let long = length-commands xs ys ks in
    record {
      upto = omega arith;
      whole = e;
      across = omega arith;
      down = omega arith;
      framing = record { left = refl; top = refl; right = refl; bottom = refl };
    }

module _ {m : ℕ} {xs ys : List ℤ} {ks : List ℕ} {n i : ℕ} {b : Bounds} (f : Framed m xs ys ks n i b) where
  pub framed-more : i < n → Framed m xs ys ks n (i + 1) (added b (place (get_or xs i (pos 0)) (get_or ys i (pos 0))))
  framed-more l = record {
    upto = omega arith;
    whole = f.whole;
    across = f.across;
    down = f.down;
    framing = framing-more (cmd_at xs ys ks i) f.framing (commands-more xs ys ks i (omega arith));
  }

  pub framed-done : n ≤ i → 0 < n → mag (get_or xs 0 (pos 0)) < suc m → mag (get_or ys 0 (pos 0)) < suc m → b ≡ bounds_of (commands xs ys ks)
  framed-done l some x y =
      framing-done m (cmd_at xs ys ks 0) (commands-more xs ys ks 0 (omega arith)) x y (rw (list-end (commands xs ys ks) i (omega arith)) at f.framing)

-- of no command: the limits, and the place (0, 0)
pub no-bounds : (cs : List Cmd) {b c : Bounds} {p : P} → length cs ≤ 0 → b ≡ added c p → p ≡ place (pos 0) (pos 0)
    → c ≡ frame (pos 2147483647) (pos 2147483647) (negsuc 2147483647) (negsuc 2147483647) → b ≡ bounds_of cs
unfolding bounds_of min_x min_y max_x max_y least greatest min_z max_z
no-bounds cs l e h k = rw (list-end cs 0 l, e, h, k)

-- the elements of a slice read so far are numbers of 32 bits
abbrev pub Read : List ℤ → ℕ → Type 0
Read zs n = (j : ℕ) → j < n → mag (get_or zs j (pos 0)) < 2 ^ 31

-- ---- in numbers of 16 bits

-- four numbers that hold the places before i; n is the number of commands
pub record Near (xs ys : List ℤ) (ks : List ℕ) (n i : ℕ) (x0 y0 x1 y1 : ℤ) : Type 0 where
  pub left : SFits w16 x0
  pub top : SFits w16 y0
  pub right : SFits w16 x1
  pub bottom : SFits w16 y1
  pub framed : Framed 32767 xs ys ks n i (frame x0 y0 x1 y1)

-- what is read back from its bits fits
pub fits-back : (w : Width) (z : ℤ) → mag z < 2 ^ hbits w → SFits w (to_z w (of_z w z))
fits-back w z h = rw (ret w z h) (fit w z h)

-- and fits a wider type
pub wider : {z : ℤ} → SFits w16 z → SFits w32 z
wider f = sfits_widen tt f

-- a place that is not outside fits
small-fits : (z : ℤ) → Small z → SFits w16 z
small-fits z h = record { sfits = omega (arith, abs_is z, mag_is z) }

pub near_fits : (xs ys : List ℤ) (ks : List ℕ) (i : ℕ) → place_outside (commands xs ys ks) ≡ false → i < length (commands xs ys ks)
    → SFits w16 (get_or xs i (pos 0)) × SFits w16 (get_or ys i (pos 0))
near_fits xs ys ks i e h =
    let near : Within (cmd_at xs ys ks i) = rw (commands-at xs ys ks i h) at (every (commands xs ys ks) e i h) in
    (small-fits (get_or xs i (pos 0)) near.across, small-fits (get_or ys i (pos 0)) near.down)
