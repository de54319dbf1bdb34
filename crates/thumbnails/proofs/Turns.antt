-- A turn of the loop that draws.
use Prim.Native.Nat.{ℕ, ◌+◌, ◌≤◌, ◌<◌}
use mathlib.Core.Path.{◌≡◌}
use mathlib.Core.List.{List}
use native.Mathlib.Numerals.{add-one}
use native.Mathlib.Omega.{arith}
use lib.IntN.{ℤ, pos}
use lib.ListN.{length, get_or}
use lib.Seq.{slice, slice-cons, slice_empty}
use Rattle.rules.specs.Lists.{op_of, commands}
use Rattle.rules.specs.Thumbnails.{marked, drawn}
use Rattle.rules.specs.declared.Op.{Op}
use Rattle.rules.specs.declared.Scale.{Scale}
use Rattle.laws.specs.Listing.{no_cmd, commands-at}

module _ (s : Scale) (icon : List ℕ) (xs ys : List ℤ) (ks : List ℕ) (i to : ℕ) where
  pub next-mark : {icon' : List ℕ} {op : Op} {x y : ℤ} → i < to → to ≤ length (commands xs ys ks)
      → op ≡ op_of (get_or ks i 0) → x ≡ get_or xs i (pos 0) → y ≡ get_or ys i (pos 0) → icon' ≡ marked s icon op x y
      → drawn s icon (slice i to (commands xs ys ks)) ≡ drawn s icon' (slice (i + 1) to (commands xs ys ks))
  unfolding drawn
  next-mark h l eo ex ey e =
      let cs = commands xs ys ks in
      let k : i < length cs = omega arith in
      rw (slice-cons i to cs no_cmd h l, commands-at xs ys ks i k, e, eo, ex, ey, add-one)

  pub no-mark : i ≡ to → drawn s icon (slice i to (commands xs ys ks)) ≡ icon
  unfolding drawn
  no-mark e = rw (e, slice_empty to (commands xs ys ks))
