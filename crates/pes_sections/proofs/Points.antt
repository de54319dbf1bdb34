-- A command of a list is near the edges; a place as the code has it; places in a row. Assumes nothing.
use Prim.Native.Nat.{ℕ, zero, suc, ◌+◌, ◌-◌, ◌*◌, ◌≤◌, ◌<◌}
use mathlib.Core.Path.{◌≡◌, refl, ◌∙◌}
use mathlib.Core.List.{List, [], ◌++◌}
use native.Mathlib.Numerals.{add-one}
use native.Mathlib.Omega.{arith}
use lib.IntN.{ℤ, pos}
use lib.ListN.{length, get_or, length-append}
use mir.Syntax.{w32}
use mir.Val.{SFits}
use mir.Facts.{to_z-of_z}
use Rattle.rules.specs.Lists.{commands}
use Rattle.rules.specs.Pes.{pes_point}
use Rattle.laws.specs.Lengths.{length-point}
use Rattle.laws.specs.Listing.{commands-at}
use Rattle.pes_section_cmd.specs.States.{Near}
use Rattle.pes_section_cmd.proofs.Distances.{back}
use Rattle.pes_sections.specs.Alike.{points}
use Rattle.pes_sections.specs.States.{placed}

-- the command at i is near
pub near-at : {left bottom : ℤ} (xs ys : List ℤ) (ks : List ℕ) (i : ℕ) → placed left bottom (commands xs ys ks) → i < length (commands xs ys ks)
    → Near left bottom (get_or xs i (pos 0)) (get_or ys i (pos 0))
near-at xs ys ks i p l = rw (commands-at xs ys ks i l) at (p i l)

-- a place as the code has it, through its bits
pub record Place (left bottom x y : ℤ) : Type 0 where
  pub near : Near (back left) (back bottom) (back x) (back y)
  pub same : pes_point (back left) (back bottom) (back x) (back y) ≡ pes_point left bottom x y

pub place : {left bottom x y : ℤ} → SFits w32 left → SFits w32 bottom → SFits w32 x → SFits w32 y → Near left bottom x y → Place left bottom x y
place l b f g n =
    record { near = rw (to_z-of_z l, to_z-of_z b, to_z-of_z f, to_z-of_z g) n; same = rw (to_z-of_z l, to_z-of_z b, to_z-of_z f, to_z-of_z g) }

-- places in a row: how many bytes, one more place, and no more
module _ (left bottom : ℤ) (xs ys : List ℤ) where
  pub points-long : (i n : ℕ) → length (points left bottom xs ys i n) ≡ 4 * n
  unfolding points
  points-long i zero = refl
  points-long i (suc n) = length-append (pes_point left bottom (get_or xs i (pos 0)) (get_or ys i (pos 0))) _
      ∙ omega (arith, length-point left bottom (get_or xs i (pos 0)) (get_or ys i (pos 0)), points-long (suc i) n)

  module _ (i j : ℕ) where
    pub points-more : i < j → points left bottom xs ys i (j - i) ≡ pes_point left bottom (get_or xs i (pos 0)) (get_or ys i (pos 0)) ++ points left bottom xs ys (i + 1) (j - (i + 1))
    unfolding points
    points-more l = let e : j - i ≡ suc (j - (i + 1)) = omega arith in rw (e, add-one)

    pub points_none : j ≤ i → points left bottom xs ys i (j - i) ≡ []
    unfolding points
    points_none l = let e : j - i ≡ 0 = omega arith in rw e
