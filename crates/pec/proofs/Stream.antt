-- A stitch that needs no pause, its bytes and those of the commands after it, and that a step is small. Assumes nothing.
use Prim.Native.Nat.{ℕ, ◌+◌, ◌^◌, ◌≤◌, ◌<◌}
use mathlib.Core.Path.{◌≡◌, refl}
use mathlib.Core.Bool.{Bool, true, false, not, ◌&&◌, ◌||◌}
use mathlib.Core.List.{List, ◌++◌}
use lib.Dec.{eqb}
use borrow.Author.Tests.{eqb-true, not-true, not-false}
use lib.IntN.{ℤ, pos, neg_ℤ, nat_abs, ◌-ℤ◌}
use lib.ListN.{length, drop, get_or}
use lib.Signed.{mag}
use mir.Syntax.{w32}
use mir.Val.{hbits, to_z, of_z}
use Rattle.rules.specs.Vocabulary.{between}
use Rattle.rules.specs.Lists.{op_of, commands, any_from}
use Rattle.rules.specs.Pec.{PecState, pec_next, pec_value, pause, pec_cmd, pec_stitches}
use Rattle.rules.specs.Refusals.{steps_past, step_in, least_step, greatest_step}
use Rattle.rules.specs.declared.Cmd.{Cmd}
use Rattle.rules.specs.declared.Format.TheVariants.{Pec}
use Rattle.rules.specs.declared.Op.{Op}
use Rattle.rules.specs.declared.Op.TheVariants.{Stitch, Jump, Trim, ColorChange, End}
use Rattle.laws.specs.Tests.{and_left, and_right, or-no-left, or-no-right}
use Rattle.laws.specs.Ints.{ints, abs-le, between-true}
use Rattle.laws.specs.Listing.{commands-more}
use Rattle.pec_cmd.specs.declared.State.{State}
use Rattle.pec_cmd.specs.States.{state_of, Step}

-- ---- a step within PEC's limits

axis : (z : ℤ) → between (neg_ℤ (pos 2048)) (pos 2047) z ≡ true → nat_abs z ≤ 2048
axis z e = let p = between-true (neg_ℤ (pos 2048)) (pos 2047) z e in abs-le z 2048 (omega ints) (omega ints)

small : (dx dy : ℤ) → step_in Pec dx dy ≡ true → Step dx dy
unfolding step_in least_step greatest_step
small dx dy e =
    let p = between (neg_ℤ (pos 2048)) (pos 2047) dx in
    let q = between (neg_ℤ (pos 2048)) (pos 2047) dy in
    record { x = axis dx (and_left p q e); y = axis dy (and_right p q e) }

-- ---- a stitch that follows a stitch or a colour change

-- it has no pause, and the state stays
pub record Going (s : PecState) (kind : ℕ) : Type 0 where
  pub jumped : s.jumped ≡ false
  pub stitch : op_of kind ≡ Stitch
  pub stays : pec_next s Stitch ≡ s

pub next-opening : (s : PecState) (op : Op) → (pec_next s op).opening ≡ false
unfolding pec_next
next-opening s Stitch = refl
next-opening s Jump = refl
next-opening s Trim = refl
next-opening s ColorChange = refl
next-opening s End = refl

pub still : (s : State) → s.jumped ≡ false → s.opening ≡ false → pec_next (state_of s) Stitch ≡ state_of s
unfolding pec_next
still s e f = rw (e, f)

pub stitch : (kind : ℕ) → kind ≡ 0 → op_of kind ≡ Stitch
unfolding op_of
stitch kind e = rw e

pub going : (s : State) (kind : ℕ) → (s.jumped ≡ false → s.opening ≡ false) → not s.jumped && eqb kind 0 ≡ true → Going (state_of s) kind
going s kind o e =
    let j = not-true s.jumped (and_left (not s.jumped) (eqb kind 0) e) in
    record { jumped = j; stitch = stitch kind (eqb-true kind 0 (and_right (not s.jumped) (eqb kind 0) e)); stays = still s j (o j) }

-- ---- one more command, its places as the list has them

module _ (xs ys : List ℤ) (ks : List ℕ) (i : ℕ) (x y : ℤ) (l : i < length (commands xs ys ks)) where
  abbrev more : List Cmd
  more = drop (i + 1) (commands xs ys ks)

  abbrev dx : ℤ
  dx = get_or xs i (pos 0) -ℤ x

  abbrev dy : ℤ
  dy = get_or ys i (pos 0) -ℤ y

  pub plain-going : (s : PecState) → Going s (get_or ks i 0)
      → pec_stitches s x y (drop i (commands xs ys ks)) ≡ (pec_value dx ++ pec_value dy) ++ pec_stitches s (get_or xs i (pos 0)) (get_or ys i (pos 0)) more
  unfolding pec_stitches pec_cmd pause
  plain-going s g = rw (commands-more xs ys ks i l, g.stitch, g.stays, g.jumped)

  -- no step is too long: not this one, and none later
  module _ (e : any_from (steps_past Pec) x y (drop i (commands xs ys ks)) ≡ false) where
    abbrev later : Bool
    later = any_from (steps_past Pec) (get_or xs i (pos 0)) (get_or ys i (pos 0)) more

    neither : not (step_in Pec dx dy) || later ≡ false
    unfolding any_from steps_past
    neither = rw (commands-more xs ys ks i l) at e

    pub plain_step_lem : Step dx dy
    plain_step_lem = small dx dy (not-false _ (or-no-left (not (step_in Pec dx dy)) later neither))

    pub plain-near : later ≡ false
    plain-near = or-no-right (not (step_in Pec dx dy)) later neither

-- ---- a place as the code reads it, through its bits, which hold it

abbrev pub read_at : List ℤ → ℕ → ℤ
read_at xs i = to_z w32 (of_z w32 (get_or xs i (pos 0)))

abbrev pub Held : List ℤ → ℕ → Type 0
Held xs i = mag (get_or xs i (pos 0)) < 2 ^ hbits w32
