-- The loops that write: a turn's bytes, and that its steps are small. Assumes nothing.
use Prim.Native.Nat.{ℕ, ◌+◌, ◌^◌, ◌≤◌, ◌<◌}
use mathlib.Core.Path.{◌≡◌, refl, sym, ap, ◌∙◌}
use mathlib.Core.Bool.{Bool, true, false, not, ◌||◌}
use mathlib.Core.List.{List, ◌++◌, append_assoc}
use native.Mathlib.Omega.{arith}
use lib.IntN.{ℤ, pos, neg_ℤ, nat_abs, ◌-ℤ◌}
use lib.ListN.{length, drop, get_or}
use lib.Signed.{mag}
use mir.Syntax.{w32}
use mir.Val.{SFits, hbits, to_z, of_z}
use mir.Facts.{to_z-of_z}
use Rattle.rules.specs.Vocabulary.{between}
use Rattle.rules.specs.Lists.{op_of, commands, written, any_from}
use Rattle.rules.specs.Refusals.{steps_past, step_too_long, step_in, least_step, greatest_step}
use Rattle.stream_cmd.specs.declared.Stream.{Stream}
use Rattle.stream_cmd.specs.declared.Stream.TheVariants.{Dst, Exp, Jef}
use Rattle.rules.specs.declared.Op.TheVariants.{Stitch}
use Rattle.laws.specs.Tests.{and_left, and_right, or-no-left, or-no-right}
use Rattle.laws.specs.Ints.{ints, ret, abs-le, between-true}
use Rattle.laws.specs.Buffers.{Put, Writing, writing_start, writing-room, writing_more, writing-done}
use Rattle.laws.specs.Listing.{commands-more, list-end}
use Rattle.stream_cmd.specs.Cmds.{format_of, cmd_of, most, Step, Ready, StepAt, bytes_at}

-- ---- a step within a format's limits

-- a test that fails, undone
un_not : (b : Bool) → not b ≡ false → b ≡ true
un_not true e = refl
un_not false e = sym e

-- one axis
axis : (f : Stream) (z : ℤ) → between (least_step (format_of f)) (greatest_step (format_of f)) z ≡ true → nat_abs z ≤ most f
unfolding least_step greatest_step most
axis Dst z e = let p = between-true (neg_ℤ (pos 121)) (pos 121) z e in abs-le z 121 (omega ints) (omega ints)
axis Exp z e = let p = between-true (neg_ℤ (pos 127)) (pos 127) z e in abs-le z 127 (omega ints) (omega ints)
axis Jef z e = let p = between-true (neg_ℤ (pos 127)) (pos 127) z e in abs-le z 127 (omega ints) (omega ints)

small : (f : Stream) (dx dy : ℤ) → step_in (format_of f) dx dy ≡ true → Step f dx dy
unfolding step_in
small f dx dy e =
    let p = between (least_step (format_of f)) (greatest_step (format_of f)) dx in
    let q = between (least_step (format_of f)) (greatest_step (format_of f)) dy in
    record { x = axis f dx (and_left p q e); y = axis f dy (and_right p q e) }

pub most-at : (f : Stream) → most f ≤ 2048
unfolding most
most-at Dst = omega arith
most-at Exp = omega arith
most-at Jef = omega arith

-- a step as the code has it: the difference of two places, through their bits
pub stepped : {r a b : ℤ} → mag r < 2 ^ hbits w32 → r ≡ to_z w32 (of_z w32 a) -ℤ to_z w32 (of_z w32 b) → SFits w32 a → SFits w32 b → to_z w32 (of_z w32 r) ≡ a -ℤ b
stepped {r} h e p q = ret w32 r h ∙ e ∙ rw (to_z-of_z p, to_z-of_z q)

-- what is known of it: it is small where the difference of the places is
pub near_step : (a b : ℤ) (n : ℕ) → SFits w32 a → SFits w32 b → nat_abs (a -ℤ b) ≤ n → n ≤ 2048
    → nat_abs (to_z w32 (of_z w32 a) -ℤ to_z w32 (of_z w32 b)) < 2 ^ 31
near_step a b n p q h l = rw (to_z-of_z p, to_z-of_z q) (omega arith)

pub stepped-small : (r a b : ℤ) (n : ℕ) → mag r < 2 ^ hbits w32 → r ≡ to_z w32 (of_z w32 a) -ℤ to_z w32 (of_z w32 b) → SFits w32 a → SFits w32 b
    → nat_abs (a -ℤ b) ≤ n → nat_abs (to_z w32 (of_z w32 r)) ≤ n
stepped-small r a b n h e p q l = rw (stepped h e p q) l

-- ---- what is left of a list, from the command at i on, after the place (x, y)

-- its bytes
abbrev bytes_from : Stream → List ℤ → List ℤ → List ℕ → ℕ → ℤ → ℤ → List ℕ
bytes_from f xs ys ks i x y = written (cmd_of f) x y (drop i (commands xs ys ks))

-- no step is too long
pub record Near (f : Stream) (xs ys : List ℤ) (ks : List ℕ) (i : ℕ) (x y : ℤ) : Type 0 where
  pub near : any_from (steps_past (format_of f)) x y (drop i (commands xs ys ks)) ≡ false

-- A turn of a loop: its bytes vs, and then what is left from j on, after (x', y')
pub record Turn (f : Stream) (xs ys : List ℤ) (ks : List ℕ) (i : ℕ) (x y : ℤ) (vs : List ℕ) (j : ℕ) (x' y' : ℤ) : Type 0 where
  pub bytes : bytes_from f xs ys ks i x y ≡ vs ++ bytes_from f xs ys ks j x' y'
  pub after : Near f xs ys ks j x' y'

-- one command
module _ {f : Stream} {xs ys : List ℤ} {ks : List ℕ} {i : ℕ} {x y : ℤ} (e : Near f xs ys ks i x y) (l : i < length (commands xs ys ks)) where
  abbrev past : Bool
  past = not (step_in (format_of f) (get_or xs i (pos 0) -ℤ x) (get_or ys i (pos 0) -ℤ y))

  abbrev later : Bool
  later = any_from (steps_past (format_of f)) (get_or xs i (pos 0)) (get_or ys i (pos 0)) (drop (i + 1) (commands xs ys ks))

  neither : past || later ≡ false
  unfolding any_from steps_past
  neither = rw (commands-more xs ys ks i l) at e.near

  pub one-step : StepAt f xs ys i x y
  one-step = small f _ _ (un_not _ (or-no-left past later neither))

  pub one-turn : Turn f xs ys ks i x y (bytes_at f xs ys ks i x y) (i + 1) (get_or xs i (pos 0)) (get_or ys i (pos 0))
  unfolding written
  one-turn = record { bytes = rw (commands-more xs ys ks i l); after = record { near = or-no-right past later neither } }

-- two turns are one
two-turns : {f : Stream} {xs ys : List ℤ} {ks : List ℕ} {i j k : ℕ} {x y x' y' x'' y'' : ℤ} {vs ws : List ℕ}
    → Turn f xs ys ks i x y vs j x' y' → Turn f xs ys ks j x' y' ws k x'' y'' → Turn f xs ys ks i x y (vs ++ ws) k x'' y''
two-turns {vs = vs} p q = record { bytes = p.bytes ∙ ap (λ l. vs ++ l) q.bytes ∙ sym (append_assoc vs _ _); after = q.after }

-- two commands, which are stitches
module _ {f : Stream} {xs ys : List ℤ} {ks : List ℕ} {i : ℕ} {x y : ℤ} (e : Near f xs ys ks i x y) (l : i + 1 < length (commands xs ys ks)) where
  first : Turn f xs ys ks i x y (bytes_at f xs ys ks i x y) (i + 1) (get_or xs i (pos 0)) (get_or ys i (pos 0))
  first = one-turn e (omega arith)

  next-step : StepAt f xs ys (i + 1) (get_or xs i (pos 0)) (get_or ys i (pos 0))
  next-step = one-step first.after l

  two-stitches : get_or ks i 0 + get_or ks (i + 1) 0 ≡ 0
      → (let nx = get_or xs i (pos 0) in
      let ny = get_or ys i (pos 0) in
      let mx = get_or xs (i + 1) (pos 0) in
      let my = get_or ys (i + 1) (pos 0) in
      Turn f xs ys ks i x y (cmd_of f Stitch (nx -ℤ x) (ny -ℤ y) ++ cmd_of f Stitch (mx -ℤ nx) (my -ℤ ny)) (i + 1 + 1) mx my)
  unfolding op_of
  two-stitches z =
      let p : get_or ks i 0 ≡ 0 = omega arith in
      let q : get_or ks (i + 1) 0 ≡ 0 = omega arith in
      rw (p, q) at (two-turns first (one-turn first.after l))

-- ---- the same with places as the code reads them, through their bits, which hold them

abbrev pub read_at : List ℤ → ℕ → ℤ
read_at zs i = to_z w32 (of_z w32 (get_or zs i (pos 0)))

abbrev Held : List ℤ → ℕ → Type 0
Held zs i = mag (get_or zs i (pos 0)) < 2 ^ hbits w32

pub one-read : {f : Stream} {xs ys : List ℤ} {ks : List ℕ} {i : ℕ} {x y : ℤ} → Near f xs ys ks i x y → i < length (commands xs ys ks) → Held xs i → Held ys i
    → Turn f xs ys ks i x y (bytes_at f xs ys ks i x y) (i + 1) (read_at xs i) (read_at ys i)
one-read {xs = xs} {ys = ys} {i = i} e l p q = rw (ret w32 (get_or xs i (pos 0)) p, ret w32 (get_or ys i (pos 0)) q) (one-turn e l)

-- two stitches: their steps, and their turn
pub record Two (f : Stream) (xs ys : List ℤ) (ks : List ℕ) (i : ℕ) (x y nx ny mx my : ℤ) : Type 0 where
  pub first : Step f (nx -ℤ x) (ny -ℤ y)
  pub second : Step f (mx -ℤ nx) (my -ℤ ny)
  pub turn : Turn f xs ys ks i x y (cmd_of f Stitch (nx -ℤ x) (ny -ℤ y) ++ cmd_of f Stitch (mx -ℤ nx) (my -ℤ ny)) (i + 1 + 1) mx my

pub two-read : {f : Stream} {xs ys : List ℤ} {ks : List ℕ} {i : ℕ} {x y : ℤ} → Near f xs ys ks i x y → i + 1 < length (commands xs ys ks)
    → get_or ks i 0 + get_or ks (i + 1) 0 ≡ 0 → Held xs i → Held ys i → Held xs (i + 1) → Held ys (i + 1)
    → Two f xs ys ks i x y (read_at xs i) (read_at ys i) (read_at xs (i + 1)) (read_at ys (i + 1))
two-read {xs = xs} {ys = ys} {i = i} e l z p q r s =
    rw (ret w32 (get_or xs i (pos 0)) p, ret w32 (get_or ys i (pos 0)) q, ret w32 (get_or xs (i + 1) (pos 0)) r, ret w32 (get_or ys (i + 1) (pos 0)) s)
    record { first = one-step e (omega arith); second = next-step e l; turn = two-stitches e l z }

-- ---- the invariant of a loop

-- d₀ is the buffer at first, and d the buffer now, written from `base` as far as n
pub record Going (f : Stream) (xs ys : List ℤ) (ks : List ℕ) (d₀ : List ℕ) (base : ℕ) (d : List ℕ) (n i : ℕ) (x y : ℤ) : Type 0 where
  pub writing : Writing d₀ base (written (cmd_of f) (pos 0) (pos 0) (commands xs ys ks)) d n (bytes_from f xs ys ks i x y)
  pub steps : Near f xs ys ks i x y
  pub ahead : base ≤ n

pub going_start : (f : Stream) (xs ys : List ℤ) (ks : List ℕ) (d : List ℕ) (base : ℕ) → Ready f xs ys ks d base → Going f xs ys ks d base d base 0 (pos 0) (pos 0)
unfolding step_too_long
going_start f xs ys ks d base r = record { writing = writing_start d base _ r.1; steps = record { near = r.0 }; ahead = omega arith }

module _ {f : Stream} {xs ys : List ℤ} {ks : List ℕ} {d₀ d : List ℕ} {base n i : ℕ} {x y : ℤ} (g : Going f xs ys ks d₀ base d n i x y) where
  module _ {vs : List ℕ} {j : ℕ} {x' y' : ℤ} (t : Turn f xs ys ks i x y vs j x' y') where
    pub going-room : n + length vs ≤ length d
    going-room = writing-room vs (bytes_from f xs ys ks j x' y') g.writing t.bytes

    pub going_on : {d' : List ℕ} {m : ℕ} → Put d d' n m vs → Going f xs ys ks d₀ base d' m j x' y'
    going_on p = record { writing = writing_more g.writing t.bytes p; steps = t.after; ahead = omega (arith, p.ends, g.ahead) }

  pub going_done : length (commands xs ys ks) ≤ i → Put d₀ d base n (written (cmd_of f) (pos 0) (pos 0) (commands xs ys ks))
  unfolding written
  going_done l = writing-done g.writing (rw (list-end (commands xs ys ks) i l))
