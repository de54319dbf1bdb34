-- The turns of the loops: what holds as a turn begins, the bytes that one command or a run takes, what holds after it, and how many turns
-- are left.
-- Assumes nothing.
use Prim.Native.Nat.{ℕ, ◌+◌, ◌-◌, ◌*◌, ◌≤◌, ◌<◌}
use mathlib.Core.Path.{◌≡◌, sym, ap, ◌∙◌}
use mathlib.Core.Bool.{Bool, true, false, not, ◌&&◌}
use mathlib.Core.List.{List, [], ◌++◌}
use native.Mathlib.Omega.{arith}
use borrow.Author.Tests.{not-true}
use lib.Dec.{eqb}
use lib.IntN.{ℤ, pos, nat_abs, ◌-ℤ◌}
use mir.Facts.{to_z-of_z}
use mir.Syntax.{w32}
use mir.Val.{to_z, of_z}
use lib.ListN.{length, drop, get_or}
use Rattle.rules.specs.Vocabulary.{pick}
use Rattle.rules.specs.Lists.{op_of, commands, any_from}
use Rattle.rules.specs.Pec.{PecState, pec_start, pec_next, pec_value, pec_cmd, pec_stitches}
use Rattle.rules.specs.Refusals.{steps_past, step_too_long}
use Rattle.rules.specs.declared.Cmd.{Cmd}
use Rattle.rules.specs.declared.Format.TheVariants.{Pec}
use Rattle.rules.specs.declared.Op.{Op}
use Rattle.geom.specs.declared.P.{P}
use Rattle.laws.specs.Ints.{ints, abs_is}
use Rattle.laws.specs.Buffers.{Writing, writing-room}
use Rattle.laws.specs.Tests.{clash, and_left, and_right, pick-both}
use Rattle.laws.specs.Listing.{length-commands, commands-more, list-end, cmd_at, no_cmd}
use Rattle.pec_cmd.specs.declared.State.{State}
use Rattle.pec_cmd.specs.States.{state_of, Step}
use Rattle.pec.specs.Shorts.{Shorts, pairs}
use Rattle.pec.proofs.Stream.{going, next-opening, still, plain-going, plain_step_lem, plain-near}
use Rattle.pec.proofs.Runs.{length_pairs, near-from, run-bytes}

-- ---- as a turn begins

-- The state is one after a stitch or a colour change, and `last` is the command before i: from there a run may go.
pub record Behind (xs ys : List ℤ) (i : ℕ) (s : State) (last : Cmd) : Type 0 where
  pub going : s.jumped ≡ false
  pub opened : s.opening ≡ false
  pub some : 0 < i
  pub across : last.x ≡ get_or xs (i - 1) (pos 0)
  pub down : last.y ≡ get_or ys (i - 1) (pos 0)

-- There are n commands, and no step from the last one's place on is too long.
pub record Walk (xs ys : List ℤ) (ks : List ℕ) (n i : ℕ) (s : State) (last : Cmd) : Type 0 where
  pub count : n ≡ length (commands xs ys ks)
  pub near : any_from (steps_past Pec) last.x last.y (drop i (commands xs ys ks)) ≡ false
  pub opened : s.jumped ≡ false → Behind xs ys i s last

-- what the commands from i on take
abbrev pub bytes_from : List ℤ → List ℤ → List ℕ → ℕ → State → Cmd → List ℕ
bytes_from xs ys ks i s last = pec_stitches (state_of s) last.x last.y (drop i (commands xs ys ks))

pub walk_start : (xs ys : List ℤ) (ks : List ℕ) {n : ℕ} {s : State} → n ≡ length (commands xs ys ks) → state_of s ≡ pec_start → step_too_long Pec (commands xs ys ks) ≡ false → Walk xs ys ks n 0 s no_cmd
unfolding pec_start step_too_long
walk_start xs ys ks {s = s} c p l = record { count = c; near = l; opened = λ e. clash s.jumped (ap (λ (t : PecState). t.jumped) p) e }

pub no_bytes : (cs : List Cmd) (i : ℕ) (s : PecState) (x y : ℤ) → length cs ≤ i → pec_stitches s x y (drop i cs) ≡ []
unfolding pec_stitches
no_bytes cs i s x y l = rw (list-end cs i l)

-- ---- one command

-- A turn takes the command at i, c, by a step.
pub record Took (xs ys : List ℤ) (ks : List ℕ) (n i : ℕ) (s : State) (last c : Cmd) (by : P) : Type 0 where
  pub walk : Walk xs ys ks n i s last
  pub inside : i < n
  pub is : c ≡ cmd_at xs ys ks i
  pub step : (by.x ≡ c.x -ℤ last.x) × (by.y ≡ c.y -ℤ last.y)

module _ {xs ys : List ℤ} {ks : List ℕ} {n i : ℕ} {s : State} {last : Cmd} (w : Walk xs ys ks n i s last) (h : i < n) where
  pub here : i < length (commands xs ys ks)
  here = omega (arith, w.count)

  module _ {c : Cmd} (is : c ≡ cmd_at xs ys ks i) where
    -- its step is small, and so are those after it
    pub next-step : Step (c.x -ℤ last.x) (c.y -ℤ last.y)
    next-step = rw is (plain_step_lem xs ys ks i last.x last.y here w.near)

    next-near : any_from (steps_past Pec) c.x c.y (drop (i + 1) (commands xs ys ks)) ≡ false
    next-near = rw is (plain-near xs ys ks i last.x last.y here w.near)

-- a number as the code reads it, through its bits
abbrev pub read : ℤ → ℤ
read z = to_z w32 (of_z w32 z)

read_small : (z : ℤ) → nat_abs z ≤ 2048 → read z ≡ z
read_small z h = to_z-of_z {w = w32} (omega (ints, abs_is z))

module _ {xs ys : List ℤ} {ks : List ℕ} {n i : ℕ} {s : State} {last c : Cmd} {by : P} (t : Took xs ys ks n i s last c by) where
  pub few : i < length ks
  few = omega (arith, here t.walk t.inside, length-commands xs ys ks)

  small : Step (c.x -ℤ last.x) (c.y -ℤ last.y)
  small = next-step t.walk t.inside t.is

  across : read by.x ≡ get_or xs i (pos 0) -ℤ last.x
  across = rw t.step.0 (read_small _ small.x ∙ ap (λ (d : Cmd). d.x -ℤ last.x) t.is)

  down : read by.y ≡ get_or ys i (pos 0) -ℤ last.y
  down = rw t.step.1 (read_small _ small.y ∙ ap (λ (d : Cmd). d.y -ℤ last.y) t.is)

  pub took-step : Step (read by.x) (read by.y)
  took-step = rw (across, down) (plain_step_lem xs ys ks i last.x last.y (here t.walk t.inside) t.walk.near)

  -- its bytes, and those of the commands after it
  pub cmd-bytes : {op : Op} → op ≡ op_of c.kind
      → bytes_from xs ys ks i s last ≡ pec_cmd (state_of s) op (read by.x) (read by.y) ++ pec_stitches (pec_next (state_of s) op) c.x c.y (drop (i + 1) (commands xs ys ks))
  unfolding pec_stitches
  cmd-bytes e = rw (e, across, down, t.is, commands-more xs ys ks i (here t.walk t.inside))

  -- of a stitch that needs no pause
  pub going-bytes : {b : Bool} → b ≡ (not s.jumped && eqb c.kind 0) → b ≡ true
      → bytes_from xs ys ks i s last ≡ (pec_value (read by.x) ++ pec_value (read by.y)) ++ bytes_from xs ys ks (i + 1) s c
  going-bytes e g =
      let k = ap (λ (d : Cmd). not s.jumped && eqb d.kind 0) t.is in
      let still = going s (get_or ks i 0) (λ f. (t.walk.opened f).opened) (sym (e ∙ k) ∙ g) in
      rw (across, down, t.is) (plain-going xs ys ks i last.x last.y (here t.walk t.inside) (state_of s) still)

  -- they have room
  module _ {d₀ whole d : List ℕ} {base to : ℕ} (w : Writing d₀ base whole d to (bytes_from xs ys ks i s last)) where
    pub cmd-room : {op : Op} → op ≡ op_of c.kind → to + length (pec_cmd (state_of s) op (read by.x) (read by.y)) ≤ length d
    cmd-room {op} e =
        writing-room (pec_cmd (state_of s) op (read by.x) (read by.y)) (pec_stitches (pec_next (state_of s) op) c.x c.y (drop (i + 1) (commands xs ys ks))) w (cmd-bytes e)

    pub going-room : {b : Bool} → b ≡ (not s.jumped && eqb c.kind 0) → b ≡ true → to + length (pec_value (read by.x) ++ pec_value (read by.y)) ≤ length d
    going-room e g = writing-room (pec_value (read by.x) ++ pec_value (read by.y)) (bytes_from xs ys ks (i + 1) s c) w (going-bytes e g)

  -- as the next turn begins
  walked : (s' : State) → (s'.jumped ≡ false → s'.opening ≡ false) → Walk xs ys ks n (i + 1) s' c
  walked s' o = record { count = t.walk.count; near = next-near t.walk t.inside t.is; opened = behind }
    where
      back : i + 1 - 1 ≡ i
      back = omega arith

      behind : s'.jumped ≡ false → Behind xs ys (i + 1) s' c
      behind e = record { going = e; opened = o e; some = omega arith; across = rw (back, t.is); down = rw (back, t.is) }

  pub walk-next : (s' : State) (op : Op) → state_of s' ≡ pec_next (state_of s) op → Walk xs ys ks n (i + 1) s' c
  walk-next s' op w = walked s' (λ e. ap (λ (u : PecState). u.opening) w ∙ next-opening (state_of s) op)

  pub walk-still : Walk xs ys ks n (i + 1) s c
  walk-still = walked s (λ e. (t.walk.opened e).opened)

-- ---- a run

-- A turn takes the run to before j.
pub record Run (xs ys : List ℤ) (ks : List ℕ) (n i : ℕ) (s : State) (last : Cmd) (wait j : ℕ) : Type 0 where
  pub walk : Walk xs ys ks n i s last
  pub behind : Behind xs ys i s last
  pub waited : eqb wait 0 ≡ true
  pub ahead : i ≤ j
  pub inside : j ≤ length (commands xs ys ks)
  pub short : Shorts xs ys ks i j

-- a look for a run, where it stands, and the run that it finds
module _ {xs ys : List ℤ} {ks : List ℕ} {n i : ℕ} {s : State} {last : Cmd} (w : Walk xs ys ks n i s last) (wait : ℕ)
    {b : Bool} (e : b ≡ (not s.jumped && eqb wait 0)) (g : b ≡ true) where
  pub looks_on : Behind xs ys i s last
  looks_on = w.opened (not-true s.jumped (and_left (not s.jumped) (eqb wait 0) (sym e ∙ g)))

  pub finds : {j : ℕ} → (i ≤ j) × ((j ≤ length (commands xs ys ks)) × Shorts xs ys ks i j) → Run xs ys ks n i s last wait j
  finds r = record { walk = w; behind = looks_on; waited = and_right (not s.jumped) (eqb wait 0) (sym e ∙ g); ahead = r.0; inside = r.1.0; short = r.1.1 }

module _ {xs ys : List ℤ} {ks : List ℕ} {n i : ℕ} {s : State} {last : Cmd} {wait j : ℕ} (r : Run xs ys ks n i s last wait j) where
  pub run-some : 0 < j
  run-some = omega (arith, r.behind.some, r.ahead)

  pub run-few : j ≤ length ks
  run-few = omega (arith, r.inside, length-commands xs ys ks)

  pub length_run : length (pairs xs ys i (j - i)) ≡ 2 * (j - i)
  length_run = length_pairs xs ys i (j - i)

  module _ {c : Cmd} (e : c ≡ cmd_at xs ys ks (j - 1)) where
    pub run-leaves : bytes_from xs ys ks i s last ≡ pairs xs ys i (j - i) ++ bytes_from xs ys ks j s c
    run-leaves =
        let b = r.behind in
        rw (e, b.across, b.down) (run-bytes xs ys ks (state_of s) b.going (still s b.going b.opened) i j b.some r.ahead r.inside r.short)

    pub run_room : {d₀ whole d : List ℕ} {base to : ℕ} → Writing d₀ base whole d to (bytes_from xs ys ks i s last) → to + 2 * (j - i) ≤ length d
    run_room w = omega (arith, length_run, writing-room (pairs xs ys i (j - i)) (bytes_from xs ys ks j s c) w run-leaves)

    pub walk-run : step_too_long Pec (commands xs ys ks) ≡ false → Walk xs ys ks n j s c
    walk-run l = record {
      count = r.walk.count;
      near = rw e (near-from xs ys ks l j run-some r.inside);
      opened = λ g. record { going = g; opened = r.behind.opened; some = run-some; across = rw e; down = rw e };
    }

-- ---- the turns that are left

-- Each takes a command, or it looks for a run, and the next one takes a command.
abbrev pub turns : ℕ → ℕ → ℕ → ℕ
turns n i wait = 2 * (n - i) + pick (eqb wait 0) 1 0

pub turns-run : {xs ys : List ℤ} {ks : List ℕ} {n i : ℕ} {s : State} {last : Cmd} {wait j : ℕ} → Run xs ys ks n i s last wait j → turns n j 8 < turns n i wait
turns-run r = rw r.waited (omega (arith, r.ahead))

pub turns_next : {xs ys : List ℤ} {ks : List ℕ} {n i : ℕ} {s : State} {last c : Cmd} {by : P} → Took xs ys ks n i s last c by → (wait wait' : ℕ) → turns n (i + 1) wait' < turns n i wait
turns_next t wait wait' = omega (arith, t.inside, pick-both (λ (k : ℕ). k ≤ 1) (eqb wait' 0) {x = 1} {y = 0} (omega arith) (omega arith))
