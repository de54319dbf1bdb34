-- Each way out by its tests.
use mathlib.Core.Path.{◌≡◌}
use mathlib.Core.Bool.{true, false}
use lib.Ieee.{Float, lt}
use Rattle.thumbnails.specs.Cells.{is_in}
use Rattle.thumbnails.specs.declared.Cell.{Cell}
use Rattle.thumbnails.proofs.is_in.Goals as goal

-- after three tests the fourth decides
by_last : (c : Cell) (x y : Float) → lt x c.left ≡ false → lt y c.top ≡ false → lt x c.right ≡ true → lt y c.bottom ≡ is_in c x y
unfolding is_in
by_last c x y p q r = rw (p, q, r)

pub returns-then-x-c : goal.returns-then-x-c
unfolding is_in
returns-then-x-c c = simp c.if-x-c.true

pub returns-then-y-c : goal.returns-then-y-c
unfolding is_in
returns-then-y-c c = simp (c.if-x-c.false, c.if-y-c.true)

pub returns-then-x-c-2 : goal.returns-then-x-c-2
returns-then-x-c-2 c = let if2 = c.if-y-c in let if1 = c.if-x-c in
    by_last c.args.c _ _ if1.false if2.false c.if-x-c-2.true

pub returns : goal.returns
unfolding is_in
returns c = simp (c.if-x-c.false, c.if-y-c.false, c.if-x-c-2.false)
