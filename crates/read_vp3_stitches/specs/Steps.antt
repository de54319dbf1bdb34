-- The step at a place: its event, and then those of the bytes behind it.
use Rattle.std.specs.Prelude.{ℕ, ◌+◌, ◌-◌, ◌*◌, ◌≤◌, ◌≡◌, List, [], ◌∷◌, ltb, pos, nat_abs, length, take, drop}
use Rattle.rules.specs.Vocabulary.{pick, signed}
use Rattle.rules.specs.Records.{Event, stitch, jump}
use Rattle.rules.specs.Vp3.{from_big, stitch_events}
use Rattle.read_vp3_stitches.specs.declared.steps.Step.{Step}
use Rattle.read_vp3_stitches.specs.declared.steps.Step.TheVariants.{Stitch, EndRun, Nothing, Finish}

-- 80 01 at `at`
abbrev pub long_of : ℕ → List ℕ → Step
long_of at s =
    pick (ltb (length s - at) 6) Finish
    (Stitch (signed 15 (from_big (take 2 (drop (at + 2) s)))) (signed 15 (from_big (take 2 (drop (at + 4) s)))) 6)

-- where the next step stands, in s
abbrev pub next_of : List ℕ → ℕ → Step → ℕ
next_of s at (Stitch dx dy n) = at + n
next_of s at EndRun = at + 2
next_of s at Nothing = at + 2
next_of s at Finish = length s

-- the step's event, and then `es`
abbrev pub step_then : Step → List Event → List Event
step_then (Stitch dx dy n) es = stitch dx dy ∷ es
step_then EndRun es = jump (pos 0) (pos 0) ∷ es
step_then Nothing es = es
step_then Finish es = []

-- a stitch moves at most 128 in two bytes, or 32,768 in six
abbrev pub Moves : Step → Type 0
Moves (Stitch dx dy n) = (2 ≤ n) × ((nat_abs dx ≤ 5462 * n) × (nat_abs dy ≤ 5462 * n))
Moves EndRun = Unit {0}
Moves Nothing = Unit {0}
Moves Finish = Unit {0}

pub record StepAt (s : List ℕ) (at : ℕ) (r : Step) : Type 0 where
  pub tells : stitch_events (drop at s) ≡ step_then r (stitch_events (drop (next_of s at r) s))
  pub inside : next_of s at r ≤ length s
  pub moves : Moves r
