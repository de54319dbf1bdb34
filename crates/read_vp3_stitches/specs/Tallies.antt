-- What the stitches of a block make of a tally.
use Rattle.std.specs.Prelude.{ℕ, ◌+◌, ◌-◌, ◌^◌, ◌≤◌, ◌<◌, ◌≡◌, List, [], ◌∷◌, length, drop}
use Rattle.rules.specs.Records.{Event, stitch, jump, change}
use Rattle.rules.specs.Vp3.{stitch_events}
use Rattle.read_count.specs.Tallies.{tallied, tallied_change}
use Rattle.read_count.specs.declared.tally.Passed.{Passed}
use Rattle.read_count.specs.declared.tally.Tally.{Tally}

unfoldable pub tally_all : Tally → List Event → Tally
tally_all t [] = t
tally_all t (stitch dx dy ∷ es) = tally_all (tallied 1 t) es
tally_all t (jump dx dy ∷ es) = tally_all (tallied 0 t) es
tally_all t (change dx dy ∷ es) = tally_all (tallied_change t) es

-- n more of each can be counted
pub record Spare (t : Tally) (n : ℕ) : Type 0 where
  pub stitches : t.stitches + n < 2 ^ 31
  pub runs : t.runs + n < 2 ^ 31
  pub running : t.running ≤ 1
  pub first : t.first ≤ t.runs
  pub blocks : t.blocks + n < 2 ^ 31

-- some steps from `at` on are counted
pub record Counts (s : List ℕ) (t : Tally) (at : ℕ) (p : Passed) : Type 0 where
  pub tells : tally_all t (stitch_events (drop at s)) ≡ tally_all p.t (stitch_events (drop p.at s))
  pub inside : p.at ≤ length s
  pub spare : Spare p.t (length s - p.at)
