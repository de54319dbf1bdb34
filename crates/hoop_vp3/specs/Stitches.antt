-- A look at the stitches of a block, one step after the other: what is to come is the same from turn to turn.
use Rattle.std.specs.Prelude.{ℕ, ◌≤◌, ◌<◌, ◌≡◌, false, List, length, drop, Some, None, Option}
use Rattle.rules.specs.Vp3.{stitch_events, strays}
use Rattle.rules.specs.declared.Hoop.{Hoop}
use Rattle.hoop_records.specs.Looks.{Looked}
use Rattle.hoop_records.specs.declared.looks.Look.{Look}

-- the stitches from there on stay within 32 bits
pub record Looking (s : List ℕ) (w : Look) : Type 0 where
  pub stays : strays w.x w.y (stitch_events (drop w.at s)) ≡ false
  pub within : w.at ≤ length s
  pub short : length s ≤ 2097152

-- a later byte, unless a place is outside
abbrev pub Onward : List ℕ → Look → Option Look → Type 0
Onward s w (Some v) = Looking s v × (w.at < length s → w.at < v.at)
Onward s w None = Unit {0}

-- some steps from w on
abbrev pub Looks : Hoop → List ℕ → Look → Option Look → Type 0
Looks h s w r = Looked h (λ i. stitch_events (drop i s)) (Onward s) w r
