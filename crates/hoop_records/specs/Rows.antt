-- A look at the records of a file, one after the other: what is to come is the same from turn to turn.
use Rattle.std.specs.Prelude.{ℕ, ◌*◌, ◌≤◌, ◌<◌, List, nat_abs, length, Some, None, Option}
use Rattle.rules.specs.declared.Hoop.{Hoop}
use Rattle.read_records.specs.declared.Row.{Row}
use Rattle.read_passes.specs.Walks.{events_from}
use Rattle.hoop_records.specs.Looks.{Looked}
use Rattle.hoop_records.specs.declared.looks.Look.{Look}

-- near by the bytes that are behind
pub record Looking (bytes : List ℕ) (w : Look) : Type 0 where
  pub x : nat_abs w.x ≤ 1000 * w.at
  pub y : nat_abs w.y ≤ 1000 * w.at
  pub within : w.at ≤ length bytes
  pub short : length bytes ≤ 2097152

-- a later byte, unless a place is outside
abbrev pub Onward : List ℕ → Look → Option Look → Type 0
Onward bytes w (Some v) = Looking bytes v × (w.at < v.at)
Onward bytes w None = Unit {0}

-- some records, one at least, from w on
abbrev pub Looks : Row → Hoop → List ℕ → Look → Option Look → Type 0
Looks f h bytes w r = Looked h (events_from f bytes) (Onward bytes) w r
