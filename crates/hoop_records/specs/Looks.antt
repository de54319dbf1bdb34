-- Where a look stands, and whether all places that events lead to from there are in the hoop.
use Rattle.std.specs.Prelude.{ℕ, ◌+◌, ◌^◌, ◌<◌, Bool, true, false, ◌&&◌, ◌≡◌, List, ℤ, ◌+ℤ◌, Some, None, Option}
use Rattle.std.specs.Int.Signed.{mag}
use Rattle.rules.specs.Vocabulary.{pick}
use Rattle.rules.specs.Answers.{places}
use Rattle.rules.specs.Hoop.{in_hoop, all_in_hoop}
use Rattle.rules.specs.Records.{Event}
use Rattle.rules.specs.declared.Hoop.{Hoop}
use Rattle.hoop_records.specs.declared.looks.Look.{Look}

-- the place that a stitch leaves, if it opens a run
abbrev pub starts_in : Hoop → Look → Bool
starts_in h w = pick w.running true (in_hoop h w.x w.y)

-- after a step of n bytes, a run being open or not
abbrev pub stepped : Bool → Look → ℤ → ℤ → ℕ → Look
stepped o w dx dy n = record { x = w.x +ℤ dx; y = w.y +ℤ dy; running = o; at = w.at + n }

-- at another byte
abbrev pub placed_at : Look → ℕ → Look
placed_at w i = record { x = w.x; y = w.y; running = w.running; at = i }

-- after a stitch
abbrev pub sewn : Hoop → Look → ℤ → ℤ → ℕ → Option Look
sewn h w dx dy n = pick (starts_in h w && in_hoop h (w.x +ℤ dx) (w.y +ℤ dy)) (Some (stepped true w dx dy n)) None

-- after one more
abbrev pub sewn_more : Hoop → Option Look → ℤ → ℤ → ℕ → Option Look
sewn_more h (Some w) dx dy n = sewn h w dx dy n
sewn_more h None dx dy n = None

abbrev pub sewn_two : Hoop → Look → ℤ → ℤ → ℤ → ℤ → ℕ → Option Look
sewn_two h w dx dy ex ey n = sewn_more h (sewn h w dx dy n) ex ey n

-- a step leads to a place of 32 bits
pub record Leads (w : Look) (dx dy : ℤ) (n : ℕ) : Type 0 where
  pub x : mag (w.x +ℤ dx) < 2 ^ 31
  pub y : mag (w.y +ℤ dy) < 2 ^ 31
  pub at : w.at + n < 2 ^ 63

abbrev pub LeadsTwo : Look → ℤ → ℤ → ℤ → ℤ → ℕ → Type 0
LeadsTwo w dx dy ex ey n = Leads w dx dy n × Leads (stepped true w dx dy n) ex ey n

-- the places that events lead to
abbrev pub places_from : Look → List Event → List ℤ
places_from w es = places w.x w.y (pick w.running 1 0) es

abbrev pub fits_from : Hoop → Look → List Event → Bool
fits_from h w es = all_in_hoop h (places_from w es)

-- the same once something has been seen; `es` gives the events from a byte on
abbrev pub fits_on : Hoop → Option Look → (ℕ → List Event) → Bool
fits_on h (Some w) es = fits_from h w (es w.at)
fits_on h None es = false

-- a look from w on: what was to come is what is seen, of which O holds
pub record Looked (h : Hoop) (es : ℕ → List Event) (O : Look → Option Look → Type 0) (w : Look) (r : Option Look) : Type 0 where
  pub same : fits_from h w (es w.at) ≡ fits_on h r es
  pub onward : O w r
