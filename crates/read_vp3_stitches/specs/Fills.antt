-- What the stitches of a block make of the builder and of two buffers.
use Rattle.std.specs.Prelude.{ℕ, ◌+◌, ◌-◌, ◌*◌, ◌^◌, ◌≤◌, ◌<◌, ◌≡◌, false, List, [], ◌∷◌, ◌++◌, ℤ, ◌+ℤ◌, length, drop}
use Rattle.std.proofs.lemmas.List.Edits.{sets}
use Rattle.rules.specs.Answers.{places, run_of, points_after}
use Rattle.rules.specs.Records.{Event, stitch, jump, change}
use Rattle.rules.specs.Vp3.{strays, stitch_events}
use Rattle.read_builder.specs.Builders.{stitched, jumped, changed}
use Rattle.read_builder.specs.declared.Builder.{Builder}
use Rattle.read_passes.specs.declared.Turn.{Turn}

-- the builder after events
unfoldable pub built : Builder → List Event → Builder
built b [] = b
built b (stitch dx dy ∷ es) = built (stitched b (b.x +ℤ dx) (b.y +ℤ dy)) es
built b (jump dx dy ∷ es) = built (jumped b (b.x +ℤ dx) (b.y +ℤ dy)) es
built b (change dx dy ∷ es) = built (changed b (b.x +ℤ dx) (b.y +ℤ dy)) es

-- the runs that events end, n points being in the open one; the last stays open
unfoldable pub runs_ended : ℕ → List Event → List ℕ
runs_ended n [] = []
runs_ended n (stitch dx dy ∷ es) = runs_ended (points_after n) es
runs_ended n (jump dx dy ∷ es) = run_of n ++ runs_ended 0 es
runs_ended n (change dx dy ∷ es) = run_of n ++ runs_ended 0 es

-- n more of each can be counted
pub record Spare (b : Builder) (n : ℕ) : Type 0 where
  pub run : b.run + n < 2 ^ 31
  pub block : b.block + n < 2 ^ 31
  pub begun : b.begun + n < 2 ^ 31
  pub points : b.points + n < 2 ^ 31
  pub runs : b.runs + n < 2 ^ 31
  pub blocks : b.blocks + n < 2 ^ 31

abbrev pub places_on : Builder → List Event → List ℤ
places_on b es = places b.x b.y b.run es

-- the stitches from `at` on stay within 32 bits, and what they add has room in buffers of np and nr cells
pub record Ready (s : List ℕ) (b : Builder) (at np nr : ℕ) : Type 0 where
  pub stays : strays b.x b.y (stitch_events (drop at s)) ≡ false
  pub places : 2 * b.points + length (places_on b (stitch_events (drop at s))) ≤ np
  pub runs : b.runs + length (runs_ended b.run (stitch_events (drop at s))) ≤ nr
  pub spare : Spare b (length s - at)
  pub within : at ≤ length s

-- all events have been read
pub record Filled (es : List Event) (b : Builder) (P P' : List ℤ) (R R' : List ℕ) (q : Builder) : Type 0 where
  pub builder : q ≡ built b es
  pub places : P' ≡ sets P (2 * b.points) (places_on b es)
  pub runs : R' ≡ sets R b.runs (runs_ended b.run es)

-- some steps from `at` on have been read: what is written and what is to come are the same as before
pub record Turned (s : List ℕ) (b : Builder) (at : ℕ) (P P' : List ℤ) (R R' : List ℕ) (t : Turn) : Type 0 where
  pub builder : built b (stitch_events (drop at s)) ≡ built t.b (stitch_events (drop t.at s))
  pub places : sets P (2 * b.points) (places_on b (stitch_events (drop at s))) ≡ sets P' (2 * t.b.points) (places_on t.b (stitch_events (drop t.at s)))
  pub runs : sets R b.runs (runs_ended b.run (stitch_events (drop at s))) ≡ sets R' t.b.runs (runs_ended t.b.run (stitch_events (drop t.at s)))
  pub ready : Ready s t.b t.at (length P') (length R')
  pub same_places : length P' ≡ length P
  pub same_runs : length R' ≡ length R
  pub later : at < length s → at < t.at
