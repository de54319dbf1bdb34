-- The builder after each record, and what the record adds to the three answers.
use Rattle.std.specs.Prelude.{ℕ, zero, suc, ◌+◌, ◌*◌, ◌^◌, ◌≤◌, ◌<◌, ◌≡◌, List, [], ◌∷◌, ◌++◌, ℤ, pos, ◌+ℤ◌, length}
use Rattle.std.specs.Int.Signed.{mag}
use Rattle.rules.specs.Answers.{start_of, run_of, block_of, points_after, begun_after}
use Rattle.rules.specs.Limits.{block_cells_of}
use Rattle.rules.specs.declared.Counts.{Counts}
use Rattle.rules.specs.declared.Record.{Record}
use Rattle.rules.specs.declared.Record.TheVariants.{StitchBy, JumpBy, ChangeBy, Finish}
use Rattle.read_builder.specs.declared.Builder.{Builder}

abbrev pub origin : Builder
origin = record { x = pos 0; y = pos 0; run = 0; block = 0; begun = 0; points = 0; runs = 0; blocks = 0 }

-- 1, or 0 of 0
abbrev pub some : ℕ → ℕ
some zero = 0
some (suc n) = 1

-- the points that a stitch adds
abbrev pub added : ℕ → ℕ
added zero = 2
added (suc n) = 1

abbrev pub stitched : Builder → ℤ → ℤ → Builder
stitched b x y = record {
  x = x;
  y = y;
  run = points_after b.run;
  block = b.block;
  begun = begun_after b.run b.begun;
  points = b.points + added b.run;
  runs = b.runs;
  blocks = b.blocks;
}

-- 1 where a stitch opens a run
abbrev pub opening : ℕ → ℕ
opening zero = 1
opening (suc n) = 0

abbrev pub jumped : Builder → ℤ → ℤ → Builder
jumped b x y = record {
  x = x;
  y = y;
  run = 0;
  block = b.block;
  begun = b.begun;
  points = b.points;
  runs = b.runs + some b.run;
  blocks = b.blocks;
}

abbrev pub changed : Builder → ℤ → ℤ → Builder
changed b x y = record {
  x = x;
  y = y;
  run = 0;
  block = b.block + 1;
  begun = 0;
  points = b.points;
  runs = b.runs + some b.run;
  blocks = b.blocks + some b.begun;
}

abbrev pub followed : Builder → Record → ℤ → ℤ → Builder
followed b (StitchBy dx dy n) x y = stitched b x y
followed b (JumpBy dx dy n) x y = jumped b x y
followed b (ChangeBy dx dy n) x y = changed b x y
followed b Finish x y = b

abbrev pub finished : Builder → Builder
finished b = changed b b.x b.y

-- where the next record stands; at the end of the n bytes once the reading has ended
abbrev pub place_after : Record → ℕ → ℕ → ℕ
place_after (StitchBy dx dy len) at n = at + len
place_after (JumpBy dx dy len) at n = at + len
place_after (ChangeBy dx dy len) at n = at + len
place_after Finish at n = n

-- what a record adds to each answer
abbrev pub places_by : Builder → Record → List ℤ
places_by b (StitchBy dx dy n) = start_of b.run b.x b.y ++ (b.x +ℤ dx) ∷ (b.y +ℤ dy) ∷ []
places_by b (JumpBy dx dy n) = []
places_by b (ChangeBy dx dy n) = []
places_by b Finish = []

abbrev pub runs_by : Builder → Record → List ℕ
runs_by b (StitchBy dx dy n) = []
runs_by b (JumpBy dx dy n) = run_of b.run
runs_by b (ChangeBy dx dy n) = run_of b.run
runs_by b Finish = []

abbrev pub blocks_by : (ℕ → ℕ) → Builder → Record → List ℕ
blocks_by colour b (StitchBy dx dy n) = []
blocks_by colour b (JumpBy dx dy n) = []
blocks_by colour b (ChangeBy dx dy n) = block_of colour b.block b.begun
blocks_by colour b Finish = []

-- k is what the builder has counted, and the cuts: runs less blocks
pub record Counted (b : Builder) (k : Counts) : Type 0 where
  pub points : k.points ≡ b.points
  pub runs : k.runs ≡ b.runs
  pub blocks : k.blocks ≡ b.blocks
  pub cuts : k.cuts + b.blocks ≡ b.runs

-- the place is an i32, and no count is near the end of its type
pub record Small (b : Builder) : Type 0 where
  pub x : mag b.x < 2 ^ 31
  pub y : mag b.y < 2 ^ 31
  pub run : b.run < 2 ^ 31
  pub block : b.block < 2 ^ 31
  pub begun : b.begun < 2 ^ 31
  pub points : b.points < 2 ^ 31
  pub runs : b.runs < 2 ^ 31
  pub blocks : b.blocks < 2 ^ 31

-- a step is an i32, and so is where it leads from the builder's place
pub record Reach (b : Builder) (dx dy : ℤ) : Type 0 where
  pub x_step : mag dx < 2 ^ 31
  pub y_step : mag dy < 2 ^ 31
  pub x : mag (b.x +ℤ dx) < 2 ^ 31
  pub y : mag (b.y +ℤ dy) < 2 ^ 31

-- what a record adds has room in buffers of np, nr and nb cells
pub record Holds (colour : ℕ → ℕ) (b : Builder) (r : Record) (np nr nb : ℕ) : Type 0 where
  pub places : 2 * b.points + length (places_by b r) ≤ np
  pub runs : b.runs + length (runs_by b r) ≤ nr
  pub blocks : block_cells_of * b.blocks + length (blocks_by colour b r) ≤ nb
