-- The second pass over the colour blocks: what is written and what is to come are the same from block to block.
use Rattle.std.specs.Prelude.{ℕ, suc, ◌+◌, ◌-◌, ◌*◌, ◌≤◌, ◌≡◌, List, ℤ, pos, length, Ok}
use Rattle.std.proofs.lemmas.List.Edits.{sets}
use Rattle.rules.specs.Answers.{places, runs, blocks}
use Rattle.rules.specs.Files.{color_number, or_default}
use Rattle.rules.specs.Layout.{shade_at}
use Rattle.rules.specs.Limits.{block_cells_of}
use Rattle.rules.specs.Vp3.{Blocks, ended, block, blocks_from, fault_in, events_in, colors_in}
use Rattle.read_builder.specs.declared.Builder.{Builder}
use Rattle.read_vp3_fields.specs.Fields.{within}
use Rattle.read_vp3_stitches.specs.Fills.{Spare}
use Rattle.read_passes.specs.declared.Turn.{Turn}

-- c gives the colours of blocks, the first of them being number k
abbrev pub Coloured : (ℕ → ℕ) → ℕ → Blocks → Type 0
Coloured c k (ended v) = Unit {0}
Coloured c k (block x y colour bytes bs) = (c k ≡ color_number colour) × Coloured c (suc k) bs

-- a block's colour by its number
abbrev pub colour_by : Blocks → ℕ → ℕ
colour_by bs k = or_default (shade_at (colors_in bs) k) k

-- the answers that blocks add to those of a builder
abbrev pub places_by : Builder → Blocks → List ℤ
places_by b bs = places b.x b.y 0 (events_in bs)

abbrev pub runs_by : Blocks → List ℕ
runs_by bs = runs 0 (events_in bs)

abbrev pub blocks_by : (ℕ → ℕ) → Builder → Blocks → List ℕ
blocks_by c b bs = blocks c b.block 0 0 (events_in bs)

module _ (s : List ℕ) (end : ℕ) where
  -- n blocks from where a filler stands
  abbrev pub blocks_at : ℕ → Turn → Blocks
  blocks_at n f = blocks_from n f.b.x f.b.y (within s f.at end)

  -- they are without fault, and their answers have room in buffers of np, nr and nb cells
  pub record Ready (n : ℕ) (f : Turn) (np nr nb : ℕ) : Type 0 where
    pub sound : fault_in (blocks_at n f) ≡ Ok tt
    pub shut : f.b.run ≡ 0
    pub fresh : f.b.begun ≡ 0
    pub place_cells : 2 * f.b.points + length (places_by f.b (blocks_at n f)) ≤ np
    pub run_cells : f.b.runs + length (runs_by (blocks_at n f)) ≤ nr
    pub block_cells : (c : ℕ → ℕ) → block_cells_of * f.b.blocks + length (blocks_by c f.b (blocks_at n f)) ≤ nb
    pub spare : Spare f.b (length s - f.at)
    pub inside : f.at ≤ end
    pub within : end ≤ length s
    pub short : length s ≤ 2097152

  -- from f, which has n more blocks behind its own, to g
  pub record Fills (n : ℕ) (f : Turn) (P P' : List ℤ) (R R' B B' : List ℕ) (g : Turn) : Type 0 where
    pub places : sets P (2 * f.b.points) (places_by f.b (blocks_at (suc n) f)) ≡ sets P' (2 * g.b.points) (places_by g.b (blocks_at n g))
    pub runs : sets R f.b.runs (runs_by (blocks_at (suc n) f)) ≡ sets R' g.b.runs (runs_by (blocks_at n g))
    pub blocks : (c : ℕ → ℕ) → Coloured c f.b.block (blocks_at (suc n) f)
        → Coloured c g.b.block (blocks_at n g)
        × (sets B (block_cells_of * f.b.blocks) (blocks_by c f.b (blocks_at (suc n) f))
        ≡ sets B' (block_cells_of * g.b.blocks) (blocks_by c g.b (blocks_at n g)))
    pub same_places : length P' ≡ length P
    pub same_runs : length R' ≡ length R
    pub same_blocks : length B' ≡ length B
    pub ready : Ready n g (length P') (length R') (length B')

-- the answers of all blocks fit buffers of np, nr and nb cells
pub record Fits (bs : Blocks) (np nr nb : ℕ) : Type 0 where
  pub place_cells : length (places (pos 0) (pos 0) 0 (events_in bs)) ≤ np
  pub run_cells : length (runs 0 (events_in bs)) ≤ nr
  pub block_cells : (c : ℕ → ℕ) → length (blocks c 0 0 0 (events_in bs)) ≤ nb

-- and stand at the front of them
pub record Filled (bs : Blocks) (P P' : List ℤ) (R R' B B' : List ℕ) : Type 0 where
  pub places : P' ≡ sets P 0 (places (pos 0) (pos 0) 0 (events_in bs))
  pub runs : R' ≡ sets R 0 (runs 0 (events_in bs))
  pub blocks : B' ≡ sets B 0 (blocks (colour_by bs) 0 0 0 (events_in bs))
