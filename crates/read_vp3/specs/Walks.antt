-- The first pass over the colour blocks: what is to come of the fault and of the counts is the same from block to block.
use Rattle.std.specs.Prelude.{ℕ, suc, ◌+◌, ◌-◌, ◌*◌, ◌≤◌, ◌<◌, ◌≡◌, List, pos, length, Ok, Err, Result}
use Rattle.rules.specs.Vocabulary.{pick}
use Rattle.rules.specs.Answers.{places, runs, blocks}
use Rattle.rules.specs.Limits.{block_cells_of}
use Rattle.rules.specs.Records.{Event}
use Rattle.rules.specs.Vp3.{Blocks, ended, block, blocks_from, stitch_events, strays, fault_in, events_in}
use Rattle.rules.specs.declared.Counts.{Counts}
use Rattle.rules.specs.declared.Refusal.{Refusal}
use Rattle.rules.specs.declared.Refusal.TheVariants.{OutOfRange}
use Rattle.read_count.specs.Tallies.{tallied_change}
use Rattle.read_count.specs.declared.tally.Tally.{Tally}
use Rattle.read_vp3_fields.specs.Fields.{within}
use Rattle.read_vp3_fields.specs.declared.Block.{Block}
use Rattle.read_vp3_stitches.specs.Tallies.{tally_all, Spare}
use Rattle.read_vp3_stitches.specs.declared.follow.Way.{Way}

-- what blocks make of a tally; each ends its run, and itself
unfoldable pub tally_blocks : Tally → Blocks → Tally
tally_blocks t (ended v) = t
tally_blocks t (block x y c bytes bs) = tally_blocks (tallied_change (tally_all t (stitch_events bytes))) bs

-- c are the counts of the answers that events give, whatever the colours
pub record Told (es : List Event) (c : Counts) : Type 0 where
  pub points : length (places (pos 0) (pos 0) 0 es) ≡ 2 * c.points
  pub runs : length (runs 0 es) ≡ c.runs
  pub blocks : (colour : ℕ → ℕ) → length (blocks colour 0 0 0 es) ≡ block_cells_of * c.blocks
  pub cuts : c.cuts + c.blocks ≡ c.runs

module _ (s : List ℕ) (end : ℕ) where
  -- n blocks from where a walker stands
  abbrev pub blocks_at : ℕ → Way → Blocks
  blocks_at n w = blocks_from n w.x w.y (within s w.at end)

  pub record Stands (w : Way) : Type 0 where
    pub inside : w.at ≤ end
    pub within : end ≤ length s
    pub short : length s ≤ 2097152
    pub spare : Spare w.t (length s - w.at)
    pub fewer : w.t.blocks ≤ w.t.first

  -- from w, which has n more blocks behind its own, to v
  pub record Passes (n : ℕ) (w v : Way) : Type 0 where
    pub fault : fault_in (blocks_at (suc n) w) ≡ fault_in (blocks_at n v)
    pub tally : tally_blocks w.t (blocks_at (suc n) w) ≡ tally_blocks v.t (blocks_at n v)
    pub later : w.at < v.at
    pub stands : Stands v

  abbrev pub Walks : ℕ → Way → Result Way Refusal → Type 0
  Walks n w (Ok v) = Passes n w v
  Walks n w (Err r) = fault_in (blocks_at (suc n) w) ≡ Err r

-- block k of a walker's, in a part that ends at `end`
pub record Lies (end : ℕ) (k : Block) (w : Way) : Type 0 where
  pub later : w.at + 7 ≤ k.at
  pub ends : k.at ≤ k.end
  pub next : k.end ≤ k.next
  pub inside : k.next ≤ end

-- the walker behind block k, if no stitch leads beyond 32 bits
abbrev pub walk_of : List ℕ → Block → Way → Result Way Refusal
walk_of s k w =
    pick (strays w.x w.y (stitch_events (within s k.at k.end))) (Err OutOfRange)
    (Ok (record { t = tallied_change (tally_all w.t (stitch_events (within s k.at k.end))); x = k.x; y = k.y; at = k.next }))

-- the first pass over some blocks
abbrev pub Checks : Blocks → Result Counts Refusal → Type 0
Checks bs (Ok c) = (fault_in bs ≡ Ok tt) × Told (events_in bs) c
Checks bs (Err r) = fault_in bs ≡ Err r
