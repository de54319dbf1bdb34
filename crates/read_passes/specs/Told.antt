-- The three answers that the records in `bytes` give, and their counts.
use Rattle.std.specs.Prelude.{ℕ, ◌+◌, ◌*◌, ◌/◌, ◌≤◌, ◌≡◌, List, ℤ, pos, length}
use Rattle.rules.specs.Records.{Event, events}
use Rattle.rules.specs.Answers.{places, runs, blocks, cuts}
use Rattle.rules.specs.Limits.{block_cells_of}
use Rattle.rules.specs.Dst.{dst_cuts}
use Rattle.rules.specs.declared.Counts.{Counts}
use Rattle.rules.specs.declared.Record.{Record}
use Rattle.read_records.specs.Firsts.{first_record_of}
use Rattle.read_records.specs.declared.Row.{Row}
use Rattle.read_records.specs.declared.Row.TheVariants.{Pec, Dst, Exp, Jef}
use Rattle.read_passes.specs.declared.Sizes.{Sizes}

abbrev pub places_in : (List ℕ → Record) → List ℕ → List ℤ
places_in first bytes = places (pos 0) (pos 0) 0 (events first bytes)

abbrev pub runs_in : (List ℕ → Record) → List ℕ → List ℕ
runs_in first bytes = runs 0 (events first bytes)

abbrev pub blocks_in : (ℕ → ℕ) → (List ℕ → Record) → List ℕ → List ℕ
blocks_in colour first bytes = blocks colour 0 0 0 (events first bytes)

-- z are the sizes of the answers, whatever the colours
pub record Sized (first : List ℕ → Record) (bytes : List ℕ) (z : Sizes) : Type 0 where
  pub points : length (places_in first bytes) ≡ 2 * z.points
  pub runs : length (runs_in first bytes) ≡ z.runs
  pub blocks : (colour : ℕ → ℕ) → length (blocks_in colour first bytes) ≡ block_cells_of * z.blocks

abbrev pub sizes_of : Counts → Sizes
sizes_of c = record { points = c.points; runs = c.runs; blocks = c.blocks }

-- the cuts of a row of records, by runs, blocks and events
abbrev pub cuts_in : Row → List ℕ → List ℕ → List Event → ℕ
cuts_in Pec rs bs es = cuts rs bs
cuts_in Dst rs bs es = dst_cuts es
cuts_in Exp rs bs es = cuts rs bs
cuts_in Jef rs bs es = cuts rs bs

-- c are the counts of the answers, whatever the colours
pub record Told (f : Row) (bytes : List ℕ) (c : Counts) : Type 0 where
  pub sizes : Sized (first_record_of f) bytes (sizes_of c)
  pub cuts : (colour : ℕ → ℕ) → c.cuts ≡ cuts_in f (runs_in (first_record_of f) bytes) (blocks_in colour (first_record_of f) bytes) (events (first_record_of f) bytes)

-- the answers fit buffers of np, nr and nb cells
pub record Fits (colour : ℕ → ℕ) (first : List ℕ → Record) (bytes : List ℕ) (np nr nb : ℕ) : Type 0 where
  pub places : length (places_in first bytes) ≤ np
  pub runs : length (runs_in first bytes) ≤ nr
  pub blocks : length (blocks_in colour first bytes) ≤ nb

-- buffers that hold the answers of any n bytes: a record takes two bytes at least
pub record Ample (n np nr nb : ℕ) : Type 0 where
  pub places : n + 2 ≤ np
  pub runs : n / 2 ≤ nr
  pub blocks : block_cells_of * n / 2 ≤ nb
