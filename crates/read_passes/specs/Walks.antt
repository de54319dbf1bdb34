-- Reading the records one after the other: what remains, and what so many records have made of the builder and the buffers.
use Rattle.std.specs.Prelude.{ℕ, ◌+◌, ◌*◌, ◌≤◌, ◌≡◌, List, ℤ, nat_abs, ◌+ℤ◌, length, drop}
use Rattle.std.proofs.lemmas.List.Edits.{sets}
use Rattle.rules.specs.Answers.{places, runs, blocks}
use Rattle.rules.specs.Limits.{block_cells_of}
use Rattle.rules.specs.Records.{Event, events}
use Rattle.read_records.specs.declared.Row.{Row}
use Rattle.rules.specs.declared.Record.{Record}
use Rattle.read_records.specs.Fields.{dx_of, dy_of}
use Rattle.read_records.specs.Firsts.{first_record_of}
use Rattle.read_builder.specs.Builders.{some, followed, place_after, places_by, runs_by, blocks_by}
use Rattle.read_builder.specs.declared.Builder.{Builder}
use Rattle.read_passes.specs.Told.{places_in, runs_in, blocks_in}

-- the answers that the remaining events give
abbrev pub places_left : Builder → List Event → List ℤ
places_left b es = places b.x b.y b.run es

abbrev pub runs_left : Builder → List Event → List ℕ
runs_left b es = runs b.run es

abbrev pub blocks_left : (ℕ → ℕ) → Builder → List Event → List ℕ
blocks_left c b es = blocks c b.block b.begun b.run es

-- the builder that has taken the record's step
abbrev pub moved : Builder → Record → Builder
moved b r = followed b r (b.x +ℤ dx_of r) (b.y +ℤ dy_of r)

-- small by the bytes read; and no more blocks have runs than there are runs
pub record Bounded (b : Builder) (at : ℕ) : Type 0 where
  pub x : nat_abs b.x ≤ 1000 * at
  pub y : nat_abs b.y ≤ 1000 * at
  pub run : b.run ≤ at
  pub block : b.block ≤ at
  pub begun : b.begun ≤ at
  pub points : b.points ≤ at
  pub runs : b.runs ≤ at
  pub blocks : b.blocks ≤ at
  pub fewer : b.blocks + some b.begun ≤ b.runs + some b.run

module _ (f : Row) (bytes : List ℕ) where
  -- the events from `at` on
  abbrev pub events_from : ℕ → List Event
  events_from at = events (first_record_of f) (drop at bytes)

  -- what is counted at `at` and what is to come are the whole; the builder's place does not matter
  pub record Counting (b : Builder) (at : ℕ) : Type 0 where
    pub places : 2 * b.points + length (places_left b (events_from at)) ≡ length (places_in (first_record_of f) bytes)
    pub runs : b.runs + length (runs_left b (events_from at)) ≡ length (runs_in (first_record_of f) bytes)
    pub blocks : (c : ℕ → ℕ) → block_cells_of * b.blocks + length (blocks_left c b (events_from at)) ≡ length (blocks_in c (first_record_of f) bytes)
    pub bounded : Bounded b at
    pub within : at ≤ length bytes

  module _ (c : ℕ → ℕ) where
    -- buffers of np, nr and nb cells have room for all that is to come at `at`
    pub record Ready (b : Builder) (at np nr nb : ℕ) : Type 0 where
      pub places : 2 * b.points + length (places_left b (events_from at)) ≤ np
      pub runs : b.runs + length (runs_left b (events_from at)) ≤ nr
      pub blocks : block_cells_of * b.blocks + length (blocks_left c b (events_from at)) ≤ nb
      pub bounded : Bounded b at
      pub within : at ≤ length bytes
      pub short : length bytes ≤ 2097152

    module _ (b : Builder) (at : ℕ) (P : List ℤ) (R B : List ℕ) where
      -- after some records: the builder, the place of the next record, and the buffers
      pub data Went : Builder → ℕ → List ℤ → List ℕ → List ℕ → Type 0 where
        none : Went b at P R B
        on : {q : Builder} {i : ℕ} {P' : List ℤ} {R' B' : List ℕ} → Went q i P' R' B' → (r : Record) → r ≡ first_record_of f (drop i bytes)
            → Went (moved q r) (place_after r i (length bytes)) (sets P' (2 * q.points) (places_by q r)) (sets R' q.runs (runs_by q r))
            (sets B' (block_cells_of * q.blocks) (blocks_by c q r))

      -- after all of them
      pub record Ended (q : Builder) (P' : List ℤ) (R' B' : List ℕ) : Type 0 where
        pub end : ℕ
        pub past : length bytes ≤ end
        pub went : Went q end P' R' B'
