-- The cuts of a DST while its records are read.
use Rattle.std.specs.Prelude.{ℕ, ◌+◌, ◌≤◌, ◌≡◌, List}
use Rattle.rules.specs.Dst.{dst_cuts}
use Rattle.rules.specs.Records.{events}
use Rattle.read_records.specs.Firsts.{first_record_of}
use Rattle.read_records.specs.declared.Row.{Row}
use Rattle.read_records.specs.declared.Row.TheVariants.{Pec, Dst, Exp, Jef}
use Rattle.rules.specs.declared.Counts.{Counts}
use Rattle.read_builder.specs.Cuts.{cuts_left}
use Rattle.read_builder.specs.declared.Builder.{Builder}
use Rattle.read_passes.specs.Walks.{events_from}
use Rattle.read_fill.specs.declared.triples.TripleTurn.{TripleTurn}
use Rattle.read_passes.specs.declared.Turn.{Turn}

-- at `at`, the cuts counted and those left are all; an open run means that the last record was a stitch; and the numbers are small
pub record Cutting (bytes : List ℕ) (b : Builder) (s n at : ℕ) : Type 0 where
  pub all : n + cuts_left s (events_from Dst bytes at) ≡ dst_cuts (events (first_record_of Dst) bytes)
  pub sewing : (b.run ≡ 0 → ⊥) → s ≡ 1
  pub since : s ≤ at
  pub cuts : n ≤ at

abbrev pub turn_to : Builder → ℕ → ℕ → ℕ → TripleTurn
turn_to b s n at = record { b = b; since = s; at = at; cuts = n }

-- a turn without its cuts
abbrev pub turn_of : TripleTurn → Turn
turn_of t = record { b = t.b; at = t.at }

-- ---- all formats: n is the cuts of a DST, and of the others it says nothing

abbrev pub RowsOf : Row → List ℕ → ℕ → Type 0
RowsOf Pec bytes n = Unit {0}
RowsOf Dst bytes n = n ≡ dst_cuts (events (first_record_of Dst) bytes)
RowsOf Exp bytes n = Unit {0}
RowsOf Jef bytes n = Unit {0}

abbrev pub with_rows : Row → Counts → ℕ → Counts
with_rows Pec c n = c
with_rows Dst c n = record { points = c.points; runs = c.runs; blocks = c.blocks; cuts = n }
with_rows Exp c n = c
with_rows Jef c n = c
