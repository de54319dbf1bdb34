-- What is kept while the records are counted: the builder's counts, without its place.
use Rattle.std.specs.Prelude.{ℕ, ◌+◌, ◌-◌, ◌*◌, ◌^◌, ◌≤◌, ◌<◌, ◌≡◌, List, eqb, ℤ, length, drop}
use Rattle.rules.specs.Vocabulary.{pick}
use Rattle.read_records.specs.declared.Row.{Row}
use Rattle.rules.specs.declared.Record.TheVariants.{JumpBy}
use Rattle.read_records.specs.Firsts.{first_record_of}
use Rattle.read_builder.specs.Builders.{some}
use Rattle.read_builder.specs.declared.Builder.{Builder}
use Rattle.read_passes.specs.Walks.{Counting}
use Rattle.read_count.specs.declared.tally.Tally.{Tally}

abbrev pub no_tally : Tally
no_tally = record { stitches = 0; runs = 0; running = 0; first = 0; blocks = 0 }

-- after a stitch (s is 1) or a jump (0)
abbrev pub tallied : ℕ → Tally → Tally
tallied s t = record { stitches = t.stitches + s; runs = t.runs + s * (1 - t.running); running = s; first = t.first; blocks = t.blocks }

-- after n stitches, one at least
abbrev pub tallied_many : ℕ → Tally → Tally
tallied_many n t = record { stitches = t.stitches + n; runs = t.runs + (1 - t.running); running = 1; first = t.first; blocks = t.blocks }

-- after a colour change
abbrev pub tallied_change : Tally → Tally
tallied_change t = record {
  stitches = t.stitches;
  runs = t.runs;
  running = 0;
  first = t.runs;
  blocks = t.blocks + pick (eqb t.runs t.first) 0 1;
}

-- nothing is near the end of its type
pub record SmallTally (t : Tally) : Type 0 where
  pub stitches : t.stitches < 2 ^ 31
  pub runs : t.runs < 2 ^ 31
  pub running : t.running ≤ 1
  pub first : t.first ≤ t.runs
  pub blocks : t.blocks < 2 ^ 31

-- the counts of a builder: its open run is counted among the runs
pub record Like (t : Tally) (b : Builder) : Type 0 where
  pub points : b.points ≡ t.stitches + t.runs
  pub runs : b.runs + t.running ≡ t.runs
  pub running : t.running ≡ some b.run
  pub first : b.begun + t.first ≡ t.runs
  pub blocks : b.blocks ≡ t.blocks

-- what is counted at `at` and what is to come are the whole
pub record Tallying (f : Row) (bytes : List ℕ) (t : Tally) (at : ℕ) : Type 0 where
  pub builder : Builder
  pub counting : Counting f bytes builder at
  pub like : Like t builder
  pub short : length bytes ≤ 2097152

-- from byte `from` to byte `at` stand jumps and nothing else
pub data Jumps (f : Row) (bytes : List ℕ) (from : ℕ) : ℕ → Type 0 where
  none : Jumps f bytes from from
  more : {at : ℕ} → Jumps f bytes from at → {dx dy : ℤ} {n : ℕ} → JumpBy dx dy n ≡ first_record_of f (drop at bytes) → Jumps f bytes from (at + n)
