-- What a turn of a loop over the records of some bytes makes of the builder and of three buffers.
use Rattle.std.specs.Prelude.{ℕ, ◌+◌, ◌<◌, ◌≡◌, List, ℤ, ◌+ℤ◌, length, drop}
use Rattle.std.specs.Borrow.{Bor, MutBor}
use denote.Triple.Both.{Both}
use Rattle.rules.specs.Promises.{was, left}
use Rattle.read_records.specs.declared.Row.{Row}
use Rattle.read_records.specs.declared.Row.TheVariants.{Pec}
use Rattle.rules.specs.declared.Record.TheVariants.{JumpBy}
use Rattle.read_records.specs.Firsts.{first_record_of}
use Rattle.read_builder.specs.Builders.{origin, jumped}
use Rattle.read_builder.specs.Colour.{colour_in}
use Rattle.read_builder.specs.declared.Builder.{Builder}
use Rattle.read_passes.specs.Walks.{Ready, Went, Ended}
use Rattle.read_passes.specs.declared.Turn.{Turn}

-- there is room for all that is to come
abbrev pub Room : Row → Bor (List ℕ) → Bor (List ℕ) → Builder → ℕ → MutBor (List ℤ) → MutBor (List ℕ) → MutBor (List ℕ) → Type 0
Room f bytes colors b at places runs blocks = Ready f bytes.now (colour_in colors.now) b at (length places.now) (length runs.now) (length blocks.now)

abbrev Lent : Type 0 → Type 0
Lent A = Both (MutBor A) (MutBor A)

-- some records have been read, one at least
pub record Turned (f : Row) (bytes : List ℕ) (c : ℕ → ℕ) (b : Builder) (at : ℕ) (P P' : List ℤ) (R R' B B' : List ℕ) (t : Turn) : Type 0 where
  pub went : Went f bytes c b at P R B t.b t.at P' R' B'
  pub later : at < t.at

abbrev pub Turns : Row → List ℕ → List ℕ → Builder → ℕ → Lent (List ℤ) → Lent (List ℕ) → Lent (List ℕ) → Turn → Type 0
Turns f bytes colors b at places runs blocks t = Turned f bytes (colour_in colors) b at (was places) (left places) (was runs) (left runs) (was blocks) (left blocks) t

-- all of them have been read
abbrev pub Ends : Row → List ℕ → List ℕ → Lent (List ℤ) → Lent (List ℕ) → Lent (List ℕ) → Builder → Type 0
Ends f bytes colors places runs blocks q = Ended f bytes (colour_in colors) origin 0 (was places) (was runs) (was blocks) q (left places) (left runs) (left blocks)

-- ---- PES and PEC

-- from byte `from` on stand jumps and nothing else, and the builder has followed them
pub data Hopped (bytes : List ℕ) (b : Builder) (from : ℕ) : Builder → ℕ → Type 0 where
  none : Hopped bytes b from b from
  more : {q : Builder} {i : ℕ} → Hopped bytes b from q i → {dx dy : ℤ} {n : ℕ} → JumpBy dx dy n ≡ first_record_of Pec (drop i bytes)
      → Hopped bytes b from (jumped q (q.x +ℤ dx) (q.y +ℤ dy)) (i + n)

-- stitches ask for room in the first buffer only
pub record RoomHere (f : Row) (bytes : List ℕ) (b : Builder) (at np : ℕ) : Type 0 where
  pub colour : ℕ → ℕ
  pub nr : ℕ
  pub nb : ℕ
  pub ready : Ready f bytes colour b at np nr nb

-- and leave the others as they are
abbrev pub Sewn : Row → List ℕ → Builder → ℕ → Lent (List ℤ) → Turn → Type 0
Sewn f bytes b at places t = ((c : ℕ → ℕ) (R B : List ℕ) → Turned f bytes c b at (was places) (left places) R R B B t)
