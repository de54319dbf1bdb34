-- Records: what the bytes of a file do, one record after the other, up to the first that ends the reading.
use Rattle.std.specs.Prelude.{ℕ, suc, List, [], ◌∷◌, ℤ, length, drop}
use Rattle.rules.specs.Vocabulary.{fuelled}
use Rattle.rules.specs.declared.Record.{Record}
use Rattle.rules.specs.declared.Record.TheVariants.{StitchBy, JumpBy, ChangeBy, Finish}

-- a stitch, a jump, and a colour change with the move after it
pub data Event : Type 0 where
  stitch : ℤ → ℤ → Event
  jump : ℤ → ℤ → Event
  change : ℤ → ℤ → Event

-- the event of a record, followed by those that `go` tells of the bytes behind it
unfoldable pub record_then : Record → (ℕ → List Event) → List Event
record_then (StitchBy dx dy n) go = stitch dx dy ∷ go n
record_then (JumpBy dx dy n) go = jump dx dy ∷ go n
record_then (ChangeBy dx dy n) go = change dx dy ∷ go n
record_then Finish go = []

-- `first` finds the first record of a list of bytes; a record takes a byte at least
unfoldable pub events : (List ℕ → Record) → List ℕ → List Event
events first s = fuelled (λ (go : List ℕ → List Event) (t : List ℕ). record_then (first t) (λ n. go (drop n t))) [] (suc (length s)) s
