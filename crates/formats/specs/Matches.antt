-- The entries of threads put into a buffer, and the largest distance of a thread from its entry.
use Rattle.std.specs.Prelude.{ℕ, ◌≡◌, List}
use Rattle.std.specs.Borrow.{MutBor}
use denote.Triple.Both.{Both}
use Rattle.laws.specs.Buffers.{Puts}
use Rattle.formats.specs.declared.Matched.{Matched}

-- `bytes` are stored from `at` on, as far as the end told, and the distance told is `far`
abbrev pub Matches : Both (MutBor (List ℕ)) (MutBor (List ℕ)) → ℕ → Matched → List ℕ → ℕ → Type 0
Matches out at r bytes far = Puts out at r.end bytes × (r.distance ≡ far)
