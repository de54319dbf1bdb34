-- The cuts of a DST while its records are read: those counted, and those that the remaining events give.
use Rattle.std.specs.Prelude.{ℕ, zero, suc, ◌+◌, ◌≡◌, ◌&&◌, List, ◌∷◌, leb}
use Rattle.rules.specs.Vocabulary.{pick}
use Rattle.rules.specs.Dst.{jumps_first, stitch_next, dst_cuts}
use Rattle.rules.specs.Records.{Event}

-- the cuts that the remaining events give, the block having no stitch yet; or the last n events being jumps behind a stitch
abbrev pub cuts_left : ℕ → List Event → ℕ
cuts_left zero es = dst_cuts es
cuts_left (suc n) es = pick (leb 3 (n + jumps_first es) && stitch_next es) 1 0 + dst_cuts es

-- the cuts counted and those left make the same sum after an event, `since` and `cuts` being s' and n' then, as before it
abbrev pub Kept : Event → ℕ → ℕ → ℕ → ℕ → Type 0
Kept e s n s' n' = (es : List Event) → n' + cuts_left s' es ≡ n + cuts_left s (e ∷ es)
