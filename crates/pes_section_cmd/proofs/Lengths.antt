-- How many bytes a section's beginning takes. Assumes nothing.
use Prim.Native.Nat.{ℕ, ◌+◌}
use mathlib.Core.Path.{◌≡◌}
use mathlib.Core.List.{List, []}
use lib.Dec.{eqb}
use lib.ListN.{length, length-append}
use Rattle.rules.specs.Vocabulary.{pick, little, joined}
use Rattle.rules.specs.Pes.{PesState, pes_open}
use Rattle.laws.specs.Little.{length-little}

-- what stands behind the section before
abbrev pub gap : ℕ → List ℕ
gap sections = pick (eqb sections 0) [] (little 2 0x8003)

pub open-long : (s : PesState) (flag points : ℕ) → length (pes_open s flag points) ≡ length (gap s.sections) + 6
unfolding pes_open joined
open-long s flag points = simp (length-append, length-little)
