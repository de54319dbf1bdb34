-- What a writer knows of the list, and the front of a PES file.
use Rattle.std.specs.Prelude.{ℕ, ◌≤◌, ◌≡◌, false, List, [], ◌∷◌, pos, length}
use Rattle.rules.specs.Vocabulary.{little, joined}
use Rattle.rules.specs.Pec.{pec_start, pec_stitches}
use Rattle.rules.specs.Pes.{shorts}
use Rattle.rules.specs.Refusals.{step_too_long}
use Rattle.rules.specs.declared.Cmd.{Cmd}
use Rattle.rules.specs.declared.Format.TheVariants.{Pec}

-- an accepted list whose stitches take n bytes
pub record Drawn (cs : List Cmd) (kinds threads : List ℕ) (n : ℕ) : Type 0 where
  pub long : length kinds ≤ 65535
  pub few : length threads ≤ 765
  pub steps : step_too_long Pec cs ≡ false
  pub bytes : n ≡ length (pec_stitches pec_start (pos 0) (pos 0) cs)

abbrev pub start_parts : ℕ → List (List ℕ)
start_parts start =
    ((0x23 ∷ 0x50 ∷ 0x45 ∷ 0x53 ∷ 0x30 ∷ 0x30 ∷ 0x30 ∷ 0x31 ∷ [])
    ∷ little 4 start
    ∷ shorts (1 ∷ 1 ∷ 1 ∷ 0xFFFF ∷ 0 ∷ [])
    ∷ [])

abbrev pub start_text : ℕ → List ℕ
start_text start = joined (start_parts start)
