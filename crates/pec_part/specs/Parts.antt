-- The header and the block in the parts that the code puts, and the length of both.
use Rattle.std.specs.Prelude.{ℕ, ◌+◌, ◌≤◌, ◌≡◌, List, [], ◌∷◌, length, replicate}
use Rattle.rules.specs.Vocabulary.{little, joined, padded}
use Rattle.rules.specs.Lists.{pec_name}
use Rattle.rules.specs.Pec.{pec_part}
use Rattle.rules.specs.declared.Cmd.{Cmd}
use Rattle.rules.specs.declared.Color.{Color}

abbrev pub label_parts : List ℕ → List (List ℕ)
label_parts name =
    ((0x4C ∷ 0x41 ∷ 0x3A ∷ [])
    ∷ padded 16 (pec_name name)
    ∷ (0x0D ∷ [])
    ∷ replicate 12 0x20
    ∷ (0xFF ∷ 0x00 ∷ 0x06 ∷ 0x26 ∷ [])
    ∷ [])

abbrev pub label_text : List ℕ → List ℕ
label_text name = joined (label_parts name)

abbrev pub sizes_parts : ℕ → ℕ → ℕ → List (List ℕ)
sizes_parts n w h =
    ((0x00 ∷ 0x00 ∷ [])
    ∷ little 3 (16 + n)
    ∷ (0x31 ∷ 0xFF ∷ 0xF0 ∷ [])
    ∷ little 2 w
    ∷ little 2 h
    ∷ little 2 0x1E0
    ∷ little 2 0x1B0
    ∷ [])

abbrev pub sizes_text : ℕ → ℕ → ℕ → List ℕ
sizes_text n w h = joined (sizes_parts n w h)

-- the length is r under every name, and a writer can add to it
pub record part_long (threads : List Color) (cs : List Cmd) (r : ℕ) : Type 0 where
  pub long : (name : List ℕ) → r ≡ length (pec_part name cs threads)
  pub small : r ≤ 100000000
