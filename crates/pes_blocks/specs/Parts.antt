-- The blocks of a PES file in the parts that the code puts.
use Rattle.std.specs.Prelude.{ℕ, ◌+◌, List, [], ◌∷◌, pos, ◌-ℤ◌, replicate}
use Rattle.rules.specs.Vocabulary.{joined}
use Rattle.rules.specs.Pes.{matrix_field, pes_string, shorts, pes_start, color_log}
use Rattle.rules.specs.declared.Cmd.{Cmd}
use Rattle.rules.specs.declared.Color.{Color}

abbrev pub emb_text : List ℕ
emb_text = joined (pes_string (0x43 ∷ 0x45 ∷ 0x6D ∷ 0x62 ∷ 0x4F ∷ 0x6E ∷ 0x65 ∷ []) ∷ shorts (replicate 8 0) ∷ [])

abbrev pub matrix_text : ℕ → ℕ → List ℕ
matrix_text w h = joined
    (matrix_field (pos 2) ∷ matrix_field (pos 0) ∷ matrix_field (pos 0) ∷ matrix_field (pos 2)
    ∷ matrix_field (pos 2000 -ℤ pos w) ∷ matrix_field (pos (2000 + h))
    ∷ [])

abbrev pub sizes_text : ℕ → ℕ → List ℕ
sizes_text w h = joined (shorts (1 ∷ 0 ∷ 0 ∷ w ∷ h ∷ []) ∷ replicate 8 0x00 ∷ [])

abbrev pub seg_text : ℕ → List ℕ
seg_text n = joined (shorts (n ∷ 0xFFFF ∷ 0 ∷ []) ∷ pes_string (0x43 ∷ 0x53 ∷ 0x65 ∷ 0x77 ∷ 0x53 ∷ 0x65 ∷ 0x67 ∷ []) ∷ [])

abbrev pub frame_text : ℕ → ℕ → ℕ → List ℕ
frame_text w h n = joined (emb_text ∷ matrix_text w h ∷ sizes_text w h ∷ seg_text n ∷ [])

abbrev pub end_text : ℕ → List Color → List Cmd → List ℕ
end_text n threads cs = joined (shorts (n ∷ []) ∷ shorts (color_log threads 65 (pes_start threads) cs) ∷ shorts (0 ∷ 0 ∷ []) ∷ [])
