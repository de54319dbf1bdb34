-- The parts of JEF's header, as the code puts them.
use Rattle.std.specs.Prelude.{ℕ, ◌+◌, ◌*◌, List, [], ◌∷◌}
use Rattle.rules.specs.Vocabulary.{little, joined}
use Rattle.rules.specs.Jef.{half_up, edges, words}

abbrev pub start_text : ℕ → ℕ → ℕ → List ℕ
start_text n points hoop = joined
    (little 4 (0x74 + 8 * n)
    ∷ little 4 0x14
    ∷ (0x32 ∷ 0x30 ∷ 0x32 ∷ 0x36 ∷ 0x30 ∷ 0x31 ∷ 0x30 ∷ 0x31 ∷ 0x30 ∷ 0x30 ∷ 0x30 ∷ 0x30 ∷ 0x30 ∷ 0x30 ∷ 0x00 ∷ 0x00 ∷ [])
    ∷ little 4 n
    ∷ little 4 points
    ∷ little 4 hoop
    ∷ [])

abbrev pub sizes_text : ℕ → ℕ → List ℕ
sizes_text w h = joined
    (words (half_up w ∷ half_up h ∷ half_up w ∷ half_up h ∷ [])
    ∷ edges 550 550 w h
    ∷ edges 250 250 w h
    ∷ edges 700 1000 w h
    ∷ edges 700 1000 w h
    ∷ [])
