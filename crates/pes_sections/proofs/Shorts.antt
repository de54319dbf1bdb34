-- Numbers of 16 bits in a row: two rows as one. Assumes nothing.
use Prim.Native.Nat.{ℕ}
use mathlib.Core.Path.{◌≡◌, refl}
use mathlib.Core.List.{List, [], ◌∷◌, ◌++◌, append_assoc}
use Rattle.rules.specs.Vocabulary.{joined}
use Rattle.rules.specs.Pes.{shorts}

pub shorts-append : (ms ns : List ℕ) → shorts (ms ++ ns) ≡ shorts ms ++ shorts ns
unfolding shorts joined
shorts-append [] ns = refl
shorts-append (m ∷ ms) ns = rw (shorts-append ms ns, append_assoc)
