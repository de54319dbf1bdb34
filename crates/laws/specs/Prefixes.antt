-- The library's test of a text's front, by the definition. Assumes nothing.
use Prim.Native.Nat.{ℕ}
use mathlib.Core.Path.{◌≡◌, refl, sym}
use mathlib.Core.List.{List, [], ◌∷◌}
use mathlib.Core.Logic.{inl, inr}
use lib.Dec.{eqb}
use lib.ListN.{length, take}
use lib.Pointwise.{pointwise}
use borrow.Author.Tests.{eq-eqb, ne_eqb}
use Rattle.std.proofs.lemmas.Bool.Decides.{eqb_tells}
use Rattle.std.specs.List.{starts_with}
use Rattle.rules.specs.Vocabulary.{same_bytes}
use Rattle.rules.specs.Text.{begins}

eqb-swap : (a b : ℕ) → eqb a b ≡ eqb b a
eqb-swap a b = elim (eqb_tells a b) [
  | inl y ↦ rw (y.0, y.1, eq-eqb b b refl)
  | inr n ↦ rw (n.0, ne_eqb b a (λ e. n.1 (sym e)))
]

same-pointwise : (s t : List ℕ) → same_bytes s t ≡ pointwise eqb t s
unfolding same_bytes
same-pointwise [] [] = refl
same-pointwise [] (b ∷ t) = refl
same-pointwise (a ∷ s) [] = refl
same-pointwise (a ∷ s) (b ∷ t) = rw (eqb-swap a b, same-pointwise s t)

-- what the library's test says
pub begins-starts : (s front : List ℕ) → starts_with eqb s front ≡ begins front s
unfolding begins
begins-starts s front = sym (same-pointwise (take (length front) s) front)
