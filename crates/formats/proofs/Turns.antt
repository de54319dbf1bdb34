-- One turn of the choice by numbers is a turn on what leads. Assumes nothing.
use Rattle.std.specs.Prelude.{Some, None}
use Prim.Native.Nat.{ℕ, ◌≤◌, ◌<◌}
use mathlib.Core.Path.{◌≡◌, refl, sym}
use mathlib.Core.Bool.{Bool, true, false}
use native.Mathlib.Omega.{arith}
use borrow.Author.Tests.{ne_eqb, leb-true, leb-false, ltb-true, ltb-false, eqb-true}
use lib.Dec.{eqb}
use Rattle.rules.specs.Choices.{distance}
use Rattle.rules.specs.declared.Color.{Color}
use Rattle.laws.specs.Tests.{by-test}
use Rattle.formats.specs.Closer.{closer_of, leads_by, seen}

-- a distance leads
pub there : (at d : ℕ) → d < 4294967296 → seen at d ≡ Some (at, d)
there at d h = rw (ne_eqb d 4294967296 (λ e. omega (arith, h)))

pub nothing : (at d : ℕ) → d ≡ 4294967296 → seen at d ≡ None
nothing at d e = rw e refl

pub no_more : (later : Bool) (d least : ℕ) → leads_by later least d ≡ true → d ≤ least
no_more true d least h = leb-true d least h
no_more false d least h = let z = ltb-true d least h in omega arith

module _ (later : Bool) (c t : Color) (at least i : ℕ) {d : ℕ} (e : d ≡ distance c t) (n : d < 4294967296) where
  pub hit : leads_by later least d ≡ true → closer_of later c (seen at least) (Some t) i ≡ seen i d
  hit h = by-test (eqb least 4294967296)
      (λ y. rw (y, ← e) (sym (there i d n)))
      (λ y. rw (y, ← e, h) (sym (there i d n)))

  pub miss : leads_by later least d ≡ false → closer_of later c (seen at least) (Some t) i ≡ seen at least
  miss h = by-test (eqb least 4294967296)
      (λ y. absurd (past later h (eqb-true least 4294967296 y)))
      (λ y. rw (y, ← e, h) refl)
    where
      past : (b : Bool) → leads_by b least d ≡ false → least ≡ 4294967296 → ⊥
      past true y z = let k = leb-false d least y in omega (arith, n)
      past false y z = let k = ltb-false d least y in omega (arith, n)
