-- Small laws of tests: a Bool and the type that it stands for, `&&`, `||`, and `pick`.
-- What a test of two numbers says is in borrow.Author.Tests (`ltb-true`, `lt-ltb`, ..) and, as types, in mir.Facts (`ltb_yes`, `and_yes`,
-- `or_yes`, ..).
-- Assumes nothing.
use Rattle.std.specs.Prelude.{ℕ, ◌≤◌, ◌<◌, ◌≡◌, refl, Bool, true, false, ◌&&◌, ◌||◌, T, ltb, leb, eqb}
use Rattle.std.proofs.Common.{sym, subst, lt-ltb, le-ltb, le-leb, ne_eqb}
use Rattle.std.proofs.lemmas.Bool.{lt-leb}
use Rattle.rules.specs.Vocabulary.{pick}

-- a test that passes, as a type and as an equation
pub is_true : (b : Bool) → T b → b ≡ true
is_true true t = refl
is_true false t = absurd t

pub true-is : (b : Bool) → b ≡ true → T b
true-is b e = subst T (sym e) tt

-- a test does not both pass and fail
pub false-true {ℓ} : {X : Type ℓ} → false ≡ true → X
false-true e = absurd (true-is false e)

pub clash {ℓ} : {X : Type ℓ} (b : Bool) → b ≡ true → b ≡ false → X
clash true p q = false-true (sym q)
clash false p q = false-true p

-- a test passes or fails: `by-test b (λ e. ..) (λ e. ..)` proves X from either equation
pub by-test {ℓ} : {X : Type ℓ} (b : Bool) → (b ≡ true → X) → (b ≡ false → X) → X
by-test true f g = f refl
by-test false f g = g refl

-- `&&` passes where both pass, and fails where either fails
pub and_left : (a b : Bool) → a && b ≡ true → a ≡ true
and_left true b e = refl
and_left false b e = e

pub and_right : (a b : Bool) → a && b ≡ true → b ≡ true
and_right true b e = e
and_right false b e = false-true e

pub and-true : (a b : Bool) → a ≡ true → b ≡ true → a && b ≡ true
and-true a b p q = rw (p, q)

pub and-no-left : (a b : Bool) → a ≡ false → a && b ≡ false
and-no-left a b p = rw p

pub and-no-right : (a b : Bool) → b ≡ false → a && b ≡ false
and-no-right true b q = q
and-no-right false b q = refl

-- `||` fails just where both fail
pub or-no-left : (a b : Bool) → a || b ≡ false → a ≡ false
or-no-left true b e = e
or-no-left false b e = refl

pub or-no-right : (a b : Bool) → a || b ≡ false → b ≡ false
or-no-right true b e = false-true (sym e)
or-no-right false b e = e

pub or-false : (a b : Bool) → a ≡ false → b ≡ false → a || b ≡ false
or-false a b p q = rw (p, q)

-- `pick` at a test whose outcome is known, and at a test of two numbers whose order is known
module _ {ℓ} {X : Type ℓ} where
  pub pick_true : {b : Bool} (x y : X) → b ≡ true → pick b x y ≡ x
  pick_true x y e = rw e

  pub pick-false : {b : Bool} (x y : X) → b ≡ false → pick b x y ≡ y
  pick-false x y e = rw e

  -- what holds of both
  pub pick-both {m} : (P : X → Type m) (b : Bool) {x y : X} → P x → P y → P (pick b x y)
  pick-both P true h l = h
  pick-both P false h l = l

  pub pick-lt : (a b : ℕ) (x y : X) → a < b → pick (ltb a b) x y ≡ x
  pick-lt a b x y h = rw (lt-ltb a b h)

  pub pick-ge : (a b : ℕ) (x y : X) → b ≤ a → pick (ltb a b) x y ≡ y
  pick-ge a b x y h = rw (le-ltb a b h)

  pub pick-le : (a b : ℕ) (x y : X) → a ≤ b → pick (leb a b) x y ≡ x
  pick-le a b x y h = rw (le-leb a b h)

  pub pick-gt : (a b : ℕ) (x y : X) → b < a → pick (leb a b) x y ≡ y
  pick-gt a b x y h = rw (lt-leb a b h)

  pub pick-ne : (a b : ℕ) (x y : X) → (a ≡ b → ⊥) → pick (eqb a b) x y ≡ y
  pick-ne a b x y h = rw (ne_eqb a b h)
