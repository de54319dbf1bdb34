-- Laws on what stands before the first byte that passes a test and from there on. Assumes nothing.
use Prim.Native.Nat.{ℕ, ◌≤◌}
use mathlib.Core.Path.{◌≡◌, refl, ap, ◌∙◌}
use mathlib.Core.Bool.{Bool, not}
use mathlib.Core.List.{List, [], ◌∷◌}
use native.Mathlib.Omega.{arith}
use native.Mathlib.Numerals.{one-add}
use lib.Dec.{eqb, ltb}
use borrow.Author.Tests.{ltb-false}
use lib.ListN.{length, take, drop}
use Rattle.std.specs.List.{position, position_or_len}
use Rattle.std.specs.Option.{unwrap_or}
use Rattle.std.proofs.Common.{Option}
use Rattle.rules.specs.Text.{blank, trim_start}
use Rattle.rules.specs.Dst.{before_comma, drop_hashes}
use Rattle.laws.specs.Tests.{by-test}

pub until-inside : (p : ℕ → Bool) (s : List ℕ) → position_or_len p s ≤ length s
until-inside p [] = omega arith
until-inside p (b ∷ s) = by-test (p b) (λ e. rw e (omega arith)) (λ e. rw e (omega (arith, until-inside p s)))

-- that place, or the end
pub first : (p : ℕ → Bool) (s : List ℕ) {o : Option ℕ} {r : ℕ} → o ≡ position p s → r ≡ unwrap_or o (length s) → r ≡ position_or_len p s
first p s e q = let l = until-inside p s in
    q ∙ ap (λ x. unwrap_or x (length s)) e
    ∙ by-test (ltb (position_or_len p s) (length s)) (λ t. rw t) (λ f. rw f (omega (arith, ltb-false _ _ f)))

-- what each test leaves
pub start_left : (s : List ℕ) → drop (position_or_len (λ b. not (blank b)) s) s ≡ trim_start s
unfolding trim_start
start_left [] = refl
start_left (b ∷ s) = by-test (blank b) (λ e. rw e (rw (one-add (position_or_len (λ b. not (blank b)) s)) (start_left s))) (λ e. rw e)

pub hashes-left : (s : List ℕ) → drop (position_or_len (λ b. not (eqb b 0x23)) s) s ≡ drop_hashes s
unfolding drop_hashes
hashes-left [] = refl
hashes-left (b ∷ s) = by-test (eqb b 0x23) (λ e. rw e (rw (one-add (position_or_len (λ b. not (eqb b 0x23)) s)) (hashes-left s))) (λ e. rw e)

pub comma-before : (s : List ℕ) → take (position_or_len (λ b. eqb b 0x2C) s) s ≡ before_comma s
unfolding before_comma
comma-before [] = refl
comma-before (b ∷ s) = by-test (eqb b 0x2C) (λ e. rw e) (λ e. rw e (rw (one-add (position_or_len (λ b. eqb b 0x2C) s)) (ap (◌∷◌ b) (comma-before s))))
