-- What std's `min` and `max` give, as the definitions name it. Assumes nothing.
use Rattle.std.specs.Prelude.{ℤ, ◌≡◌}
use Rattle.std.proofs.Common.{◌∙◌, to_z-of_z}
use Rattle.std.specs.Int.{Width, int_min, int_max}
use Rattle.std.specs.Int.Signed.{lt_z}
use mir.Val.{SFits, to_z, of_z}
use Rattle.rules.specs.Lists.{min_z, max_z}
use Rattle.laws.specs.Tests.{by-test}
use Rattle.laws.specs.Ints.{true-le, false-le, lt-true, lt-false}

module _ (a b : ℤ) where
  pub least-is : int_min a b ≡ min_z a b
  unfolding min_z
  least-is = by-test (lt_z b a)
      (λ t. rw (t, false-le a b (lt-true b a t)))
      (λ t. rw (t, true-le a b (lt-false b a t)))

  pub greatest-is : int_max a b ≡ max_z a b
  unfolding max_z
  greatest-is = by-test (lt_z b a)
      (λ t. rw (t, false-le a b (lt-true b a t)))
      (λ t. rw (t, true-le a b (lt-false b a t)))

-- of numbers as a call passes them
module _ {w : Width} {a b r : ℤ} (f : SFits w a) (g : SFits w b) where
  pub min-is : r ≡ int_min (to_z w (of_z w a)) (to_z w (of_z w b)) → r ≡ min_z a b
  min-is e = e ∙ rw (to_z-of_z f, to_z-of_z g, least-is a b)

  pub max-is : r ≡ int_max (to_z w (of_z w a)) (to_z w (of_z w b)) → r ≡ max_z a b
  max-is e = e ∙ rw (to_z-of_z f, to_z-of_z g, greatest-is a b)
