-- A header line put in three parts, and how long the lines are. Assumes nothing.
use Prim.Native.Nat.{ℕ, ◌+◌}
use mathlib.Core.Path.{◌≡◌, sym, ◌∙◌}
use mathlib.Core.List.{List, [], ◌∷◌, ◌++◌, append-nil}
use native.Mathlib.Omega.{arith}
use lib.IntN.{ℤ, nat_abs}
use lib.ListN.{length, length-append, length-take}
use lib.Signed.{non_neg}
use Rattle.rules.specs.Dst.{line, signed_right}
use Rattle.rules.specs.Lists.{dst_name}
use Rattle.rules.specs.Vocabulary.{pick, joined, padded, right}
use Rattle.laws.specs.Buffers.{Put, put-put, put_as}
use Rattle.laws.specs.Decimals.{length-padded, length-right}

pub put-line : {d d₁ d₂ d₃ text : List ℕ} {at m n r a b : ℕ} → Put d d₁ at m (a ∷ b ∷ 0x3A ∷ []) → Put d₁ d₂ m n text → Put d₂ d₃ n r (0x0D ∷ [])
    → Put d d₃ at r (line a b text)
unfolding line joined
put-line p q s = put-put p (put-put q s)

pub length-line : (a b : ℕ) (text : List ℕ) → length (line a b text) ≡ length text + 4
unfolding line joined
length-line a b text = simp length-append (omega arith)

pub length-name : (name : List ℕ) → length (padded 16 (dst_name name)) ≡ 16
unfolding dst_name
length-name name = length-padded 16 _ (simp length-take (omega arith))

pub number-line : (a b n v : ℕ) → length (line a b (right n v)) ≡ n + 4
number-line a b n v = length-line a b (right n v) ∙ rw (length-right n v)

pub signed-line : (a b : ℕ) (z : ℤ) → length (line a b (signed_right z)) ≡ 10
unfolding signed_right
signed-line a b z = length-line a b (signed_right z) ∙ rw (length-right 5 (nat_abs z))

-- a sign and a number in five columns, as they are put
pub signed-text : {s n : ℕ} (z : ℤ) → s ≡ pick (non_neg z) 0x2B 0x2D → n ≡ nat_abs z → s ∷ right 5 n ≡ signed_right z
unfolding signed_right
signed-text z e h = rw (e, h)

-- the place after a piece, as omega reads it of a put
module _ (d d' : List ℕ) (at r : ℕ) where
  pub right-ends : (n v : ℕ) → Put d d' at r (right n v) → r ≡ at + n
  right-ends n v p = omega (arith, length-right n v)

  pub name-ends : (name : List ℕ) → Put d d' at r (padded 16 (dst_name name)) → r ≡ at + 16
  name-ends name p = omega (arith, length-name name)

  pub number-ends : (a b n v : ℕ) → Put d d' at r (line a b (right n v)) → r ≡ at + (n + 4)
  number-ends a b n v p = omega (arith, number-line a b n v)

  pub signed-ends : (a b : ℕ) (z : ℤ) → Put d d' at r (line a b (signed_right z)) → r ≡ at + 10
  signed-ends a b z p = omega (arith, signed-line a b z)

-- the last of the pieces that are joined
pub put_only : {d d' vs : List ℕ} {at r : ℕ} → Put d d' at r vs → Put d d' at r (vs ++ [])
put_only {vs = vs} p = put_as p (sym (append-nil vs))
