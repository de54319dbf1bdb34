-- How many bytes commands are, told by how many of them are stitches, controls and trims. Assumes nothing.
use Prim.Native.Nat.{ℕ, zero, suc, ◌+◌, ◌*◌, ◌≤◌, ◌<◌}
use mathlib.Core.Path.{◌≡◌}
use mathlib.Core.List.{List, [], ◌∷◌}
use native.Mathlib.Omega.{arith}
use native.Mathlib.Numerals.{one-add}
use borrow.Author.Tests.{lt-leb}
use lib.Dec.{leb}
use lib.IntN.{ℤ, pos, ◌-ℤ◌}
use lib.ListN.{length, take, length-append, length-take}
use Rattle.rules.specs.Vocabulary.{pick, count}
use Rattle.rules.specs.Dst.{dst_bytes, dst_cmd}
use Rattle.rules.specs.Exp.{pair_of, exp_cmd}
use Rattle.rules.specs.Jef.{jef_cmd}
use Rattle.rules.specs.Lists.{op_of, commands, written}
use Rattle.stream_cmd.specs.declared.Stream.{Stream}
use Rattle.stream_cmd.specs.declared.Stream.TheVariants.{Dst, Exp, Jef}
use Rattle.laws.specs.Tests.{and-no-right, pick-false}
use Rattle.laws.specs.Listing.{length-commands, count-le}
use Rattle.stream_cmd.specs.Cmds.{cmd_of, kind_in}

-- t bytes of n commands, s of them stitches, c of kinds 1 to 3 and r trims
abbrev pub Sum : Stream → ℕ → ℕ → ℕ → ℕ → ℕ → Type 0
Sum Dst t n s c r = t ≡ 3 * n + 6 * r
Sum Exp t n s c r = t ≡ 2 * s + 4 * c
Sum Jef t n s c r = t + 4 * r ≡ 2 * n + 2 * c

-- a kind over the range is not counted
over : (lo hi k : ℕ) → hi < k → ◌≡◌ {A = ℕ} (pick (kind_in lo hi k) 1 0) 0
over lo hi k h = pick-false 1 0 (and-no-right (leb lo k) (leb k hi) (lt-leb k hi h))

-- of one command
one-sum : (f : Stream) (k : ℕ) (dx dy : ℤ)
    → Sum f (length (cmd_of f (op_of k) dx dy)) 1 (pick (kind_in 0 0 k) 1 0) (pick (kind_in 1 3 k) 1 0) (pick (kind_in 2 2 k) 1 0)
unfolding op_of dst_cmd dst_bytes exp_cmd jef_cmd pair_of
one-sum Dst zero dx dy = omega arith
one-sum Dst (suc zero) dx dy = omega arith
one-sum Dst (suc (suc zero)) dx dy = omega arith
one-sum Dst (suc (suc (suc zero))) dx dy = omega arith
one-sum Dst (suc (suc (suc (suc k)))) dx dy = omega (arith, over 2 2 (suc (suc (suc (suc k)))) (omega arith))
one-sum Exp zero dx dy = omega arith
one-sum Exp (suc zero) dx dy = omega arith
one-sum Exp (suc (suc zero)) dx dy = omega arith
one-sum Exp (suc (suc (suc zero))) dx dy = omega arith
one-sum Exp (suc (suc (suc (suc k)))) dx dy = let m = suc (suc (suc (suc k))) in omega (arith, over 0 0 m (omega arith), over 1 3 m (omega arith))
one-sum Jef zero dx dy = omega arith
one-sum Jef (suc zero) dx dy = omega arith
one-sum Jef (suc (suc zero)) dx dy = omega arith
one-sum Jef (suc (suc (suc zero))) dx dy = omega arith
one-sum Jef (suc (suc (suc (suc k)))) dx dy = let m = suc (suc (suc (suc k))) in omega (arith, over 1 3 m (omega arith), over 2 2 m (omega arith))

-- of commands and more commands
pub record Told (f : Stream) (t n s c r : ℕ) : Type 0 where
  pub told : Sum f t n s c r

both : (f : Stream) {t n s c r t' n' s' c' r' : ℕ} → Told f t n s c r → Told f t' n' s' c' r' → Told f (t + t') (n + n') (s + s') (c + c') (r + r')
both Dst p q = record { told = omega arith }
both Exp p q = record { told = omega arith }
both Jef p q = record { told = omega arith }

-- of none
none : (f : Stream) → Told f 0 0 0 0 0
none Dst = record { told = omega arith }
none Exp = record { told = omega arith }
none Jef = record { told = omega arith }

-- of all
pub lengths : (f : Stream) (x y : ℤ) (xs ys : List ℤ) (ks : List ℕ)
    → (let cs = commands xs ys ks in
    let kinds = take (length cs) ks in
    Told f (length (written (cmd_of f) x y cs)) (length cs) (count (kind_in 0 0) kinds) (count (kind_in 1 3) kinds) (count (kind_in 2 2) kinds))
unfolding commands written count
lengths f x y [] ys ks = none f
lengths f x y (a ∷ xs) [] ks = none f
lengths f x y (a ∷ xs) (b ∷ ys) [] = none f
lengths f x y (a ∷ xs) (b ∷ ys) (k ∷ ks) =
    rw (length-append, ← one-add)
    (both f (record { told = one-sum f k (a -ℤ x) (b -ℤ y) }) (lengths f a b xs ys ks))

-- no command takes more than nine bytes
most : (f : Stream) {t n s c r : ℕ} → Told f t n s c r → s ≤ n → c ≤ n → r ≤ n → t ≤ 9 * n
most Dst p u v w = omega arith
most Exp p u v w = omega arith
most Jef p u v w = omega arith

pub stream-most : (f : Stream) (xs ys : List ℤ) (ks : List ℕ) → length (written (cmd_of f) (pos 0) (pos 0) (commands xs ys ks)) ≤ 9 * length ks
stream-most f xs ys ks =
    let n = length (commands xs ys ks) in
    let le : (lo hi : ℕ) → count (kind_in lo hi) (take n ks) ≤ n = λ lo hi. omega (arith, count-le (kind_in lo hi) (take n ks), length-take n ks, length-commands xs ys ks) in
    omega (arith, most f (lengths f (pos 0) (pos 0) xs ys ks) (le 0 0) (le 1 3) (le 2 2), length-commands xs ys ks)
