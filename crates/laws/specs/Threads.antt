-- Threads, three bytes each: how many there are, and each from its bytes. Assumes nothing.
use Rattle.std.specs.Prelude.{ℕ, zero, suc, ◌+◌, ◌*◌, ◌/◌, ◌≤◌, ◌<◌, ◌≡◌, refl, List, [], ◌∷◌, length, get_or, drop}
use Rattle.std.proofs.Common.{◌∙◌, not-suc-le-zero, le_of_suc-le-suc, suc-add, arith}
use Rattle.rules.specs.Charts.{color}
use Rattle.rules.specs.Lists.{threads_of}
use Rattle.rules.specs.declared.Color.{Color}
use Rattle.laws.specs.Listing.{list-more}

-- the thread whose bytes begin at i
abbrev pub thread_at : List ℕ → ℕ → Color
thread_at s i = color (get_or s i 0) (get_or s (i + 1) 0) (get_or s (i + 2) 0)

pub length-threads : (s : List ℕ) → length (threads_of s) ≡ length s / 3
unfolding threads_of
length-threads [] = omega arith
length-threads (r ∷ []) = omega arith
length-threads (r ∷ g ∷ []) = omega arith
length-threads (r ∷ g ∷ b ∷ s) = omega (arith, length-threads s)

three-more : (i : ℕ) → 3 * suc i ≡ suc (suc (suc (3 * i)))
three-more i = omega arith

-- thread i, from its three bytes
pub thread-is : (s : List ℕ) (i : ℕ) → i < length (threads_of s) → get_or (threads_of s) i (color 0 0 0) ≡ thread_at s (3 * i)
unfolding threads_of
thread-is [] i h = absurd (not-suc-le-zero h)
thread-is (r ∷ []) i h = absurd (not-suc-le-zero h)
thread-is (r ∷ g ∷ []) i h = absurd (not-suc-le-zero h)
thread-is (r ∷ g ∷ b ∷ s) zero h = refl
thread-is (r ∷ g ∷ b ∷ s) (suc i) h = thread-is s i (le_of_suc-le-suc h) ∙ rw (three-more i) (simp suc-add)

-- ---- a loop over the bytes, three at a turn

two-on : (i : ℕ) → i + 1 + 1 ≡ i + 2
two-on i = omega arith

three-on : (i : ℕ) → i + 2 + 1 ≡ i + 3
three-on i = omega arith

pub threads_more : (s : List ℕ) (i : ℕ) → i + 3 ≤ length s → threads_of (drop i s) ≡ thread_at s i ∷ threads_of (drop (i + 3) s)
unfolding threads_of
threads_more s i h =
    let e₁ : drop i s ≡ get_or s i 0 ∷ drop (i + 1) s = list-more s 0 i (omega arith) in
    let e₂ : drop (i + 1) s ≡ get_or s (i + 1) 0 ∷ drop (i + 2) s = rw (← two-on i) (list-more s 0 (i + 1) (omega arith)) in
    let e₃ : drop (i + 2) s ≡ get_or s (i + 2) 0 ∷ drop (i + 3) s = rw (← three-on i) (list-more s 0 (i + 2) (omega arith)) in
    rw (e₁, e₂, e₃)

pub threads-none : (s : List ℕ) → length s < 3 → threads_of s ≡ []
unfolding threads_of
threads-none [] h = refl
threads-none (r ∷ []) h = refl
threads-none (r ∷ g ∷ []) h = refl
threads-none (r ∷ g ∷ b ∷ s) h = absurd (omega arith)
