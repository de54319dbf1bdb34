-- With no threads the bytes of the definition; else blanks, the count and the entries.
use Prim.Native.Nat.{ℕ, suc, ◌-◌, ◌/◌}
use mathlib.Core.Path.{◌≡◌}
use mathlib.Core.List.{List, [], ◌∷◌, ◌++◌, append-nil}
use native.Mathlib.Omega.{arith}
use lib.ListN.{length, replicate}
use Rattle.rules.specs.Vocabulary.{joined}
use Rattle.rules.specs.Lists.{threads_of}
use Rattle.rules.specs.Choices.{farthest}
use Rattle.rules.specs.Pec.{unique_palette, pec_distance, pec_colors}
use Rattle.laws.specs.Buffers.{put_as, put-put}
use Rattle.laws.specs.Lengths.{length-unique}
use Rattle.laws.specs.Threads.{length-threads, threads-none}
use Rattle.pec_part.proofs.put_colors.Goals as goal

with-count : (es : List ℕ) {n : ℕ} → length es ≡ suc n → replicate 12 0x20 ++ ((n ∷ []) ++ es) ≡ pec_colors es
unfolding pec_colors joined
with-count [] e = absurd (omega (arith, e))
with-count (x ∷ es) {n} e =
    let f : n ≡ length es = omega (arith, e) in
    rw (f, append-nil)

module _ (threads : List ℕ) where
  abbrev n : ℕ
  n = length threads / 3

  none : n ≡ 0 → pec_colors [] ≡ pec_colors (unique_palette (threads_of threads))
  unfolding unique_palette
  none e = rw (threads-none threads (omega (arith, e)))

  none-off : n ≡ 0 → 0 ≡ pec_distance (threads_of threads)
  unfolding pec_distance farthest
  none-off e = rw (threads-none threads (omega (arith, e)))

  some : ((n ≡ 0) → ⊥) → replicate 12 0x20 ++ (((n - 1) ∷ []) ++ unique_palette (threads_of threads)) ≡ pec_colors (unique_palette (threads_of threads))
  some h = with-count (unique_palette (threads_of threads)) (omega (arith, length-unique (threads_of threads), length-threads threads, h))

pub returns-then-n-eq0 : goal.returns-then-n-eq0
returns-then-n-eq0 c =
    let s = c.args.threads.now in
    (put_as c.put_no_colors.ensures (none s c.if-n-eq0.true), none-off s c.if-n-eq0.true)

pub returns : goal.returns
returns c =
    let entries = c.unique_palette.ensures in (
      put_as (put-put c.put_times-count.ensures (put-put c.put-entries.ensures entries.0))
          (some c.args.threads.now c.if-n-eq0.false),
      entries.1,
    )
