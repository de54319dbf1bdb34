-- How much an accepted list can ask for. Assumes nothing.
use Prim.Native.Nat.{ℕ, ◌+◌, ◌*◌, ◌≤◌}
use mathlib.Core.Path.{◌≡◌}
use mathlib.Core.List.{List}
use native.Mathlib.Omega.{arith}
use lib.IntN.{ℤ, pos}
use lib.ListN.{length}
use Rattle.rules.specs.Vocabulary.{count}
use Rattle.rules.specs.Lists.{commands, threads_of}
use Rattle.rules.specs.Pec.{pec_start}
use Rattle.rules.specs.Refusals.{changes}
use Rattle.rules.specs.declared.Cmd.{Cmd}
use Rattle.laws.specs.Lengths.{stitches_of, length-stitches, part_length}
use Rattle.laws.specs.Listing.{length-commands, count-le}
use Rattle.laws.specs.Threads.{length-threads}
use Rattle.pec_part.specs.Parts.{part_long}

pub threads_few : (threads : List ℕ) → length threads ≤ 765 → length (threads_of threads) ≤ 255
threads_few threads h = omega (arith, length-threads threads)

module _ (xs ys : List ℤ) (kinds : List ℕ) (h : length kinds ≤ 65535) where
  abbrev cs : List Cmd
  cs = commands xs ys kinds

  list-few : length cs ≤ 65535
  list-few = omega (arith, length-commands xs ys kinds)

  pub bytes-few : {n : ℕ} → n ≡ length (stitches_of cs) → n ≤ 393210
  bytes-few e = omega (arith, length-stitches pec_start (pos 0) (pos 0) cs, list-few)

  pub bytes_small : {n : ℕ} → n ≡ length (stitches_of cs) → n ≤ 1000000
  bytes_small e = omega (arith, bytes-few e)

  pub changes_few : {k : ℕ} → k ≡ count changes cs → k ≤ 65535
  changes_few e = omega (arith, count-le changes cs, list-few)

  pub part-long : (threads : List ℕ) {n k : ℕ} → length threads ≤ 765 → n ≡ length (stitches_of cs) → k ≡ count changes cs
      → part_long (threads_of threads) cs (528 + n + 228 * (2 + k))
  part-long threads f e g =
      record { long = λ name. omega (arith, part_length name cs (threads_of threads) (threads_few threads f)); small = omega (arith, bytes-few e, changes_few g) }
