-- How many bytes a stitch and a jump take. Assumes nothing.
use Prim.Native.Nat.{ℕ, ◌+◌}
use mathlib.Core.Path.{◌≡◌}
use mathlib.Core.Bool.{true}
use mathlib.Core.List.{List}
use native.Mathlib.Omega.{arith}
use lib.IntN.{ℤ}
use lib.ListN.{length, length-append}
use Rattle.rules.specs.Vocabulary.{joined}
use Rattle.rules.specs.Pes.{PesState, run_length, pes_open, pes_cmd}
use Rattle.rules.specs.declared.Cmd.{Cmd}
use Rattle.rules.specs.declared.Op.TheVariants.{Stitch, Jump}
use Rattle.laws.specs.Lengths.{length-point}
use Rattle.pes_section_cmd.proofs.Lengths.{open-long}

module _ (s : PesState) (left bottom : ℤ) (c : Cmd) (cs : List Cmd) where
  pub stitch-long : length (pes_cmd left bottom s true Stitch c cs) ≡ length (pes_open s 0 (run_length c.kind cs)) + 4
  unfolding pes_cmd
  stitch-long = simp (length-append, length-point)

  pub jump-long : length (pes_cmd left bottom s true Jump c cs) ≡ length (pes_open s 1 2) + 8
  unfolding pes_cmd joined
  jump-long = simp (length-append, length-point)

-- whatever the points are
pub stitch-room : (points : ℕ) (s : PesState) (left bottom : ℤ) (c : Cmd) (cs : List Cmd)
    → length (pes_cmd left bottom s true Stitch c cs) ≡ length (pes_open s 0 points) + 4
stitch-room points s left bottom c cs =
    omega (arith, stitch-long s left bottom c cs, open-long s 0 points, open-long s 0 (run_length c.kind cs))
