-- The bytes of the half.
use Prim.Native.Nat.{ℕ}
use mathlib.Core.Path.{ap}
use mathlib.Core.List.{List}
use lib.Ieee.{Float, binary32, to_bits}
use mir.Facts.{to_z-of_z}
use Rattle.rules.specs.Vocabulary.{little}
use Rattle.rules.specs.Pes.{matrix_field}
use Rattle.laws.specs.Buffers.{put_as}
use Rattle.pes_blocks.proofs.Values.{no_nan}
use Rattle.pes_blocks.proofs.put_field.Goals as goal

abbrev bytes : Float → List ℕ
bytes x = little 4 (to_bits binary32 x)

pub float_to_bits-half : goal.float_to_bits-half
float_to_bits-half c =
    no_nan c.args.z c.requires.z_bound (rw (to_z-of_z c.ranges.z) at c.half.ensures)

pub returns : goal.returns
unfolding matrix_field
returns c = let half' = c.half in
    put_as c.put_word.ensures (ap bytes (rw (to_z-of_z c.ranges.z) at half'.ensures))
