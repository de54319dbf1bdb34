-- The three bytes of the record.
use native.Mathlib.Omega.{arith}
use mathlib.Core.Path.{◌≡◌}
use Prim.Native.Nat.{◌+◌, ◌*◌}
use lib.ListN.{get_or}
use mir.Facts.{to_z-of_z}
use lib.IntN.{neg_ℤ}
use Rattle.rules.specs.Vocabulary.{from_little}
use Rattle.rules.specs.Dst.{dst_bytes}
use Rattle.stream_cmd.proofs.Parts.{in_one}
use Rattle.stream_cmd.proofs.triples.packed.Goals as goal

pub returns : goal.returns
returns c =
    let r = c.encode_record-r.result in
    let a = c.args in
    let e = rw (to_z-of_z c.ranges.dx, to_z-of_z c.ranges.dy) at c.encode_record-r.ensures in
    let sum : get_or r 0 0 + 256 * get_or r 1 0 + 65536 * get_or r 2 0 ≡ from_little (dst_bytes 0 a.dx (neg_ℤ a.dy)) = in_one 0 a.dx (neg_ℤ a.dy) e in
    omega (arith, sum, c.from_le_bytes.ensures)
