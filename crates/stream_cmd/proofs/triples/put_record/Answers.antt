-- The three bytes of the record.
use mir.Facts.{to_z-of_z}
use Rattle.rules.specs.Dst.{dst_bytes}
use Rattle.laws.specs.Buffers.{put_as}
use Rattle.stream_cmd.proofs.triples.put_record.Goals as goal

pub returns : goal.returns
unfolding dst_bytes
returns c =
    let f = c.ranges in
    put_as c.put3.ensures (rw (c.encode_record-r.ensures, to_z-of_z f.dx, to_z-of_z f.dy))
