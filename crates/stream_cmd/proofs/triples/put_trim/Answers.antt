-- Three records of three bytes.
use Rattle.std.proofs.Common.{arith}
use Rattle.rules.specs.Dst.{dst_bytes, dst_cmd}
use Rattle.laws.specs.Buffers.{put-put}
use Rattle.stream_cmd.proofs.triples.put_trim.Goals as goal

pub returns : goal.returns
unfolding dst_cmd
returns c =
    put-put (put-put c.put_record-second.ensures c.put_record-third.ensures) c.put_record.ensures

pub put_record-third-requires-clause-at_in_bounds : goal.put_record-third-requires-clause-at_in_bounds
unfolding dst_bytes
put_record-third-requires-clause-at_in_bounds c = let p = c.put_record-second.ensures in omega (arith, p.ends, p.same)

pub put_record-requires-clause-at_in_bounds : goal.put_record-requires-clause-at_in_bounds
unfolding dst_bytes
put_record-requires-clause-at_in_bounds c =
    let p = c.put_record-second.ensures in
    let q = c.put_record-third.ensures in
    omega (arith, p.ends, p.same, q.ends, q.same)
