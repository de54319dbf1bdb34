-- The header, and then the records.
use native.Mathlib.Omega.{arith}
use Rattle.rules.specs.Jef.{jef_file}
use Rattle.rules.specs.Lists.{commands, threads_of}
use Rattle.laws.specs.Buffers.{put-put}
use Rattle.jef.proofs.Files.{length-file}
use Rattle.jef.proofs.put_file.Goals as goal

pub put_header-records-requires : goal.put_header-records-requires
put_header-records-requires c = let a = c.args in
    let cs = commands a.xs.now a.ys.now a.kinds.now in
    let ts = threads_of a.threads.now in
    record { kinds_len_bound = (c.requires.kinds_len_bound.0, c.requires.kinds_len_bound.1.0); kinds_value = c.requires.kinds_value; threads_in_bounds = omega (arith, length-file cs ts, c.requires.threads_in_bounds) }

pub put_stream-requires : goal.put_stream-requires
put_stream-requires c = let a = c.args in
    let cs = commands a.xs.now a.ys.now a.kinds.now in
    let ts = threads_of a.threads.now in
    let header = c.put_header-records.ensures.0 in
    record { kinds_value = c.requires.kinds_len_bound.1.1; kinds_in_bounds = omega (arith, length-file cs ts, header.ends, header.same, c.requires.threads_in_bounds) }

pub returns : goal.returns
unfolding jef_file
returns c =
    let header = c.put_header-records.ensures in (put-put header.0 c.put_stream.ensures, header.1)
