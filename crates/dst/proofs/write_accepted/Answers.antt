-- By the length of the file.
use mathlib.Core.Path.{refl}
use Rattle.stream.proofs.Lengths.{stream-most}
use Rattle.stream_cmd.specs.declared.Stream.TheVariants.{Dst}
use native.Mathlib.Omega.{arith}
use Rattle.emit.proofs.Writes.{fits, written, unwritten}
use Rattle.dst.proofs.Whole.{length-file}
use Rattle.dst.proofs.write_accepted.Goals as goal

pub overflow_add-n : goal.overflow_add-n
overflow_add-n c = let a = c.args in
    omega (arith, c.stream_len-n.ensures, stream-most Dst a.xs.now a.ys.now a.kinds.now, c.requires.0)

pub returns-then-out-n : goal.returns-then-out-n
returns-then-out-n c = unwritten 0 c.if-out-n.true (rw c.stream_len-n.ensures (length-file _ _))

pub put_file-requires : goal.put_file-requires
put_file-requires c = record { kinds_len_bound = c.requires; kinds_in_bounds = fits c.if-out-n.false (rw c.stream_len-n.ensures (length-file _ _)) }

pub returns : goal.returns
returns c = let if1 = c.if-out-n in let stream-len = c.stream_len-n in
    written if1.false (rw stream-len.ensures (length-file _ _)) c.put_file.ensures refl
