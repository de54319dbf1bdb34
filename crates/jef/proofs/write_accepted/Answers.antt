-- By the length of the file.
use native.Mathlib.Omega.{arith}
use Rattle.rules.specs.Files.{file_of, distance_of}
use Rattle.stream_cmd.specs.declared.Stream.TheVariants.{Jef}
use Rattle.stream.proofs.Lengths.{stream-most}
use Rattle.emit.proofs.Writes.{fits, written, unwritten}
use Rattle.jef.proofs.Files.{file-long}
use Rattle.jef.proofs.Words.{length-table}
use Rattle.jef.proofs.write_accepted.Goals as goal

pub overflow_mul-n : goal.overflow_mul-n
overflow_mul-n c = let a = c.args in
    omega (arith, c.table_len.ensures, length-table a.threads.now, c.requires)

pub overflow_add-n : goal.overflow_add-n
overflow_add-n c = let a = c.args in
    omega (arith, c.table_len.ensures, length-table a.threads.now, c.requires)

pub overflow_add-n-2 : goal.overflow_add-n-2
overflow_add-n-2 c =
    let a = c.args in
    omega (arith, c.table_len.ensures, length-table a.threads.now, c.stream_len.ensures, stream-most Jef a.xs.now a.ys.now a.kinds.now, c.requires)

pub returns-then-out-n : goal.returns-then-out-n
unfolding file_of distance_of
returns-then-out-n c = unwritten _ c.if-out-n.true (rw (c.table_len.ensures, c.stream_len.ensures) (file-long _ _))

pub put_file-w-requires : goal.put_file-w-requires
put_file-w-requires c = let table-len = c.table_len in
    record { kinds_len_bound = c.requires.kinds_len_bound; kinds_value = c.requires.kinds_value; threads_in_bounds = fits c.if-out-n.false (rw (table-len.ensures, c.stream_len.ensures) (file-long _ _)) }

pub returns : goal.returns
unfolding file_of distance_of
returns c =
    let file = c.put_file-w.ensures in
    written c.if-out-n.false (rw (c.table_len.ensures, c.stream_len.ensures) (file-long _ _)) file.0 file.1
