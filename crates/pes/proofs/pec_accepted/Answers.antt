-- By the length of the file.
use Rattle.rules.specs.Files.{file_of, distance_of}
use Rattle.emit.proofs.Writes.{fits, written, unwritten}
use Rattle.pes.proofs.Files.{pec-long}
use Rattle.pes.proofs.pec_accepted.Goals as goal

pub returns-then-out-long : goal.returns-then-out-long
unfolding file_of distance_of
returns-then-out-long c = unwritten _ c.if-out-long.true (pec-long _ c.part_len-long.ensures)

pub put_pec_file-w-requires : goal.put_pec_file-w-requires
put_pec_file-w-requires c = let part-len = c.part_len-long in let pec-len = c.pec_len-n in
    let p = c.requires in record { b_value = c.stream_bounds-b.ensures; drawn = record { long = p.0; few = p.1.0; steps = p.1.1; bytes = pec-len.ensures }; threads_in_bounds = fits c.if-out-long.false (pec-long _ part-len.ensures) }

pub returns : goal.returns
unfolding file_of distance_of
returns c =
    let file = c.put_pec_file-w.ensures in
    written c.if-out-long.false (pec-long _ c.part_len-long.ensures) file.0 file.1
