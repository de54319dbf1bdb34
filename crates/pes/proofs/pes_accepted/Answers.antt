-- By the length of the file.
use mathlib.Core.Path.{sym, ◌∙◌}
use Rattle.rules.specs.Files.{file_of, distance_of}
use Rattle.emit.proofs.Writes.{fits, written, unwritten}
use Rattle.pes.proofs.Files.{same-steps, bytes_small, logged-small, pes-long}
use Rattle.pes.proofs.pes_accepted.Goals as goal

pub pec_len-n-requires : goal.pec_len-n-requires
pec_len-n-requires c = let p = c.requires.kinds_len_bound in (p.0, sym (same-steps _) ∙ p.1.1)

pub blocks_len-requires : goal.blocks_len-requires
blocks_len-requires c = let p = c.requires.kinds_len_bound in let m = c.measured-z.ensures in
    (bytes_small _ _ _ _ p.0 _ m, logged-small _ _ _ _ p.0 _ m)

pub returns-then-out-long : goal.returns-then-out-long
unfolding file_of distance_of
returns-then-out-long c = let blocks-len = c.blocks_len in let measured = c.measured-z in
    unwritten _ c.if-out-long.true (pes-long _ measured.ensures blocks-len.ensures.0 c.part_len.ensures)

pub put_pes_file-w-requires : goal.put_pes_file-w-requires
put_pes_file-w-requires c = let if1 = c.if-out-long in let part-len = c.part_len in
    let blocks-len = c.blocks_len in
    let pec-len = c.pec_len-n in
    let m = c.measured-z.ensures in
    let thread-codes = c.thread_codes-codes in
    let p = c.requires in record { b_value = c.stream_bounds-b.ensures; coded = thread-codes.ensures; drawn = record { long = p.kinds_len_bound.0; few = p.kinds_len_bound.1.0; steps = sym (same-steps _) ∙ p.kinds_len_bound.1.1; bytes = pec-len.ensures }; kinds_value = p.kinds_value; measures = m; bytes_bound = (bytes_small _ _ _ _ p.kinds_len_bound.0 _ m, logged-small _ _ _ _ p.kinds_len_bound.0 _ m); threads_in_bounds = fits if1.false (pes-long _ m blocks-len.ensures.0 part-len.ensures) }

pub returns : goal.returns
unfolding file_of distance_of
returns c =
    let file = c.put_pes_file-w.ensures in
    written c.if-out-long.false
    (pes-long _ c.measured-z.ensures c.blocks_len.ensures.0 c.part_len.ensures)
    file.0 file.1
